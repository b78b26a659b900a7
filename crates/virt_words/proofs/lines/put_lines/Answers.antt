use Rattle.std.proofs.Common.{◌≡◌, ◌+◌, drop, take, get_or, sym, subst, rules}
use Rattle.std.proofs.lemmas.List.{take_min, drop_min}
use Rattle.virt_words.specs.Lines.{cut, text_of}
use Rattle.virt_words.proofs.Putting.{PutSoFar, cut_next, cut_end, put_nothing, put_next, put_broken, put_all}
use Rattle.virt_words.proofs.lines.put_lines.Goals as goal

pub loop-size-init : goal.loop-size-init
loop-size-init g c = put_nothing _ _

pub loop-size-preserved : goal.loop-size-preserved
loop-size-preserved g c =
    let l = c.loop-size in
    let size = get_or c.args.sizes.now l.size-index 0 in
    let line : c.split_at.result.0.now ≡ take size l.rest.now = search (rules, c.split_at.ensures.front, c.min.ensures, take_min size l.rest.now) in
    let behind : c.split_at.result.1.now ≡ drop size l.rest.now = search (rules, c.split_at.ensures.back, c.min.ensures, drop_min size l.rest.now) in
    let so_far = subst (PutSoFar _ _ _) (cut_next c.args.sizes.now l.size-index l.rest.now c.loop-size-test.true) l.invariant in
    let next = put_next _ (take size l.rest.now) _ (text_of (cut (drop (l.size-index + 1) c.args.sizes.now) (drop size l.rest.now))) _ _ _ line so_far c.in_ok-put.ensures in
    subst (λ rest. PutSoFar (text_of (cut c.args.sizes.now c.args.text.now)) (g.S.Sink.state c.args.out.now) (g.S.Sink.state c.put.new.self) (text_of (cut (drop (l.size-index + 1) c.args.sizes.now) rest))) (sym behind) next

pub returns-in_err-put : goal.returns-in_err-put
returns-in_err-put g c =
    let l = c.loop-size in
    let size = get_or c.args.sizes.now l.size-index 0 in
    let line : c.split_at.result.0.now ≡ take size l.rest.now = search (rules, c.split_at.ensures.front, c.min.ensures, take_min size l.rest.now) in
    let so_far = subst (PutSoFar _ _ _) (cut_next c.args.sizes.now l.size-index l.rest.now c.loop-size-test.true) l.invariant in
    put_broken _ (take size l.rest.now) _ (text_of (cut (drop (l.size-index + 1) c.args.sizes.now) (drop size l.rest.now))) _ _ _ _ _ line c.from_residual.ensures.0 so_far c.in_err-put.ensures

pub returns : goal.returns
returns g c = put_all _ _ _ _ (cut_end c.args.sizes.now c.loop-size.size-index c.loop-size.rest.now c.loop-size-test.false) c.loop-size.invariant
