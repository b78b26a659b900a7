use Rattle.std.proofs.Common.{◌≡◌, ◌∙◌, [], ◌∷◌, ◌++◌, length, ap, ap₂, rules}
use Rattle.host_script.specs.Kept.{texts_left}
use Rattle.host_script.proofs.Texts.{left_push, has_push}
use Rattle.host_script.proofs.kept.Answers.push.Goals as goal

pub invariant_of-self-2 : goal.invariant_of-self-2
invariant_of-self-2 c =
    let s = c.self.inside in
    let count : c.in-Ok.length ≡ length c.args.text.now = search (rules, c.in-Ok.ensures) in
    let lengths : c.push_reserved.new.self.items ≡ s.lengths.items ++ length c.args.text.now ∷ [] = c.push_reserved.ensures.items ∙ ap₂ (λ l n. l ++ n ∷ []) c.reserve.ensures.items count in
    let bytes : c.extend_from_slice.new.self.items ≡ s.bytes.items ++ c.args.text.now = c.in_ok-extend_from_slice.ensures.items in
    rw (lengths, bytes) (has_push s.passed s.start s.lengths.items s.bytes.items c.args.text.now c.self.invariant)

pub returns-clause-ok : goal.returns-clause-ok
returns-clause-ok c =
    let s = c.self.inside in
    let count : c.in-Ok.length ≡ length c.args.text.now = search (rules, c.in-Ok.ensures) in
    let lengths : c.push_reserved.new.self.items ≡ s.lengths.items ++ length c.args.text.now ∷ [] = c.push_reserved.ensures.items ∙ ap₂ (λ l n. l ++ n ∷ []) c.reserve.ensures.items count in
    let bytes : c.extend_from_slice.new.self.items ≡ s.bytes.items ++ c.args.text.now = c.in_ok-extend_from_slice.ensures.items in
    ap₂ (texts_left s.passed s.start) lengths bytes
    ∙ (left_push s.passed s.start s.lengths.items s.bytes.items c.args.text.now c.self.invariant ∙ ap (λ l. l ++ c.args.text.now ∷ []) c.self.view_is)
