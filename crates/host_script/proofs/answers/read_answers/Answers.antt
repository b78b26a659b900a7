use Rattle.std.proofs.Common.{◌≡◌, ◌∙◌, map, length, sym, rules}
use Rattle.std.specs.Vec.Iter.{into_iter_items}
use Rattle.serde_json.specs.View.{view, items_view}
use Rattle.host_script.specs.Json.{untyped, untyped_items}
use Rattle.host_script.specs.Script.{answer_at, each_at, item_read}
use Rattle.host_script.proofs.Parts.{each_next, each_wrong, each_done, fault_kept}
use Rattle.host_script.proofs.answers.read_answers.Goals as goal

pub loop-json-preserved : goal.loop-json-preserved
loop-json-preserved c =
    c.loop-json.invariant
    ∙ each_next answer_at item_read (into_iter_items c.loop-json.rest) c.in-Some.json (into_iter_items c.next.new.self) c.loop-json.answers c.push.new.self c.in_ok-answer.answer
    c.in-Some.ensures.items (search (rules, c.in_ok-answer.ensures, c.len.ensures)) c.in_ok-push.ensures.ok

pub returns : goal.returns
returns c =
    let none : length (into_iter_items c.loop-json.rest) ≡ 0 = sym c.loop-json.rest.rest.ok.0 ∙ search (rules, c.in_default.ensures.cases, c.in_default.is, c.in_default.not-Some) in
    c.loop-json.invariant ∙ each_done answer_at item_read (into_iter_items c.loop-json.rest) c.loop-json.answers none

pub returns-in_err-answer : goal.returns-in_err-answer
returns-in_err-answer c =
    fault_kept item_read (λ answers. map item_read answers) (answer_at (length c.loop-json.answers) (untyped (view c.in-Some.json))) (each_at answer_at 0 (untyped_items (items_view c.args.items.items))) c.in_err-answer.field-0.0 c.from_residual.result
    (search (rules, c.in_err-answer.ensures, c.len.ensures)) (search (rules, c.from_residual.ensures))
    (λ x wrong. c.loop-json.invariant ∙ each_wrong answer_at item_read (into_iter_items c.loop-json.rest) c.in-Some.json (into_iter_items c.next.new.self) c.loop-json.answers x c.in-Some.ensures.items wrong)
