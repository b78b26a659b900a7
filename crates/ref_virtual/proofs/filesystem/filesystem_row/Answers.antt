use Rattle.std.proofs.Common.{refl, sym, ap, ◌∙◌}
use Rattle.std.proofs.lemmas.Result.{IfOk-weaker}
use Rattle.wit_types.specs.PlainValue.{plain_values}
use Rattle.reference_step.specs.Values.{nth, id_in}
use Rattle.ref_answers.specs.Seen.{content_in}
use Rattle.ref_rules.specs.Lives.{is_open}
use Rattle.ref_virtual.specs.Methods.{method_row}
use Rattle.ref_virtual.proofs.HandleLemmas.{looked}
use Rattle.ref_scratch.specs.Told.{settled}
use Rattle.ref_virtual.proofs.ActLemmas.{method_acts}
use Rattle.ref_virtual.proofs.ToldLemmas.{stays}
use Rattle.ref_virtual.proofs.filesystem.filesystem_row.Goals as goal

pub returns-in-Some-clause-row : goal.returns-in-Some-clause-row
returns-in-Some-clause-row c = IfOk-weaker c.content_row.result _ _ (λ row says. λ v h t e.
    let f = c.args.table.now in
    let m = c.args.folder.now in
    let handles = c.args.live.now.handles in
    let a = plain_values c.args.args.now in
    let w = record v { scratch = m; held = λ k. is_open handles k } in
    says v h t e
    ∙ ap (settled m) (ap (λ k. method_row c.in-Some.method w k a) (looked f w handles (id_in (nth 0 a)) c.content_at-content.result e c.content_at-content.ensures)
    ∙ sym (c.in-Some.ensures w a))) c.content_row.ensures.row

pub returns-in-None-clause-row : goal.returns-in-None-clause-row
returns-in-None-clause-row c = λ v h t e.
    let m = c.args.folder.now in
    ap (settled m) (sym (c.in-None.ensures (record v { scratch = m; held = λ k. is_open c.args.live.now.handles k }) (plain_values c.args.args.now)))

pub returns-in-Some-clause-still : goal.returns-in-Some-clause-still
returns-in-Some-clause-still c = IfOk-weaker c.content_row.result _ _ (λ row says. λ v h t e.
    let f = c.args.table.now in
    let m = c.args.folder.now in
    let a = plain_values c.args.args.now in
    let w = record v { scratch = m; held = λ k. is_open c.args.live.now.handles k } in
    let at = content_in f c.content_at-content.result in
    stays f row _ m (method_row c.in-Some.method w at a) (says v h t e) (method_acts w a c.in-Some.method at)) c.content_row.ensures.row

pub returns-in-None-clause-still : goal.returns-in-None-clause-still
returns-in-None-clause-still c = λ v h t e. refl

pub returns-in-None-clause-inside : goal.returns-in-None-clause-inside
returns-in-None-clause-inside c = λ v t. refl
