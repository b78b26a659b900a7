use Rattle.std.proofs.Common.{◌≡◌, ◌∙◌, ap}
use Rattle.std.proofs.lemmas.Result.{IfOk-weaker}
use Rattle.std.specs.Prelude.{◌==◌}
use Rattle.reference_step.specs.Codes as code
use Rattle.reference_step.specs.Descriptors.{rename_to, rename_new}
use Rattle.reference_step.specs.Nodes.{TheFile, Missing, lead_in, new_name}
use Rattle.reference_step.specs.State.{fails}
use Rattle.ref_rules.specs.Lives.{is_open}
use Rattle.ref_scratch.specs.Told.{settled}
use Rattle.ref_scratch.proofs.RowLemmas.{told_same, if_so, if_not, equal_numbers, other_numbers}
use Rattle.ref_scratch.proofs.renaming.rename_to.Goals as goal

pub returns-in-File : goal.returns-in-File
returns-in-File c =
    let m = c.args.folder.now in
    let is : TheFile c.in-File.other ≡ lead_in m c.args.text.now = c.in-File.ensures.value in
    IfOk-weaker c.rename_over.result _ _ (λ row says. λ f v.
    says f v ∙ ap (λ x. settled m (rename_to (record v { scratch = m; held = λ n. is_open c.args.live.now.handles n }) c.args.number x c.args.text.now)) is) c.rename_over.ensures

pub returns-then-code-eq-NO_ENTRY : goal.returns-then-code-eq-NO_ENTRY
returns-then-code-eq-NO_ENTRY c =
    let m = c.args.folder.now in
    let e = c.in-Missing.code in
    let is : Missing e ≡ lead_in m c.args.text.now = c.in-Missing.ensures.value in
    IfOk-weaker c.rename_new.result _ _ (λ row says. λ f v.
    let w = record v { scratch = m; held = λ n. is_open c.args.live.now.handles n } in
    says f v
    ∙ ap (settled m) (if_so (e == code.no_entry) (rename_new w c.args.number (new_name c.args.text.now)) (fails e) (equal_numbers e code.no_entry c.if-code-eq-NO_ENTRY.true))
    ∙ ap (λ x. settled m (rename_to w c.args.number x c.args.text.now)) is) c.rename_new.ensures

pub returns-else-code-eq-NO_ENTRY : goal.returns-else-code-eq-NO_ENTRY
returns-else-code-eq-NO_ENTRY c =
    let m = c.args.folder.now in
    let e = c.in-Missing.code in
    let is : Missing e ≡ lead_in m c.args.text.now = c.in-Missing.ensures.value in
    IfOk-weaker c.fails-else-code-eq-NO_ENTRY.result _ _ (λ row says. λ f v.
    let w = record v { scratch = m; held = λ n. is_open c.args.live.now.handles n } in
    told_same f row m (fails e) (says f)
    ∙ ap (settled m) (if_not (e == code.no_entry) (rename_new w c.args.number (new_name c.args.text.now)) (fails e) (other_numbers e code.no_entry c.if-code-eq-NO_ENTRY.false))
    ∙ ap (λ x. settled m (rename_to w c.args.number x c.args.text.now)) is) c.fails-else-code-eq-NO_ENTRY.ensures
