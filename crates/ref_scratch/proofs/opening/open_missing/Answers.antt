use Rattle.std.proofs.Common.{◌≡◌, ◌∙◌, ℕ, List, false, refl, ap}
use Rattle.std.specs.Prelude.{◌==◌}
use Rattle.std.proofs.lemmas.Result.{IfOk-weaker}
use Rattle.reference_step.specs.Codes as code
use Rattle.reference_step.specs.Descriptors.{open_missing}
use Rattle.reference_step.specs.State.{View, fails}
use Rattle.ref_scratch.specs.Told.{settled}
use Rattle.ref_scratch.proofs.RowLemmas.{told_same, other_numbers}
use Rattle.ref_scratch.proofs.opening.open_missing.Goals as goal

other : (v : View) (e : ℕ) (text : List ℕ) (flags rights : ℕ) → (e == code.no_entry) ≡ false → fails e ≡ open_missing v e text flags rights
other v e text flags rights is = rw is refl

pub returns-then-code-ne-NO_ENTRY : goal.returns-then-code-ne-NO_ENTRY
returns-then-code-ne-NO_ENTRY c =
    let m = c.args.folder.now in
    IfOk-weaker c.fails.result _ _ (λ row says. λ f v.
    told_same f row m (fails c.args.code) (says f)
    ∙ ap (settled m) (other (record v { scratch = m }) c.args.code c.args.text.now c.args.flags c.args.rights (other_numbers c.args.code code.no_entry c.if-code-ne-NO_ENTRY.true))) c.fails.ensures
