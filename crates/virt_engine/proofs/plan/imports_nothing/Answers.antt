use Rattle.std.proofs.Common.{◌≡◌, ◌∙◌, ◌≤◌, refl, ap, List, [], ◌∷◌, length, false, arith}
use Rattle.comp_types.specs.declared.types.InstanceEntry.{InstanceEntry}
use Rattle.comp_types.specs.Views.{entries_of}
use Rattle.virt_engine.specs.Parts.{is_end}
use Rattle.virt_engine.proofs.plan.imports_nothing.Goals as goal

some_entry : (xs : List InstanceEntry) → 1 ≤ length xs → false ≡ is_end (entries_of xs)
some_entry [] h = absurd (omega (arith, h))
some_entry (x ∷ xs) h = refl

pub returns-in-len1-up : goal.returns-in-len1-up
returns-in-len1-up c = some_entry c.as_slice.result.now (omega (arith, c.in-len1-up.len_at_least)) ∙ ap is_end c.as_slice.ensures
