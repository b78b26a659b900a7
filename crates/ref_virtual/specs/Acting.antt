-- Rows that do not trap, and what becomes of the scratch folder where one does.
use Rattle.std.specs.Prelude.{◌≡◌, Bool, true, false}
use Rattle.tree_table.specs.Scratches.{ScratchMap}
use Rattle.reference_step.specs.State.{Row, Traps, Does}
use Rattle.ref_answers.specs.declared.row.Row.{Row as CodeRow}
use Rattle.ref_answers.specs.declared.row.Row.TheVariants.{Traps as Traps', Does as Does'}

abbrev pub acts : Row → Bool
acts Traps = false
acts (Does e) = true

-- where the row traps, the folder is as it was
abbrev pub Stays : CodeRow → ScratchMap → ScratchMap → Type 0
Stays Traps' new old = new ≡ old
Stays (Does' e) new old = Unit {0}
