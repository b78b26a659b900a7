-- Rows that leave the scratch folder as it is.
use Rattle.std.proofs.Common.{◌≡◌, true, refl, ap, ◌∙◌}
use Rattle.tree_table.specs.Tables.{Forest}
use Rattle.tree_table.specs.Scratches.{ScratchMap}
use Rattle.reference_step.specs.State.{Row as PlainRow, Traps as PlainTraps, Does as PlainDoes}
use Rattle.ref_answers.specs.declared.row.Row.{Row}
use Rattle.ref_answers.specs.declared.row.Row.TheVariants.{Traps, Does}
use Rattle.ref_answers.specs.Shown.{shown}
use Rattle.ref_scratch.specs.Told.{told, settled}
use Rattle.ref_virtual.specs.Acting.{acts, Stays}

told_shown : (f : Forest) (m : ScratchMap) (row : Row) → told f row m ≡ settled m (shown f row)
told_shown f m Traps = refl
told_shown f m (Does e) = refl

pub told_same : (f : Forest) (m : ScratchMap) (row : Row) (r : PlainRow) → shown f row ≡ r → told f row m ≡ settled m r
told_same f m row r is = told_shown f m row ∙ ap (settled m) is

-- a row of the definition that does not trap
pub stays : (f : Forest) (row : Row) (new old : ScratchMap) (r : PlainRow) → told f row new ≡ settled old r → acts r ≡ true → Stays row new old
stays f Traps new old PlainTraps e is = cc
stays f Traps new old (PlainDoes effect) e is = cc
stays f (Does effect) new old r e is = tt

pub same_stays : (row : Row) (m : ScratchMap) → Stays row m m
same_stays Traps m = refl
same_stays (Does effect) m = tt
