-- Rows of the scratch folder, and of what has no files, make no nodes.
use Rattle.std.proofs.Common.{◌≡◌, ℕ, true, length, Result, refl, ap}
use Rattle.std.proofs.lemmas.Result.{IfOk-weaker}
use Rattle.std.specs.Prelude.{IfOk}
use Rattle.tree_table.specs.Scratches.{ScratchMap}
use Rattle.tree_table.specs.Tables.{Forest}
use Rattle.wit_types.specs.PlainValue.{PlainValues, End}
use Rattle.reference_step.specs.Handles.{Content, Always}
use Rattle.reference_step.specs.State.{View, Row as PlainRow}
use Rattle.ref_answers.specs.declared.row.Row.{Row}
use Rattle.ref_answers.specs.declared.row.Row.TheVariants.{Traps, Does}
use Rattle.ref_answers.specs.Shown.{shown}
use Rattle.ref_virtual.specs.Inside.{row_inside}
use Rattle.ref_virtual.proofs.FilesInsideLemmas.{becomes_in, effect_fixed, makes_in, row_fixed}
use Rattle.ref_virtual.specs.declared.methods.Method.{Method}
use Rattle.ref_virtual.specs.declared.stream_methods.InputMethod.{InputMethod}
use Rattle.ref_virtual.specs.declared.stream_methods.OutputMethod.{OutputMethod}
use Rattle.ref_virtual.specs.Methods.{input_row, output_row, method_row}
use Rattle.ref_virtual.specs.Others.{is_no_source, is_no_sink, is_other}
use Rattle.ref_scratch.specs.Told.{told}
use Rattle.ref_virtual.proofs.OtherLemmas.{other_of}

-- what it makes is told by every table as the same
pub told_fixed : (row : Row) (m : ScratchMap) (r : PlainRow) (nodes : ℕ) → ((f : Forest) → told f row m ≡ r) → row_inside nodes row ≡ true
told_fixed Traps m r nodes says = refl
told_fixed (Does e) m r nodes says = effect_fixed e (makes_in r) (becomes_in r) nodes (λ f. ap makes_in (says f)) (λ f. ap becomes_in (says f))

module _ {E : Type 0} (r : Result Row E) where
  pub empty_inside : (method : InputMethod) (nodes : ℕ) → IfOk r (λ row. (f : Forest) (v : View) (c : Content) (a : PlainValues) → is_no_source c ≡ true → shown f row ≡ input_row method v c a) → IfOk r (λ row. (v : View) → row_inside nodes row ≡ true)
  empty_inside method nodes says = IfOk-weaker r _ _ (λ row is. λ v. row_fixed row _ nodes (λ f. is f v Always End refl)) says

  pub discard_inside : (method : OutputMethod) → IfOk r (λ row. (f : Forest) (v : View) (c : Content) (a : PlainValues) → is_no_sink c ≡ true → shown f row ≡ output_row method v c a) → IfOk r (λ row. (v : View) (nodes : ℕ) → row_inside nodes row ≡ true)
  discard_inside method says = IfOk-weaker r _ _ (λ row is. λ v nodes. row_fixed row _ nodes (λ f. is f v Always End refl)) says

  pub other_inside : (method : Method) (trees nodes : ℕ) → IfOk r (λ row. (f : Forest) (v : View) (c : Content) (a : PlainValues) → length v.trees ≡ trees → is_other method c ≡ true → shown f row ≡ method_row method v c a) → IfOk r (λ row. (v : View) → length v.trees ≡ trees → row_inside nodes row ≡ true)
  other_inside method trees nodes says = IfOk-weaker r _ _ (λ row is. λ v t. row_fixed row _ nodes (λ f. is f v Always End t (other_of method Always refl refl))) says
