-- The row of a method's name.
use Rattle.std.proofs.Common.{◌≡◌, Bool, true, false, List, [], ◌∷◌, map, option_map, refl}
use Rattle.std.specs.Prelude.{find}
use Rattle.std.specs.Str.{bytes_eq}
use Rattle.wit_types.specs.Plain.{Name}
use Rattle.wit_types.specs.PlainValue.{PlainValues}
use Rattle.reference_step.specs.Handles.{Content}
use Rattle.reference_step.specs.State.{View, Row}
use Rattle.reference_step.specs.Rows.{Named, handle, filesystem_rows, stream_rows}
use Rattle.ref_answers.specs.Found.{found}
use Rattle.ref_virtual.specs.declared.methods.TheConstants.{METHODS}
use Rattle.ref_virtual.specs.declared.stream_methods.TheConstants.{METHODS as STREAM_METHODS}
use Rattle.ref_virtual.specs.Methods.{row_by, method_row, stream_row}
use Rattle.ref_virtual.specs.Named.{method_in}

-- what is found of texts is found of what they say
module _ {S M : Type 0} (text : S → Name) (function : Name) where
  abbrev pub spelled : S × M → Name × M
  spelled m = (text m.0, m.1)

  abbrev Same : List (S × M) → Type 0
  Same ms = option_map (λ m. m.1) (find (λ m. bytes_eq (text m.0) function) ms) ≡ method_in (map spelled ms) function

  first_same : (b : Bool) (m : S × M) (ms : List (S × M)) → bytes_eq (text m.0) function ≡ b → Same ms → Same (m ∷ ms)
  first_same true m ms is rest = rw is refl
  first_same false m ms is rest = rw is rest

  pub same_named : (ms : List (S × M)) → Same ms
  same_named [] = refl
  same_named (m ∷ ms) = first_same (bytes_eq (text m.0) function) m ms refl (same_named ms)

-- the rows of methods with their names
module _ {M : Type 0} (row : M → View → Content → PlainValues → Row) (function : Name) (v : View) (a : PlainValues) where
  abbrev pub as_row : Name × M → Named
  as_row m = (m.0, λ w b. row m.1 w (handle w 0 b) b)

  abbrev Rows : List (Name × M) → Type 0
  Rows ms = found (map as_row ms) function v a ≡ row_by row (method_in ms function) v (handle v 0 a) a

  first_found : (b : Bool) (m : Name × M) (ms : List (Name × M)) → bytes_eq m.0 function ≡ b → Rows ms → Rows (m ∷ ms)
  first_found true m ms is rest = rw is refl
  first_found false m ms is rest = rw is rest

  pub found_named : (ms : List (Name × M)) → Rows ms
  found_named [] = refl
  found_named (m ∷ ms) = first_found (bytes_eq m.0 function) m ms refl (found_named ms)

pub all_methods : (function : Name) (v : View) (a : PlainValues) → found filesystem_rows function v a ≡ row_by method_row (method_in (map (λ m. (m.0.now, m.1)) METHODS) function) v (handle v 0 a) a
all_methods function v a = found_named method_row function v a (map (λ m. (m.0.now, m.1)) METHODS)

pub all_stream_methods : (function : Name) (v : View) (a : PlainValues) → found stream_rows function v a ≡ row_by stream_row (method_in (map (λ m. (m.0.now, m.1)) STREAM_METHODS) function) v (handle v 0 a) a
all_stream_methods function v a = found_named stream_row function v a (map (λ m. (m.0.now, m.1)) STREAM_METHODS)
