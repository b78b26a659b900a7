-- What a type definition is made of stands in a table that has the value types of the index spaces.
use Rattle.std.proofs.Common.{◌≡◌, refl, ℕ, List, [], ◌∷◌, false, Option, Some, None}
use Rattle.std.specs.Prelude.{map, IfSome}
use Rattle.std.specs.Option.{option_map}
use Rattle.wasm_ast.specs.declared.component.Primitive.{Primitive}
use Rattle.wasm_ast.specs.declared.component.Primitive.TheVariants as primitives
use Rattle.wasm_ast.specs.declared.component.ValType.{ValType}
use Rattle.wasm_ast.specs.declared.component.ValType.TheVariants as values
use Rattle.wasm_ast.specs.declared.component.LabelType.{LabelType}
use Rattle.wasm_ast.specs.declared.component.CaseType.{CaseType}
use Rattle.wasm_ast.specs.declared.component.TypeDef.{TypeDef}
use Rattle.wasm_ast.specs.declared.component.TypeDef.TheVariants as defs
use Rattle.wit_types.specs.Plain.{Name, BoolType, OwnType, BorrowType, End, bare}
use Rattle.comp_facts.specs.Primitives.{primitive_type}
use Rattle.comp_types.specs.Items.{Kind, ValueKind}
use Rattle.comp_types.specs.Spaces.{Space, kind_at}
use Rattle.comp_types.specs.Types.{value_in, resource_in, value_of, fields_of, cases_of, unnamed, handle_of, func_of, kind_of}
use Rattle.type_table.specs.Tables.{Types, IsSound, needs_place, Has, HasParts, HasOwnParts, HasAnswer, HasFunc, HasKind}
use Rattle.type_table.specs.Covers.{Covers}
use Rattle.type_table.specs.Anew.{HasPartsOf}
use Rattle.type_table.proofs.HasLaws.{has_leaf, case_part-has}
use Rattle.type_table.proofs.ScopeLaws.{kind-some}

primitive-place : (p : Primitive) → needs_place (primitive_type p) ≡ false
primitive-place primitives.Bool = refl
primitive-place _ = refl

module _ (T : Types) where
  bare-has : (labels : List Name) → HasParts T (bare labels)
  bare-has [] = tt
  bare-has (label ∷ labels) = bare-has labels

  in_value : (o : Option Kind) → IsSound T → IfSome o (HasKind T) → Has T (value_in o)
  in_value (Some (ValueKind ty)) s h = h
  in_value _ s h = has_leaf T BoolType s refl

  pub value_of_has : (s : Space) (v : ValType) → Covers T s → Has T (value_of s v)
  value_of_has s (values.Primitive p) c = has_leaf T (primitive_type p) c.sound (primitive-place p)
  value_of_has s (values.Index i) c = in_value (kind_at s i) c.sound (kind-some T s i c)

  pub answer_of_has : (s : Space) (o : Option ValType) → Covers T s → HasAnswer T (option_map (value_of s) o)
  answer_of_has s None c = tt
  answer_of_has s (Some v) c = value_of_has s v c

  pub fields_of_has : (s : Space) (fs : List LabelType) → Covers T s → HasParts T (fields_of s fs)
  fields_of_has s [] c = tt
  fields_of_has s (f ∷ fs) c = (value_of_has s f.ty c, fields_of_has s fs c)

  pub cases_of_has : (s : Space) (cs : List CaseType) → Covers T s → HasParts T (cases_of s cs)
  cases_of_has s [] c = tt
  cases_of_has s (x ∷ xs) c = case_part-has T x.label (option_map (value_of s) x.ty) (cases_of s xs) (answer_of_has s x.ty c) (cases_of_has s xs c)

  pub unnamed_has : (s : Space) (vs : List ValType) → Covers T s → HasParts T (unnamed (map (value_of s) vs))
  unnamed_has s [] c = tt
  unnamed_has s (v ∷ vs) c = (value_of_has s v c, unnamed_has s vs c)

  pub func_of_has : (s : Space) (params : List LabelType) (answer : Option ValType) → Covers T s → HasFunc T (func_of s params answer)
  func_of_has s params answer c = (fields_of_has s params c, answer_of_has s answer c)

  primitive-parts : (p : Primitive) → IsSound T → HasOwnParts T (primitive_type p)
  primitive-parts primitives.Bool s = s
  primitive-parts _ s = s

  own-parts : (o : Option ℕ) → IsSound T → HasOwnParts T (handle_of OwnType o)
  own-parts None s = s
  own-parts (Some r) s = s

  borrow-parts : (o : Option ℕ) → IsSound T → HasOwnParts T (handle_of BorrowType o)
  borrow-parts None s = s
  borrow-parts (Some r) s = s

  pub parts_of_def : (s : Space) (d : TypeDef) → Covers T s → HasPartsOf T (kind_of s d)
  parts_of_def s (defs.Primitive p) c = primitive-parts p c.sound
  parts_of_def s (defs.Record fields) c = (c.sound, fields_of_has s fields c)
  parts_of_def s (defs.Variant cases) c = (c.sound, cases_of_has s cases c)
  parts_of_def s (defs.List item) c = value_of_has s item c
  parts_of_def s (defs.Tuple types) c = (c.sound, unnamed_has s types c)
  parts_of_def s (defs.Flags labels) c = c.sound
  parts_of_def s (defs.Enum labels) c = (c.sound, bare-has labels)
  parts_of_def s (defs.Option item) c = (c.sound, (value_of_has s item c, tt))
  parts_of_def s (defs.Result ok err) c =
      (c.sound, case_part-has T [] (option_map (value_of s) ok) _ (answer_of_has s ok c) (case_part-has T [] (option_map (value_of s) err) End (answer_of_has s err c) tt))
  parts_of_def s (defs.Own i) c = own-parts (resource_in (kind_at s i)) c.sound
  parts_of_def s (defs.Borrow i) c = borrow-parts (resource_in (kind_at s i)) c.sound
  parts_of_def s (defs.Func params result) c = (c.sound, func_of_has s params result c)
  parts_of_def s (defs.Instance declarations) c = (c.sound, tt)
  parts_of_def s (defs.Resource destructor) c = c.sound
