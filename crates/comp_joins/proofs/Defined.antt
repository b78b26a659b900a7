-- What a type definition makes names what is known; a new resource is known once it has its number.
use Rattle.std.proofs.Common.{◌≡◌, ℕ, List, [], ◌∷◌, map, Option, Some, None, Bool, true, false, sym}
use Rattle.std.proofs.lemmas.Bool.{false≢true}
use Rattle.std.specs.Option.{option_map}
use Rattle.wasm_ast.specs.declared.component.Primitive.{Primitive}
use Rattle.wasm_ast.specs.declared.component.Primitive.TheVariants as primitives
use Rattle.wasm_ast.specs.declared.component.ValType.{ValType}
use Rattle.wasm_ast.specs.declared.component.ValType.TheVariants as values
use Rattle.wasm_ast.specs.declared.component.LabelType.{LabelType}
use Rattle.wasm_ast.specs.declared.component.CaseType.{CaseType}
use Rattle.wasm_ast.specs.declared.component.TypeDef.{TypeDef}
use Rattle.wasm_ast.specs.declared.component.TypeDef.TheVariants as defs
use Rattle.wit_types.specs.Plain.{Plain, Parts, OwnType, BorrowType, End, bare, case_part}
use Rattle.comp_facts.specs.Primitives.{primitive_type}
use Rattle.comp_types.specs.Items.{Kind, ResourceKind, ValueKind, FuncKind, InstanceKind}
use Rattle.comp_types.specs.GivenResources.{named_in_value, named_in_parts, named_in_answer}
use Rattle.comp_types.specs.Spaces.{Space, kind_at}
use Rattle.comp_types.specs.Types.{value_in, resource_in, value_of, fields_of, cases_of, unnamed, handle_of, option_of, result_of, kind_of}
use Rattle.comp_inside.specs.Linked.{Each}
use Rattle.comp_joins.proofs.Names.{each_both, KindNames}
use Rattle.comp_joins.proofs.Described.{IfSome, Knows, kind_known}

primitive_known : (P : ℕ → Type 0) (p : Primitive) → Each P (named_in_value (primitive_type p))
primitive_known P primitives.Bool = tt
primitive_known P primitives.S8 = tt
primitive_known P primitives.U8 = tt
primitive_known P primitives.S16 = tt
primitive_known P primitives.U16 = tt
primitive_known P primitives.S32 = tt
primitive_known P primitives.U32 = tt
primitive_known P primitives.S64 = tt
primitive_known P primitives.U64 = tt
primitive_known P primitives.Char = tt
primitive_known P primitives.String = tt

value_in_known : (P : ℕ → Type 0) (n : ℕ) (o : Option Kind) → IfSome (KindNames P n) o → Each P (named_in_value (value_in o))
value_in_known P n None h = tt
value_in_known P n (Some (ResourceKind r)) h = tt
value_in_known P n (Some (ValueKind ty)) h = h
value_in_known P n (Some (FuncKind ty)) h = tt
value_in_known P n (Some (InstanceKind own entries)) h = tt

-- a definition of a resource
abbrev pub is_new : TypeDef → Bool
is_new (defs.Resource destructor) = true
is_new _ = false

-- a resource that stands at an index
pub resource_known : (P : ℕ → Type 0) (n : ℕ) (o : Option Kind) → IfSome (KindNames P n) o → IfSome P (resource_in o)
resource_known P n None h = tt
resource_known P n (Some (ResourceKind r)) h = h
resource_known P n (Some (ValueKind ty)) h = tt
resource_known P n (Some (FuncKind ty)) h = tt
resource_known P n (Some (InstanceKind own entries)) h = tt

unnamed_bare : (P : ℕ → Type 0) (labels : List (List ℕ)) → Each P (named_in_parts (bare labels))
unnamed_bare P [] = tt
unnamed_bare P (l ∷ labels) = unnamed_bare P labels

case_known : (P : ℕ → Type 0) (label : List ℕ) (o : Option Plain) (rest : Parts) → Each P (named_in_answer o) → Each P (named_in_parts rest) → Each P (named_in_parts (case_part label o rest))
case_known P label None rest h k = k
case_known P label (Some ty) rest h k = each_both P (named_in_value ty) (named_in_parts rest) h k

module _ (b : Bool) (base : ℕ) (P : ℕ → Type 0) (s : Space) (h : Knows b base P s) where
  value_known : (v : ValType) → Each P (named_in_value (value_of s v))
  value_known (values.Primitive p) = primitive_known P p
  value_known (values.Index i) = value_in_known P s.next (kind_at s i) (kind_known P s i h)

  some_value_known : (o : Option ValType) → Each P (named_in_answer (option_map (value_of s) o))
  some_value_known None = tt
  some_value_known (Some v) = value_known v

  fields_known : (fs : List LabelType) → Each P (named_in_parts (fields_of s fs))
  fields_known [] = tt
  fields_known (f ∷ fs) = each_both P (named_in_value (value_of s f.ty)) (named_in_parts (fields_of s fs)) (value_known f.ty) (fields_known fs)

  cases_known : (cs : List CaseType) → Each P (named_in_parts (cases_of s cs))
  cases_known [] = tt
  cases_known (c ∷ cs) = case_known P c.label (option_map (value_of s) c.ty) (cases_of s cs) (some_value_known c.ty) (cases_known cs)

  tuple_known : (vs : List ValType) → Each P (named_in_parts (unnamed (map (value_of s) vs)))
  tuple_known [] = tt
  tuple_known (v ∷ vs) = each_both P (named_in_value (value_of s v)) (named_in_parts (unnamed (map (value_of s) vs))) (value_known v) (tuple_known vs)

  own_known : (o : Option ℕ) → IfSome P o → Each P (named_in_value (handle_of OwnType o))
  own_known None k = tt
  own_known (Some r) k = (k, tt)

  borrow_known : (o : Option ℕ) → IfSome P o → Each P (named_in_value (handle_of BorrowType o))
  borrow_known None k = tt
  borrow_known (Some r) k = (k, tt)

  option_known : (v : ValType) → Each P (named_in_value (option_of (value_of s v)))
  option_known v = each_both P (named_in_value (value_of s v)) [] (value_known v) tt

  result_known : (a b : Option ValType) → Each P (named_in_value (result_of (option_map (value_of s) a) (option_map (value_of s) b)))
  result_known a b = case_known P [] (option_map (value_of s) a) (case_part [] (option_map (value_of s) b) End) (some_value_known a) (case_known P [] (option_map (value_of s) b) End (some_value_known b) tt)

  -- of any definition but that of a resource
  pub kind_of_known : (d : TypeDef) → is_new d ≡ false → KindNames P s.next (kind_of s d)
  kind_of_known (defs.Primitive p) e = primitive_known P p
  kind_of_known (defs.Record fields) e = fields_known fields
  kind_of_known (defs.Variant cases) e = cases_known cases
  kind_of_known (defs.List item) e = value_known item
  kind_of_known (defs.Tuple types) e = tuple_known types
  kind_of_known (defs.Flags labels) e = tt
  kind_of_known (defs.Enum labels) e = unnamed_bare P labels
  kind_of_known (defs.Option item) e = option_known item
  kind_of_known (defs.Result ok err) e = result_known ok err
  kind_of_known (defs.Own i) e = own_known (resource_in (kind_at s i)) (resource_known P s.next (kind_at s i) (kind_known P s i h))
  kind_of_known (defs.Borrow i) e = borrow_known (resource_in (kind_at s i)) (resource_known P s.next (kind_at s i) (kind_known P s i h))
  kind_of_known (defs.Func params result) e = each_both P (named_in_parts (fields_of s params)) (named_in_answer (option_map (value_of s) result)) (fields_known params) (some_value_known result)
  kind_of_known (defs.Instance declarations) e = (tt, tt, tt, tt)
  kind_of_known (defs.Resource destructor) e = absurd (false≢true (sym e))
