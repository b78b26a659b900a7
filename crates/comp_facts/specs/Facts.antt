-- What is kept of a value type, so that no type is written out again to ask it.
use Rattle.std.specs.Prelude.{◌≡◌, min, Option, Some, None, ⊤}
use Rattle.wit_types.specs.Plain.{Name, Plain, Parts, PlainFunc, End, More, Bare}
use Rattle.wit_types.specs.Layout.{flat, flat_fields, flat_cases}
use Rattle.wit_types.specs.Limits.{depth, greatest_depth, parts, all_parts}
use Rattle.abi_layout.specs.Flat.{types_of, within}
use Rattle.comp_facts.specs.Handles.{has_borrow, has_borrow_in, has_handle, has_handle_in}
use Rattle.comp_facts.specs.Needs.{is_pointed, is_pointed_in}
use Rattle.comp_facts.specs.Keys.{key_of, key_of_parts}
use Rattle.comp_facts.specs.declared.facts.Facts.{Facts}
use Rattle.comp_facts.specs.declared.funcs.FuncFacts.{FuncFacts}
use Rattle.comp_facts.specs.declared.parts.PartFacts.{PartFacts}

-- these are the facts of the type; a depth or a number of parts beyond the limits is kept as the least beyond them
pub record IsFactsOf (ty : Plain) (f : Facts) : Type 0 where
  pub depth : f.depth ≡ min (depth ty) 101
  pub parts : f.parts ≡ min (parts ty) 1000001
  pub borrows : f.borrows ≡ has_borrow ty
  pub handles : f.handles ≡ has_handle ty
  pub pointed : f.pointed ≡ is_pointed ty
  pub flat : types_of f.flat ≡ within (flat ty)
  pub key : f.key ≡ key_of ty

-- of the fields of a record, or of the cases of a variant
pub record AreFactsOf (ps : Parts) (f : PartFacts) : Type 0 where
  pub depth : f.depth ≡ min (greatest_depth ps) 101
  pub parts : f.parts ≡ min (all_parts ps) 1000001
  pub borrows : f.borrows ≡ has_borrow_in ps
  pub handles : f.handles ≡ has_handle_in ps
  pub pointed : f.pointed ≡ is_pointed_in ps
  pub fields : types_of f.fields ≡ within (flat_fields ps)
  pub cases : types_of f.cases ≡ within (flat_cases ps)
  pub key : f.key ≡ key_of_parts ps

-- one part more
abbrev pub and_part : Parts → Name → Plain → Parts
and_part End name ty = More name ty End
and_part (More n t rest) name ty = More n t (and_part rest name ty)
and_part (Bare n rest) name ty = Bare n (and_part rest name ty)

abbrev pub and_bare : Parts → Name → Parts
and_bare End name = Bare name End
and_bare (More n t rest) name = More n t (and_bare rest name)
and_bare (Bare n rest) name = Bare n (and_bare rest name)

-- ---- functions

abbrev pub IsAnswerOf : Option Plain → Option Facts → Type 0
IsAnswerOf None None = ⊤
IsAnswerOf (Some ty) (Some f) = IsFactsOf ty f
IsAnswerOf _ _ = ⊥

pub record IsFuncFactsOf (ty : PlainFunc) (f : FuncFacts) : Type 0 where
  pub params : AreFactsOf ty.params f.params
  pub answer : IsAnswerOf ty.answer f.answer
