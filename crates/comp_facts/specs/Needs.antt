-- What lifted and lowered functions need of their options (Canonical ABI, "Flattening" and "canon lift"; Component Model,
-- Explainer.md, "Canonical ABI").
use Rattle.std.specs.Prelude.{Bool, true, false, ◌||◌, Option, Some, None}
use Rattle.wit_types.specs.Plain.{Plain, Parts, PlainFunc, StringType, ListType, RecordType, VariantType, End, More, Bare}
use Rattle.abi_layout.specs.Functions.{params_spill, result_spills}

-- a string or a list stands in the type
abbrev mutual
  pub is_pointed : Plain → Bool
  is_pointed StringType = true
  is_pointed (ListType item) = true
  is_pointed (RecordType form fields) = is_pointed_in fields
  is_pointed (VariantType form cases) = is_pointed_in cases
  is_pointed _ = false

  pub is_pointed_in : Parts → Bool
  is_pointed_in End = false
  is_pointed_in (More name ty rest) = is_pointed ty || is_pointed_in rest
  is_pointed_in (Bare name rest) = is_pointed_in rest

abbrev pub is_pointed_answer : Option Plain → Bool
is_pointed_answer None = false
is_pointed_answer (Some ty) = is_pointed ty

-- of lifted and lowered functions alike
abbrev pub needs_memory : PlainFunc → Bool
needs_memory ty = (is_pointed_in ty.params || is_pointed_answer ty.answer) || (params_spill ty || result_spills ty)

-- what a lifted function is given is stored into its own instance
abbrev pub lift_needs_realloc : PlainFunc → Bool
lift_needs_realloc ty = is_pointed_in ty.params || params_spill ty

-- so is what a lowered function answers, but its spilled results go to the caller's place
abbrev pub lower_needs_realloc : PlainFunc → Bool
lower_needs_realloc ty = is_pointed_answer ty.answer
