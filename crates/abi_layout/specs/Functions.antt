-- The core type of a whole function (Component Model, CanonicalABI.md, "Flattening"): more than 16 flat parameters go through one
-- place, and more than one flat result through memory.
use Rattle.std.specs.Prelude.{Bool, nat_lt, if◌then◌else◌, List, [], ◌∷◌, ◌++◌, length, Option, Some, None}
use Rattle.virt_base.specs.declared.core_type.CoreType.{CoreType}
use Rattle.virt_base.specs.declared.core_type.CoreType.TheVariants.{I32}
use Rattle.wit_types.specs.Plain.{Plain, PlainFunc}
use Rattle.wit_types.specs.Layout.{flat, flat_fields}

pub record FlatFunc : Type 0 where
  pub params : List CoreType
  pub results : List CoreType

abbrev pub flat_result : Option Plain → List CoreType
flat_result None = []
flat_result (Some ty) = flat ty

-- the parameters go through one place
abbrev pub params_spill : PlainFunc → Bool
params_spill f = nat_lt 16 (length (flat_fields f.params))

-- the result goes through memory
abbrev pub result_spills : PlainFunc → Bool
result_spills f = nat_lt 1 (length (flat_result f.answer))

abbrev pub core_params : PlainFunc → List CoreType
core_params f = if params_spill f then I32 ∷ [] else flat_fields f.params

-- The core function that is lifted: it answers the place of a result that goes through memory.
abbrev pub lifted : PlainFunc → FlatFunc
lifted f = record { params = core_params f; results = if result_spills f then I32 ∷ [] else flat_result f.answer }

-- The core function that lowering makes: the place for a result that goes through memory is one parameter more.
abbrev pub lowered : PlainFunc → FlatFunc
lowered f = record { params = core_params f ++ (if result_spills f then I32 ∷ [] else []); results = if result_spills f then [] else flat_result f.answer }
