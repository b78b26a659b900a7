-- The type of a function, as calls use it.
use Rattle.std.specs.Prelude.{◌≡◌, ℕ, length}
use Rattle.wit_types.specs.Plain.{PlainFunc}
use Rattle.abi_layout.specs.Functions.{core_params}
use Rattle.instance_state.specs.Functions.{IsPassedAs}
use Rattle.instance_state.specs.declared.passed_func.PassedFunc.{PassedFunc}

-- how its values pass, and how many core parameters it has without the place of its result
pub record IsCallOf (ty : PlainFunc) (passed : PassedFunc) (flat : ℕ) : Type 0 where
  pub types : IsPassedAs passed ty
  pub count : flat ≡ length (core_params ty)
