-- The types by which the parameters of a function and its result pass.
use Rattle.std.specs.Prelude.{◌≡◌}
use Rattle.wit_types.specs.Plain.{plain, PlainFunc, RecordType, AsRecord}
use Rattle.comp_worlds.specs.Passing.{answer_tuple, most_params, most_results}
use Rattle.instance_state.specs.declared.passed_func.PassedFunc.{PassedFunc}

-- A record and a tuple of the same fields are read and written alike, so that parameters keep their names.
pub record IsPassedAs (p : PassedFunc) (f : PlainFunc) : Type 0 where
  pub params : plain p.params.ty ≡ RecordType AsRecord f.params
  pub most : p.params.most ≡ most_params
  pub result : plain p.result.ty ≡ answer_tuple f
  pub most_flat : p.result.most ≡ most_results
