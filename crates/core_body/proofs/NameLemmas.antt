-- Types by their names.
use Rattle.std.proofs.Common.{◌≡◌, refl, Option, Some, None}
use Rattle.wasm_ast.specs.declared.module.CoreFunc.{CoreFunc}
use Rattle.core_body.specs.Context.{arrow}
use Rattle.core_body.specs.Sources.{params_in, results_in}

-- a type that is there is the one that its names stand for
pub named_some : (x : Option CoreFunc) (f : CoreFunc) → x ≡ Some f → x ≡ Some (arrow (params_in x) (results_in x))
named_some None f e = cc
named_some (Some g) f e = refl
