-- Lists of operand types, by where the context has them.
use Rattle.std.specs.Prelude.{Option, Some, None, List, [], ◌∷◌, slice_get, take}
use Rattle.virt_base.specs.declared.core_type.CoreType.{CoreType}
use Rattle.wasm_ast.specs.declared.module.CoreFunc.{CoreFunc}
use Rattle.core_body.specs.declared.operand.Operand.{Operand}
use Rattle.core_body.specs.declared.source.Source.{Source}
use Rattle.core_body.specs.declared.source.Source.TheVariants.{Nothing, Only, Params, Results}
use Rattle.core_body.specs.declared.source.Run.{Run}
use Rattle.core_body.specs.Context.{Context}
use Rattle.core_body.specs.Typing.{operands}

abbrev pub params_in : Option CoreFunc → List CoreType
params_in None = []
params_in (Some f) = f.params

abbrev pub results_in : Option CoreFunc → List CoreType
results_in None = []
results_in (Some f) = f.results

-- the list that a source names, which is empty where its type is not there
abbrev pub listed_in : List CoreFunc → Source → List CoreType
listed_in types Nothing = []
listed_in types (Only t) = t ∷ []
listed_in types (Params n) = params_in (slice_get types n)
listed_in types (Results n) = results_in (slice_get types n)

abbrev pub listed : Context → Source → List CoreType
listed c s = listed_in c.types s

-- its operands, the last on top
abbrev pub spelled : Context → Source → List Operand
spelled c s = operands (listed c s)

-- a run is the front of a list
abbrev pub front : Context → Run → List CoreType
front c r = take r.len (listed c r.of)
