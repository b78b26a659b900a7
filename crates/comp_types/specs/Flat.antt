-- The core types of lifted and lowered functions (Canonical ABI, "Flattening").
use Rattle.wasm_ast.specs.declared.module.CoreFunc.{CoreFunc}
use Rattle.wit_types.specs.Plain.{PlainFunc}
use Rattle.abi_layout.specs.Functions.{FlatFunc, lifted, lowered}

abbrev pub core_type : FlatFunc → CoreFunc
core_type f = record { params = f.params; results = f.results }

abbrev pub lifted_type : PlainFunc → CoreFunc
lifted_type ty = core_type (lifted ty)

abbrev pub lowered_type : PlainFunc → CoreFunc
lowered_type ty = core_type (lowered ty)
