-- The locals of a function (WebAssembly Core 2.0, section 2.5.3), which are declared in runs of one type (section 5.5.13).
use Rattle.std.specs.Prelude.{List, replicate}
use Rattle.std.specs.List.{flat_map}
use Rattle.virt_base.specs.declared.core_type.CoreType.{CoreType}
use Rattle.wasm_ast.specs.declared.module.LocalRun.{LocalRun}

-- the type of each local
abbrev pub each_local : List LocalRun → List CoreType
each_local runs = flat_map (λ (r : LocalRun). replicate r.count r.ty) runs
