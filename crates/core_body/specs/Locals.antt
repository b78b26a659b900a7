-- Declared locals, in runs of one type (WebAssembly Core 2.0, section 5.5.13).
use Rattle.std.specs.Prelude.{List, [], ◌∷◌, ◌++◌, replicate}
use Rattle.virt_base.specs.declared.core_type.CoreType.{CoreType}
use Rattle.wasm_ast.specs.declared.module.LocalRun.{LocalRun}

-- the type of each local
abbrev pub spread : List LocalRun → List CoreType
spread [] = []
spread (r ∷ rs) = replicate r.count r.ty ++ spread rs
