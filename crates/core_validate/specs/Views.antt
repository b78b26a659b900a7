-- What the code's lists stand for.
use Rattle.std.specs.Prelude.{◌≡◌, List, map, length}
use Rattle.wasm_ast.specs.declared.module.Module.{Module}
use Rattle.core_validate.specs.declared.spaces.Found.{Found}
use Rattle.core_validate.specs.Spaces as spaces

-- these are the module's index spaces
pub record IsOf (m : Module) (f : Found) : Type 0 where
  pub functions : f.functions.items ≡ spaces.functions m
  pub tables : f.tables.items ≡ spaces.tables m
  pub memories : f.memories.items ≡ spaces.memories m
  pub imported_memories : f.imported_memories ≡ length (spaces.imported_memories m.imports)
  pub globals : f.globals.items ≡ spaces.globals m
  pub imported_globals : f.imported_globals ≡ length (spaces.imported_globals m.imports)
  pub elements : f.elements.items ≡ map spaces.element_type m.elements
  pub refs : f.refs.items ≡ spaces.refs m
