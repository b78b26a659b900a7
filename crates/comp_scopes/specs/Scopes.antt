-- What a scope keeps of a component's index spaces.
use Rattle.std.specs.Prelude.{◌≡◌, ℕ, Option, slice_get}
use Rattle.std.specs.Option.{option_and_then}
use Rattle.wasm_ast.specs.declared.module.CoreFunc.{CoreFunc}
use Rattle.comp_types.specs.Spaces.{Space, core_type_of}
use Rattle.comp_scopes.specs.declared.core_scope.CoreScope.{CoreScope}
use Rattle.comp_scopes.specs.Found.{Each, HasExports, IsKnownModule}

-- these are the core index spaces
pub record IsCoreOf (s : Space) (c : CoreScope) : Type 0 where
  pub functions : c.functions.items ≡ s.core_functions
  pub tables : c.tables.items ≡ s.core_tables
  pub memories : c.memories.items ≡ s.core_memories
  pub globals : c.globals.items ≡ s.core_globals
  pub modules : Each IsKnownModule s.core_modules c.modules.items
  pub instances : Each HasExports s.core_instances c.instances.items

-- the type of the function at an index
unfoldable pub func_in : CoreScope → ℕ → Option CoreFunc
func_in c i = option_and_then core_type_of (slice_get c.functions.items i)
