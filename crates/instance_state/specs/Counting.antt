-- How many items a store has.
use Rattle.std.specs.Prelude.{◌≡◌, ◌+◌, length}
use Rattle.wasm_ast.specs.declared.module.Module.{Module}
use Rattle.core_store.specs.State.{State}
use Rattle.instance_state.specs.declared.runs.Counts.{Counts}

pub record CountsOf (s : State) (c : Counts) : Type 0 where
  pub tables : c.tables ≡ length s.tables
  pub memories : c.memories ≡ length s.memories
  pub globals : c.globals ≡ length s.globals

-- with those that a module defines
pub record Counted (c : Counts) (m : Module) (d : Counts) : Type 0 where
  pub tables : d.tables ≡ c.tables + length m.tables
  pub memories : d.memories ≡ c.memories + length m.memories
  pub globals : d.globals ≡ c.globals + length m.globals
