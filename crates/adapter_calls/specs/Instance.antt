-- One instance of a group at a moment. (This project's own.)
use Rattle.std.specs.Prelude.{◌≡◌, ℕ, None}
use Rattle.core_store.specs.State.{State}
use Rattle.handle_space.specs.HandleMap.{HandleMap}
use Rattle.comp_worlds.specs.Groups.{Config, World}
use Rattle.comp_worlds.specs.Calls.{set}

-- the instance in this state, over this state of the host; all else is as in another world
abbrev pub standing : {S : Type 0} → World S → ℕ → Config ℕ → S → World S
standing w instance c s = record { configs = set w.configs instance c; below = s }

-- a state of an instance with another store and other handles
abbrev pub with_both : Config ℕ → State → HandleMap ℕ → Config ℕ
with_both c store map = record { store = store; map = map; entered = c.entered; closed = c.closed }

-- no call is in progress, and calls may nest without a limit
pub record IsQuiet (store : State) : Type 0 where
  pub nesting : store.nesting ≡ 0
  pub deepest : store.deepest ≡ None
