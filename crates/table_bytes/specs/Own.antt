-- A routine over locals of its own, called in the midst of another one.
use Rattle.std.specs.Prelude.{◌≡◌, ℕ, List, map}
use Rattle.adapter_code.specs.Run.{State, RoutineRun, local_at}

-- what a routine at these places finds of a state
abbrev pub own_of : List ℕ → State → State
own_of places s = record s { locals = map (local_at s.locals) places }

-- two runs have all in common but the locals
pub record AreAlike (r s : RoutineRun) : Type 0 where
  pub end : r.end ≡ s.end
  pub count : r.count ≡ s.count
  pub memory : r.state.memory ≡ s.state.memory
  pub table : r.state.table ≡ s.state.table
  pub effects : r.state.effects ≡ s.state.effects
