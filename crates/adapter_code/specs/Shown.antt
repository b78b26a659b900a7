-- What a program's run of a routine shows of the routine's run.
use Rattle.std.specs.Prelude.{◌≡◌}
use Rattle.adapter_code.specs.declared.state.RowState.{RowState}
use Rattle.adapter_code.specs.declared.state.CodeEnd.{CodeEnd}
use Rattle.adapter_code.specs.declared.flow.Flow.{Flow}
use Rattle.adapter_code.specs.declared.flow.Flow.TheVariants.{Next as Goes, Left as Leaves, Over as Ends}
use Rattle.adapter_code.specs.Run.{State, Run, Next, Left, Over, RoutineRun}

abbrev pub seen : RowState → State
seen s = record { locals = s.locals.items; memory = s.memory.items; table = s.table; effects = s.effects.items }

abbrev pub Shows : Run → Flow → State → Type 0
Shows (Next k s) Goes t = s ≡ t
Shows (Next k s) (Leaves m) t = ⊥
Shows (Next k s) (Ends e) t = ⊥
Shows (Left m k s) Goes t = ⊥
Shows (Left m k s) (Leaves n) t = (m ≡ n) × (s ≡ t)
Shows (Left m k s) (Ends e) t = ⊥
Shows (Over e k s) Goes t = ⊥
Shows (Over e k s) (Leaves n) t = ⊥
Shows (Over e k s) (Ends f) t = (e ≡ f) × (s ≡ t)

-- a routine's end and the state after it
pub record EndsAs (run : RoutineRun) (e : CodeEnd) (s : State) : Type 0 where
  pub end : run.end ≡ e
  pub state : run.state ≡ s
