-- What comes of what is asked from outside, where nothing is in progress: a start function, or a call of a function of the group.
use Rattle.std.specs.Prelude.{◌≡◌, ℕ, List, [], Option, Some, true, Result, Ok, Err}
use Rattle.wit_types.specs.PlainValue.{PlainValue, PlainValues, RecordValue}
use Rattle.wit_types.specs.HasType.{are_of}
use Rattle.wit_types.specs.declared.value.Value.{Value}
use Rattle.host_port.specs.Calls.{plain_option}
use Rattle.host_port.specs.Hosts.{HostStep}
use Rattle.comp_worlds.specs.Acts.{Out, Next, Act, ◌>>◌, gives}
use Rattle.comp_worlds.specs.Passing.{params_tuple, answer_tuple, out_of_tuple}
use Rattle.comp_worlds.specs.Groups.{Target, type_of, Group, World, Outside}
use Rattle.comp_worlds.specs.Calls.{answers, leaves, starts}
use Rattle.comp_worlds.specs.Hosts.{hosted}
use Rattle.comp_frames.specs.Running.{running}
use Rattle.call_moments.specs.declared.end.Stop.{Stop}
use Rattle.call_moments.specs.CodeLaws.{nested}
use Rattle.call_moments.specs.Configs.{world_of}
use Rattle.call_moments.specs.Fits.{scenes_of, Takes, TargetFits}
use Rattle.call_moments.specs.Waiting.{HoldsNone}
use Rattle.call_moments.specs.Leads.{Moment, so_far, Same, IsAtRest, Ends}

-- a function of the group may be called with these arguments: no handle passes between a component and its outside
pub record CanCall {S : Type 0} (G : Group) (m : Moment S) (target : Target) (args : PlainValues) : Type 0 where
  pub fits : TargetFits (scenes_of m.instances) G m.group.owners target
  pub params : HoldsNone (params_tuple (type_of target))
  pub answer : HoldsNone (answer_tuple (type_of target))
  pub typed : are_of (type_of target).params args ≡ true

module _ {S : Type 0} (h : HostStep S) where
  -- It is done, with what was seen and these steps left, and nothing is in progress again; or the run ended so.
  abbrev pub ComesOut : {A B : Type 0} → (A → B) → Group → Out (World S) B → Moment S → Result A Stop → Moment S → Type 0
  ComesOut of G whole old (Ok a) new = Same old new × IsAtRest h G new × (whole ≡ Next new.kept.seen new.budget (world_of new.instances new.kept.state) (of a))
  ComesOut of G whole old (Err stop) new = Ends h G whole new stop

  -- a call from outside is answered and left: its result
  abbrev pub calls_from_outside : Group → Target → PlainValues → Act (World S) (Option PlainValue)
  calls_from_outside G target args =
      answers G (hosted h) (running G (hosted h)) (nested 0) Outside target (record { value = RecordValue args; reps = [] }) >> λ answer.
      leaves G (hosted h) (running G (hosted h)) (nested 0) answer.due >> λ _.
      gives (out_of_tuple answer.passed.value)

  -- a start function runs
  abbrev pub RunsStart : Moment S → (k f : ℕ) → Result (Unit {0}) Stop → Moment S → Type 0
  RunsStart old k f result new =
      (G : Group) → IsAtRest h G old → Takes (scenes_of old.instances) k f 0 →
      ComesOut (λ u. u) G (so_far old (starts G (hosted h) (running G (hosted h)) (nested 0) k (Some f))) old result new

  abbrev pub RunsCall : Moment S → Target → PlainValues → Result (Option Value) Stop → Moment S → Type 0
  RunsCall old target args result new = (G : Group) → IsAtRest h G old → CanCall G old target args → ComesOut plain_option G (so_far old (calls_from_outside G target args)) old result new
