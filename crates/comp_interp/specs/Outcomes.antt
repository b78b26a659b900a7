-- What comes of the making of a component over a host, and of a call of what it exports.
use Rattle.std.specs.Prelude.{◌≡◌, ℕ, Option, Some, None, Result, Ok, Err, true}
use Rattle.wit_types.specs.Plain.{Name}
use Rattle.wit_types.specs.PlainValue.{PlainValue, PlainValues}
use Rattle.wit_types.specs.HasType.{are_of}
use Rattle.host_port.specs.Calls.{plain_option}
use Rattle.host_port.specs.Hosts.{HostStep, Kept}
use Rattle.comp_worlds.specs.Acts.{Trapped, ScriptEnded, BadAnswer, TooDeep, Out, Next, Over, Spent, Act, traps}
use Rattle.comp_worlds.specs.Passing.{params_tuple, answer_tuple}
use Rattle.comp_worlds.specs.Groups.{Target, type_of, Group, World}
use Rattle.comp_link.specs.declared.linked.Linked.{Linked}
use Rattle.call_moments.specs.declared.end.RunEnd.{RunEnd}
use Rattle.call_moments.specs.declared.end.RunEnd.TheVariants as ends
use Rattle.call_moments.specs.declared.end.Stop.{Stop}
use Rattle.call_moments.specs.declared.end.Stop.TheVariants as stops
use Rattle.wit_types.specs.declared.value.Value.{Value}
use Rattle.call_moments.specs.Configs.{world_of}
use Rattle.call_moments.specs.Leads.{Moment, so_far}
use Rattle.call_moments.specs.Outside.{calls_from_outside}
use Rattle.call_moments.specs.Waiting.{HoldsNone}
use Rattle.comp_calls.specs.Moments.{at}
use Rattle.comp_interp.specs.declared.run.Run.{Run}
use Rattle.comp_interp.specs.Gathered.{stages_act}
use Rattle.comp_interp.specs.Going.{IsReady}
use Rattle.comp_link.specs.Groups.{linked_group}
use Rattle.comp_interp.specs.Names.{cut}
use Rattle.comp_interp.specs.Runs.{host_in, IsNew}

-- the group that runs
abbrev pub group_in : {H : Type 0} → Run H → Group
group_in run = linked_group run.linked

-- its world, with its host as it is kept
abbrev pub moment_in : {H S : Type 0} → (H → Kept S) → Run H → Moment S
moment_in kept run = at kept run.assembly.world

-- a call or the making came out so
abbrev pub IsEndOf : Result (Option Value) Stop → RunEnd → Type 0
IsEndOf (Ok value) end = end ≡ ends.Returned value
IsEndOf (Err stops.Trapped) end = end ≡ ends.Trapped
IsEndOf (Err stops.ScriptEnded) end = end ≡ ends.ScriptEnded
IsEndOf (Err stops.BadAnswer) end = end ≡ ends.BadAnswer
IsEndOf (Err stops.Spent) end = end ≡ ends.Spent
IsEndOf (Err stops.TooDeep) end = end ≡ ends.TooDeep
IsEndOf (Err stops.NoMemory) end = ⊥

-- it came out so, and left this
abbrev pub ComesTo : {S A : Type 0} → (Option PlainValue → A) → Out (World S) A → RunEnd → Moment S → Type 0
ComesTo of whole (ends.Returned value) m = whole ≡ Next m.kept.seen m.budget (world_of m.instances m.kept.state) (of (plain_option value))
ComesTo of whole ends.Trapped m = whole ≡ Over m.kept.seen Trapped
ComesTo of whole ends.ScriptEnded m = whole ≡ Over m.kept.seen ScriptEnded
ComesTo of whole ends.BadAnswer m = whole ≡ Over m.kept.seen BadAnswer
ComesTo of whole ends.Spent m = whole ≡ Spent m.kept.seen
ComesTo of whole ends.TooDeep m = whole ≡ Over m.kept.seen TooDeep

abbrev pub IfReturned : RunEnd → Type 0 → Type 0
IfReturned (ends.Returned value) P = P
IfReturned ends.Trapped P = Unit {0}
IfReturned ends.ScriptEnded P = Unit {0}
IfReturned ends.BadAnswer P = Unit {0}
IfReturned ends.Spent P = Unit {0}
IfReturned ends.TooDeep P = Unit {0}

module _ {H S : Type 0} (h : HostStep S) (kept : H → Kept S) where
  -- all is made, and nothing is in progress
  abbrev pub CanServe : Run H → Type 0
  CanServe run = IsReady h run.linked run.assembly.made.items run.exports (moment_in kept run)

  -- A run is left so, and the group stays what it was.
  pub record Left {A : Type 0} (of : Option PlainValue → A) (whole : Out (World S) A) (old : Run H) (end : RunEnd) (new : Run H) : Type 0 where
    pub comes : ComesTo of whole end (moment_in kept new)
    pub serves : IfReturned end (CanServe new)
    pub group : group_in new ≡ group_in old

  -- a new run makes what the plan says
  abbrev pub Instantiates : Run H → RunEnd → Run H → Type 0
  Instantiates old end new =
      (linked : Linked) (first : Kept S) (budget : ℕ) → IsNew linked first budget (kept (host_in old)) old →
      Left (λ v. tt) (so_far (moment_in kept old) (stages_act h (group_in old) (group_in old).stages)) old end new

  -- what is not exported traps
  abbrev pub calls_target : Group → Option Target → PlainValues → Act (World S) (Option PlainValue)
  calls_target G None args = traps
  calls_target G (Some target) args = calls_from_outside h G target args

  -- a function by the name that a call has for it
  abbrev pub export_named : Group → Name → Option Target
  export_named G name = G.exports (cut name).0 (cut name).1

  -- no handle passes between a component and its outside, and arguments are of their types
  pub record MayCall (target : Target) (args : PlainValues) : Type 0 where
    pub params : HoldsNone (params_tuple (type_of target))
    pub answer : HoldsNone (answer_tuple (type_of target))
    pub typed : are_of (type_of target).params args ≡ true

  -- a run whose component is made is called
  abbrev pub CallsExport : Run H → Name → PlainValues → RunEnd → Run H → Type 0
  CallsExport old name args end new =
      CanServe old → ((target : Target) → export_named (group_in old) name ≡ Some target → MayCall target args) →
      Left (λ v. v) (so_far (moment_in kept old) (calls_target (group_in old) (export_named (group_in old) name) args)) old end new
