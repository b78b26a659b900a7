-- What is left of a run where a function of `World` begins, and what its answer says of that.
use Rattle.std.specs.Prelude.{◌≡◌, ◌==◌, ℕ, List, [], ◌∷◌, length, reverse, Option, Some, None, Bool, false, option_map, Result, Ok, Err, slice_get}
use Rattle.core_store.specs.State.{State, memory_at}
use Rattle.core_store.specs.declared.value.CoreValue.{CoreValue}
use Rattle.wit_types.specs.PlainValue.{PlainValue, plain_value}
use Rattle.host_port.specs.Hosts.{HostStep, Kept}
use Rattle.comp_worlds.specs.Acts.{Trapped, ScriptEnded, BadAnswer, TooDeep, Out, Next, Over, Spent, seen_before, Act, ◌>>◌}
use Rattle.comp_worlds.specs.Groups.{Group, World}
use Rattle.comp_worlds.specs.Hosts.{hosted}
use Rattle.comp_frames.specs.Frames.{Awaiting, ends_in}
use Rattle.instance_state.specs.declared.instance.Instance.{Instance}
use Rattle.instance_state.specs.declared.loan.Loan.{Loan}
use Rattle.instance_state.specs.declared.calls.CoreCall.{CoreCall}
use Rattle.call_moments.specs.declared.end.Stop.{Stop}
use Rattle.call_moments.specs.declared.end.Stop.TheVariants as stops
use Rattle.call_moments.specs.declared.frame.Flow.{Flow}
use Rattle.call_moments.specs.declared.frame.Flow.TheVariants as flows
use Rattle.call_moments.specs.declared.frame.Frame.{Frame}
use Rattle.call_moments.specs.declared.group.Group.{Group as CodeGroup}
use Rattle.call_moments.specs.Configs.{configs_of, world_of}
use Rattle.call_moments.specs.CodeLaws.{nested}
use Rattle.call_moments.specs.Held.{Maps, AllLend}
use Rattle.call_moments.specs.Shown.{purpose_of}
use Rattle.call_moments.specs.Standing.{Calls, with_calls, AllStand, Goes}
use Rattle.call_moments.specs.Fits.{scenes_of, Fits}
use Rattle.call_moments.specs.Waiting.{due_behind, FrameFits, AllAwait, AllRoomy}

-- a world of code at a moment, its host as it is kept
pub record Moment (S : Type 0) : Type 0 where
  pub kept : Kept S
  pub group : CodeGroup
  pub instances : List Instance
  pub frames : List Frame
  pub budget : ℕ

abbrev pub stores_of : List Instance → ℕ → State
stores_of instances k = (configs_of instances k).store

abbrev pub calls_in : Option Instance → List CoreCall
calls_in None = []
calls_in (Some i) = i.code.calls

abbrev pub calls_of : List Instance → Calls
calls_of instances k = calls_in (slice_get instances k)

abbrev pub maps_of : List Instance → Maps
maps_of instances k = (configs_of instances k).map

-- how long the memory at a place of each instance's store is
abbrev pub sizes_of : List Instance → ℕ → ℕ → ℕ
sizes_of instances k at = length (memory_at (stores_of instances k) at).bytes

-- what is left of a run at a moment, after all that was seen
abbrev pub so_far : {S A : Type 0} → Moment S → Act (World S) A → Out (World S) A
so_far m rest = seen_before m.kept.seen (rest (world_of m.instances m.kept.state) m.budget)

-- nothing that code names was changed
pub record Same {S : Type 0} (old new : Moment S) : Type 0 where
  pub group : new.group ≡ old.group
  pub scenes : scenes_of new.instances ≡ scenes_of old.instances

-- core code of no instance goes on by itself
abbrev pub AreStill : List Instance → Type 0
AreStill instances = (k : ℕ) (i : Instance) → slice_get instances k ≡ Some i → i.code.going ≡ false

-- that of one does
abbrev pub OneGoes : List Instance → ℕ → Type 0
OneGoes instances at = (k : ℕ) (i : Instance) → slice_get instances k ≡ Some i → i.code.going ≡ (k == at)

module _ {S : Type 0} (h : HostStep S) (G : Group) where
  -- a canonical call is in progress, with these loans beside those of the frames: all core code awaits results, the innermost that many
  pub record Waits (m : Moment S) (waiting : List (Awaiting S)) (loans : List Loan) (count : Option ℕ) : Type 0 where
    pub fits : Fits G m.group (scenes_of m.instances)
    pub still : AreStill m.instances
    pub stand : AllStand h G (stores_of m.instances) (calls_of m.instances) (reverse m.frames) waiting
    pub await : AllAwait (scenes_of m.instances) (calls_of m.instances) (reverse m.frames) count
    pub room : AllRoomy (sizes_of m.instances) (reverse m.frames)
    pub lend : AllLend (maps_of m.instances) loans (reverse m.frames)

  -- the innermost core code goes on: then comes what is left
  pub record GoesOn (whole : Out (World S) (Option PlainValue)) (m : Moment S) : Type 0 where
    pub fits : Fits G m.group (scenes_of m.instances)
    pub frame : Frame
    pub outer : List Frame
    pub frames : reverse m.frames ≡ frame ∷ outer
    pub going : OneGoes m.instances frame.instance
    pub code : Act (World S) (List CoreValue)
    pub waiting : List (Awaiting S)
    pub goes : Goes h G (stores_of m.instances) (calls_of m.instances) frame outer code waiting
    pub frame_fits : FrameFits (scenes_of m.instances) frame goes.call outer
    pub await : AllAwait (scenes_of m.instances) (with_calls (calls_of m.instances) frame.instance goes.rest) outer (due_behind frame.purpose)
    pub room : AllRoomy (sizes_of m.instances) (frame ∷ outer)
    pub lend : AllLend (maps_of m.instances) [] (frame ∷ outer)
    pub is : whole ≡ so_far m (code >> ends_in G (hosted h) (nested 0) waiting frame.instance (purpose_of frame.purpose))

  -- nothing is in progress
  pub record IsAtRest (m : Moment S) : Type 0 where
    pub fits : Fits G m.group (scenes_of m.instances)
    pub still : AreStill m.instances
    pub calls : (k : ℕ) → calls_of m.instances k ≡ []
    pub frames : m.frames ≡ []
    pub lend : AllLend (maps_of m.instances) [] []

  -- all that was begun from outside is done
  pub record IsDone (whole : Out (World S) (Option PlainValue)) (m : Moment S) (value : Option PlainValue) : Type 0 where
    pub rest : IsAtRest m
    pub is : whole ≡ Next m.kept.seen m.budget (world_of m.instances m.kept.state) value

  -- what a run that was ended says of what was left, where memory ran out, nothing
  abbrev pub Ends : {A : Type 0} → Out (World S) A → Moment S → Stop → Type 0
  Ends whole m stops.Trapped = whole ≡ Over m.kept.seen Trapped
  Ends whole m stops.ScriptEnded = whole ≡ Over m.kept.seen ScriptEnded
  Ends whole m stops.BadAnswer = whole ≡ Over m.kept.seen BadAnswer
  Ends whole m stops.TooDeep = whole ≡ Over m.kept.seen TooDeep
  Ends whole m stops.Spent = whole ≡ Spent m.kept.seen
  Ends whole m stops.NoMemory = Unit {0}

  abbrev pub Leads : Out (World S) (Option PlainValue) → Moment S → Result Flow Stop → Moment S → Type 0
  Leads whole old (Ok flows.Goes) new = Same old new × GoesOn whole new
  Leads whole old (Ok (flows.Done value)) new = Same old new × IsDone whole new (option_map plain_value value)
  Leads whole old (Err stop) new = Ends whole new stop
