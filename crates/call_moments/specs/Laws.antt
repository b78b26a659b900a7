-- The beginning of a canonical call, and the call of a host, as acts.
use Rattle.std.specs.Prelude.{◌≡◌, ℕ, [], Result, Ok, Err}
use Rattle.wit_types.specs.PlainValue.{PlainValue, plain_value}
use Rattle.wit_types.specs.declared.value.Value.{Value}
use Rattle.host_port.specs.Hosts.{HostStep, Kept, answer_of}
use Rattle.comp_worlds.specs.Acts.{Trapped, ScriptEnded, BadAnswer, TooDeep, Out, Next, Over, Spent}
use Rattle.comp_worlds.specs.Passing.{params_tuple, answer_tuple}
use Rattle.comp_worlds.specs.Groups.{Nesting, Nested, deeper, Config, World, Nothing, Answer, Inside, Import}
use Rattle.comp_worlds.specs.Calls.{below, begins_call}
use Rattle.comp_worlds.specs.Hosts.{passed_by, hosted}
use Rattle.call_moments.specs.declared.end.Stop.{Stop}
use Rattle.call_moments.specs.declared.end.Stop.TheVariants as stops
use Rattle.call_moments.specs.declared.depth.Depth.{Depth}
use Rattle.call_moments.specs.Steps.{BeginsCall}
use Rattle.call_moments.specs.Asking.{called, Asks}

-- of at most 65,536 calls that many are in progress
abbrev pub nested : ℕ → Nesting
nested calls = Nested 65536 calls

abbrev pub IsBegun : {W : Type 0} → W → (old calls new : ℕ) → Result Depth Stop → Type 0
IsBegun w old calls new (Ok depth) = (begins_call (nested calls) w old ≡ Next [] new w tt) × (deeper (nested calls) ≡ nested depth.calls)
IsBegun w old calls new (Err stops.Spent) = begins_call (nested calls) w old ≡ Spent []
IsBegun w old calls new (Err stops.TooDeep) = begins_call (nested calls) w old ≡ Over [] TooDeep
IsBegun w old calls new (Err stops.Trapped) = ⊥
IsBegun w old calls new (Err stops.ScriptEnded) = ⊥
IsBegun w old calls new (Err stops.BadAnswer) = ⊥
IsBegun w old calls new (Err stops.NoMemory) = ⊥

abbrev pub CallsBegin : {S : Type 0} → HostStep S → Type 0
CallsBegin {S} h = (w : World S) (old calls new : ℕ) (result : Result Depth Stop) → BeginsCall old calls new result → IsBegun w old calls new result

-- how the call of an import comes out, with these arguments and that many steps, in a world with this host
abbrev pub ComesOut : {S : Type 0} → HostStep S → (ℕ → Config ℕ) → S → Import → PlainValue → ℕ → Out (World S) Answer → Result Value Stop → Type 0
ComesOut h configs s i args n out (Ok value) =
    out ≡ Next (h.call s (called i args)).seen n (record { configs = configs; below = (h.call s (called i args)).next }) (record { passed = passed_by (answer_tuple i.ty) (plain_value value); due = Nothing })
ComesOut h configs s i args n out (Err stops.Trapped) = out ≡ Over (h.call s (called i args)).seen Trapped
ComesOut h configs s i args n out (Err stops.ScriptEnded) = out ≡ Over (h.call s (called i args)).seen ScriptEnded
ComesOut h configs s i args n out (Err stops.BadAnswer) = out ≡ Over (h.call s (called i args)).seen BadAnswer
ComesOut h configs s i args n out (Err stops.Spent) = ⊥
ComesOut h configs s i args n out (Err stops.TooDeep) = ⊥
ComesOut h configs s i args n out (Err stops.NoMemory) = Unit {0}

abbrev pub HostsAnswer : {S : Type 0} → HostStep S → Type 0
HostsAnswer {S} h =
    (d : Nesting) (configs : ℕ → Config ℕ) (k : Kept S) (i : Import) (args : PlainValue) (n : ℕ) (result : Result Value Stop) → Asks (answer_of h k (called i args)) result →
    ComesOut h configs k.state i args n (below ((hosted h).ask d Inside i (passed_by (params_tuple i.ty) args)) (record { configs = configs; below = k.state }) n) result
