-- A sink in memory.
use Rattle.std.specs.Prelude.{ℕ, ◌≡◌, ◌+◌, ◌||◌, Bool, true, List, Result, is_err, length, nat_lt, if◌then◌else◌}
use Rattle.outside.specs.Buffer.{Filled, fill}
use Rattle.outside.specs.Failing.{Calls, is_listed, is_steady, after}
use Rattle.outside.specs.Sink.{SinkState}
use Rattle.outside.specs.declared.sink.PutFailed.{PutFailed}

pub record MemSinkState : Type 0 where
  pub calls : Calls
  pub held : Filled

abbrev pub sink_state : MemSinkState → SinkState
sink_state m = record { faults = m.calls.faults; told = true; steady = is_steady m.calls; bytes = m.held.bytes; room = m.held.room }

-- the call is listed, or the bytes pass the room
abbrev pub put_fails : MemSinkState → List ℕ → Bool
put_fails m bytes = is_listed m.calls || nat_lt m.held.room (length m.held.bytes + length bytes)

-- A listed call writes nothing, and any other as many bytes as fit.
pub record MemPuts (bytes : List ℕ) (m n : MemSinkState) (r : Result (Unit {0}) PutFailed) : Type 0 where
  pub fails : is_err r ≡ put_fails m bytes
  pub calls : n.calls ≡ after m.calls (put_fails m bytes)
  pub held : n.held ≡ (if is_listed m.calls then m.held else fill m.held bytes)
