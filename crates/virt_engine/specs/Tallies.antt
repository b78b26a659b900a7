-- What is counted of a run: the calls of the host, and the numbers that called functions returned, added modulo 2^64.
use Rattle.std.specs.Prelude.{ℤ, pos, ◌+◌, ◌%◌, ◌^◌, List, [], ◌∷◌, Option, Some, None, nat_lt, if◌then◌else◌}
use Rattle.wit_types.specs.PlainValue.{PlainValue, IntValue}
use Rattle.host_port.specs.Calls.{PlainObservation, Called, Returned}
use Rattle.virt_engine.specs.declared.tally.Tally.{Tally}

abbrev pub none_counted : Tally
none_counted = record { calls = 0; sum = 0 }

-- a number that is none of 64 bits without a sign is left out
abbrev pub and_number : Tally → ℤ → Tally
and_number t (pos n) = if nat_lt n (2 ^ 64) then record { calls = t.calls; sum = (t.sum + n) % 2 ^ 64 } else t
and_number t _ = t

abbrev pub and_value : Tally → PlainValue → Tally
and_value t (IntValue n) = and_number t n
and_value t _ = t

abbrev pub and_result : Tally → Option PlainValue → Tally
and_result t (Some value) = and_value t value
and_result t None = t

abbrev pub and_seen : Tally → PlainObservation → Tally
and_seen t (Called call) = record { calls = t.calls + 1; sum = t.sum }
and_seen t (Returned value) = and_result t value
and_seen t _ = t

abbrev pub all_seen : Tally → List PlainObservation → Tally
all_seen t [] = t
all_seen t (o ∷ seen) = all_seen (and_seen t o) seen
