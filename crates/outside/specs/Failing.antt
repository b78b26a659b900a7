-- Calls that are counted, of which some are to fail.
use Rattle.std.specs.Prelude.{ℕ, ◌==◌, List, Bool, nat_lt, if◌then◌else◌}
use Rattle.std.specs.List.{list_any, list_all}
use Rattle.outside.specs.Fault.{one_more}

pub record Calls : Type 0 where
  -- the numbers of the calls that fail, counted from 0
  pub failing : List ℕ
  -- the number of the next call
  pub next : ℕ
  -- how many calls failed
  pub faults : ℕ

abbrev pub from_start : List ℕ → Calls
from_start failing = record { failing = failing; next = 0; faults = 0 }

abbrev pub is_listed : Calls → Bool
is_listed c = list_any (λ call. call == c.next) c.failing

-- no number from the next call on is listed
abbrev pub is_steady : Calls → Bool
is_steady c = list_all (λ call. nat_lt call c.next) c.failing

-- after a call that failed, or did not
abbrev pub after : Calls → Bool → Calls
after c failed = record { failing = c.failing; next = one_more c.next; faults = if failed then one_more c.faults else c.faults }
