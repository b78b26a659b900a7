-- A reader of the clock over another one, and the group of both.
use Rattle.std.specs.Prelude.{◌≡◌, ℕ, zero, suc, ◌+◌, [], ◌∷◌, Option, Some, None, codes}
use Rattle.wit_types.specs.Plain.{End}
use Rattle.wit_types.specs.PlainValue.{End as NoValues}
use Rattle.comp_worlds.specs.Groups.{Import, Lifting, Target, Mine, Theirs, Func, LoweredFunc, Provides, Makes, Group}
use Rattle.comp_worlds.specs.Observed.{obs}
use Rattle.link_rows.specs.Samples.{code, call, made_of, core_type, number, func, no_options, lift, now, clock, called, of_host, calls_of, at_number, no_owner, reader}
use Rattle.link_rows.specs.WorldsRows.{returned}

abbrev pub reads_clock : Lifting
reads_clock = lift 1 (func End (Some number)) no_options

abbrev pub in_both : ℕ → ℕ → Option Func
in_both zero n = at_number (LoweredFunc (Theirs now) no_options ∷ []) n
in_both (suc zero) n = at_number (LoweredFunc (Mine 0 reads_clock) no_options ∷ []) n
in_both (suc (suc k)) n = None

abbrev pub both_readers : Group
both_readers = record {
  canons = in_both;
  owner = no_owner;
  imported = λ r. of_host;
  exports = λ interface name. Some (Mine 1 reads_clock);
  given = λ r. None;
  stages = Provides 0 (core_type 0 1) 0 ∷ Makes 0 (made_of (code 0 1 (call 0 ∷ []) ∷ [])) None ∷ Provides 1 (core_type 0 1) 0 ∷ Makes 1 (made_of (code 0 1 (call 0 ∷ []) ∷ [])) None ∷ [];
}

-- the first stands at 0, the second at 1, and those that are not there after them
abbrev pub at_first : ℕ → ℕ
at_first zero = 0
at_first (suc k) = suc (suc (k + k))

abbrev pub at_second : ℕ → ℕ
at_second zero = 1
at_second (suc k) = suc (suc (suc (k + k)))

-- each import is met by the function that the reader exports
abbrev pub meets_reader : Import → Target
meets_reader f = Mine 0 reads_clock

pub record JoinedExamples : Type 0 where
  pub one_group : obs both_readers [] clock 5 (calls_of (codes "f") NoValues ∷ []) 100 ≡ called now NoValues ∷ returned 5 ∷ []
  pub two_groups : obs reader (reader ∷ []) clock 5 (calls_of (codes "f") NoValues ∷ []) 100 ≡ called now NoValues ∷ returned 5 ∷ []
