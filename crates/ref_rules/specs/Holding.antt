-- Counts of open scratch files.
use Rattle.std.specs.Prelude.{ℕ, ◌+◌, ◌-◌, List, get_or, slice_set, Option, Some, None}

abbrev pub more_open : List ℕ → Option ℕ → List ℕ
more_open held None = held
more_open held (Some file) = slice_set held file (get_or held file 0 + 1)

abbrev pub less_open : List ℕ → Option ℕ → List ℕ
less_open held None = held
less_open held (Some file) = slice_set held file (get_or held file 0 - 1)
