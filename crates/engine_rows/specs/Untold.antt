-- Files that tell nothing of what they hold.
use Rattle.std.specs.Prelude.{ℕ, false, None}
use Rattle.outside.specs.Files.{FilesState, Held}

abbrev pub nothing_told : Held
nothing_told = record { file = λ n. None; folder = λ n. None; noted = λ n. false; room = λ n. 0 }

abbrev pub untold : ℕ → FilesState
untold faults = record { faults = faults; told = false; steady = false; held = nothing_told }
