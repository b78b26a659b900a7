-- The machine's files and standard output, which tell nothing of what they hold.
use Rattle.std.specs.Prelude.{ℕ, [], false, None}
use Rattle.outside.specs.Files.{FilesState, Held}
use Rattle.outside.specs.Sink.{SinkState}

abbrev pub nothing_told : Held
nothing_told = record { file = λ n. None; folder = λ n. None; noted = λ n. false; room = λ n. 0 }

abbrev pub untold_files : ℕ → FilesState
untold_files faults = record { faults = faults; told = false; steady = false; held = nothing_told }

abbrev pub untold_sink : ℕ → SinkState
untold_sink faults = record { faults = faults; told = false; steady = false; bytes = []; room = 0 }
