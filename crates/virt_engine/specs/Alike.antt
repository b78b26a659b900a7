-- What a call of `run` comes to, where nothing but its words and the contents of its files decides.
use Rattle.std.specs.Prelude.{ℕ, ◌≡◌, ◌≢◌, ◌++◌, ◌⊎◌, List, true, Some}
use Rattle.outside.specs.Fault.{Rose}
use Rattle.outside.specs.Files.{FilesState, Held}
use Rattle.outside.specs.Sink.{SinkState}
use Rattle.virt_engine.specs.declared.status.Status.{Status}
use Rattle.virt_engine.specs.declared.status.Status.TheVariants.{NoMemory}
use Rattle.virt_engine.specs.Command.{RunCommand, run_of}
use Rattle.virt_engine.specs.Runs.{RunsBy}

-- The files are told, and are steady or met no fault.
pub record AreCalm (held : Held) (s t : FilesState) : Type 0 where
  pub told : s.told ≡ true
  pub holds : s.held ≡ held
  pub calm : (s.steady ≡ true) ⊎ ¬ (Rose s.faults t.faults)

-- The sink is told and met no fault, and this text was put.
pub record Took (text : List ℕ) (k l : SinkState) : Type 0 where
  pub told : k.told ≡ true
  pub calm : ¬ (Rose k.faults l.faults)
  pub bytes : l.bytes ≡ k.bytes ++ text

-- Some call of `run` with these words, over files with these contents, answered this status and put this text; memory did not run out.
pub record CameTo (held : Held) (words : List (List ℕ)) (status : Status) (text : List ℕ) : Type 0 where
  pub command : RunCommand
  pub said : run_of words ≡ Some command
  pub files : FilesState × FilesState
  pub sink : SinkState × SinkState
  pub runs : RunsBy command files.0 files.1 sink.0 sink.1 status
  pub calm : AreCalm held files.0 files.1
  pub took : Took text sink.0 sink.1
  pub enough : status ≢ NoMemory
