-- The command of the words after the program's name.
use Rattle.std.specs.Prelude.{ℕ, ◌≡◌, List, Option, Some, None, Result, Ok, Err}
use Rattle.virt_words.specs.Words.{command_of as said_by}
use Rattle.virt_words.specs.declared.command.Command.{Command as Said}
use Rattle.virt_words.specs.declared.command.Command.TheVariants.{Virt, Run, Gen, Plug}
use Rattle.virt_words.specs.declared.command.VirtWords.{VirtWords}
use Rattle.virt_words.specs.declared.command.RunWords.{RunWords}
use Rattle.virt_words.specs.declared.command.GenWords.{GenWords}
use Rattle.virt_words.specs.declared.command.PlugWords.{PlugWords}
use Rattle.virt_words.specs.declared.command.WordsFault.{WordsFault}
use Rattle.virt_words.specs.declared.command.WordsFault.TheVariants.{Usage, NoMemory}
use Rattle.virt_engine.specs.declared.command.Names.{Names}
use Rattle.virt_engine.specs.declared.command.PairNames.{PairNames}
use Rattle.virt_engine.specs.declared.command.Task.{Task}
use Rattle.virt_engine.specs.declared.command.Task.TheVariants as tasks

-- what a command names
pub record Command : Type 0 where
  pub app : List ℕ
  pub policy : List ℕ
  pub out : List ℕ

abbrev pub named_by : VirtWords → Command
named_by w = record { app = w.app; policy = w.policy; out = w.out }

-- what words say of `virt`
abbrev pub virt_alone : Option Said → Option Command
virt_alone (Some (Virt w)) = Some (named_by w)
virt_alone _ = None

unfoldable pub command_of : List (List ℕ) → Option Command
command_of words = virt_alone (said_by words)

-- what a run is told: the names of its files, the policy's where there is one, and its steps
pub record RunCommand : Type 0 where
  pub component : List ℕ
  pub script : List ℕ
  pub policy : Option (List ℕ)
  pub steps : ℕ

abbrev pub told_by : RunWords → RunCommand
told_by w = record { component = w.component; script = w.script; policy = w.policy; steps = w.steps }

-- what words say of `run`
abbrev pub run_alone : Option Said → Option RunCommand
run_alone (Some (Run w)) = Some (told_by w)
run_alone _ = None

unfoldable pub run_of : List (List ℕ) → Option RunCommand
run_of words = run_alone (said_by words)

-- what is generated: how many functions, and the name of the output
pub record GenCommand : Type 0 where
  pub functions : ℕ
  pub out : List ℕ

abbrev pub gen_by : GenWords → GenCommand
gen_by w = record { functions = w.functions; out = w.out }

-- what words say of `gen`
abbrev pub gen_alone : Option Said → Option GenCommand
gen_alone (Some (Gen w)) = Some (gen_by w)
gen_alone _ = None

unfoldable pub gen_of : List (List ℕ) → Option GenCommand
gen_of words = gen_alone (said_by words)

-- the two components that are made one, the policy that it is wrapped under, and the name of the output
pub record PlugCommand : Type 0 where
  pub first : List ℕ
  pub second : List ℕ
  pub policy : List ℕ
  pub out : List ℕ

abbrev pub plug_by : PlugWords → PlugCommand
plug_by w = record { first = w.first; second = w.second; policy = w.policy; out = w.out }

-- what words say of `plug`
abbrev pub plug_alone : Option Said → Option PlugCommand
plug_alone (Some (Plug w)) = Some (plug_by w)
plug_alone _ = None

unfoldable pub plug_of : List (List ℕ) → Option PlugCommand
plug_of words = plug_alone (said_by words)

-- The words are of `virt`, or no command.
pub record NoOther (words : List (List ℕ)) : Type 0 where
  pub run : run_of words ≡ None
  pub gen : gen_of words ≡ None
  pub plug : plug_of words ≡ None

-- What words say: this command, and no other.
pub record Says (words : List (List ℕ)) (virt : Option Command) (run : Option RunCommand) (gen : Option GenCommand) (plug : Option PlugCommand) : Type 0 where
  pub is_virt : command_of words ≡ virt
  pub is_run : run_of words ≡ run
  pub is_gen : gen_of words ≡ gen
  pub is_plug : plug_of words ≡ plug

-- the task that is due, unless memory ran out
abbrev pub ReadsTask : List (List ℕ) → Result Task WordsFault → Type 0
ReadsTask words (Ok (tasks.Virt w)) = Says words (Some (named_by w)) None None None
ReadsTask words (Ok (tasks.Run w)) = Says words None (Some (told_by w)) None None
ReadsTask words (Ok (tasks.Gen w)) = Says words None None (Some (gen_by w)) None
ReadsTask words (Ok (tasks.Plug w)) = Says words None None None (Some (plug_by w))
ReadsTask words (Err Usage) = Says words None None None None
ReadsTask words (Err NoMemory) = Unit {0}

abbrev pub names_of : Names → Command
names_of n = record { app = n.app.now; policy = n.policy.now; out = n.out.now }

abbrev pub pair_of : PairNames → PlugCommand
pair_of n = record { first = n.first.now; second = n.second.now; policy = n.policy.now; out = n.out.now }
