-- What words say of each command.
use Rattle.std.proofs.Common.{◌≡◌, ℕ, List, Ok, Err, ap}
use Rattle.std.specs.Prelude.{Option, Some, None}
use Rattle.virt_words.specs.Words.{Reads, command_of as said_by}
use Rattle.virt_words.specs.declared.command.Command.{Command as Said}
use Rattle.virt_words.specs.declared.command.Command.TheVariants.{Virt, Run, Gen, Plug}
use Rattle.virt_words.specs.declared.command.VirtWords.{VirtWords}
use Rattle.virt_words.specs.declared.command.RunWords.{RunWords}
use Rattle.virt_words.specs.declared.command.GenWords.{GenWords}
use Rattle.virt_words.specs.declared.command.PlugWords.{PlugWords}
use Rattle.virt_words.specs.declared.command.WordsFault.{WordsFault}
use Rattle.virt_words.specs.declared.command.WordsFault.TheVariants.{Usage, NoMemory}
use Rattle.virt_engine.specs.declared.command.Task.TheVariants as tasks
use Rattle.virt_engine.specs.Command.{virt_alone, run_alone, gen_alone, plug_alone, command_of, run_of, gen_of, plug_of, Says, ReadsTask}

virt_is : (words : List (List ℕ)) (said : Option Said) → said_by words ≡ said → command_of words ≡ virt_alone said
unfolding command_of
virt_is words said e = ap virt_alone e

run_is : (words : List (List ℕ)) (said : Option Said) → said_by words ≡ said → run_of words ≡ run_alone said
unfolding run_of
run_is words said e = ap run_alone e

gen_is : (words : List (List ℕ)) (said : Option Said) → said_by words ≡ said → gen_of words ≡ gen_alone said
unfolding gen_of
gen_is words said e = ap gen_alone e

plug_is : (words : List (List ℕ)) (said : Option Said) → said_by words ≡ said → plug_of words ≡ plug_alone said
unfolding plug_of
plug_is words said e = ap plug_alone e

all_say : (words : List (List ℕ)) (said : Option Said) → said_by words ≡ said → Says words (virt_alone said) (run_alone said) (gen_alone said) (plug_alone said)
all_say words said e = record { is_virt = virt_is words said e; is_run = run_is words said e; is_gen = gen_is words said e; is_plug = plug_is words said e }

pub of_virt : (words : List (List ℕ)) (w : VirtWords) → said_by words ≡ Some (Virt w) → ReadsTask words (Ok (tasks.Virt w))
of_virt words w e = all_say words (Some (Virt w)) e

pub of_run : (words : List (List ℕ)) (w : RunWords) → said_by words ≡ Some (Run w) → ReadsTask words (Ok (tasks.Run w))
of_run words w e = all_say words (Some (Run w)) e

pub of_gen : (words : List (List ℕ)) (w : GenWords) → said_by words ≡ Some (Gen w) → ReadsTask words (Ok (tasks.Gen w))
of_gen words w e = all_say words (Some (Gen w)) e

pub of_plug : (words : List (List ℕ)) (w : PlugWords) → said_by words ≡ Some (Plug w) → ReadsTask words (Ok (tasks.Plug w))
of_plug words w e = all_say words (Some (Plug w)) e

pub of_fault : (words : List (List ℕ)) (fault : WordsFault) → Reads (said_by words) (Err fault) → ReadsTask words (Err fault)
of_fault words Usage e = all_say words None e
of_fault words NoMemory e = tt
