use Rattle.virt_engine.proofs.Runs.{ran_memory}
use Rattle.virt_engine.proofs.GenLaws.{gen_memory}
use Rattle.virt_engine.proofs.PairRuns.{plug_memory}
use Rattle.virt_engine.proofs.TaskLaws.{runs_memory}
use Rattle.virt_engine.proofs.engine.do_words.Goals as goal

pub returns-in-Err-NoMemory-clause-virt : goal.returns-in-Err-NoMemory-clause-virt
returns-in-Err-NoMemory-clause-virt g c = λ none. ran_memory c.args.words.now _ _

pub returns-in-Err-NoMemory-clause-run : goal.returns-in-Err-NoMemory-clause-run
returns-in-Err-NoMemory-clause-run g c = λ command run. runs_memory command _ _

pub returns-in-Err-NoMemory-clause-made : goal.returns-in-Err-NoMemory-clause-made
returns-in-Err-NoMemory-clause-made g c = λ command made. gen_memory command _ _

pub returns-in-Err-NoMemory-clause-plugged : goal.returns-in-Err-NoMemory-clause-plugged
returns-in-Err-NoMemory-clause-plugged g c = λ command plugged. plug_memory command _ _
