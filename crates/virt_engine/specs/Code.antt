-- The exit status of the program for each status of a call.
use Rattle.std.specs.Prelude.{ℕ}
use Rattle.virt_engine.specs.declared.status.Status.{Status}
use Rattle.virt_engine.specs.declared.status.Status.TheVariants.{Done, PolicyRefused, AppRefused, FileFault, SinkFault, OverLimit, NoMemory, ScriptRefused, Trapped, ScriptEnded, StepsSpent, BadAnswer, TooDeep, Usage, PlugRefused}

abbrev pub code_of : Status → ℕ
code_of Done = 0
code_of (PolicyRefused fault) = 1
code_of (AppRefused fault) = 2
code_of (FileFault name) = 3
code_of SinkFault = 4
code_of (OverLimit what value) = 5
code_of NoMemory = 6
code_of (ScriptRefused path) = 7
code_of (PlugRefused fault) = 8
code_of Trapped = 10
code_of ScriptEnded = 11
code_of StepsSpent = 12
code_of BadAnswer = 13
code_of TooDeep = 14
code_of Usage = 64
