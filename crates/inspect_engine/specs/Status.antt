-- The exit status of each way to end, and the text that is put: those of `wasi-virt`, but for the usage.
use Rattle.std.specs.Prelude.{ℕ, List, [], ◌++◌, codes}
use Rattle.std.specs.Fmt.{decimal}
use Rattle.virt_words.specs.FaultTexts.{policy_text, app_text}
use Rattle.inspect_engine.specs.declared.status.Status.{Status}
use Rattle.inspect_engine.specs.declared.status.Status.TheVariants.{Done, PolicyRefused, ComponentRefused, FileFault, SinkFault, OverLimit, NoMemory, Usage}

abbrev pub code_of : Status → ℕ
code_of Done = 0
code_of (PolicyRefused fault) = 1
code_of (ComponentRefused fault) = 2
code_of (FileFault name) = 3
code_of SinkFault = 4
code_of (OverLimit what value) = 5
code_of NoMemory = 6
code_of Usage = 64

-- ---- texts

-- of a status that is no success
abbrev pub status_text : Status → List ℕ
status_text Done = []
status_text (PolicyRefused fault) = codes "policy refused: " ++ (policy_text fault ++ codes "\n")
status_text (ComponentRefused fault) = codes "application refused: " ++ (app_text fault ++ codes "\n")
status_text (FileFault name) = codes "file fault: " ++ (name ++ codes "\n")
status_text SinkFault = []
status_text (OverLimit what value) = codes "over limit: " ++ (what ++ (codes " " ++ (decimal value ++ codes "\n")))
status_text NoMemory = []
status_text Usage = codes "usage: wasi-inspect COMPONENT [-p POLICY]\n"
