-- The text that is put for each status of a call.
use Rattle.std.specs.Prelude.{ℕ, List, [], ◌++◌, codes}
use Rattle.std.specs.Fmt.{decimal}
use Rattle.virt_engine.specs.declared.status.PlugFault.{PlugFault}
use Rattle.virt_engine.specs.declared.status.PlugFault.TheVariants.{First, Second, NothingMet}
use Rattle.virt_words.specs.FaultTexts.{policy_text, app_text}
use Rattle.virt_engine.specs.declared.status.Status.{Status}
use Rattle.virt_engine.specs.declared.status.Status.TheVariants.{Done, PolicyRefused, AppRefused, FileFault, SinkFault, OverLimit, NoMemory, ScriptRefused, Trapped, ScriptEnded, StepsSpent, BadAnswer, TooDeep, Usage, PlugRefused}

abbrev pub plug_text : PlugFault → List ℕ
plug_text (First fault) = codes "first " ++ app_text fault
plug_text (Second fault) = codes "second " ++ app_text fault
plug_text NothingMet = codes "nothing met"

-- the line of a call that wrote an output: the bytes of the application and of the output, and the imported functions
abbrev pub done_text : ℕ → ℕ → ℕ → List ℕ
done_text in_bytes out_bytes functions =
    codes "done: " ++ (decimal in_bytes ++ (codes " bytes in, " ++ (decimal out_bytes ++ (codes " bytes out, " ++ (decimal functions ++ codes " functions imported\n")))))

-- the text of a status that is no success; a run that ended early has put its observations, and nothing further is put
abbrev pub status_text : Status → List ℕ
status_text Done = []
status_text (PolicyRefused fault) = codes "policy refused: " ++ (policy_text fault ++ codes "\n")
status_text (AppRefused fault) = codes "application refused: " ++ (app_text fault ++ codes "\n")
status_text (FileFault name) = codes "file fault: " ++ (name ++ codes "\n")
status_text SinkFault = []
status_text (OverLimit what value) = codes "over limit: " ++ (what ++ (codes " " ++ (decimal value ++ codes "\n")))
status_text NoMemory = []
status_text (ScriptRefused path) = codes "script refused: " ++ (path ++ codes "\n")
status_text Trapped = []
status_text ScriptEnded = []
status_text StepsSpent = []
status_text BadAnswer = []
status_text TooDeep = []
status_text Usage = codes "usage: wasi-virt virt APP -p POLICY -o OUT; run COMPONENT -s SCRIPT [-p POLICY] [--steps N]; gen N OUT; plug A B -p POLICY -o OUT\n"
status_text (PlugRefused fault) = codes "plug refused: " ++ (plug_text fault ++ codes "\n")
