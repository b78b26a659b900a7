-- Which scripts are run, and why others are not.
use Rattle.std.specs.Prelude.{ℕ, ◌≡◌, ◌≤◌, ◌<◌, List, length, codes, Result, Ok, Err}
use Rattle.comp_types.specs.Items.{Entries}
use Rattle.component_judge.specs.declared.script.Scripted.{Scripted}
use Rattle.host_script.specs.declared.fault.ScriptFault.TheVariants as faults
use Rattle.host_script.specs.Script.{due_script, json_in, script_seen}
use Rattle.component_judge.specs.Callable.{callable}
use Rattle.component_judge.specs.Limits.{script_limit}
use Rattle.component_judge.specs.declared.refusal.Refusal.{Refusal}
use Rattle.component_judge.specs.declared.refusal.Refusal.TheVariants.{OverLimit, BadScript, NoMemory}

-- for a component with these exports: the script, or why there is none
abbrev pub JudgesScript : Entries → List ℕ → Result Scripted Refusal → Type 0
JudgesScript exports bytes (Ok s) = (length bytes ≤ script_limit) × (due_script (callable exports) (json_in bytes) ≡ Ok (script_seen s.script))
JudgesScript exports bytes (Err (BadScript path)) = (length bytes ≤ script_limit) × (due_script (callable exports) (json_in bytes) ≡ Err (faults.BadScript path))
JudgesScript exports bytes (Err (OverLimit what value)) = (what ≡ codes "script-bytes") × (script_limit < length bytes) × (value ≡ length bytes)
JudgesScript exports bytes (Err NoMemory) = Unit {0}
JudgesScript exports bytes (Err _) = ⊥
