-- What reading a file of the command comes to.
use Rattle.std.specs.Prelude.{ℕ, List, Option, Some, None, length, nat_lt, if◌then◌else◌}
use Rattle.component_judge.specs.declared.refusal.Refusal.TheVariants as refusals
use Rattle.component_judge.specs.declared.unready.Unready.{Unready}
use Rattle.component_judge.specs.declared.unready.Unready.TheVariants as unready
use Rattle.virt_engine.specs.declared.status.Status.{Status}
use Rattle.virt_engine.specs.declared.status.Status.TheVariants.{AppRefused, FileFault, OverLimit, NoMemory, ScriptRefused}

-- a file that is absent, too long, or here
abbrev pub with_input : Option (List ℕ) → List ℕ → ℕ → List ℕ → (List ℕ → Status) → Status
with_input None what limit name next = FileFault name
with_input (Some bytes) what limit name next = if nat_lt limit (length bytes) then OverLimit what (length bytes) else next bytes

-- the status of a file that could not be read, or is refused
abbrev pub unready_as : Unready → Status
unready_as (unready.FileFault name) = FileFault name
unready_as (unready.Refused (refusals.Refused fault)) = AppRefused fault
unready_as (unready.Refused (refusals.OverLimit what value)) = OverLimit what value
unready_as (unready.Refused (refusals.BadScript path)) = ScriptRefused path
unready_as (unready.Refused refusals.NoMemory) = NoMemory

abbrev pub IsFileFault : Status → Type 0
IsFileFault (FileFault name) = Unit {0}
IsFileFault _ = ⊥
