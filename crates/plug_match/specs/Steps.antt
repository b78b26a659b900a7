-- What one import more does.
use Rattle.std.specs.Prelude.{◌≡◌, Option, Some, None}
use Rattle.wasi_match.specs.declared.fault.Cause.{Cause}

-- the walk goes on in another state, or what is at fault
pub data Step (S : Type 0) : Type 0 where
  Goes : (state : S) → Step S
  Stops : (cause : Cause) → Step S

-- what the code of a step answers: what is at fault, if something is; else the new state stands
abbrev pub Came : {S : Type 0} → Option Cause → S → Step S → Type 0
Came None new step = step ≡ Goes new
Came (Some cause) new step = step ≡ Stops cause
