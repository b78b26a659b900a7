-- Whose error codes a result has, by the number of the function's interface.
use Rattle.std.specs.Prelude.{ℕ, Option, if◌then◌else◌}
use Rattle.wit_types.specs.Plain.{Plain}
use Rattle.reference_step.specs.Rules.{Errors, NoErrors, is_result, of_package}

abbrev pub errors_in : ℕ → Option Plain → Errors
errors_in interface ty = if is_result ty then of_package interface else NoErrors
