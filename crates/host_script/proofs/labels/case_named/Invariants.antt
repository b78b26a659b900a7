use Rattle.std.proofs.Common.{◌≡◌, ◌+◌, drop}
use Rattle.std.specs.Prelude.{option_map}
use Rattle.wit_types.specs.Plain.{cases_of}
use Rattle.host_port.specs.Untyped.{case_named}
use Rattle.host_script.proofs.labels.case_named.Given as goal

abbrev pub invariant-loop-number : goal.invariant-loop-number
invariant-loop-number l = case_named l.label (cases_of l.cases) ≡ option_map (λ n. l.number + n) (case_named l.label (cases_of (drop l.number l.cases)))
