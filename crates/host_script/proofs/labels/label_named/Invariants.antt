use Rattle.std.proofs.Common.{◌≡◌, ◌+◌, drop}
use Rattle.std.specs.Prelude.{option_map}
use Rattle.wit_types.specs.Plain.{bare}
use Rattle.host_port.specs.Untyped.{case_named}
use Rattle.host_script.proofs.labels.label_named.Given as goal

abbrev pub invariant-loop-number : goal.invariant-loop-number
invariant-loop-number l = case_named l.label (bare l.labels) ≡ option_map (λ n. l.number + n) (case_named l.label (bare (drop l.number l.labels)))
