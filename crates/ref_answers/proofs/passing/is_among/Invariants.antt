use Rattle.std.proofs.Common.{◌≡◌, drop}
use Rattle.std.specs.List.{list_any}
use Rattle.std.specs.Str.{bytes_eq}
use Rattle.ref_answers.proofs.passing.is_among.Given as goal

abbrev pub invariant-loop-allowed : goal.invariant-loop-allowed
invariant-loop-allowed l = list_any (λ allowed. bytes_eq allowed l.name) (drop l.allowed-index l.names) ≡ list_any (λ allowed. bytes_eq allowed l.name) l.names
