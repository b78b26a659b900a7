use Rattle.std.proofs.Common.{◌≡◌, length}
use Rattle.policy_text.specs.Hex.{hex_bytes}
use Rattle.policy_text.proofs.HexTurns.{in_front}
use Rattle.policy_text.proofs.hex.hex_bytes.Given as goal

abbrev pub invariant-loop-high : goal.invariant-loop-high
invariant-loop-high l = hex_bytes l.digits ≡ in_front l.bytes (hex_bytes l.rest)

abbrev pub decreases-loop-high : goal.decreases-loop-high
decreases-loop-high l = length l.rest
