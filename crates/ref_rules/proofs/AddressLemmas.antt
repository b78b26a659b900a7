-- A run of bytes has no datagram.
use Rattle.std.proofs.Common.{◌≡◌, ℕ, false, refl, List, [], ◌∷◌}
use Rattle.wit_types.specs.PlainValue.{byte_values}
use Rattle.policy_data.specs.declared.data.Rule.{Rule}
use Rattle.reference_step.specs.Values.{items}
use Rattle.reference_step.specs.Refused.{refuses_any}

pub no_datagrams : (rules : List Rule) (bytes : List ℕ) → refuses_any rules (items (byte_values bytes)) ≡ false
no_datagrams rules [] = refl
no_datagrams rules (b ∷ bytes) = no_datagrams rules bytes
