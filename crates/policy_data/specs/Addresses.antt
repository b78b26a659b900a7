-- Which addresses some rules allow.
use Rattle.std.specs.Prelude.{◌≡◌, ℕ, ◌^◌, ◌/◌, ◌%◌, ◌≤◌, zero, suc, List, [], ◌∷◌, Bool, ◌==◌, Any, take, if◌then◌else◌}
use Rattle.std.specs.List.{flat_map}
use Rattle.policy_data.specs.declared.data.PortRange.{PortRange}
use Rattle.policy_data.specs.declared.data.Rule.{Rule}

-- an address of IPv4 or IPv6: its 4 or 8 numbers, and its port
pub record Address : Type 0 where
  pub six : Bool
  pub numbers : List ℕ
  pub port : ℕ

-- that many bits of a number, the greatest first
abbrev pub bits : ℕ → ℕ → List Bool
bits zero n = []
bits (suc width) n = ((n / 2 ^ width) % 2 == 1) ∷ bits width n

-- the bits of an address: 8 of each of 4 numbers, or 16 of each of 8
abbrev pub address_bits : Bool → List ℕ → List Bool
address_bits six numbers = flat_map (bits (if six then 16 else 8)) numbers

-- the address is of the rule's family, and begins with as many of the rule's bits as count
abbrev pub IsInNetwork : Rule → Address → Type 0
IsInNetwork rule address = (rule.six ≡ address.six)
    × (take rule.length (address_bits rule.six rule.numbers) ≡ take rule.length (address_bits address.six address.numbers))

abbrev pub HoldsPort : ℕ → PortRange → Type 0
HoldsPort port range = (range.from ≤ port) × (port ≤ range.to)

-- some rule has a network that holds the address, and a range of ports that holds its port
abbrev pub IsAllowed : List Rule → Address → Type 0
IsAllowed rules address = Any (λ rule. IsInNetwork rule address × Any (HoldsPort address.port) rule.ports) rules
