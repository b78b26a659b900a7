-- Addresses in and outside the network 10.0.0.0/8, by their first bits.
use Rattle.std.proofs.Common.{◌≡◌, refl, [], ◌∷◌, false}
use Rattle.std.specs.Prelude.{take}
use Rattle.policy_data.specs.Addresses.{address_bits}

pub inside_bits : take 8 (address_bits false (10 ∷ 1 ∷ 2 ∷ 3 ∷ [])) ≡ take 8 (address_bits false (10 ∷ 0 ∷ 0 ∷ 0 ∷ []))
inside_bits = refl

pub outside_bits : take 8 (address_bits false (11 ∷ 0 ∷ 0 ∷ 1 ∷ [])) ≡ take 8 (address_bits false (10 ∷ 0 ∷ 0 ∷ 0 ∷ [])) → ⊥
outside_bits h = absurd (cc)
