-- The parts of a name, as the code finds them.
use Rattle.std.proofs.Common.{◌≡◌, refl, ℕ, ◌<◌, List, true, false, Option, Some, None, nat_lt, length, option_map, arith}
use Rattle.std.specs.Prelude.{◌==◌, MatchOption}
use Rattle.std.specs.Borrow.{Bor}
use Rattle.std.specs.List.{position_or_len, before_first, after_first}
use Rattle.std.proofs.lemmas.Bool.Decides.{nat_tests}
use Rattle.wit_types.specs.Plain.{Name}
use Rattle.wasi_match.specs.Names.{is_at, cut}

pub found_parts : (name : Name) (r : Option (Bor (List ℕ) × Bor (List ℕ)))
    → MatchOption r (position_or_len (λ b. b == 64) name ≡ length name)
    (λ x. (x.0.now ≡ before_first (λ b. b == 64) name) × (x.1.now ≡ after_first (λ b. b == 64) name) × (position_or_len (λ b. b == 64) name < length name))
    → option_map (λ p. (p.0.now, p.1.now)) r ≡ cut name
found_parts name None h =
    let no : nat_lt (position_or_len is_at name) (length name) ≡ false = grind (arith, nat_tests, h) in
    rw no refl
found_parts name (Some p) h =
    let yes : nat_lt (position_or_len is_at name) (length name) ≡ true = grind (arith, nat_tests, h.2) in
    rw (yes, h.0, h.1) refl
