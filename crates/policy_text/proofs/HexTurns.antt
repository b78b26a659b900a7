-- Hexadecimal digits, as the code takes them pair by pair.
use Rattle.std.proofs.Common.{◌≡◌, ◌∙◌, refl, ap, sym, ℕ, ◌+◌, ◌*◌, List, [], ◌∷◌, ◌++◌}
use Rattle.std.specs.Prelude.{Option, Some, None}
use Rattle.std.proofs.Math.Seq.{append_snoc}
use Rattle.policy_text.specs.Hex.{hex_bytes, hex_digit, hex_pair}

-- bytes in front of those that digits spell
abbrev pub in_front : List ℕ → Option (List ℕ) → Option (List ℕ)
in_front bytes None = None
in_front bytes (Some more) = Some (bytes ++ more)

pair_in_front : (bytes : List ℕ) (high low : ℕ) (more : Option (List ℕ))
    → in_front bytes (hex_pair (Some high) (Some low) more) ≡ in_front (bytes ++ (high * 16 + low) ∷ []) more
pair_in_front bytes high low None = refl
pair_in_front bytes high low (Some more) = ap Some (sym (append_snoc bytes (high * 16 + low) more))

-- two more digits that spell a byte
pub hex_turn : (bytes : List ℕ) (s s1 s2 : List ℕ) (x y high low : ℕ) → s ≡ x ∷ s1 → s1 ≡ y ∷ s2
    → hex_digit x ≡ Some high → hex_digit y ≡ Some low
    → in_front bytes (hex_bytes s) ≡ in_front (bytes ++ (high * 16 + low) ∷ []) (hex_bytes s2)
hex_turn bytes s s1 s2 x y high low e f h l =
    ap (λ t. in_front bytes (hex_bytes t)) (e ∙ ap (λ t. x ∷ t) f)
    ∙ (ap (λ o. in_front bytes (hex_pair o (hex_digit y) (hex_bytes s2))) h
    ∙ (ap (λ o. in_front bytes (hex_pair (Some high) o (hex_bytes s2))) l
    ∙ pair_in_front bytes high low (hex_bytes s2)))
