-- One more key of a table that is read in turn.
use Rattle.std.proofs.Common.{◌≡◌, ◌∙◌, refl, ap, ℕ, List, [], ◌∷◌, true, false, map}
use Rattle.std.specs.Prelude.{Some, String, string_bytes, ◌||◌}
use Rattle.std.specs.Borrow.{Bor}
use Rattle.std.specs.List.{list_any}
use Rattle.std.specs.Str.{bytes_eq}
use Rattle.std.specs.declared.alloc.Global.{Global}
use Rattle.toml.specs.View.{members_view}
use Rattle.toml.specs.declared.value.Value.{Value}
use Rattle.policy_toml.specs.Keys.{is_known, first_unknown}

pub is_known-now : (known : List (Bor (List ℕ))) (key : List ℕ) → list_any (λ k. bytes_eq key k.now) known ≡ is_known (map (λ k. k.now) known) key
is_known-now [] key = refl
is_known-now (k ∷ known) key = ap (λ b. bytes_eq key k.now || b) (is_known-now known key)

pub known_turn : (known : List (List ℕ)) (s t : List (String Global × Value)) (k : String Global) (v : Value) (key : List ℕ)
    → s ≡ (k, v) ∷ t → key ≡ string_bytes k → is_known known key ≡ true
    → first_unknown known (members_view s) ≡ first_unknown known (members_view t)
known_turn known s t k v key step same h =
    let here : is_known known (string_bytes k) ≡ true = (rw (← same) h) in
    ap (λ x. first_unknown known (members_view x)) step ∙ rw here refl

pub unknown_turn : (known : List (List ℕ)) (s t : List (String Global × Value)) (k : String Global) (v : Value) (key : List ℕ)
    → s ≡ (k, v) ∷ t → key ≡ string_bytes k → is_known known key ≡ false
    → first_unknown known (members_view s) ≡ Some key
unknown_turn known s t k v key step same h =
    let here : is_known known (string_bytes k) ≡ false = (rw (← same) h) in
    ap (λ x. first_unknown known (members_view x)) step ∙ rw (here, same) refl
