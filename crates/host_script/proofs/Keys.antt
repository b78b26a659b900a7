-- One more key of an object that is read in turn.
use Rattle.std.proofs.Common.{◌≡◌, ◌∙◌, refl, ap, List, ℕ, ◌∷◌, true, false, String, Global, string_bytes}
use Rattle.std.specs.Prelude.{Some}
use Rattle.serde_json.specs.View.{members_view}
use Rattle.serde_json.specs.declared.value.Value.{Value as Json}
use Rattle.host_script.specs.Json.{untyped_members}
use Rattle.host_script.specs.Script.{is_known, first_unknown}

pub known_turn : (s t : List (String Global × Json)) (k : String Global) (j : Json) (key : List ℕ) → s ≡ (k, j) ∷ t → key ≡ string_bytes k → is_known key ≡ true
    → first_unknown (untyped_members (members_view s)) ≡ first_unknown (untyped_members (members_view t))
known_turn s t k j key step same h =
    let here : is_known (string_bytes k) ≡ true = (rw (← same) h) in
    ap (λ x. first_unknown (untyped_members (members_view x))) step ∙ rw here refl

pub unknown_turn : (s t : List (String Global × Json)) (k : String Global) (j : Json) (key : List ℕ) → s ≡ (k, j) ∷ t → key ≡ string_bytes k → is_known key ≡ false
    → first_unknown (untyped_members (members_view s)) ≡ Some key
unknown_turn s t k j key step same h =
    let here : is_known (string_bytes k) ≡ false = (rw (← same) h) in
    ap (λ x. first_unknown (untyped_members (members_view x))) step ∙ rw (here, same) refl
