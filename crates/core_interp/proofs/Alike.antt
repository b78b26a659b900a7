-- Lists of types, compared from a place on.
use Rattle.std.proofs.Common.{◌≡◌, ◌≢◌, ℕ, suc, ◌+◌, ◌<◌, ◌≤◌, List, [], ◌∷◌, length, drop, get_or, Bool, true, false, refl, sym, ap, ◌∙◌}
use Rattle.std.specs.Prelude.{◌&&◌}
use Rattle.std.proofs.lemmas.List.{drop_more, drop_all}
use Rattle.virt_base.specs.declared.core_type.CoreType.{CoreType}
use Rattle.core_store.specs.Eval.{same_type, same_types}

and_false : (a b : Bool) → b ≡ false → (a && b) ≡ false
and_false true b e = e
and_false false b e = refl

pub unlike : (ts us : List CoreType) → length ts ≢ length us → same_types ts us ≡ false
unlike [] [] h = absurd (h refl)
unlike [] (u ∷ us) h = refl
unlike (t ∷ ts) [] h = refl
unlike (t ∷ ts) (u ∷ us) h = and_false (same_type t u) (same_types ts us) (unlike ts us (λ e. h (ap suc e)))

at_place : (ts us : List CoreType) (i : ℕ) (x y : CoreType) → i < length ts → i < length us → x ≡ get_or ts i x → y ≡ get_or us i y → same_types (drop i ts) (drop i us) ≡ (same_type x y && same_types (drop (i + 1) ts) (drop (i + 1) us))
at_place ts us i x y lt lt' ex ey =
    ap (λ xs. same_types xs (drop i us)) (drop_more ts i x lt) ∙ ap (λ ys. same_types (get_or ts i x ∷ drop (i + 1) ts) ys) (drop_more us i y lt')
    ∙ ap (λ z. same_type z (get_or us i y) && same_types (drop (i + 1) ts) (drop (i + 1) us)) (sym ex) ∙ ap (λ z. same_type x z && same_types (drop (i + 1) ts) (drop (i + 1) us)) (sym ey)

pub alike_next : (ts us : List CoreType) (i : ℕ) (x y : CoreType) → i < length ts → i < length us → x ≡ get_or ts i x → y ≡ get_or us i y → same_type x y ≡ true → same_types (drop i ts) (drop i us) ≡ same_types (drop (i + 1) ts) (drop (i + 1) us)
alike_next ts us i x y lt lt' ex ey e = at_place ts us i x y lt lt' ex ey ∙ ap (λ b. b && same_types (drop (i + 1) ts) (drop (i + 1) us)) e

pub alike_no : (ts us : List CoreType) (i : ℕ) (x y : CoreType) → i < length ts → i < length us → x ≡ get_or ts i x → y ≡ get_or us i y → same_type x y ≡ false → same_types (drop i ts) (drop i us) ≡ false
alike_no ts us i x y lt lt' ex ey e = at_place ts us i x y lt lt' ex ey ∙ ap (λ b. b && same_types (drop (i + 1) ts) (drop (i + 1) us)) e

pub alike_end : (ts us : List CoreType) (n : ℕ) → length ts ≤ n → length us ≤ n → same_types (drop n ts) (drop n us) ≡ true
alike_end ts us n le le' = ap (λ xs. same_types xs (drop n us)) (drop_all n ts le) ∙ ap (same_types []) (drop_all n us le')
