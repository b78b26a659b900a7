-- A map that has a list of names, and one more.
use Rattle.std.proofs.Common.{◌≡◌, ℕ, refl, sym, ◌∙◌, ap, Option, Some, None, List, [], ◌∷◌, ◌++◌, Bool, true, false, cond, is_some, is_none, not, ◌||◌, ◌&&◌, nat_eq, arith}
use Rattle.std.specs.List.{list_any}
use Rattle.std.specs.Str.{bytes_eq}
use Rattle.std.specs.Cmp.Lexicographic.{slice_cmp}
use Rattle.std.specs.Ordering.{nat_cmp}
use Rattle.std.specs.BTreeMap.{BTreeMap, get_by}
use Rattle.std.specs.Map.{update}
use Rattle.std.proofs.lemmas.List.Folds.{list_any-append}
use Rattle.std.proofs.lemmas.Bool.Decides.{nat_tests}
use denote.Ref.{Bor}
use Rattle.core_validate.specs.Seen.{Knows}

same-sym : (a b : ℕ) → nat_eq a b ≡ nat_eq b a
same-sym a b = grind (arith, nat_tests)

bytes-sym : (a b : List ℕ) → bytes_eq a b ≡ bytes_eq b a
bytes-sym [] [] = refl
bytes-sym [] (y ∷ ys) = refl
bytes-sym (x ∷ xs) [] = refl
bytes-sym (x ∷ xs) (y ∷ ys) = ap (λ t. t && bytes_eq xs ys) (same-sym x y) ∙ ap (λ t. nat_eq y x && t) (bytes-sym xs ys)

either : (b : Bool) (o : Option Bool) (l : Bool) → is_some o ≡ l → is_some (cond b (Some true) o) ≡ (l || (b || false))
either true o true e = refl
either true o false e = refl
either false o true e = e
either false o false e = e

pub knows-more : (old new : BTreeMap (Bor (List ℕ)) Bool) (names : List (List ℕ)) (n : List ℕ) → Knows old names →
    ((q : List ℕ) → get_by (λ k. slice_cmp nat_cmp q k.now) new ≡ update bytes_eq (λ ds. get_by (λ k. slice_cmp nat_cmp ds k.now) old) n (Some true) q) → Knows new (names ++ n ∷ [])
knows-more old new names n knows updates q =
    ap is_some (updates q) ∙ either (bytes_eq n q) (get_by (λ k. slice_cmp nat_cmp q k.now) old) (list_any (bytes_eq q) names) (knows q)
    ∙ ap (λ t. list_any (bytes_eq q) names || (t || false)) (bytes-sym n q) ∙ sym (list_any-append (bytes_eq q) names (n ∷ []))

pub turned : (a b l : Bool) → a ≡ not b → a ≡ l → b ≡ not l
turned a true true e f = let never : true ≡ false = sym f ∙ e in cc
turned a true false e f = refl
turned a false true e f = refl
turned a false false e f = let never : false ≡ true = sym f ∙ e in cc
