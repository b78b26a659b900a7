-- The least rule of conditions in a row.
use Rattle.std.proofs.Common.{◌≡◌, ℕ, ◌<◌, ◌≤◌, refl, sym, ◌∙◌, ap, min, Option, Some, None, List, [], ◌∷◌, ◌++◌, map, Bool, true, false, length, drop, get_or, arith, drop-cons, suc, cond}
use Rattle.std.specs.Prelude.{nat_lt, ◌+◌}
use Rattle.std.proofs.lemmas.Bool.Decides.{nat_tests}
use Rattle.core_body.specs.Context.{Context}
use Rattle.core_body.specs.Conditions.{Condition, LabelAt, lesser, broken, least}

pub lesser-none : (b : Option ℕ) → lesser None b ≡ b
lesser-none None = refl
lesser-none (Some n) = refl

min-assoc_lem : (a b d : ℕ) → min (min a b) d ≡ min a (min b d)
min-assoc_lem a b d = omega arith

pub lesser-assoc : (a b d : Option ℕ) → lesser (lesser a b) d ≡ lesser a (lesser b d)
lesser-assoc a b None = refl
lesser-assoc a None (Some d) = refl
lesser-assoc None (Some b) (Some d) = refl
lesser-assoc (Some a) (Some b) (Some d) = ap Some (min-assoc_lem a b d)

pub least-append : (c : Context) (xs ys : List Condition) → least c (xs ++ ys) ≡ lesser (least c xs) (least c ys)
least-append c [] ys = sym (lesser-none (least c ys))
least-append c (x ∷ xs) ys = ap (lesser (broken c x)) (least-append c xs ys) ∙ sym (lesser-assoc (broken c x) (least c xs) (least c ys))

-- nothing lies below the rule on labels among labels
pub six : (c : Context) (labels : ℕ) (ns : List ℕ) → lesser (Some 6) (least c (map (LabelAt labels) ns)) ≡ Some 6
six c labels [] = refl
six c labels (n ∷ ns) = go (least c (map (LabelAt labels) ns)) (six c labels ns) (nat_lt n labels)
  where
    go : (r : Option ℕ) → lesser (Some 6) r ≡ Some 6 → (b : Bool) → lesser (Some 6) (lesser (cond b None (Some 6)) r) ≡ Some 6
    go r more true = ap (lesser (Some 6)) (lesser-none r) ∙ more
    go r more false = ap (lesser (Some 6)) more

label-kept : (c : Context) (labels n : ℕ) → n < labels → broken c (LabelAt labels n) ≡ None
label-kept c labels n h = let e : nat_lt n labels ≡ true = grind (arith, nat_tests) in ap (λ b. cond b None (Some 6)) e

label-broken : (c : Context) (labels n : ℕ) → labels ≤ n → broken c (LabelAt labels n) ≡ Some 6
label-broken c labels n h = let e : nat_lt n labels ≡ false = grind (arith, nat_tests) in ap (λ b. cond b None (Some 6)) e

pub labels-stop : (c : Context) (labels : ℕ) (ns : List ℕ) (i : ℕ) → i < length ns → labels ≤ get_or ns i 0 → Some 6 ≡ least c (map (LabelAt labels) (drop i ns))
labels-stop c labels ns i h past =
    sym (ap (λ l. least c (map (LabelAt labels) l)) (drop-cons ns i 0 h)
    ∙ ap (λ r. lesser r (least c (map (LabelAt labels) (drop (suc i) ns)))) (label-broken c labels (get_or ns i 0) past) ∙ six c labels (drop (suc i) ns))

pub labels-go_on : (c : Context) (labels : ℕ) (ns : List ℕ) (i : ℕ) → i < length ns → get_or ns i 0 < labels →
    least c (map (LabelAt labels) (drop (i + 1) ns)) ≡ least c (map (LabelAt labels) (drop i ns))
labels-go_on c labels ns i h inside =
    let step : i + 1 ≡ suc i = omega arith in
    ap (λ k. least c (map (LabelAt labels) (drop k ns))) step
    ∙ sym (ap (λ l. least c (map (LabelAt labels) l)) (drop-cons ns i 0 h)
    ∙ ap (λ r. lesser r (least c (map (LabelAt labels) (drop (suc i) ns)))) (label-kept c labels (get_or ns i 0) inside) ∙ lesser-none (least c (map (LabelAt labels) (drop (suc i) ns))))
