-- Operands taken and put, in lists.
use Rattle.std.proofs.Common.{◌≡◌, ◌≤◌, ◌<◌, ◌+◌, ◌-◌, ℕ, refl, sym, ◌∙◌, ap, subst, Some, List, [], ◌∷◌, ◌++◌, Bool, true, false, length, take, reverse, map, arith, get_or}
use Rattle.std.proofs.lemmas.List.{reverse-append, map-append, take_more}
use Rattle.virt_base.specs.declared.core_type.CoreType.{CoreType}
use Rattle.virt_base.specs.declared.core_type.CoreType.TheVariants.{I32}
use Rattle.core_body.specs.declared.operand.Operand.{Operand}
use Rattle.core_body.specs.declared.operand.Operand.TheVariants.{Known}
use Rattle.core_body.specs.Typing.{operands}
use Rattle.core_body.specs.Machine.{pops, same_list}
use Rattle.core_body.proofs.Fits.{same_list-is, same_list-refl}

pub pops-dead : (ps : List Operand) → pops true [] ps ≡ Some []
pops-dead [] = refl
pops-dead (p ∷ ps) = refl

-- the last type is the top
pub operands-push : (ts : List CoreType) (t : CoreType) → operands (ts ++ t ∷ []) ≡ Known t ∷ operands ts
operands-push ts t = ap reverse (map-append (λ u. Known u) ts (t ∷ [])) ∙ reverse-append (map (λ u. Known u) ts) (Known t ∷ [])

pub operands-take : (ts : List CoreType) (n : ℕ) (d : CoreType) → 0 < n → n ≤ length ts →
    operands (take n ts) ≡ Known (get_or ts (n - 1) d) ∷ operands (take (n - 1) ts)
operands-take ts n d some within =
    let one : n ≡ (n - 1) + 1 = omega arith in
    let lt : n - 1 < length ts = omega arith in
    ap (λ m. operands (take m ts)) one ∙ ap operands (take_more ts (n - 1) d lt) ∙ operands-push (take (n - 1) ts) (get_or ts (n - 1) d)

reverse_reverse : (xs : List Operand) → reverse (reverse xs) ≡ xs
reverse_reverse [] = refl
reverse_reverse (x ∷ xs) = ap reverse (reverse-append (x ∷ []) xs) ∙ reverse-append (reverse xs) (x ∷ []) ∙ ap (λ l. x ∷ l) (reverse_reverse xs)

known-injective : (xs ys : List CoreType) → map (λ t. Known t) xs ≡ map (λ t. Known t) ys → xs ≡ ys
known-injective [] [] e = refl
known-injective [] (y ∷ ys) e = cc
known-injective (x ∷ xs) [] e = cc
known-injective (x ∷ xs) (y ∷ ys) e =
    let head : x ≡ y = cc in
    let rest : map (λ t. Known t) xs ≡ map (λ t. Known t) ys = cc in
    let tail = known-injective xs ys rest in
    cc

pub operands-injective : (xs ys : List CoreType) → operands xs ≡ operands ys → xs ≡ ys
operands-injective xs ys e =
    known-injective xs ys (sym (reverse_reverse (map (λ t. Known t) xs)) ∙ ap reverse e ∙ reverse_reverse (map (λ t. Known t) ys))

-- a test that tells whether two lists are equal is the machine's
pub same_list-operands : (xs ys : List CoreType) (b : Bool) → (b ≡ true → xs ≡ ys) → (b ≡ false → xs ≡ ys → ⊥) → b ≡ same_list (operands xs) (operands ys)
same_list-operands xs ys true same other = sym (let P : List CoreType → Type 0 = λ l. same_list (operands xs) (operands l) ≡ true in subst P (same refl) (same_list-refl (operands xs)))
same_list-operands xs ys false same other = go (same_list (operands xs) (operands ys)) refl
  where
    go : (t : Bool) → same_list (operands xs) (operands ys) ≡ t → false ≡ t
    go false e = refl
    go true e = absurd (other refl (operands-injective xs ys (same_list-is (operands xs) (operands ys) e)))

pub operands_indexed : (ts : List CoreType) → operands (ts ++ I32 ∷ []) ≡ Known I32 ∷ operands ts
operands_indexed ts = operands-push ts I32
