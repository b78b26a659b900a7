-- Substitution in value types by the lists of their parts.
use Rattle.std.proofs.Common.{◌≡◌, ℕ, refl, ap, Option, Some, None, List as Lst, [], ◌∷◌, ◌++◌}
use Rattle.wit_types.specs.declared.types.Field.{Field, out-Field}
use Rattle.wit_types.specs.declared.types.Case.{Case, out-Case}
use Rattle.wit_types.specs.declared.types.WitType.{WitType}
use Rattle.wit_types.specs.Plain.{Name, Plain, Parts, End, More, Bare, bare, plain, payload_of, fields_of, types_of, cases_of, case_part}
use Rattle.comp_types.specs.Substitution.{value_with, parts_with, answer_with}

-- labels alone name no resource
pub with-bare : (f : ℕ → ℕ) (ls : Lst Name) → parts_with f (bare ls) ≡ bare ls
with-bare f [] = refl
with-bare f (l ∷ ls) = ap (Bare l) (with-bare f ls)

pub with-case_part : (f : ℕ → ℕ) (name : Name) (p : Option Plain) (rest : Parts) → parts_with f (case_part name p rest) ≡ case_part name (answer_with f p) (parts_with f rest)
with-case_part f name None rest = refl
with-case_part f name (Some ty) rest = refl

case_part-End : (name : Name) (p : Option Plain) (rest : Parts) → End ≡ case_part name p rest → ⊥
case_part-End name None rest e = cc
case_part-End name (Some ty) rest e = cc

case_part-same : (m n : Name) (p q : Option Plain) (xs ys : Parts) → case_part m p xs ≡ case_part n q ys → (m ≡ n) × (p ≡ q) × (xs ≡ ys)
case_part-same m n None None xs ys e = (cc, refl, cc)
case_part-same m n None (Some t) xs ys e = (cc, cc, cc)
case_part-same m n (Some t) None xs ys e = (cc, cc, cc)
case_part-same m n (Some t) (Some u) xs ys e = (cc, cc, cc)

-- ---- one more at the end

pub types_with-push : (f : ℕ → ℕ) (xs ys : Lst WitType) (x y : WitType) → types_of xs ≡ parts_with f (types_of ys) → plain x ≡ value_with f (plain y) → types_of (xs ++ x ∷ []) ≡ parts_with f (types_of (ys ++ y ∷ []))
types_with-push f [] [] x y e h = ap (λ p. More [] p End) h
types_with-push f [] (v ∷ ys) x y e h = cc
types_with-push f (u ∷ xs) [] x y e h = cc
types_with-push f (u ∷ xs) (v ∷ ys) x y e h =
    let head : plain u ≡ value_with f (plain v) = cc in
    let tail : types_of xs ≡ parts_with f (types_of ys) = cc in
    let rest = types_with-push f xs ys x y tail h in
    cc

pub fields_with-push : (f : ℕ → ℕ) (xs ys : Lst Field) (x y : Field) → fields_of xs ≡ parts_with f (fields_of ys) → (out-Field x).name ≡ (out-Field y).name → plain (out-Field x).ty ≡ value_with f (plain (out-Field y).ty) → fields_of (xs ++ x ∷ []) ≡ parts_with f (fields_of (ys ++ y ∷ []))
fields_with-push f [] [] x y e n h = cc
fields_with-push f [] (v ∷ ys) x y e n h = cc
fields_with-push f (u ∷ xs) [] x y e n h = cc
fields_with-push f (u ∷ xs) (v ∷ ys) x y e n h =
    let name : (out-Field u).name ≡ (out-Field v).name = cc in
    let head : plain (out-Field u).ty ≡ value_with f (plain (out-Field v).ty) = cc in
    let tail : fields_of xs ≡ parts_with f (fields_of ys) = cc in
    let rest = fields_with-push f xs ys x y tail n h in
    cc

pub cases_with-push : (f : ℕ → ℕ) (xs ys : Lst Case) (x y : Case) → cases_of xs ≡ parts_with f (cases_of ys) → (out-Case x).name ≡ (out-Case y).name → payload_of (out-Case x).ty ≡ answer_with f (payload_of (out-Case y).ty) → cases_of (xs ++ x ∷ []) ≡ parts_with f (cases_of (ys ++ y ∷ []))
cases_with-push f [] [] x y e n h = rw (with-case_part f (out-Case y).name (payload_of (out-Case y).ty) End) cc
cases_with-push f [] (v ∷ ys) x y e n h =
    let is = with-case_part f (out-Case v).name (payload_of (out-Case v).ty) (cases_of ys) in
    absurd (case_part-End (out-Case v).name (answer_with f (payload_of (out-Case v).ty)) (parts_with f (cases_of ys)) cc)
cases_with-push f (u ∷ xs) [] x y e n h = absurd (case_part-End (out-Case u).name (payload_of (out-Case u).ty) (cases_of xs) cc)
cases_with-push f (u ∷ xs) (v ∷ ys) x y e n h =
    let is = with-case_part f (out-Case v).name (payload_of (out-Case v).ty) (cases_of ys) in
    let more = with-case_part f (out-Case v).name (payload_of (out-Case v).ty) (cases_of (ys ++ y ∷ [])) in
    let same = case_part-same (out-Case u).name (out-Case v).name (payload_of (out-Case u).ty) (answer_with f (payload_of (out-Case v).ty)) (cases_of xs) (parts_with f (cases_of ys)) cc in
    let rest = cases_with-push f xs ys x y same.2 n h in
    cc

pub ruleset withs = (with-bare, with-case_part)
