-- Lists of at most 16 core types.
use Rattle.std.proofs.Common.{zero, suc, ◌≡◌, ◌≤◌, ◌<◌, ◌+◌, ℕ, max, ap, refl, sym, ◌∙◌, List, [], ◌∷◌, ◌++◌, length, Option, Some, None, take, set, arith, append_assoc, append-nil, get_or, length-append}
use Rattle.std.proofs.lemmas.Bool.{cases_lt}
use Rattle.std.proofs.lemmas.Bool.Decides.{nat_tests}
use Rattle.std.specs.Prelude.{nat_le, if◌then◌else◌}
use Rattle.std.proofs.Common.{zero, suc, inl, inr}
use Rattle.std.proofs.lemmas.List.{take_more_set, take_more, length-take, length-take-le}
use Rattle.virt_base.specs.declared.core_type.CoreType.{CoreType}
use Rattle.virt_base.specs.declared.core_type.CoreType.TheVariants.{I32, I64, Funcref, Externref}
use Rattle.abi_layout.specs.Flat.{within, add_within, append_within, join_within}
use Rattle.std.proofs.Common.{drop, add-one, drop-cons}
use Rattle.std.proofs.Math.Seq.{take-length}
use Rattle.wit_types.specs.declared.types.Case.{Case, out-Case}
use Rattle.wit_types.specs.declared.types.Field.{Field, out-Field}
use Rattle.wit_types.specs.declared.types.WitType.{WitType}
use Rattle.wit_types.specs.Layout.{join, join_one, flat, flat_fields, flat_cases}
use Rattle.wit_types.specs.Plain.{Name, Plain, Parts, End, bare, case_part, plain, payload_of, fields_of, cases_of, types_of as parts_of}
use Rattle.wit_types.proofs.PlainLemmas.{plains}

pub within-short : (xs : List CoreType) → length xs ≤ 16 → within xs ≡ Some xs
within-short xs h = grind (arith, nat_tests)

pub within-long : (xs : List CoreType) → 16 < length xs → within xs ≡ None
within-long xs h = grind (arith, nat_tests)

pub length-join : (xs ys : List CoreType) → length (join xs ys) ≡ max (length xs) (length ys)
length-join [] ys = omega arith
length-join (x ∷ xs) [] = omega arith
length-join (x ∷ xs) (y ∷ ys) = omega (arith, length-join xs ys)

join_one_assoc : (x y z : CoreType) → join_one (join_one x y) z ≡ join_one x (join_one y z)
join_one_assoc I32 I32 I32 = refl
join_one_assoc I32 I32 I64 = refl
join_one_assoc I32 I32 Funcref = refl
join_one_assoc I32 I32 Externref = refl
join_one_assoc I32 I64 z = refl
join_one_assoc I32 Funcref z = refl
join_one_assoc I32 Externref z = refl
join_one_assoc I64 y z = refl
join_one_assoc Funcref y z = refl
join_one_assoc Externref y z = refl

pub join_assoc : (xs ys zs : List CoreType) → join (join xs ys) zs ≡ join xs (join ys zs)
join_assoc [] ys zs = refl
join_assoc (x ∷ xs) [] zs = refl
join_assoc (x ∷ xs) (y ∷ ys) [] = refl
join_assoc (x ∷ xs) (y ∷ ys) (z ∷ zs) = let h = join_assoc xs ys zs in let e = join_one_assoc x y z in cc

pub flag-short : (n : ℕ) (xs : List CoreType) → n ≤ 16 → (if nat_le n 16 then Some xs else None) ≡ Some xs
flag-short n xs h = grind (arith, nat_tests)

pub flag-long : (n : ℕ) (xs : List CoreType) → 16 < n → (if nat_le n 16 then Some xs else None) ≡ None
flag-long n xs h = grind (arith, nat_tests)

pub push-some : (types : List CoreType) (n : ℕ) (ty : CoreType) → length types ≡ 16 → n < 16 →
    (if nat_le (n + 1) 16 then Some (take (n + 1) (set types n ty)) else None) ≡ add_within (if nat_le n 16 then Some (take n types) else None) (ty ∷ [])
unfolding add_within
push-some types n ty long lt =
    let room : n < length types = omega arith in
    let short : length (take n types ++ ty ∷ []) ≤ 16 = rw (length-append, length-take-le n types (omega arith)) (omega arith) in
    flag-short (n + 1) (take (n + 1) (set types n ty)) (omega arith) ∙ ap Some (take_more_set types n ty room) ∙ sym (ap (λ o. add_within o (ty ∷ [])) (flag-short n (take n types) (omega arith)) ∙ within-short _ short)

pub push-none : (types : List CoreType) (n : ℕ) (ty : CoreType) → length types ≡ 16 → 16 ≤ n →
    None ≡ add_within (if nat_le n 16 then Some (take n types) else None) (ty ∷ [])
unfolding add_within
push-none types n ty long le = elim (cases_lt 16 n) [
  | inl lt ↦ sym (ap (λ o. add_within o (ty ∷ [])) (flag-long n (take n types) lt))
  | inr short ↦ sym (ap (λ o. add_within o (ty ∷ [])) (flag-short n (take n types) short)
      ∙ within-long (take n types ++ ty ∷ []) (rw (length-append, length-take-le n types (omega arith)) (omega arith)))
]

pub add_within-twice : (o : Option (List CoreType)) (xs ys : List CoreType) → add_within (add_within o xs) ys ≡ add_within o (xs ++ ys)
unfolding add_within
add_within-twice None xs ys = refl
add_within-twice (Some os) xs ys = elim (cases_lt 16 (length (os ++ xs))) [
  | inr short ↦ ap (λ o. add_within o ys) (within-short (os ++ xs) short) ∙ ap within (append_assoc os xs ys)
  | inl long ↦ ap (λ o. add_within o ys) (within-long (os ++ xs) long)
      ∙ sym (within-long (os ++ (xs ++ ys)) (rw (← append_assoc os xs ys, length-append (os ++ xs) ys) (omega arith)))
]

-- a list that is too long is also too long after another
pub append_within-within : (o : Option (List CoreType)) (xs : List CoreType) → append_within o (within xs) ≡ add_within o xs
unfolding add_within append_within
append_within-within o xs = elim (cases_lt 16 (length xs)) [
  | inr short ↦ ap (append_within o) (within-short xs short)
  | inl long ↦ ap (append_within o) (within-long xs long) ∙ sym (too_long long o)
]
  where
    too_long : 16 < length xs → (o : Option (List CoreType)) → add_within o xs ≡ None
    too_long long None = refl
    too_long long (Some os) = within-long (os ++ xs) (rw length-append (omega arith))

pub join_within-within : (xs ys : List CoreType) → join_within (within xs) (within ys) ≡ within (join xs ys)
unfolding join_within
join_within-within xs ys = elim (cases_lt 16 (length xs)) [
  | inl long ↦ ap (λ o. join_within o (within ys)) (within-long xs long) ∙ sym (within-long (join xs ys) (rw length-join (omega arith)))
  | inr short ↦ ap (λ o. join_within o (within ys)) (within-short xs short) ∙ elim (cases_lt 16 (length ys)) [
    | inl long ↦ ap (join_within (Some xs)) (within-long ys long) ∙ sym (within-long (join xs ys) (rw length-join (omega arith)))
    | inr few ↦ ap (join_within (Some xs)) (within-short ys few)
  ]
]

-- what a `Flat` stands for is short
pub add_within-flat : (types : List CoreType) (n : ℕ) → (if nat_le n 16 then Some (take n types) else None) ≡ add_within (if nat_le n 16 then Some (take n types) else None) []
unfolding add_within
add_within-flat types n = elim (cases_lt 16 n) [
  | inl long ↦ flag-long n (take n types) long ∙ sym (ap (λ o. add_within o []) (flag-long n (take n types) long))
  | inr short ↦ flag-short n (take n types) short ∙ sym (ap (λ o. add_within o []) (flag-short n (take n types) short) ∙ ap within (append-nil (take n types)) ∙ within-short (take n types) (rw length-take (omega arith)))
]

pub append_within-none : (o : Option (List CoreType)) → append_within o None ≡ None
unfolding append_within
append_within-none o = refl

pub append_within-some : (o : Option (List CoreType)) (xs : List CoreType) → append_within o (Some xs) ≡ add_within o xs
unfolding append_within
append_within-some o xs = refl

pub add_within-take : (o : Option (List CoreType)) (types : List CoreType) (n : ℕ) (d : CoreType) → n < length types →
    add_within (add_within o (take n types)) (get_or types n d ∷ []) ≡ add_within o (take (n + 1) types)
add_within-take o types n d lt = add_within-twice o (take n types) (get_or types n d ∷ []) ∙ ap (add_within o) (sym (take_more types n d lt))

-- ---- what joined lists hold

pub join-nil : (xs : List CoreType) → join xs [] ≡ xs
join-nil [] = refl
join-nil (x ∷ xs) = refl

pub get_or-join-first : (xs ys : List CoreType) (i : ℕ) (d : CoreType) → length ys ≤ i → get_or (join xs ys) i d ≡ get_or xs i d
get_or-join-first [] [] i d h = refl
get_or-join-first [] (y ∷ ys) zero d h = absurd (omega arith)
get_or-join-first [] (y ∷ ys) (suc i) d h = get_or-join-first [] ys i d (omega arith)
get_or-join-first (x ∷ xs) [] i d h = refl
get_or-join-first (x ∷ xs) (y ∷ ys) zero d h = absurd (omega arith)
get_or-join-first (x ∷ xs) (y ∷ ys) (suc i) d h = get_or-join-first xs ys i d (omega arith)

pub get_or-join-second : (xs ys : List CoreType) (i : ℕ) (d : CoreType) → length xs ≤ i → get_or (join xs ys) i d ≡ get_or ys i d
get_or-join-second [] ys i d h = refl
get_or-join-second (x ∷ xs) ys zero d h = absurd (omega arith)
get_or-join-second (x ∷ xs) [] (suc i) d h = ap (λ z. get_or z i d) (sym (join-nil xs)) ∙ get_or-join-second xs [] i d (omega arith)
get_or-join-second (x ∷ xs) (y ∷ ys) (suc i) d h = get_or-join-second xs ys i d (omega arith)

pub get_or-join-both : (xs ys : List CoreType) (i : ℕ) (d : CoreType) → i < length xs → i < length ys → get_or (join xs ys) i d ≡ join_one (get_or xs i d) (get_or ys i d)
get_or-join-both [] ys i d h k = absurd (omega arith)
get_or-join-both (x ∷ xs) [] i d h k = absurd (omega arith)
get_or-join-both (x ∷ xs) (y ∷ ys) zero d h k = refl
get_or-join-both (x ∷ xs) (y ∷ ys) (suc i) d h k = get_or-join-both xs ys i d (omega arith) (omega arith)

-- ---- two lists joined, from the front

pub join_within-none : (o : Option (List CoreType)) → join_within o None ≡ None
unfolding join_within
join_within-none None = refl
join_within-none (Some xs) = refl

pub join_within-none-left : (o : Option (List CoreType)) → join_within None o ≡ None
unfolding join_within
join_within-none-left o = refl

pub joined_start : (o : Option (List CoreType)) (xs : List CoreType) → o ≡ Some [] → o ≡ add_within (Some []) (take 0 xs)
unfolding add_within
joined_start o xs is = is

pub length-joined : (xs ys : List CoreType) (m n : ℕ) → m ≤ length xs → n ≤ length ys → length (join (take m xs) (take n ys)) ≡ max m n
length-joined xs ys m n h k = rw (length-join, length-take-le m xs h, length-take-le n ys k) refl

pub joined_long : (xs ys : List CoreType) (m n : ℕ) → 16 < max m n →
    None ≡ join_within (if nat_le m 16 then Some (take m xs) else None) (if nat_le n 16 then Some (take n ys) else None)
joined_long xs ys m n h = elim (cases_lt 16 m) [
  | inl long ↦ sym (ap (λ z. join_within z (if nat_le n 16 then Some (take n ys) else None)) (flag-long m (take m xs) long) ∙ join_within-none-left _)
  | inr short ↦ sym (ap (join_within _) (flag-long n (take n ys) (omega arith)) ∙ join_within-none _)
]

pub joined_short : (xs ys : List CoreType) (m n : ℕ) → m ≤ length xs → n ≤ length ys → max m n ≤ 16 →
    add_within (Some []) (take (max m n) (join (take m xs) (take n ys))) ≡ join_within (if nat_le m 16 then Some (take m xs) else None) (if nat_le n 16 then Some (take n ys) else None)
unfolding add_within join_within
joined_short xs ys m n h k small =
    ap within (ap (λ i. take i (join (take m xs) (take n ys))) (sym (length-joined xs ys m n h k)) ∙ take-length (join (take m xs) (take n ys)))
    ∙ sym (ap (λ z. join_within z (if nat_le n 16 then Some (take n ys) else None)) (flag-short m (take m xs) (omega arith))
    ∙ ap (join_within (Some (take m xs))) (flag-short n (take n ys) (omega arith)))

-- ---- one more field or case

pub more_fields : (o o' part : Option (List CoreType)) (x rest : List CoreType) (whole : Option (List CoreType)) →
    o' ≡ append_within o part → part ≡ within x → add_within o (x ++ rest) ≡ whole → add_within o' rest ≡ whole
more_fields o o' part x rest whole is from so =
    ap (λ z. add_within z rest) (is ∙ ap (append_within o) from ∙ append_within-within o x) ∙ add_within-twice o x rest ∙ so

pub join_within-twice : (o : Option (List CoreType)) (x rest : List CoreType) → join_within (join_within o (within x)) (within rest) ≡ join_within o (within (join x rest))
unfolding join_within
join_within-twice None x rest = refl
join_within-twice (Some os) x rest = elim (cases_lt 16 (length x)) [
  | inl long ↦ ap (λ z. join_within (join_within (Some os) z) (within rest)) (within-long x long)
      ∙ sym (ap (join_within (Some os)) (within-long (join x rest) (rw length-join (omega arith))))
  | inr short ↦ ap (λ z. join_within (join_within (Some os) z) (within rest)) (within-short x short) ∙ join_within-within (join os x) rest ∙ ap within (join_assoc os x rest)
      ∙ elim (cases_lt 16 (length (join x rest))) [
        | inl over ↦ within-long (join os (join x rest)) (rw length-join (omega arith)) ∙ sym (ap (join_within (Some os)) (within-long (join x rest) over))
        | inr fits ↦ sym (ap (join_within (Some os)) (within-short (join x rest) fits))
      ]
]

pub more_cases : (o o' part : Option (List CoreType)) (x rest : List CoreType) (whole : Option (List CoreType)) →
    o' ≡ join_within o part → part ≡ within x → join_within o (within (join x rest)) ≡ whole → join_within o' (within rest) ≡ whole
more_cases o o' part x rest whole is from so =
    ap (λ z. join_within z (within rest)) (is ∙ ap (join_within o) from) ∙ join_within-twice o x rest ∙ so

pub cases_start : (o : Option (List CoreType)) (xs : List CoreType) → o ≡ Some [] → join_within o (within xs) ≡ within xs
cases_start o xs is = ap (λ z. join_within z (within xs)) is ∙ join_within-within [] xs

pub fields_start : (o : Option (List CoreType)) (xs : List CoreType) → o ≡ Some [] → add_within o xs ≡ within xs
unfolding add_within
fields_start o xs is = ap (λ z. add_within z xs) is

-- none left
pub cases_end : (types : List CoreType) (n : ℕ) → join_within (if nat_le n 16 then Some (take n types) else None) (within []) ≡ (if nat_le n 16 then Some (take n types) else None)
unfolding join_within
cases_end types n = elim (cases_lt 16 n) [
  | inl long ↦ ap (λ o. join_within o (within [])) (flag-long n (take n types) long) ∙ sym (flag-long n (take n types) long)
  | inr short ↦ ap (λ o. join_within o (within [])) (flag-short n (take n types) short) ∙ ap within (join-nil (take n types)) ∙ within-short (take n types) (rw length-take (omega arith)) ∙ sym (flag-short n (take n types) short)
]

-- two lists joined, each of which may be too long
pub joined_is : (o a b : Option (List CoreType)) (xs ys : List CoreType) → o ≡ join_within a b → a ≡ within xs → b ≡ within ys → o ≡ within (join xs ys)
joined_is o a b xs ys is first second = is ∙ ap (λ z. join_within z b) first ∙ ap (join_within (within xs)) second ∙ join_within-within xs ys

-- a variant is the number of its case, and then the payloads
pub append_within-variant : (xs : List CoreType) → append_within (Some (I32 ∷ [])) (within xs) ≡ within (I32 ∷ xs)
unfolding add_within
append_within-variant xs = append_within-within (Some (I32 ∷ [])) xs

pub variant_is : (o part : Option (List CoreType)) (xs : List CoreType) → o ≡ append_within (Some (I32 ∷ [])) part → part ≡ within xs → o ≡ within (I32 ∷ xs)
variant_is o part xs is from = is ∙ ap (append_within (Some (I32 ∷ []))) from ∙ append_within-variant xs

-- ---- by the lists of a type's parts

pub flat_cases-case_part : (name : Name) (p : Option Plain) (rest : Parts) → flat_cases (case_part name p rest) ≡ join (flat_cases (case_part [] p End)) (flat_cases rest)
flat_cases-case_part name None rest = refl
flat_cases-case_part name (Some t) rest = ap (λ z. join z (flat_cases rest)) (sym (join-nil (flat t)))

pub flat_cases-drop : (cs : List Case) (i : ℕ) (c : Case) → i < length cs → c ≡ get_or cs i c →
    flat_cases (cases_of (drop i cs)) ≡ join (flat_cases (case_part [] (payload_of (out-Case c).ty) End)) (flat_cases (cases_of (drop (i + 1) cs)))
flat_cases-drop cs i c lt is =
    let cut : drop i cs ≡ c ∷ drop (i + 1) cs = rw add-one (drop-cons cs i c lt) ∙ ap (λ (z : Case). z ∷ drop (i + 1) cs) (sym is) in
    ap (λ (z : List Case). flat_cases (cases_of z)) cut ∙ flat_cases-case_part (out-Case c).name (payload_of (out-Case c).ty) (cases_of (drop (i + 1) cs))

pub flat_fields-drop : (fs : List Field) (i : ℕ) (f : Field) → i < length fs → f ≡ get_or fs i f →
    flat_fields (fields_of (drop i fs)) ≡ flat (plain (out-Field f).ty) ++ flat_fields (fields_of (drop (i + 1) fs))
flat_fields-drop fs i f lt is =
    let cut : drop i fs ≡ f ∷ drop (i + 1) fs = rw add-one (drop-cons fs i f lt) ∙ ap (λ (z : Field). z ∷ drop (i + 1) fs) (sym is) in
    ap (λ (z : List Field). flat_fields (fields_of z)) cut

pub flat_types-drop : (ts : List WitType) (i : ℕ) (t : WitType) → i < length ts → t ≡ get_or ts i t →
    flat_fields (parts_of (drop i ts)) ≡ flat (plain t) ++ flat_fields (parts_of (drop (i + 1) ts))
flat_types-drop ts i t lt is =
    let cut : drop i ts ≡ t ∷ drop (i + 1) ts = rw add-one (drop-cons ts i t lt) ∙ ap (λ (z : WitType). z ∷ drop (i + 1) ts) (sym is) in
    ap (λ (z : List WitType). flat_fields (parts_of z)) cut

pub flat_cases-bare : (labels : List Name) → flat_cases (bare labels) ≡ []
flat_cases-bare [] = refl
flat_cases-bare (_ ∷ labels) = flat_cases-bare labels

pub ruleset flats = (plains, within-short, within-long, flat_cases-bare)
