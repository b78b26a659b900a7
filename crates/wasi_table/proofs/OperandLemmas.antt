-- Operands that are kept with the first at the end.
use Rattle.std.proofs.Common.{◌≡◌, refl, ap, sym, ◌∙◌, List, [], ◌∷◌, ◌++◌, Option, Some, None, option_map, map, reverse, take, drop, ℕ, zero, suc, Bool, true, false, cond, ◌<◌, ◌≤◌, ◌-◌, ◌+◌, arith}
use Rattle.std.specs.List.{find}
use Rattle.std.proofs.lemmas.List.{reverse-append, map-append}
use Rattle.wit_types.specs.declared.types.WitType.{WitType}
use Rattle.wit_types.specs.declared.types.Field.{Field, out-Field}
use Rattle.wit_types.specs.Plain.{Parts, End, More, plain, types_of, fields_of}
use Rattle.wasi_table.specs.declared.interface.Meaning.{Meaning}
use Rattle.std.specs.Borrow.{Bor}
use Rattle.std.specs.Option.{option_copied}
use Rattle.wasi_table.specs.declared.interface.Known.{Known}
use Rattle.wasi_table.specs.Plain.{plain_meaning, plain_known}
use Rattle.wasi_table.specs.Words.{operands, Operand, first, others, type_in, with_type, types_in}
use Rattle.wasi_table.specs.Before.{types_before, fields_before}

pub operands-snoc : (xs : List (Option Meaning)) (x : Option Meaning) → operands (xs ++ x ∷ []) ≡ option_map plain_meaning x ∷ operands xs
operands-snoc xs x = ap reverse (map-append (option_map plain_meaning) xs (x ∷ [])) ∙ reverse-append (map (option_map plain_meaning) xs) (map (option_map plain_meaning) (x ∷ []))

pub types_before-snoc : (ts : List WitType) (t : WitType) (rest : Parts) → types_before (ts ++ t ∷ []) rest ≡ types_before ts (More [] (plain t) rest)
types_before-snoc [] t rest = refl
types_before-snoc (x ∷ ts) t rest = ap (More [] (plain x)) (types_before-snoc ts t rest)

pub types_before-End : (ts : List WitType) → types_before ts End ≡ types_of ts
types_before-End [] = refl
types_before-End (t ∷ ts) = ap (More [] (plain t)) (types_before-End ts)

-- one more operand among those that are taken
pub types_in-more : (n : ℕ) (os : List Operand) → types_in (take (suc n) os) ≡ with_type (type_in (first os)) (types_in (take n (others os)))
types_in-more zero [] = refl
types_in-more (suc n) [] = refl
types_in-more zero (o ∷ os) = refl
types_in-more (suc n) (o ∷ os) = refl

pub drop-more : (n : ℕ) (os : List Operand) → drop (suc n) os ≡ drop n (others os)
drop-more zero [] = refl
drop-more (suc n) [] = refl
drop-more zero (o ∷ os) = refl
drop-more (suc n) (o ∷ os) = refl

pub fields_before-snoc : (fs : List Field) (f : Field) (rest : Parts) → fields_before (fs ++ f ∷ []) rest ≡ fields_before fs (More (out-Field f).name (plain (out-Field f).ty) rest)
fields_before-snoc [] f rest = refl
fields_before-snoc (x ∷ fs) f rest = ap (More (out-Field x).name (plain (out-Field x).ty)) (fields_before-snoc fs f rest)

pub fields_before-End : (fs : List Field) → fields_before fs End ≡ fields_of fs
fields_before-End [] = refl
fields_before-End (f ∷ fs) = ap (More (out-Field f).name (plain (out-Field f).ty)) (fields_before-End fs)

-- one operand is taken and its type pushed
pub taken : (size i : ℕ) (os : List Operand) (ts us : List WitType) → i < size → ((rest : Parts) → types_before us rest ≡ types_before ts (with_type (type_in (first os)) rest))
    → types_before us (types_in (take (size - (i + 1)) (others os))) ≡ types_before ts (types_in (take (size - i) os))
taken size i os ts us h pushed =
    let e : size - i ≡ suc (size - (i + 1)) = omega arith in
    pushed (types_in (take (size - (i + 1)) (others os))) ∙ ap (types_before ts) (sym (types_in-more (size - (i + 1)) os) ∙ ap (λ n. types_in (take n os)) (sym e))

pub dropped : (size i : ℕ) (os : List Operand) → i < size → drop (size - (i + 1)) (others os) ≡ drop (size - i) os
dropped size i os h =
    let e : size - i ≡ suc (size - (i + 1)) = omega arith in
    sym (drop-more (size - (i + 1)) os) ∙ ap (λ n. drop n os) (sym e)

pub find-map : {X Y : Type 0} (f : X → Y) (p : Y → Bool) (xs : List X) → find p (map f xs) ≡ option_map f (find (λ x. p (f x)) xs)
find-map f p [] = refl
find-map f p (x ∷ xs) = elim (p (f x)) as (λ b. cond b (Some (f x)) (find p (map f xs)) ≡ option_map f (cond b (Some x) (find (λ x. p (f x)) xs))) [ true ↦ refl | false ↦ find-map f p xs ]

pub all_taken : (size i : ℕ) (os : List Operand) (ts : List WitType) → size ≤ i → types_before ts (types_in (take (size - i) os)) ≡ types_of ts
all_taken size i os ts h =
    let e : size - i ≡ 0 = omega arith in
    ap (λ n. types_before ts (types_in (take n os))) e ∙ types_before-End ts

pub ruleset operand_rules = (operands-snoc, types_before-snoc, fields_before-snoc, find-map)

pub now_known : (r : Option (Bor Known)) → option_map (λ k. plain_known k.now) r ≡ option_map plain_known (option_copied r)
now_known None = refl
now_known (Some k) = refl
