-- The turns of what is in progress.
use Rattle.std.proofs.Common.{◌≡◌, ℕ, ◌+◌, ◌<◌, ◌≤◌, ap, refl, sym, ◌∙◌, List, [], ◌∷◌, ◌++◌, arith, Result, Ok, Err}
use Rattle.std.specs.Prelude.{reverse, IfOk}
use Rattle.std.proofs.lemmas.List.{reverse-append}
use Rattle.virt_base.specs.declared.fault.NoMemory.{NoMemory}
use Rattle.abi_store.specs.declared.work.Begun.{Begun}
use Rattle.wit_types.specs.declared.value.Value.{Value}
use Rattle.wit_types.specs.PlainValue.{PlainValue, PlainValues, BoolValue, IntValue, CharValue, StringValue, ListValue, RecordValue, VariantValue, FlagsValue, HandleValue, plain_value, values_of}
use Rattle.abi_store.specs.declared.work.Work.{Work}
use Rattle.abi_store.specs.Weights.{turns, all_turns, left_turns, work_turns, works_turns, begun_turns}

pub turns_some : (v : PlainValue) → 0 < turns v
turns_some (BoolValue b) = omega arith
turns_some (IntValue n) = omega arith
turns_some (CharValue code) = omega arith
turns_some (StringValue bytes) = omega arith
turns_some (ListValue vs) = omega arith
turns_some (RecordValue vs) = omega arith
turns_some (VariantValue n p) = omega arith
turns_some (FlagsValue bits) = omega arith
turns_some (HandleValue index) = omega arith

pub left-append : (xs ys : List Value) → left_turns (xs ++ ys) ≡ left_turns xs + left_turns ys
left-append [] ys = omega arith
left-append (x ∷ xs) ys = let e = left-append xs ys in omega arith

pub works-append : (xs ys : List Work) → works_turns (xs ++ ys) ≡ works_turns xs + works_turns ys
works-append [] ys = omega arith
works-append (x ∷ xs) ys = let e = works-append xs ys in omega arith

pub all-values_of : (xs : List Value) → all_turns (values_of xs) ≡ left_turns xs
all-values_of [] = refl
all-values_of (x ∷ xs) = ap (λ k. turns (plain_value x) + k) (all-values_of xs)

pub reversed : {A : Type 0} (x : A) (xs : List A) → reverse (xs ++ x ∷ []) ≡ x ∷ reverse xs
reversed x xs = reverse-append xs (x ∷ [])

-- a list is empty, or has a last item
pub left-reverse : (xs : List Value) → left_turns (reverse xs) ≡ left_turns xs
left-reverse [] = refl
left-reverse (x ∷ xs) =
    let cut : reverse (x ∷ xs) ≡ reverse xs ++ x ∷ [] = reverse-append (x ∷ []) xs in
    let e = left-reverse xs in
    let f = left-append (reverse xs) (x ∷ []) in
    ap left_turns cut ∙ omega arith

pub record_fewer : (v : PlainValue) (vs : PlainValues) (items : List Value) → v ≡ RecordValue vs → values_of (reverse items) ≡ vs → left_turns items + 1 < turns v
record_fewer v vs items is held =
    let same : turns v ≡ all_turns vs + 2 = ap turns is in
    let all : all_turns vs ≡ left_turns items = ap all_turns (sym held) ∙ all-values_of (reverse items) ∙ left-reverse items in
    omega arith

pub ends_fewer : (r : Result Begun NoMemory) (v : PlainValue) → IfOk r (λ b. begun_turns b ≡ 0) → IfOk r (λ b. begun_turns b < turns v)
ends_fewer (Ok b) v ends = let some = turns_some v in omega arith
ends_fewer (Err e) v ends = tt

-- one value fewer on the left, and what it came to
pub one_fewer : (old mid new : List Work) (w w' : Work) (begun turns_of_one before after : ℕ) → mid ≡ old ++ w' ∷ [] → work_turns w ≡ before + 1 → work_turns w' ≡ after + 1 → before ≡ after + turns_of_one →
    begun < turns_of_one → works_turns new ≤ works_turns mid + begun → works_turns new < works_turns old + work_turns w
one_fewer old mid new w w' begun one before after push first then cut fewer most =
    let grown : works_turns mid ≡ works_turns old + (work_turns w' + 0) = ap works_turns push ∙ works-append old (w' ∷ []) in
    omega arith

pub left_cut : (before after : List Value) (v : Value) → before ≡ after ++ v ∷ [] → left_turns before ≡ left_turns after + turns (plain_value v)
left_cut before after v is = let e = left-append after (v ∷ []) in ap left_turns is ∙ omega arith
