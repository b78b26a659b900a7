-- How values of a type pass.
use Rattle.std.proofs.Common.{◌≡◌, ◌≤◌, ◌<◌, ◌+◌, ℕ, zero, suc, ap, refl, sym, ◌∙◌, Bool, true, false, ◌||◌, true≢false, List, [], length, take, Option, Some, None, arith}
use Rattle.std.specs.Prelude.{if◌then◌else◌, nat_le, nat_lt, unwrap_or}
use Rattle.std.specs.Option.{option_map, option_and_then}
use Rattle.std.proofs.lemmas.Bool.Decides.{nat_tests}
use Rattle.std.proofs.lemmas.List.{length-take-le}
use Rattle.virt_base.specs.declared.core_type.CoreType.{CoreType}
use Rattle.wit_types.specs.Plain.{Plain, Parts, BoolType, SignedType, UnsignedType, CharType, StringType, ListType, RecordType, VariantType, FlagsType, OwnType, BorrowType, End, More, Bare}
use Rattle.wit_types.specs.PlainValue.{PlainValues, RecordValue, VariantValue, More as Values, With}
use Rattle.wit_types.specs.Layout.{flat}
use Rattle.abi_layout.specs.declared.flat_types.Flat.{Flat}
use Rattle.abi_layout.specs.Flat.{types_of, within}
use Rattle.abi_layout.specs.Loading.{low_word, loads, lift_flat, lift_fields, lift_case, has_ranges, parts_have_ranges}
use Rattle.value_handles.proofs.Laws.{or_left, or_right}
use Rattle.core_store.specs.State.{State, memory_at}
use Rattle.abi_load.specs.Loaded.{bytes_at}
use Rattle.comp_worlds.specs.Passing.{spills_over, lift_words}
use Rattle.comp_worlds.specs.Locals.{bytes_in}
use Rattle.instance_state.specs.declared.options.CallOptions.{CallOptions}
use Rattle.instance_state.specs.Passed.{options_of, needs_memory, IsInStore}

-- ---- how many flat values

counted : (b c : Bool) (n m : ℕ) (xs ys : List CoreType) → (n ≤ 16 → length xs ≡ n) → nat_le n 16 ≡ b → nat_le m 16 ≡ c → length ys ≡ m → (if b then Some xs else None) ≡ (if c then Some ys else None) → (most : ℕ) → most ≤ 16 → nat_lt most n ≡ nat_lt most m
counted true true n m xs ys count low high len is most few =
    let same : xs ≡ ys = cc in
    let here : n ≤ 16 = grind (arith, nat_tests) in
    ap (λ k. nat_lt most k) (sym (count here) ∙ ap length same ∙ len)
counted false true n m xs ys count low high len is most few = cc
counted true false n m xs ys count low high len is most few = cc
counted false false n m xs ys count low high len is most few =
    let over : nat_lt most n ≡ true = grind (arith, nat_tests) in
    let past : nat_lt most m ≡ true = grind (arith, nat_tests) in
    over ∙ sym past

pub spills_counted : (f : Flat) (ty : Plain) (most : ℕ) → types_of f ≡ within (flat ty) → most ≤ 16 → nat_lt most f.count ≡ spills_over most ty
spills_counted f ty most is few =
    let whole = f.whole in
    counted (nat_le f.count 16) (nat_le (length (flat ty)) 16) f.count (length (flat ty)) (take f.count f.types) (flat ty) (λ h. length-take-le f.count f.types (omega arith)) refl refl refl is most few

-- no more flat values than these
pub few_flat : (most : ℕ) (ty : Plain) → most ≤ 16 → spills_over most ty ≡ false → length (flat ty) ≤ 16
few_flat most ty few is = let here : length (flat ty) ≤ most = grind (arith, nat_tests) in omega arith

-- ---- the memory of the options

pub in_store : (o : Option ℕ) (s : State) → IsInStore o s → unwrap_or o 0 < length s.memories
in_store None s h = absurd h
in_store (Some at) s h = h

pub bytes_are : (o : CallOptions) (s : State) → IsInStore o.memory s → bytes_in (options_of o) s ≡ bytes_at s (unwrap_or o.memory 0)
bytes_are o s h = at o.memory h
  where
    at : (m : Option ℕ) → IsInStore m s → (elim m [ None ↦ [] | Some k ↦ (memory_at s k).bytes ]) ≡ bytes_at s (unwrap_or m 0)
    at None h = absurd h
    at (Some k) h = refl

or_first : (a b : Bool) → a ≡ true → (a || b) ≡ true
or_first true b h = refl
or_first false b h = absurd (true≢false (sym h))

or_second : (a b : Bool) → b ≡ true → (a || b) ≡ true
or_second true b h = refl
or_second false b h = h

pub ranges_need : (most : ℕ) (ty : Plain) → has_ranges ty ≡ true → needs_memory most ty ≡ true
ranges_need most ty h = or_first (has_ranges ty) (spills_over most ty) h

pub spilled_need : (most : ℕ) (ty : Plain) → spills_over most ty ≡ true → needs_memory most ty ≡ true
spilled_need most ty h = or_second (has_ranges ty) (spills_over most ty) h

-- ---- a type without strings and lists is lifted alike whatever lies in memory

mutual
  pub lifts_alike : (m m' : List ℕ) (ty : Plain) (ws : List ℕ) (k : ℕ) → has_ranges ty ≡ false → lift_flat m ty ws k ≡ lift_flat m' ty ws k
  lifts_alike m m' BoolType ws k e = refl
  lifts_alike m m' (SignedType w) ws k e = refl
  lifts_alike m m' (UnsignedType w) ws k e = refl
  lifts_alike m m' CharType ws k e = refl
  lifts_alike m m' StringType ws k e = absurd (true≢false e)
  lifts_alike m m' (ListType item) ws k e = absurd (true≢false e)
  lifts_alike m m' (RecordType form fields) ws k e = ap (option_map RecordValue) (fields_alike m m' fields ws k e)
  lifts_alike m m' (VariantType form cases) ws k e = ap (option_map (VariantValue (low_word ws k))) (case_alike m m' cases (low_word ws k) ws (k + 1) e)
  lifts_alike m m' (FlagsType labels) ws k e = refl
  lifts_alike m m' (OwnType r) ws k e = refl
  lifts_alike m m' (BorrowType r) ws k e = refl

  fields_alike : (m m' : List ℕ) (ps : Parts) (ws : List ℕ) (k : ℕ) → parts_have_ranges ps ≡ false → lift_fields m ps ws k ≡ lift_fields m' ps ws k
  fields_alike m m' End ws k e = refl
  fields_alike m m' (More name ty rest) ws k e =
      ap (option_and_then (λ v. option_map (Values v) (lift_fields m rest ws (k + length (flat ty))))) (lifts_alike m m' ty ws k (or_left (has_ranges ty) (parts_have_ranges rest) e))
      ∙ ap (λ (o : Option PlainValues). option_and_then (λ v. option_map (Values v) o) (lift_flat m' ty ws k)) (fields_alike m m' rest ws (k + length (flat ty)) (or_right (has_ranges ty) (parts_have_ranges rest) e))
  fields_alike m m' (Bare name rest) ws k e = fields_alike m m' rest ws k e

  case_alike : (m m' : List ℕ) (ps : Parts) (n : ℕ) (ws : List ℕ) (k : ℕ) → parts_have_ranges ps ≡ false → lift_case m ps n ws k ≡ lift_case m' ps n ws k
  case_alike m m' End n ws k e = refl
  case_alike m m' (More name ty rest) zero ws k e = ap (option_map With) (lifts_alike m m' ty ws k (or_left (has_ranges ty) (parts_have_ranges rest) e))
  case_alike m m' (More name ty rest) (suc n) ws k e = case_alike m m' rest n ws k (or_right (has_ranges ty) (parts_have_ranges rest) e)
  case_alike m m' (Bare name rest) zero ws k e = refl
  case_alike m m' (Bare name rest) (suc n) ws k e = case_alike m m' rest n ws k e

-- what is lifted from the memory of the options is what is lifted from the one that is asked
pub lifts_here : (o : CallOptions) (s : State) (most : ℕ) (ty : Plain) (ws : List ℕ) → (needs_memory most ty ≡ true → IsInStore o.memory s) → spills_over most ty ≡ false →
    lift_words most ty (bytes_in (options_of o) s) ws ≡ lift_flat (bytes_at s (unwrap_or o.memory 0)) ty ws 0
lifts_here o s most ty ws needs is =
    ap (λ (b : Bool). if b then loads (bytes_in (options_of o) s) ty (low_word ws 0) else lift_flat (bytes_in (options_of o) s) ty ws 0) is ∙ at (has_ranges ty) refl
  where
    at : (b : Bool) → has_ranges ty ≡ b → lift_flat (bytes_in (options_of o) s) ty ws 0 ≡ lift_flat (bytes_at s (unwrap_or o.memory 0)) ty ws 0
    at true h = ap (λ m. lift_flat m ty ws 0) (bytes_are o s (needs (ranges_need most ty h)))
    at false h = lifts_alike _ _ ty ws 0 h

pub loads_here : (o : CallOptions) (s : State) (most : ℕ) (ty : Plain) (ws : List ℕ) → (needs_memory most ty ≡ true → IsInStore o.memory s) → spills_over most ty ≡ true →
    lift_words most ty (bytes_in (options_of o) s) ws ≡ loads (bytes_at s (unwrap_or o.memory 0)) ty (low_word ws 0)
loads_here o s most ty ws needs is =
    ap (λ (b : Bool). if b then loads (bytes_in (options_of o) s) ty (low_word ws 0) else lift_flat (bytes_in (options_of o) s) ty ws 0) is
    ∙ ap (λ m. loads m ty (low_word ws 0)) (bytes_are o s (needs (spilled_need most ty is)))
