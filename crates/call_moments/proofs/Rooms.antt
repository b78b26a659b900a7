-- A plan that asks for room is of a type that needs a memory.
use Rattle.std.proofs.Common.{◌≡◌, ◌||◌, ◌+◌, ℕ, zero, suc, List, [], ◌∷◌, ◌++◌, length, Option, Some, None, Bool, true, false, refl, subst, ap}
use Rattle.std.specs.Prelude.{if◌then◌else◌}
use Rattle.core_memory.specs.Linear.{Linear, written}
use Rattle.wit_types.specs.Plain.{Plain, Parts, BoolType, SignedType, UnsignedType, CharType, StringType, ListType, RecordType, VariantType, FlagsType, OwnType, BorrowType, End, More, Bare}
use Rattle.wit_types.specs.PlainValue.{PlainValue, PlainValues, Payload, RecordValue, VariantValue, End as NoValues, More as Values, Without, With}
use Rattle.abi_layout.specs.Loading.{has_ranges, parts_have_ranges}
use Rattle.abi_layout.specs.Storing.{Step, Ask, Write, Place, Refuse, FlatItem, Lowered, requests, lower_flat, lower_fields, lower_case}
use Rattle.abi_store.specs.Plan.{Halt, Asks, Ends, Traps, Plan, Due, Nothing, Given, Asked, at_plan, flat_plan, spill_plan, is_within, is_room, goes, takes, tested, goes_on}
use Rattle.comp_worlds.specs.Passing.{most_params, most_results, spills_over}
use Rattle.instance_state.specs.Passed.{needs_memory, params_plan, result_plan}
use Rattle.instance_state.proofs.Passing.{ranges_need, spilled_need}
use Rattle.call_moments.specs.Waiting.{HasRequest, AsksRoom}

-- ---- where a plan halts at a request, one stands among its steps

if_within : (b : Bool) (x : Halt) (m new : Linear) (align len : ℕ) (after : Lowered) (steps : List Step) → (if b then x else Traps m) ≡ Asks align len after new → (x ≡ Asks align len after new → HasRequest steps) → HasRequest steps
if_within true x m new align len after steps e go = go e
if_within false x m new align len after steps e go = absurd (cc)

steps_ask : (flats : List FlatItem) (xs : List Step) (m new : Linear) (align len : ℕ) (after : Lowered) → goes flats xs m ≡ Asks align len after new → HasRequest xs
steps_ask flats [] m new align len after e = absurd (cc)
steps_ask flats (Ask a l ∷ xs) m new align len after e = tt
steps_ask flats (Write base place bytes ∷ xs) m new align len after e =
    if_within (is_within m place (length bytes)) (goes flats xs (written m place bytes)) m new align len after xs e (λ q. steps_ask flats xs (written m place bytes) new align len after q)
steps_ask flats (Place base place request ∷ xs) m new align len after e = absurd (cc)
steps_ask flats (Refuse ∷ xs) m new align len after e = absurd (cc)

tested_asks : (b : Bool) (left : Lowered) (m new : Linear) (align len : ℕ) (after : Lowered) → tested b left m ≡ Asks align len after new → HasRequest left.steps
tested_asks true left m new align len after e = steps_ask left.flats left.steps m new align len after e
tested_asks false left m new align len after e = absurd (cc)

pub plan_asks : (due : Due) (left : Lowered) (answer : Option ℕ) (m new : Linear) (align len : ℕ) (after : Lowered) → goes_on due left answer m ≡ Asks align len after new → AsksRoom due left.steps
plan_asks Nothing left answer m new align len after e = steps_ask left.flats left.steps m new align len after e
plan_asks (Given place a l) left answer m new align len after e = tested_asks (is_room m a l place) left m new align len after e
plan_asks (Asked a l) left answer m new align len after e = tt

-- ---- flat values ask for room for strings and lists alone

or_first : (a b : Bool) → a ≡ true → (a || b) ≡ true
or_first a b h = ap (λ c. c || b) h

or_second : (a b : Bool) → b ≡ true → (a || b) ≡ true
or_second true b h = refl
or_second false b h = h

in_either : {C : Type 0} (xs ys : List Step) → HasRequest (xs ++ ys) → (HasRequest xs → C) → (HasRequest ys → C) → C
in_either [] ys h f g = g h
in_either (Ask align len ∷ xs) ys h f g = f tt
in_either (Write base offset bytes ∷ xs) ys h f g = in_either xs ys h f g
in_either (Place base offset request ∷ xs) ys h f g = in_either xs ys h f g
in_either (Refuse ∷ xs) ys h f g = in_either xs ys h f g

mutual
  flat_asks : (ty : Plain) (v : PlainValue) (k : ℕ) → HasRequest (lower_flat ty v k).steps → has_ranges ty ≡ true
  flat_asks StringType v k h = refl
  flat_asks (ListType item) v k h = refl
  flat_asks (RecordType form fields) (RecordValue vs) k h = fields_ask fields vs k h
  flat_asks (RecordType form fields) v k h = absurd h
  flat_asks (VariantType form cases) (VariantValue n payload) k h = case_asks cases n payload k h
  flat_asks (VariantType form cases) v k h = absurd h
  flat_asks BoolType v k h = absurd h
  flat_asks (SignedType width) v k h = absurd h
  flat_asks (UnsignedType width) v k h = absurd h
  flat_asks CharType v k h = absurd h
  flat_asks (FlagsType labels) v k h = absurd h
  flat_asks (OwnType r) v k h = absurd h
  flat_asks (BorrowType r) v k h = absurd h

  fields_ask : (ps : Parts) (vs : PlainValues) (k : ℕ) → HasRequest (lower_fields ps vs k).steps → parts_have_ranges ps ≡ true
  fields_ask End vs k h = absurd h
  fields_ask (More name ty rest) NoValues k h = absurd h
  fields_ask (More name ty rest) (Values v ws) k h =
      let next : ℕ = k + requests (lower_flat ty v k).steps in
      in_either (lower_flat ty v k).steps (lower_fields rest ws next).steps h (λ x. or_first (has_ranges ty) (parts_have_ranges rest) (flat_asks ty v k x)) (λ y. or_second (has_ranges ty) (parts_have_ranges rest) (fields_ask rest ws next y))
  fields_ask (Bare name rest) vs k h = fields_ask rest vs k h

  case_asks : (ps : Parts) (n : ℕ) (payload : Payload) (k : ℕ) → HasRequest (lower_case ps n payload k).steps → parts_have_ranges ps ≡ true
  case_asks End n payload k h = absurd h
  case_asks (More name ty rest) zero Without k h = absurd h
  case_asks (More name ty rest) zero (With v) k h = or_first (has_ranges ty) (parts_have_ranges rest) (flat_asks ty v k h)
  case_asks (More name ty rest) (suc n) payload k h = or_second (has_ranges ty) (parts_have_ranges rest) (case_asks rest n payload k h)
  case_asks (Bare name rest) zero payload k h = absurd h
  case_asks (Bare name rest) (suc n) payload k h = case_asks rest n payload k h

-- ---- plans as they begin

pub params_ask : (ty : Plain) (v : PlainValue) → AsksRoom (params_plan ty v).due (params_plan ty v).left.steps → needs_memory most_params ty ≡ true
params_ask ty v asks = go (spills_over most_params ty) refl
  where
    go : (b : Bool) → spills_over most_params ty ≡ b → needs_memory most_params ty ≡ true
    go true e = spilled_need most_params ty e
    go false e = ranges_need most_params ty (flat_asks ty v 0 (subst (λ b. AsksRoom (if b then spill_plan ty v else flat_plan ty v).due (if b then spill_plan ty v else flat_plan ty v).left.steps) e asks))

pub result_asks : (ty : Plain) (at : ℕ) (v : PlainValue) → AsksRoom (result_plan ty at v).due (result_plan ty at v).left.steps → needs_memory most_results ty ≡ true
result_asks ty at v asks = go (spills_over most_results ty) refl
  where
    go : (b : Bool) → spills_over most_results ty ≡ b → needs_memory most_results ty ≡ true
    go true e = spilled_need most_results ty e
    go false e = ranges_need most_results ty (flat_asks ty v 0 (subst (λ b. AsksRoom (if b then at_plan at ty v else flat_plan ty v).due (if b then at_plan at ty v else flat_plan ty v).left.steps) e asks))
