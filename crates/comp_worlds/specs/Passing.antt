-- Values as they pass from one instance to another, and their handles (Component Model, CanonicalABI.md, "Lifting and Lowering
-- Values"). A value passes without the numbers of its handles, beside a list of what they stand for: numbers of a host, or whatever
-- a handle of the tables stands for. All handles of a value are exchanged in one pass, after it was loaded and before it is stored.
use Rattle.std.specs.Prelude.{ℕ, ◌∷◌, Bool, true, false, not, nat_lt, if◌then◌else◌, List, [], map, length, Option, Some, None}
use Rattle.std.specs.Option.{option_map, option_and_then}
use Rattle.std.specs.List.{list_any}
use Rattle.wit_types.specs.Plain.{Plain, Parts, PlainFunc, AsTuple, RecordType, OwnType, BorrowType, End, More}
use Rattle.wit_types.specs.PlainValue.{PlainValue, PlainValues, RecordValue, End as NoValues, More as Values}
use Rattle.wit_types.specs.Layout.{flat}
use Rattle.abi_layout.specs.Loading.{loads, lift_flat, low_word}
use Rattle.abi_layout.specs.Storing.{Lowered, AnswerTo, lower_flat, spills, stores}
use Rattle.abi_layout.specs.Handles.{handles, renumbered}
use Rattle.abi_layout.specs.Handles as abi
use Rattle.handle_space.specs.HandleMap.{Entry, HandleMap, Answered, answered, own_entry, borrow_entry, lend, unlend, take_own, add}

-- ---- the parameters, and the result, as one tuple

abbrev pub answer_parts : Option Plain → Parts
answer_parts None = End
answer_parts (Some ty) = More [] ty End

abbrev pub params_tuple : PlainFunc → Plain
params_tuple f = RecordType AsTuple f.params

abbrev pub answer_tuple : PlainFunc → Plain
answer_tuple f = RecordType AsTuple (answer_parts f.answer)

-- a tuple of the result, where there is one
abbrev pub in_tuple : Option PlainValue → PlainValue
in_tuple None = RecordValue NoValues
in_tuple (Some v) = RecordValue (Values v NoValues)

abbrev pub values_in : PlainValue → PlainValues
values_in (RecordValue vs) = vs
values_in v = NoValues

abbrev pub first_in : PlainValues → Option PlainValue
first_in NoValues = None
first_in (Values v vs) = Some v

abbrev pub out_of_tuple : PlainValue → Option PlainValue
out_of_tuple v = first_in (values_in v)

-- ---- handles on their way

-- a handle that is given away, or lent, with what it stands for
pub data Handle (R : Type 0) : Type 0 where
  Own : (resource : ℕ) (rep : R) → Handle R
  Borrow : (resource : ℕ) (rep : R) → Handle R

abbrev pub rep_in : {R : Type 0} → Handle R → R
rep_in (Own resource rep) = rep
rep_in (Borrow resource rep) = rep

abbrev pub reps_in : {R : Type 0} → List (Handle R) → List R
reps_in hs = map rep_in hs

-- what a handle is by its type, which is one of `own` or `borrow`
pub data Kind : Type 0 where
  IsOwn : (resource : ℕ) → Kind
  IsBorrow : (resource : ℕ) → Kind

abbrev pub and_kind : Plain → List Kind → List Kind
and_kind (OwnType r) ks = IsOwn r ∷ ks
and_kind (BorrowType r) ks = IsBorrow r ∷ ks
and_kind _ ks = ks

abbrev pub kinds_in : List abi.Handle → List Kind
kinds_in [] = []
kinds_in (h ∷ hs) = and_kind h.ty (kinds_in hs)

abbrev pub handle_by : {R : Type 0} → Kind → R → Handle R
handle_by (IsOwn r) x = Own r x
handle_by (IsBorrow r) x = Borrow r x

abbrev pub handles_by : {R : Type 0} → List Kind → List R → List (Handle R)
handles_by [] xs = []
handles_by (k ∷ ks) [] = []
handles_by (k ∷ ks) (x ∷ xs) = handle_by k x ∷ handles_by ks xs

-- a value on its way: 0 stands for each of its handles
pub record Passed (R : Type 0) : Type 0 where
  pub value : PlainValue
  pub reps : List R

-- the value without the numbers of its handles, and with these numbers
abbrev pub blank : Plain → PlainValue → PlainValue
blank ty v = renumbered ty v []

-- the handles of a value that passes, by its type
abbrev pub handles_of : {R : Type 0} → Plain → Passed R → List (Handle R)
handles_of ty p = handles_by (kinds_in (handles ty p.value)) p.reps

-- ---- out of a table (CanonicalABI.md, `lift_own` and `lift_borrow`)

-- an index that stands in a value, by its type
pub data Named : Type 0 where
  OwnAt : (resource index : ℕ) → Named
  BorrowAt : (resource index : ℕ) → Named

abbrev pub and_named : Plain → ℕ → List Named → List Named
and_named (OwnType r) i ns = OwnAt r i ∷ ns
and_named (BorrowType r) i ns = BorrowAt r i ∷ ns
and_named _ i ns = ns

abbrev pub named_in : List abi.Handle → List Named
named_in [] = []
named_in (h ∷ hs) = and_named h.ty h.number (named_in hs)

-- the handles that were taken or lent, the table after that, and the indexes that were lent
pub record Lifted (R : Type 0) : Type 0 where
  pub handles : List (Handle R)
  pub map : HandleMap R
  pub loans : List ℕ

abbrev pub and_loan : Bool → ℕ → List ℕ → List ℕ
and_loan true i loans = i ∷ loans
and_loan false i loans = loans

abbrev pub and_lifted : {R : Type 0} → Handle R → Bool → ℕ → Lifted R → Lifted R
and_lifted h lent i l = record { handles = h ∷ l.handles; map = l.map; loans = and_loan lent i l.loans }

-- An own handle is taken, a borrowed own handle is lent, and a borrowed handle that is passed on is neither.
abbrev pub lift_handles : {R : Type 0} → List Named → HandleMap R → Option (Lifted R)
lift_handles [] m = Some (record { handles = []; map = m; loans = [] })
lift_handles (OwnAt r i ∷ ns) m =
    option_and_then (λ a. option_map (and_lifted (Own r a.answer) false i) (lift_handles ns a.map)) (take_own m i r)
lift_handles (BorrowAt r i ∷ ns) m =
    option_and_then (λ a. option_map (and_lifted (Borrow r a.answer.rep) a.answer.owned i) (lift_handles ns a.map)) (lend m i r)

-- loans end
abbrev pub unlend_all : {R : Type 0} → List ℕ → HandleMap R → HandleMap R
unlend_all [] m = m
unlend_all (i ∷ is) m = unlend_all is (unlend m i)

-- ---- into a table (CanonicalABI.md, `lower_own` and `lower_borrow`)

-- A borrowed handle becomes the number that `plain` gives for it, or else an entry.
abbrev pub lower_borrow : {R : Type 0} → Option ℕ → ℕ → R → HandleMap R → Option (Answered R ℕ)
lower_borrow (Some n) r x m = Some (answered n m)
lower_borrow None r x m = add m (borrow_entry r x)

abbrev pub add_handle : {R : Type 0} → (ℕ → R → Option ℕ) → Handle R → HandleMap R → Option (Answered R ℕ)
add_handle plain (Own r x) m = add m (own_entry r x)
add_handle plain (Borrow r x) m = lower_borrow (plain r x) r x m

abbrev pub and_index : {R : Type 0} → ℕ → Answered R (List ℕ) → Answered R (List ℕ)
and_index i a = answered (i ∷ a.answer) a.map

abbrev pub add_handles : {R : Type 0} → (ℕ → R → Option ℕ) → List (Handle R) → HandleMap R → Option (Answered R (List ℕ))
add_handles plain [] m = Some (answered [] m)
add_handles plain (h ∷ hs) m = option_and_then (λ a. option_map (and_index a.answer) (add_handles plain hs a.map)) (add_handle plain h m)

-- a borrowed handle is in the table
abbrev pub is_borrow : {R : Type 0} → Option (Entry R) → Bool
is_borrow None = false
is_borrow (Some e) = not e.owned

abbrev pub has_borrow : {R : Type 0} → HandleMap R → Bool
has_borrow m = list_any is_borrow m.entries

-- ---- flat values (CanonicalABI.md, `lift_flat_values` and `lower_flat_values`): a tuple of more flat types than these goes through memory

abbrev pub most_params : ℕ
most_params = 16

abbrev pub most_results : ℕ
most_results = 1

abbrev pub spills_over : ℕ → Plain → Bool
spills_over most ty = nat_lt most (length (flat ty))

abbrev pub lift_words : ℕ → Plain → List ℕ → List ℕ → Option PlainValue
lift_words most ty memory words = if spills_over most ty then loads memory ty (low_word words 0) else lift_flat memory ty words 0

-- parameters for which room is asked
abbrev pub lower_params : Plain → PlainValue → Lowered
lower_params ty v = if spills_over most_params ty then record { steps = spills ty v; flats = AnswerTo 0 ∷ [] } else lower_flat ty v 0

-- a result, at the place that the caller gives
abbrev pub lower_result : Plain → PlainValue → Lowered
lower_result ty v = if spills_over most_results ty then record { steps = stores ty v; flats = [] } else lower_flat ty v 0
