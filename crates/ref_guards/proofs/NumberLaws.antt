-- A value with other numbers for its handles.
use Rattle.std.proofs.Common.{◌≡◌, ℕ, zero, suc, ◌+◌, ◌-◌, ◌≤◌, List, [], ◌∷◌, ◌++◌, length, drop, refl, ap, sym, ◌∙◌, arith}
use Rattle.std.proofs.lemmas.List.{length-append, length-drop, drop-drop}
use Rattle.wit_types.specs.Plain.{Plain, Parts, BoolType, SignedType, UnsignedType, CharType, StringType, ListType, RecordType, VariantType, FlagsType, OwnType, BorrowType, End as NoParts, More as Part, Bare}
use Rattle.wit_types.specs.PlainValue.{PlainValue, PlainValues, Payload, BoolValue, IntValue, CharValue, StringValue, ListValue, RecordValue, VariantValue, FlagsValue, HandleValue, End, More, Without, With}
use Rattle.abi_layout.specs.Storing.{on_list, on_record, on_variant, on_payload}
use Rattle.abi_layout.specs.Handles as abi
use Rattle.reference_step.specs.Atoms.{new_handle, behind_first, new_each, new_list, as_list, new_record, as_record, new_variant, as_case, new_payload, as_payload, renumbered, renumbered_of, renumbered_at}
use Rattle.ref_guards.specs.Numbers.{NumbersAgree}

-- what a walk over a value with these handles gives: the new value, and the numbers that are left
abbrev Agrees : {A : Type 0} → A × List ℕ → A → List abi.Handle → List ℕ → Type 0
Agrees r new hs ids = r ≡ (new, drop (length hs) ids)

own_agrees : (kind : ℕ) (v : PlainValue) (ids : List ℕ) → length (abi.handle_of (OwnType kind) v) ≤ length ids → Agrees (new_handle v ids) (abi.renumbered_handle v ids) (abi.handle_of (OwnType kind) v) ids
own_agrees kind (BoolValue b) ids h = refl
own_agrees kind (IntValue i) ids h = refl
own_agrees kind (CharValue c) ids h = refl
own_agrees kind (StringValue bytes) ids h = refl
own_agrees kind (ListValue vs) ids h = refl
own_agrees kind (RecordValue vs) ids h = refl
own_agrees kind (VariantValue i x) ids h = refl
own_agrees kind (FlagsValue bits) ids h = refl
own_agrees kind (HandleValue id) [] h = absurd (omega (arith, h))
own_agrees kind (HandleValue id) (n ∷ ids) h = refl

borrow_agrees : (kind : ℕ) (v : PlainValue) (ids : List ℕ) → length (abi.handle_of (BorrowType kind) v) ≤ length ids → Agrees (new_handle v ids) (abi.renumbered_handle v ids) (abi.handle_of (BorrowType kind) v) ids
borrow_agrees kind (BoolValue b) ids h = refl
borrow_agrees kind (IntValue i) ids h = refl
borrow_agrees kind (CharValue c) ids h = refl
borrow_agrees kind (StringValue bytes) ids h = refl
borrow_agrees kind (ListValue vs) ids h = refl
borrow_agrees kind (RecordValue vs) ids h = refl
borrow_agrees kind (VariantValue i x) ids h = refl
borrow_agrees kind (FlagsValue bits) ids h = refl
borrow_agrees kind (HandleValue id) [] h = absurd (omega (arith, h))
borrow_agrees kind (HandleValue id) (n ∷ ids) h = refl

-- one after the other
module _ (v w : PlainValue) (vs ws : PlainValues) (g h : List abi.Handle) (ids : List ℕ) (few : length (g ++ h) ≤ length ids) where
  few_first : length g ≤ length ids
  few_first = omega (arith, few, length-append g h)

  few_rest : length h ≤ length (drop (length g) ids)
  few_rest = omega (arith, few, length-append g h, length-drop (length g) ids)

  both : (r : PlainValue × List ℕ) (go : List ℕ → PlainValues × List ℕ) → Agrees r w g ids → Agrees (go (drop (length g) ids)) ws h (drop (length g) ids) → Agrees (behind_first r go) (More w ws) (g ++ h) ids
  both r go first rest =
      ap (λ x. behind_first x go) first
      ∙ ap (λ (x : PlainValues × List ℕ). (More w x.0, x.1)) rest
      ∙ ap (λ left. (More w ws, left)) (drop-drop (length h) (length g) ids ∙ ap (λ n. drop n ids) (sym (length-append g h)))

module _ (go : PlainValue → List ℕ → PlainValue × List ℕ) (change : PlainValue → List ℕ → PlainValue) (find : PlainValue → List abi.Handle) (one : (v : PlainValue) (ids : List ℕ) → length (find v) ≤ length ids → Agrees (go v ids) (change v ids) (find v) ids) where
  each_agrees : (vs : PlainValues) (ids : List ℕ) → length (abi.item_handles find vs) ≤ length ids → Agrees (new_each go vs ids) (abi.renumbered_items find change vs ids) (abi.item_handles find vs) ids
  each_agrees End ids few = refl
  each_agrees (More v vs) ids few =
      let g = find v in
      let h = abi.item_handles find vs in
      let left = drop (length g) ids in
      both v (change v ids) vs (abi.renumbered_items find change vs left) g h ids few (go v ids) (λ rest. new_each go vs rest)
      (one v ids (few_first v (change v ids) vs vs g h ids few)) (each_agrees vs left (few_rest v (change v ids) vs vs g h ids few))

  payload_agrees : (x : Payload) (ids : List ℕ) → length (on_payload [] find x) ≤ length ids → Agrees (new_payload go x ids) (on_payload x (λ v. With (change v ids)) x) (on_payload [] find x) ids
  payload_agrees Without ids few = refl
  payload_agrees (With v) ids few = ap as_payload (one v ids few)

list_agrees : (go : PlainValue → List ℕ → PlainValue × List ℕ) (change : PlainValues → List ℕ → PlainValues) (find : PlainValues → List abi.Handle) → ((vs : PlainValues) (ids : List ℕ) → length (find vs) ≤ length ids → Agrees (new_each go vs ids) (change vs ids) (find vs) ids) → (v : PlainValue) (ids : List ℕ) → length (on_list [] find v) ≤ length ids → Agrees (new_list go v ids) (on_list v (λ vs. ListValue (change vs ids)) v) (on_list [] find v) ids
list_agrees go change find all (BoolValue b) ids h = refl
list_agrees go change find all (IntValue i) ids h = refl
list_agrees go change find all (CharValue c) ids h = refl
list_agrees go change find all (StringValue bytes) ids h = refl
list_agrees go change find all (ListValue vs) ids h = ap as_list (all vs ids h)
list_agrees go change find all (RecordValue vs) ids h = refl
list_agrees go change find all (VariantValue i x) ids h = refl
list_agrees go change find all (FlagsValue bits) ids h = refl
list_agrees go change find all (HandleValue id) ids h = refl

record_agrees : (go : PlainValues → List ℕ → PlainValues × List ℕ) (change : PlainValues → List ℕ → PlainValues) (find : PlainValues → List abi.Handle) → ((vs : PlainValues) (ids : List ℕ) → length (find vs) ≤ length ids → Agrees (go vs ids) (change vs ids) (find vs) ids) → (v : PlainValue) (ids : List ℕ) → length (on_record [] find v) ≤ length ids → Agrees (new_record go v ids) (on_record v (λ vs. RecordValue (change vs ids)) v) (on_record [] find v) ids
record_agrees go change find all (BoolValue b) ids h = refl
record_agrees go change find all (IntValue i) ids h = refl
record_agrees go change find all (CharValue c) ids h = refl
record_agrees go change find all (StringValue bytes) ids h = refl
record_agrees go change find all (ListValue vs) ids h = refl
record_agrees go change find all (RecordValue vs) ids h = ap as_record (all vs ids h)
record_agrees go change find all (VariantValue i x) ids h = refl
record_agrees go change find all (FlagsValue bits) ids h = refl
record_agrees go change find all (HandleValue id) ids h = refl

variant_agrees : (go : ℕ → Payload → List ℕ → Payload × List ℕ) (change : ℕ → Payload → List ℕ → Payload) (find : ℕ → Payload → List abi.Handle) → ((n : ℕ) (x : Payload) (ids : List ℕ) → length (find n x) ≤ length ids → Agrees (go n x ids) (change n x ids) (find n x) ids) → (v : PlainValue) (ids : List ℕ) → length (on_variant [] find v) ≤ length ids → Agrees (new_variant go v ids) (on_variant v (λ n x. VariantValue n (change n x ids)) v) (on_variant [] find v) ids
variant_agrees go change find all (BoolValue b) ids h = refl
variant_agrees go change find all (IntValue i) ids h = refl
variant_agrees go change find all (CharValue c) ids h = refl
variant_agrees go change find all (StringValue bytes) ids h = refl
variant_agrees go change find all (ListValue vs) ids h = refl
variant_agrees go change find all (RecordValue vs) ids h = refl
variant_agrees go change find all (VariantValue i x) ids h = ap (as_case i) (all i x ids h)
variant_agrees go change find all (FlagsValue bits) ids h = refl
variant_agrees go change find all (HandleValue id) ids h = refl

mutual
  value_agrees : (ty : Plain) (v : PlainValue) (ids : List ℕ) → length (abi.handles ty v) ≤ length ids → Agrees (renumbered ty v ids) (abi.renumbered ty v ids) (abi.handles ty v) ids
  value_agrees BoolType v ids h = refl
  value_agrees (SignedType width) v ids h = refl
  value_agrees (UnsignedType width) v ids h = refl
  value_agrees CharType v ids h = refl
  value_agrees StringType v ids h = refl
  value_agrees (ListType item) v ids h =
      list_agrees (λ x is. renumbered item x is) (λ vs ns. abi.renumbered_items (λ x. abi.handles item x) (λ x ms. abi.renumbered item x ms) vs ns) (λ vs. abi.item_handles (λ x. abi.handles item x) vs)
      (λ vs ns few. each_agrees (λ x is. renumbered item x is) (λ x ms. abi.renumbered item x ms) (λ x. abi.handles item x) (λ x ms less. value_agrees item x ms less) vs ns few) v ids h
  value_agrees (RecordType form fields) v ids h = record_agrees (λ xs is. renumbered_of fields xs is) (λ xs ns. abi.renumbered_fields fields xs ns) (λ xs. abi.field_handles fields xs) (λ xs ns few. fields_agree fields xs ns few) v ids h
  value_agrees (VariantType form cases) v ids h = variant_agrees (λ n x is. renumbered_at cases n x is) (λ n x ns. abi.renumbered_case cases n x ns) (λ n x. abi.case_handles cases n x) (λ n x ns few. cases_agree cases n x ns few) v ids h
  value_agrees (FlagsType labels) v ids h = refl
  value_agrees (OwnType kind) v ids h = own_agrees kind v ids h
  value_agrees (BorrowType kind) v ids h = borrow_agrees kind v ids h

  pub fields_agree : (fields : Parts) (xs : PlainValues) (ids : List ℕ) → length (abi.field_handles fields xs) ≤ length ids → Agrees (renumbered_of fields xs ids) (abi.renumbered_fields fields xs ids) (abi.field_handles fields xs) ids
  fields_agree NoParts xs ids h = refl
  fields_agree (Part name ty rest) End ids h = refl
  fields_agree (Part name ty rest) (More v vs) ids few =
      let g = abi.handles ty v in
      let h = abi.field_handles rest vs in
      let left = drop (length g) ids in
      both v (abi.renumbered ty v ids) vs (abi.renumbered_fields rest vs left) g h ids few (renumbered ty v ids) (λ is. renumbered_of rest vs is)
      (value_agrees ty v ids (few_first v v vs vs g h ids few)) (fields_agree rest vs left (few_rest v v vs vs g h ids few))
  fields_agree (Bare name rest) xs ids h = fields_agree rest xs ids h

  cases_agree : (cases : Parts) (n : ℕ) (x : Payload) (ids : List ℕ) → length (abi.case_handles cases n x) ≤ length ids → Agrees (renumbered_at cases n x ids) (abi.renumbered_case cases n x ids) (abi.case_handles cases n x) ids
  cases_agree NoParts n x ids h = refl
  cases_agree (Part name ty rest) zero x ids h = payload_agrees (λ v is. renumbered ty v is) (λ v ms. abi.renumbered ty v ms) (λ v. abi.handles ty v) (λ v ms few. value_agrees ty v ms few) x ids h
  cases_agree (Part name ty rest) (suc n) x ids h = cases_agree rest n x ids h
  cases_agree (Bare name rest) zero x ids h = refl
  cases_agree (Bare name rest) (suc n) x ids h = cases_agree rest n x ids h

pub numbers_agree : NumbersAgree
numbers_agree ty v numbers few = value_agrees ty v numbers few
