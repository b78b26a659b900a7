-- Flat values one after the other.
use Rattle.std.proofs.Common.{◌≡◌, ℕ, ◌+◌, ◌-◌, ◌*◌, ◌≤◌, ap, refl, sym, ◌∙◌, subst, Bool, true, false, List, [], ◌∷◌, ◌++◌, length, take, arith, zero, suc, Option, Some, None, append-nil, length-append, add-one, ◌^◌}
use Rattle.std.proofs.lemmas.List.{length-replicate, length-take-le}
use Rattle.std.specs.Prelude.{reverse, replicate, nat_le, nat_lt, if◌then◌else◌}
use Rattle.std.proofs.lemmas.Bool.Decides.{nat_tests}
use Rattle.virt_base.specs.declared.core_type.CoreType.{CoreType}
use Rattle.wit_types.specs.declared.value.Value.{Value}
use Rattle.wit_types.specs.Plain.{VariantForm, Name, Plain, Parts, BoolType, SignedType, UnsignedType, CharType, StringType, ListType, RecordType, VariantType, FlagsType, OwnType, BorrowType, End, More, Bare, plain}
use Rattle.wit_types.specs.PlainValue.{PlainValue, PlainValues, Payload, BoolValue, IntValue, CharValue, StringValue, ListValue, RecordValue, VariantValue, FlagsValue, HandleValue, End as NoValues, More as Values, Without, With, plain_value, plain_values, values_of}
use Rattle.wit_types.specs.Layout.{flat, flat_fields, flat_cases, join, size, alignment}
use Rattle.wit_types.specs.Limits.{parts, all_parts}
use Rattle.abi_layout.specs.declared.flat_types.Flat.{Flat as FlatTypes}
use Rattle.abi_layout.specs.Flat.{within, types_of}
use Rattle.abi_layout.specs.Storing.{Step, Ask, Write, Refuse, Answer, FlatItem, Number, AnswerTo, Lowered, count_values, nothing, one_number, both, of_case, requests, lower_flat, lower_fields, lower_case}
use Rattle.abi_store.specs.declared.slot.Slot.{Slot}
use Rattle.abi_store.specs.declared.slot.Slot.TheVariants.{Number as NumberSlot, Place as PlaceSlot}
use Rattle.abi_store.specs.declared.content.Content.{Content}
use Rattle.abi_store.specs.declared.content.Content.TheVariants.{Text as TextContent, List as ItemsContent}
use Rattle.abi_store.specs.declared.content.ListContent.{ListContent}
use Rattle.abi_store.specs.Forms.{IsNoString, IsNoList}
use Rattle.abi_store.specs.Rooms.{with_room, content_len, items_from}
use Rattle.abi_store.specs.Parts.{case_type, cases_in, payload_flat, payload_parts}
use Rattle.abi_store.specs.Flows.{chain, none_left}
use Rattle.abi_store.specs.Slots.{slot_lowered, slots_lowered, Appends, place_flats, payload_flats, variant_flats, zeros}
use Rattle.abi_store.proofs.Chains.{chain-assoc}
use Rattle.abi_store.proofs.TurnLemmas.{reversed}

pub lowered_same : (xs ys : List Step) (us vs : List FlatItem) → xs ≡ ys → us ≡ vs → (let l : Lowered = record { steps = xs; flats = us } in l) ≡ record { steps = ys; flats = vs }
lowered_same xs ys us vs p q = ap (λ (s : List Step). let l : Lowered = record { steps = s; flats = us } in l) p ∙ ap (λ (f : List FlatItem). let l : Lowered = record { steps = ys; flats = f } in l) q

pub chain-none : (l : ℕ → Lowered) (k : ℕ) → chain l none_left k ≡ l k
chain-none l k = lowered_same _ _ _ _ (append-nil (l k).steps) (append-nil (l k).flats)

pub none-chain : (l : ℕ → Lowered) (k : ℕ) → chain none_left l k ≡ l k
none-chain l k = let e : k + 0 ≡ k = omega arith in ap l e

pub chain-same : (a b l m : ℕ → Lowered) (k : ℕ) → a k ≡ b k → ((j : ℕ) → l j ≡ m j) → chain a l k ≡ chain b m k
chain-same a b l m k p q = ap (λ (x : Lowered). both x (l (k + requests x.steps))) p ∙ ap (λ (y : Lowered). both (b k) y) (q (k + requests (b k).steps))

slots-push : (xs : List Slot) (s : Slot) (k : ℕ) → slots_lowered (xs ++ s ∷ []) k ≡ chain (slots_lowered xs) (slot_lowered s) k
slots-push [] s k = chain-same (slot_lowered s) (slot_lowered s) (slots_lowered []) none_left k refl (λ j. refl) ∙ chain-none (slot_lowered s) k ∙ sym (none-chain (slot_lowered s) k)
slots-push (x ∷ xs) s k =
    chain-same (slot_lowered x) (slot_lowered x) (slots_lowered (xs ++ s ∷ [])) (chain (slots_lowered xs) (slot_lowered s)) k refl (λ j. slots-push xs s j) ∙ sym (chain-assoc (slot_lowered x) (slots_lowered xs) (slot_lowered s) k)

pub appends_push : (old new : List Slot) (s : Slot) → new ≡ old ++ s ∷ [] → Appends old new (slot_lowered s)
appends_push old new s is = record { same = λ k. ap (λ (xs : List Slot). slots_lowered xs k) is ∙ slots-push old s k }

pub appends_none : (old : List Slot) (l : ℕ → Lowered) → ((k : ℕ) → l k ≡ nothing) → Appends old old l
appends_none old l none = record { same = λ k. sym (chain-none (slots_lowered old) k) ∙ chain-same (slots_lowered old) (slots_lowered old) none_left l k refl (λ j. sym (none j)) }

pub appends_then : (a b c : List Slot) (l m : ℕ → Lowered) → Appends a b l → Appends b c m → Appends a c (chain l m)
appends_then a b c l m p q = record { same = λ k. q.same k ∙ chain-same (slots_lowered b) (chain (slots_lowered a) l) m m k (p.same k) (λ j. refl) ∙ chain-assoc (slots_lowered a) l m k }

pub appends_same : (a b : List Slot) (l m : ℕ → Lowered) → ((k : ℕ) → l k ≡ m k) → Appends a b l → Appends a b m
appends_same a b l m q p = record { same = λ k. p.same k ∙ chain-same (slots_lowered a) (slots_lowered a) l m k refl q }

-- ---- strings and lists

pub string_flats : (a b : List Slot) (v : PlainValue) (t : List ℕ) (l : ℕ → Lowered) → v ≡ StringValue t → ((k : ℕ) → l k ≡ lower_flat StringType (StringValue t) k) → Appends a b l → Appends a b (lower_flat StringType v)
string_flats a b v t l is same p = appends_same a b l (lower_flat StringType v) (λ k. same k ∙ ap (λ (u : PlainValue). lower_flat StringType u k) (sym is)) p

pub list_flats : (a b : List Slot) (item : Plain) (v : PlainValue) (vs : PlainValues) (l : ℕ → Lowered) → v ≡ ListValue vs → ((k : ℕ) → l k ≡ lower_flat (ListType item) (ListValue vs) k) → Appends a b l → Appends a b (lower_flat (ListType item) v)
list_flats a b item v vs l is same p = appends_same a b l (lower_flat (ListType item) v) (λ k. same k ∙ ap (λ (u : PlainValue). lower_flat (ListType item) u k) (sym is)) p

-- ---- how many they are

slot_count : (s : Slot) (k : ℕ) → length (slot_lowered s k).flats ≡ 1
slot_count (NumberSlot n) k = refl
slot_count (PlaceSlot c) k = refl

pub slots_count : (ss : List Slot) (k : ℕ) → length (slots_lowered ss k).flats ≡ length ss
slots_count [] k = refl
slots_count (s ∷ ss) k =
    let rest = slots_count ss (k + requests (slot_lowered s k).steps) in
    let one = slot_count s k in
    let all = length-append (slot_lowered s k).flats (slots_lowered ss (k + requests (slot_lowered s k).steps)).flats in
    omega arith

pub appends_count : (a b : List Slot) (l : ℕ → Lowered) (k : ℕ) → Appends a b l → length b ≡ length a + length (l (k + requests (slots_lowered a k).steps)).flats
appends_count a b l k p =
    let new = slots_count b k in
    let old = slots_count a k in
    let both_counts = ap (λ (x : Lowered). length x.flats) (p.same k) in
    let all = length-append (slots_lowered a k).flats (l (k + requests (slots_lowered a k).steps)).flats in
    omega arith

-- ---- values that are not of a form

pub no_string : (v : PlainValue) → IsNoString v → (k : ℕ) → lower_flat StringType v k ≡ nothing
no_string (StringValue t) here k = cc
no_string (BoolValue b) here k = refl
no_string (IntValue n) here k = refl
no_string (CharValue n) here k = refl
no_string (ListValue vs) here k = refl
no_string (RecordValue vs) here k = refl
no_string (VariantValue n p) here k = refl
no_string (FlagsValue n) here k = refl
no_string (HandleValue n) here k = refl

pub no_list : (item : Plain) (v : PlainValue) → IsNoList v → (k : ℕ) → lower_flat (ListType item) v k ≡ nothing
no_list item (ListValue t) here k = cc
no_list item (BoolValue b) here k = refl
no_list item (IntValue n) here k = refl
no_list item (CharValue n) here k = refl
no_list item (StringValue vs) here k = refl
no_list item (RecordValue vs) here k = refl
no_list item (VariantValue n p) here k = refl
no_list item (FlagsValue n) here k = refl
no_list item (HandleValue n) here k = refl

-- ---- a string and a list by their content

string_place : (c : Bool) (t : List ℕ) (k : ℕ) →
    (let l : Lowered = record {
      steps = (with_room (if c then Some (record { align = 1; len = length t }) else None) ((Write (Answer k) 0 t ∷ []) ++ []) ++ []);
      flats = AnswerTo k ∷ Number (length t) ∷ [];
    } in l)
    ≡ record { steps = (if c then Ask 1 (length t) ∷ Write (Answer k) 0 t ∷ [] else Refuse ∷ []); flats = AnswerTo k ∷ Number (length t) ∷ [] }
string_place true t k = refl
string_place false t k = refl

pub string_is : (t : List ℕ) (k : ℕ) → place_flats (TextContent t) k ≡ lower_flat StringType (StringValue t) k
string_is t k = string_place (nat_le (length t) 2147483647) t k

list_place : (c : Bool) (align len : ℕ) (x : List Step) →
    with_room (if c then Some (record { align = align; len = len }) else None) (x ++ []) ++ [] ≡ (if c then Ask align len ∷ x else Refuse ∷ [])
list_place true align len x = ap (λ (v : List Step). Ask align len ∷ v) (append-nil (x ++ []) ∙ append-nil x)
list_place false align len x = refl

pub list_is : (list : ListContent) (k : ℕ) → place_flats (ItemsContent list) k ≡ lower_flat (ListType (plain list.item.value)) (ListValue (plain_values list.values)) k
list_is list k =
    let item = plain list.item.value in
    let vs = plain_values list.values in
    lowered_same _ _ _ _ (list_place (nat_lt (count_values vs * size item) (2 ^ 32)) (alignment item) (count_values vs * size item) (items_from item vs (Answer k) 0 (k + 1))) refl

pub content_appends : (a b c : List Slot) (content : Content) (len : ℕ) → b ≡ a ++ PlaceSlot content ∷ [] → c ≡ b ++ NumberSlot len ∷ [] → len ≡ content_len content → Appends a c (place_flats content)
content_appends a b c content len first second is =
    subst (λ n. Appends a c (chain (slot_lowered (PlaceSlot content)) (λ j. one_number n))) is
    (appends_then a b c (slot_lowered (PlaceSlot content)) (λ j. one_number len) (appends_push a b (PlaceSlot content) first) (appends_push b c (NumberSlot len) second))

-- ---- zeros

replicate_more : (n : ℕ) → replicate n (Number 0) ++ Number 0 ∷ [] ≡ replicate (suc n) (Number 0)
replicate_more zero = refl
replicate_more (suc n) = ap (λ (v : List FlatItem). Number 0 ∷ v) (replicate_more n)

pub zeros_none : (a : List Slot) (n : ℕ) → n ≡ 0 → Appends a a (zeros n)
zeros_none a n is = appends_none a (zeros n) (λ k. ap (λ (j : ℕ). zeros j k) is)

pub zeros_more : (a b c : List Slot) (m n : ℕ) → Appends a b (zeros m) → Appends b c (λ k. one_number 0) → n ≡ m + 1 → Appends a c (zeros n)
zeros_more a b c m n p q is =
    appends_same a c (chain (zeros m) (λ k. one_number 0)) (zeros n) (λ k. lowered_same _ _ _ _ refl (replicate_more m) ∙ ap (λ (j : ℕ). zeros j k) (sym (is ∙ add-one m)))
    (appends_then a b c (zeros m) (λ k. one_number 0) p q)

pub zeros_same : (a b : List Slot) (m n : ℕ) → m ≡ n → Appends a b (zeros m) → Appends a b (zeros n)
zeros_same a b m n is p = subst (λ j. Appends a b (zeros j)) is p

-- the number of a case, and zeros after its payload
pub padded : (width : ℕ) (fs : List FlatItem) → suc (length (fs ++ replicate (width - length fs) (Number 0))) ≡ suc (length fs + (width - length fs))
padded width fs = ap suc (length-append fs (replicate (width - length fs) (Number 0)) ∙ ap (λ k. length fs + k) (length-replicate (width - length fs) (Number 0)))

-- ---- how many flat values a value has does not depend on the requests before it

mutual
  pub count_same : (ty : Plain) (v : PlainValue) (j k : ℕ) → length (lower_flat ty v j).flats ≡ length (lower_flat ty v k).flats
  count_same BoolType v j k = refl
  count_same (SignedType w) v j k = refl
  count_same (UnsignedType w) v j k = refl
  count_same CharType v j k = refl
  count_same (FlagsType labels) v j k = refl
  count_same (OwnType r) v j k = refl
  count_same (BorrowType r) v j k = refl
  count_same StringType (StringValue t) j k = refl
  count_same StringType _ j k = refl
  count_same (ListType item) (ListValue vs) j k = refl
  count_same (ListType item) _ j k = refl
  count_same (RecordType form fields) (RecordValue vs) j k = fields_same fields vs j k
  count_same (RecordType form fields) _ j k = refl
  count_same (VariantType form cases) (VariantValue n p) j k =
      let one = padded (length (flat_cases cases)) (lower_case cases n p j).flats in
      let other = padded (length (flat_cases cases)) (lower_case cases n p k).flats in
      let same = case_same cases n p j k in
      let mine : length (of_case (length (flat_cases cases)) n (lower_case cases n p j)).flats ≡ suc (length (lower_case cases n p j).flats + (length (flat_cases cases) - length (lower_case cases n p j).flats)) = one in
      mine ∙ ap (λ (i : ℕ). suc (i + (length (flat_cases cases) - i))) same ∙ sym other
  count_same (VariantType form cases) _ j k = refl

  pub fields_same : (ps : Parts) (vs : PlainValues) (j k : ℕ) → length (lower_fields ps vs j).flats ≡ length (lower_fields ps vs k).flats
  fields_same End vs j k = refl
  fields_same (Bare name rest) vs j k = fields_same rest vs j k
  fields_same (More name ty rest) NoValues j k = refl
  fields_same (More name ty rest) (Values v ws) j k =
      let head = count_same ty v j k in
      let tail = fields_same rest ws (j + requests (lower_flat ty v j).steps) (k + requests (lower_flat ty v k).steps) in
      let mine = length-append (lower_flat ty v j).flats (lower_fields rest ws (j + requests (lower_flat ty v j).steps)).flats in
      let other = length-append (lower_flat ty v k).flats (lower_fields rest ws (k + requests (lower_flat ty v k).steps)).flats in
      omega arith

  pub case_same : (ps : Parts) (n : ℕ) (p : Payload) (j k : ℕ) → length (lower_case ps n p j).flats ≡ length (lower_case ps n p k).flats
  case_same End n p j k = refl
  case_same (More name ty rest) zero Without j k = refl
  case_same (More name ty rest) zero (With v) j k = count_same ty v j k
  case_same (More name ty rest) (suc n) p j k = case_same rest n p j k
  case_same (Bare name rest) zero p j k = refl
  case_same (Bare name rest) (suc n) p j k = case_same rest n p j k

-- ---- variants

lower_case-type : (ps : Parts) (n : ℕ) (p : Payload) (k : ℕ) → lower_case ps n p k ≡ payload_flats (case_type ps n) p k
lower_case-type End n p k = refl
lower_case-type (More name ty rest) zero p k = refl
lower_case-type (More name ty rest) (suc n) p k = lower_case-type rest n p k
lower_case-type (Bare name rest) zero p k = refl
lower_case-type (Bare name rest) (suc n) p k = lower_case-type rest n p k

payload_same : (o : Option Plain) (p : Payload) (j k : ℕ) → length (payload_flats o p j).flats ≡ length (payload_flats o p k).flats
payload_same None p j k = refl
payload_same (Some ty) Without j k = refl
payload_same (Some ty) (With v) j k = count_same ty v j k

variant_one : (width n w : ℕ) (x : Lowered) → w ≡ width - length x.flats → (let l : Lowered = record { steps = x.steps ++ []; flats = Number n ∷ (x.flats ++ replicate w (Number 0)) } in l) ≡ of_case width n x
variant_one width n w x is = lowered_same _ _ _ _ (append-nil x.steps) (ap (λ (j : ℕ). Number n ∷ (x.flats ++ replicate j (Number 0))) is)

pub variant_appends : (a b c d : List Slot) (cases : Parts) (v : PlainValue) (n end : ℕ) (p : Payload) (o : Option Plain) → v ≡ VariantValue n p → Appends a b (λ k. one_number n) → length b ≡ length a + 1 → o ≡ case_type cases n →
    Appends b c (payload_flats o p) → Appends c d (zeros (end - length c)) → end ≡ length a + (length (flat_cases cases) + 1) → Appends a d (variant_flats cases v)
variant_appends a b c d cases v n end p o is first one found second third ends =
    appends_same a d (chain (chain (λ k. one_number n) (payload_flats o p)) (zeros (end - length c))) (variant_flats cases v)
    (λ k.
    let x : Lowered = payload_flats o p (k + 0) in
    let here : k + 0 ≡ k = omega arith in
    let count = appends_count b c (payload_flats o p) 0 second in
    let same = payload_same o p (0 + requests (slots_lowered b 0).steps) (k + 0) in
    let left : end - length c ≡ length (flat_cases cases) - length x.flats = omega arith in
    variant_one (length (flat_cases cases)) n (end - length c) x left
    ∙ ap (λ (j : ℕ). of_case (length (flat_cases cases)) n (payload_flats o p j)) here
    ∙ ap (λ (t : Option Plain). of_case (length (flat_cases cases)) n (payload_flats t p k)) found
    ∙ ap (λ (y : Lowered). of_case (length (flat_cases cases)) n y) (sym (lower_case-type cases n p k))
    ∙ ap (λ (u : PlainValue). variant_flats cases u k) (sym is))
    (appends_then a c d (chain (λ k. one_number n) (payload_flats o p)) (zeros (end - length c)) (appends_then a b c (λ k. one_number n) (payload_flats o p) first second) third)

-- ---- records

pub fields_more : (s t : List Slot) (ps rest : Parts) (name : Name) (ty : Plain) (before after : List Value) (v : Value) (due : ℕ → Lowered) →
    ((k : ℕ) → chain (slots_lowered s) (lower_fields ps (values_of (reverse before))) k ≡ due k) → ps ≡ More name ty rest → before ≡ after ++ v ∷ [] → Appends s t (lower_flat ty (plain_value v)) →
    (k : ℕ) → chain (slots_lowered t) (lower_fields rest (values_of (reverse after))) k ≡ due k
fields_more s t ps rest name ty before after v due so is cut p k =
    let step : (j : ℕ) → lower_fields ps (values_of (reverse before)) j ≡ chain (lower_flat ty (plain_value v)) (lower_fields rest (values_of (reverse after))) j =
    λ j. ap (λ (q : Parts). lower_fields q (values_of (reverse before)) j) is ∙ ap (λ (xs : List Value). lower_fields (More name ty rest) (values_of (reverse xs)) j) cut
    ∙ ap (λ (xs : List Value). lower_fields (More name ty rest) (values_of xs) j) (reversed v after) in
    chain-same (slots_lowered t) (chain (slots_lowered s) (lower_flat ty (plain_value v))) (lower_fields rest (values_of (reverse after))) (lower_fields rest (values_of (reverse after))) k (p.same k) (λ j. refl)
    ∙ chain-assoc (slots_lowered s) (lower_flat ty (plain_value v)) (lower_fields rest (values_of (reverse after))) k
    ∙ chain-same (slots_lowered s) (slots_lowered s) (chain (lower_flat ty (plain_value v)) (lower_fields rest (values_of (reverse after)))) (lower_fields ps (values_of (reverse before))) k refl (λ j. sym (step j)) ∙ so k

no_values : (ps : Parts) (k : ℕ) → lower_fields ps NoValues k ≡ nothing
no_values End k = refl
no_values (More name ty rest) k = refl
no_values (Bare name rest) k = no_values rest k

pub values_end : (ps : Parts) (before : List Value) (k : ℕ) → before ≡ [] → lower_fields ps (values_of (reverse before)) k ≡ nothing
values_end ps before k is = ap (λ (xs : List Value). lower_fields ps (values_of (reverse xs)) k) is ∙ no_values ps k

no_items : (xs : List Value) → length xs ≡ 0 → xs ≡ []
no_items [] is = refl
no_items (x ∷ xs) is = let some : length (x ∷ xs) ≡ 0 = is in absurd (omega arith)

pub fields_stop : (a s : List Slot) (ps all : Parts) (before first : List Value) → ((k : ℕ) → chain (slots_lowered s) (lower_fields ps (values_of (reverse before))) k ≡ chain (slots_lowered a) (lower_fields all (values_of (reverse first))) k) →
    length before ≡ 0 → Appends a s (lower_fields all (values_of (reverse first)))
fields_stop a s ps all before first so empty = record {
  same = λ k.
      sym (chain-none (slots_lowered s) k)
      ∙ chain-same (slots_lowered s) (slots_lowered s) none_left (lower_fields ps (values_of (reverse before))) k refl (λ j. sym (values_end ps before j (no_items before empty))) ∙ so k;
}

-- ---- how many flat types there are

join-left : (xs ys : List CoreType) → length xs ≤ length (join xs ys)
join-left [] ys = omega arith
join-left (x ∷ xs) [] = omega arith
join-left (x ∷ xs) (y ∷ ys) = let rest = join-left xs ys in omega arith

join-right : (xs ys : List CoreType) → length ys ≤ length (join xs ys)
join-right [] ys = omega arith
join-right (x ∷ xs) [] = omega arith
join-right (x ∷ xs) (y ∷ ys) = let rest = join-right xs ys in omega arith

pub case_flat : (ps : Parts) (n : ℕ) → length (payload_flat (case_type ps n)) ≤ length (flat_cases ps)
case_flat End n = omega arith
case_flat (More name ty rest) zero = join-left (flat ty) (flat_cases rest)
case_flat (More name ty rest) (suc n) = let one = case_flat rest n in let wide = join-right (flat ty) (flat_cases rest) in omega arith
case_flat (Bare name rest) zero = omega arith
case_flat (Bare name rest) (suc n) = case_flat rest n

pub case_few : (ps : Parts) (n : ℕ) → payload_parts (case_type ps n) ≤ all_parts ps
case_few End n = omega arith
case_few (More name ty rest) zero = omega arith
case_few (More name ty rest) (suc n) = let few = case_few rest n in omega arith
case_few (Bare name rest) zero = omega arith
case_few (Bare name rest) (suc n) = case_few rest n

within_some : (b c : Bool) (xs ys : List CoreType) → c ≡ true → (if b then Some xs else None) ≡ (if c then Some ys else None) → (b ≡ true) × (xs ≡ ys)
within_some true true xs ys t is = (refl, cc)
within_some false true xs ys t is = cc
within_some true false xs ys t is = cc
within_some false false xs ys t is = cc

pub flat_count : (f : FlatTypes) (xs : List CoreType) → types_of f ≡ within xs → length xs ≤ 16 → f.count ≡ length xs
flat_count f xs is few =
    let both_are = within_some (nat_le f.count 16) (nat_le (length xs) 16) (take f.count f.types) xs (grind (arith, nat_tests)) is in
    let least : f.count ≤ 16 = let t = both_are.0 in grind (arith, nat_tests) in
    let whole = f.whole in
    let all : length (take f.count f.types) ≡ f.count = length-take-le f.count f.types (omega arith) in
    sym all ∙ ap length both_are.1

-- ---- what a variant asks of its payload, and a record of its fields

pub variant_parts : (ty : Plain) (form : VariantForm) (cases : Parts) → ty ≡ VariantType form cases → parts ty ≡ all_parts (cases_in ty) + 1
variant_parts ty form cases is = ap parts is ∙ ap (λ (u : Plain). all_parts (cases_in u) + 1) (sym is)

pub variant_flat : (ty : Plain) (form : VariantForm) (cases : Parts) → ty ≡ VariantType form cases → length (flat ty) ≡ length (flat_cases (cases_in ty)) + 1
variant_flat ty form cases is = ap (λ (u : Plain). length (flat u)) is ∙ sym (add-one (length (flat_cases cases))) ∙ ap (λ (u : Plain). length (flat_cases (cases_in u)) + 1) (sym is)

pub payload_small : (o : Option Plain) (cases : Parts) (n : ℕ) → o ≡ case_type cases n → payload_parts o ≤ all_parts cases
payload_small o cases n is = subst (λ (p : Option Plain). payload_parts p ≤ all_parts cases) (sym is) (case_few cases n)

pub payload_short : (o : Option Plain) (cases : Parts) (n : ℕ) → o ≡ case_type cases n → length (payload_flat o) ≤ length (flat_cases cases)
payload_short o cases n is = subst (λ (p : Option Plain). length (payload_flat p) ≤ length (flat_cases cases)) (sym is) (case_flat cases n)

pub next_parts : (ps rest : Parts) (name : Name) (ty : Plain) → ps ≡ More name ty rest → all_parts ps ≡ parts ty + all_parts rest
next_parts ps rest name ty is = ap all_parts is

pub next_flat : (ps rest : Parts) (name : Name) (ty : Plain) → ps ≡ More name ty rest → length (flat_fields ps) ≡ length (flat ty) + length (flat_fields rest)
next_flat ps rest name ty is = ap (λ (p : Parts). length (flat_fields p)) is ∙ length-append (flat ty) (flat_fields rest)

pub flat_types : (f : FlatTypes) (xs : List CoreType) → types_of f ≡ within xs → length xs ≤ 16 → take f.count f.types ≡ xs
flat_types f xs is few = (within_some (nat_le f.count 16) (nat_le (length xs) 16) (take f.count f.types) xs (grind (arith, nat_tests)) is).1
