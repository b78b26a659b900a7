-- The handles of a value are those among its atoms.
use Rattle.std.proofs.Common.{◌≡◌, ℕ, zero, suc, List, [], ◌∷◌, ◌++◌, map, refl, ap, sym, ◌∙◌}
use Rattle.std.proofs.lemmas.List.{map-append}
use Rattle.wit_types.specs.Plain.{Plain, Parts, BoolType, SignedType, UnsignedType, CharType, StringType, ListType, RecordType, VariantType, FlagsType, OwnType, BorrowType, End as NoParts, More as Part, Bare}
use Rattle.wit_types.specs.PlainValue.{PlainValue, PlainValues, Payload, BoolValue, IntValue, CharValue, StringValue, ListValue, RecordValue, VariantValue, FlagsValue, HandleValue, End, More, Without, With}
use Rattle.wit_types.specs.Layout.{size}
use Rattle.abi_layout.specs.Storing.{on_list, on_record, on_variant, on_payload}
use Rattle.abi_layout.specs.Handles as abi
use Rattle.reference_step.specs.Atoms.{Atom, Text, Elements, Handle, text_atoms, handle_atoms, each_atoms, list_atoms, record_atoms, variant_atoms, payload_atoms, atoms, atoms_of, atoms_at, handles}
use Rattle.ref_guards.specs.Numbers.{seen, HandlesAgree}

abbrev Same : List Atom → List abi.Handle → Type 0
Same xs hs = handles xs ≡ map seen hs

handles_append : (a b : List Atom) → handles (a ++ b) ≡ handles a ++ handles b
handles_append [] b = refl
handles_append (Text n ∷ a) b = handles_append a b
handles_append (Elements n s ∷ a) b = handles_append a b
handles_append (Handle k i ∷ a) b = ap (λ gs. (k, i) ∷ gs) (handles_append a b)

same_append : (a b : List Atom) (g h : List abi.Handle) → Same a g → Same b h → Same (a ++ b) (g ++ h)
same_append a b g h p q = handles_append a b ∙ ap (λ xs. xs ++ handles b) p ∙ ap (λ ys. map seen g ++ ys) q ∙ sym (map-append seen g h)

no_texts : (v : PlainValue) → Same (text_atoms v) []
no_texts (BoolValue b) = refl
no_texts (IntValue n) = refl
no_texts (CharValue c) = refl
no_texts (StringValue bytes) = refl
no_texts (ListValue vs) = refl
no_texts (RecordValue vs) = refl
no_texts (VariantValue n x) = refl
no_texts (FlagsValue bits) = refl
no_texts (HandleValue id) = refl

own_same : (kind : ℕ) (v : PlainValue) → Same (handle_atoms kind v) (abi.handle_of (OwnType kind) v)
own_same kind (BoolValue b) = refl
own_same kind (IntValue n) = refl
own_same kind (CharValue c) = refl
own_same kind (StringValue bytes) = refl
own_same kind (ListValue vs) = refl
own_same kind (RecordValue vs) = refl
own_same kind (VariantValue n x) = refl
own_same kind (FlagsValue bits) = refl
own_same kind (HandleValue id) = refl

borrow_same : (kind : ℕ) (v : PlainValue) → Same (handle_atoms kind v) (abi.handle_of (BorrowType kind) v)
borrow_same kind (BoolValue b) = refl
borrow_same kind (IntValue n) = refl
borrow_same kind (CharValue c) = refl
borrow_same kind (StringValue bytes) = refl
borrow_same kind (ListValue vs) = refl
borrow_same kind (RecordValue vs) = refl
borrow_same kind (VariantValue n x) = refl
borrow_same kind (FlagsValue bits) = refl
borrow_same kind (HandleValue id) = refl

list_same : (n : ℕ) (f : PlainValue → List Atom) (g : PlainValues → List abi.Handle) → ((vs : PlainValues) → Same (each_atoms f vs) (g vs)) → (v : PlainValue) → Same (list_atoms n f v) (on_list [] g v)
list_same n f g p (BoolValue b) = refl
list_same n f g p (IntValue i) = refl
list_same n f g p (CharValue c) = refl
list_same n f g p (StringValue bytes) = refl
list_same n f g p (ListValue vs) = p vs
list_same n f g p (RecordValue vs) = refl
list_same n f g p (VariantValue i x) = refl
list_same n f g p (FlagsValue bits) = refl
list_same n f g p (HandleValue id) = refl

record_same : (f : PlainValues → List Atom) (g : PlainValues → List abi.Handle) → ((vs : PlainValues) → Same (f vs) (g vs)) → (v : PlainValue) → Same (record_atoms f v) (on_record [] g v)
record_same f g p (BoolValue b) = refl
record_same f g p (IntValue i) = refl
record_same f g p (CharValue c) = refl
record_same f g p (StringValue bytes) = refl
record_same f g p (ListValue vs) = refl
record_same f g p (RecordValue vs) = p vs
record_same f g p (VariantValue i x) = refl
record_same f g p (FlagsValue bits) = refl
record_same f g p (HandleValue id) = refl

variant_same : (f : ℕ → Payload → List Atom) (g : ℕ → Payload → List abi.Handle) → ((n : ℕ) (x : Payload) → Same (f n x) (g n x)) → (v : PlainValue) → Same (variant_atoms f v) (on_variant [] g v)
variant_same f g p (BoolValue b) = refl
variant_same f g p (IntValue i) = refl
variant_same f g p (CharValue c) = refl
variant_same f g p (StringValue bytes) = refl
variant_same f g p (ListValue vs) = refl
variant_same f g p (RecordValue vs) = refl
variant_same f g p (VariantValue n x) = p n x
variant_same f g p (FlagsValue bits) = refl
variant_same f g p (HandleValue id) = refl

each_same : (f : PlainValue → List Atom) (g : PlainValue → List abi.Handle) → ((v : PlainValue) → Same (f v) (g v)) → (vs : PlainValues) → Same (each_atoms f vs) (abi.item_handles g vs)
each_same f g p End = refl
each_same f g p (More v vs) = same_append (f v) (each_atoms f vs) (g v) (abi.item_handles g vs) (p v) (each_same f g p vs)

payload_same : (f : PlainValue → List Atom) (g : PlainValue → List abi.Handle) → ((v : PlainValue) → Same (f v) (g v)) → (x : Payload) → Same (payload_atoms f x) (on_payload [] g x)
payload_same f g p Without = refl
payload_same f g p (With v) = p v

mutual
  same_handles : (ty : Plain) (v : PlainValue) → Same (atoms ty v) (abi.handles ty v)
  same_handles BoolType v = refl
  same_handles (SignedType width) v = refl
  same_handles (UnsignedType width) v = refl
  same_handles CharType v = refl
  same_handles StringType v = no_texts v
  same_handles (ListType item) v = list_same (size item) (λ x. atoms item x) (λ vs. abi.item_handles (λ x. abi.handles item x) vs) (λ vs. each_same (λ x. atoms item x) (λ x. abi.handles item x) (λ x. same_handles item x) vs) v
  same_handles (RecordType form fields) v = record_same (λ xs. atoms_of fields xs) (λ xs. abi.field_handles fields xs) (λ xs. same_fields fields xs) v
  same_handles (VariantType form cases) v = variant_same (λ n x. atoms_at cases n x) (λ n x. abi.case_handles cases n x) (λ n x. same_cases cases n x) v
  same_handles (FlagsType labels) v = refl
  same_handles (OwnType kind) v = own_same kind v
  same_handles (BorrowType kind) v = borrow_same kind v

  pub same_fields : (fields : Parts) (xs : PlainValues) → Same (atoms_of fields xs) (abi.field_handles fields xs)
  same_fields NoParts xs = refl
  same_fields (Part name ty rest) End = refl
  same_fields (Part name ty rest) (More v vs) = same_append (atoms ty v) (atoms_of rest vs) (abi.handles ty v) (abi.field_handles rest vs) (same_handles ty v) (same_fields rest vs)
  same_fields (Bare name rest) xs = same_fields rest xs

  same_cases : (cases : Parts) (n : ℕ) (x : Payload) → Same (atoms_at cases n x) (abi.case_handles cases n x)
  same_cases NoParts n x = refl
  same_cases (Part name ty rest) zero x = payload_same (λ v. atoms ty v) (λ v. abi.handles ty v) (λ v. same_handles ty v) x
  same_cases (Part name ty rest) (suc n) x = same_cases rest n x
  same_cases (Bare name rest) zero x = refl
  same_cases (Bare name rest) (suc n) x = same_cases rest n x

pub handles_agree : HandlesAgree
handles_agree ty v = same_handles ty v
