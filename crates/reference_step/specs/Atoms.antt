-- The texts, lists and handles of a value, in the value's order.
use Rattle.std.specs.Prelude.{ℕ, zero, suc, ◌+◌, ◌*◌, List, [], ◌∷◌, ◌++◌, length, Option, Some, None}
use Rattle.wit_types.specs.Plain.{Plain, Parts, BoolType, SignedType, UnsignedType, CharType, StringType, ListType, RecordType, VariantType, FlagsType, OwnType, BorrowType, End as NoParts, More as Part, Bare}
use Rattle.wit_types.specs.PlainValue.{PlainValue, PlainValues, Payload, StringValue, ListValue, RecordValue, VariantValue, HandleValue, End, More, Without, With}
use Rattle.wit_types.specs.Layout.{size, align_to}

pub data Atom : Type 0 where
  -- a text of that many bytes
  Text : (bytes : ℕ) → Atom
  -- a list of that many elements of a size
  Elements : (count : ℕ) → (size : ℕ) → Atom
  -- a handle of a kind
  Handle : (kind : ℕ) → (id : ℕ) → Atom

abbrev pub count : PlainValues → ℕ
count End = 0
count (More _ vs) = count vs + 1

abbrev pub text_atoms : PlainValue → List Atom
text_atoms (StringValue bytes) = Text (length bytes) ∷ []
text_atoms _ = []

abbrev pub handle_atoms : ℕ → PlainValue → List Atom
handle_atoms kind (HandleValue id) = Handle kind id ∷ []
handle_atoms kind _ = []

abbrev pub each_atoms : (PlainValue → List Atom) → PlainValues → List Atom
each_atoms in_each End = []
each_atoms in_each (More v vs) = in_each v ++ each_atoms in_each vs

abbrev pub list_atoms : ℕ → (PlainValue → List Atom) → PlainValue → List Atom
list_atoms element in_each (ListValue vs) = Elements (count vs) element ∷ each_atoms in_each vs
list_atoms element in_each _ = []

abbrev pub record_atoms : (PlainValues → List Atom) → PlainValue → List Atom
record_atoms in_fields (RecordValue vs) = in_fields vs
record_atoms in_fields _ = []

abbrev pub first_atoms : (PlainValue → List Atom) → (PlainValues → List Atom) → PlainValues → List Atom
first_atoms in_first in_rest End = []
first_atoms in_first in_rest (More v vs) = in_first v ++ in_rest vs

abbrev pub variant_atoms : (ℕ → Payload → List Atom) → PlainValue → List Atom
variant_atoms in_case (VariantValue number payload) = in_case number payload
variant_atoms in_case _ = []

abbrev pub payload_atoms : (PlainValue → List Atom) → Payload → List Atom
payload_atoms in_value Without = []
payload_atoms in_value (With v) = in_value v

abbrev pub case_atoms : (Payload → List Atom) → (ℕ → Payload → List Atom) → ℕ → Payload → List Atom
case_atoms this later zero payload = this payload
case_atoms this later (suc n) payload = later n payload

abbrev mutual
  -- those of a value of a type
  pub atoms : Plain → PlainValue → List Atom
  atoms BoolType v = []
  atoms (SignedType width) v = []
  atoms (UnsignedType width) v = []
  atoms CharType v = []
  atoms StringType v = text_atoms v
  atoms (ListType item) v = list_atoms (size item) (λ x. atoms item x) v
  atoms (RecordType _ fields) v = record_atoms (λ xs. atoms_of fields xs) v
  atoms (VariantType _ cases) v = variant_atoms (λ n x. atoms_at cases n x) v
  atoms (FlagsType labels) v = []
  atoms (OwnType kind) v = handle_atoms kind v
  atoms (BorrowType kind) v = handle_atoms kind v

  pub atoms_of : Parts → PlainValues → List Atom
  atoms_of NoParts xs = []
  atoms_of (Part _ ty fields) xs = first_atoms (λ x. atoms ty x) (λ ys. atoms_of fields ys) xs
  atoms_of (Bare _ fields) xs = atoms_of fields xs

  pub atoms_at : Parts → ℕ → Payload → List Atom
  atoms_at NoParts n x = []
  atoms_at (Part _ ty cases) n x = case_atoms (λ y. payload_atoms (λ v. atoms ty v) y) (λ m y. atoms_at cases m y) n x
  atoms_at (Bare _ cases) n x = case_atoms (λ y. []) (λ m y. atoms_at cases m y) n x

-- of an answer, where the call has a result
abbrev pub result_atoms : Option Plain → Option PlainValue → List Atom
result_atoms (Some ty) (Some v) = atoms ty v
result_atoms (Some ty) None = []
result_atoms None v = []

-- ---- weight

abbrev pub atom_weight : Atom → ℕ
atom_weight (Text bytes) = align_to bytes 8
atom_weight (Elements n size) = align_to (n * size) 8
atom_weight (Handle kind id) = 0

-- the bytes of texts and lists in memory, each rounded up to 8
abbrev pub weight : List Atom → ℕ
weight [] = 0
weight (a ∷ rest) = atom_weight a + weight rest

-- ---- handles

-- a handle: the number of its kind, and its own
abbrev pub handle_in : Atom → List (ℕ × ℕ)
handle_in (Text bytes) = []
handle_in (Elements n size) = []
handle_in (Handle kind id) = (kind, id) ∷ []

abbrev pub handles : List Atom → List (ℕ × ℕ)
handles [] = []
handles (a ∷ rest) = handle_in a ++ handles rest

-- ---- the same value with other numbers of handles, which are given in order

abbrev pub new_handle : PlainValue → List ℕ → PlainValue × List ℕ
new_handle (HandleValue id) (new ∷ rest) = (HandleValue new, rest)
new_handle (HandleValue id) [] = (HandleValue id, [])
new_handle v ids = (v, ids)

abbrev pub behind_first : PlainValue × List ℕ → (List ℕ → PlainValues × List ℕ) → PlainValues × List ℕ
behind_first (v, ids) go = let rest = go ids in (More v rest.0, rest.1)

abbrev pub new_each : (PlainValue → List ℕ → PlainValue × List ℕ) → PlainValues → List ℕ → PlainValues × List ℕ
new_each go End ids = (End, ids)
new_each go (More v vs) ids = behind_first (go v ids) (λ rest. new_each go vs rest)

abbrev pub as_list : PlainValues × List ℕ → PlainValue × List ℕ
as_list (vs, ids) = (ListValue vs, ids)

abbrev pub new_list : (PlainValue → List ℕ → PlainValue × List ℕ) → PlainValue → List ℕ → PlainValue × List ℕ
new_list go (ListValue vs) ids = as_list (new_each go vs ids)
new_list go v ids = (v, ids)

abbrev pub as_record : PlainValues × List ℕ → PlainValue × List ℕ
as_record (vs, ids) = (RecordValue vs, ids)

abbrev pub new_record : (PlainValues → List ℕ → PlainValues × List ℕ) → PlainValue → List ℕ → PlainValue × List ℕ
new_record go (RecordValue vs) ids = as_record (go vs ids)
new_record go v ids = (v, ids)

abbrev pub new_first : (PlainValue → List ℕ → PlainValue × List ℕ) → (PlainValues → List ℕ → PlainValues × List ℕ) → PlainValues → List ℕ → PlainValues × List ℕ
new_first first rest End ids = (End, ids)
new_first first rest (More v vs) ids = behind_first (first v ids) (λ left. rest vs left)

abbrev pub as_case : ℕ → Payload × List ℕ → PlainValue × List ℕ
as_case n (payload, ids) = (VariantValue n payload, ids)

abbrev pub new_variant : (ℕ → Payload → List ℕ → Payload × List ℕ) → PlainValue → List ℕ → PlainValue × List ℕ
new_variant go (VariantValue n payload) ids = as_case n (go n payload ids)
new_variant go v ids = (v, ids)

abbrev pub as_payload : PlainValue × List ℕ → Payload × List ℕ
as_payload (v, ids) = (With v, ids)

abbrev pub new_payload : (PlainValue → List ℕ → PlainValue × List ℕ) → Payload → List ℕ → Payload × List ℕ
new_payload go Without ids = (Without, ids)
new_payload go (With v) ids = as_payload (go v ids)

abbrev pub new_case : (Payload → List ℕ → Payload × List ℕ) → (ℕ → Payload → List ℕ → Payload × List ℕ) → ℕ → Payload → List ℕ → Payload × List ℕ
new_case this later zero payload ids = this payload ids
new_case this later (suc n) payload ids = later n payload ids

abbrev mutual
  -- the value of a type, and the numbers that are left
  pub renumbered : Plain → PlainValue → List ℕ → PlainValue × List ℕ
  renumbered BoolType v ids = (v, ids)
  renumbered (SignedType width) v ids = (v, ids)
  renumbered (UnsignedType width) v ids = (v, ids)
  renumbered CharType v ids = (v, ids)
  renumbered StringType v ids = (v, ids)
  renumbered (ListType item) v ids = new_list (λ x is. renumbered item x is) v ids
  renumbered (RecordType _ fields) v ids = new_record (λ xs is. renumbered_of fields xs is) v ids
  renumbered (VariantType _ cases) v ids = new_variant (λ n x is. renumbered_at cases n x is) v ids
  renumbered (FlagsType labels) v ids = (v, ids)
  renumbered (OwnType kind) v ids = new_handle v ids
  renumbered (BorrowType kind) v ids = new_handle v ids

  pub renumbered_of : Parts → PlainValues → List ℕ → PlainValues × List ℕ
  renumbered_of NoParts xs ids = (xs, ids)
  renumbered_of (Part _ ty fields) xs ids = new_first (λ x is. renumbered ty x is) (λ ys is. renumbered_of fields ys is) xs ids
  renumbered_of (Bare _ fields) xs ids = renumbered_of fields xs ids

  pub renumbered_at : Parts → ℕ → Payload → List ℕ → Payload × List ℕ
  renumbered_at NoParts n x ids = (x, ids)
  renumbered_at (Part _ ty cases) n x ids = new_case (λ y is. new_payload (λ v js. renumbered ty v js) y is) (λ m y is. renumbered_at cases m y is) n x ids
  renumbered_at (Bare _ cases) n x ids = new_case (λ y is. (y, is)) (λ m y is. renumbered_at cases m y is) n x ids

-- of an answer, where the call has a result
abbrev pub renumbered_result : Option Plain → Option PlainValue → List ℕ → Option PlainValue
renumbered_result (Some ty) (Some v) ids = Some (renumbered ty v ids).0
renumbered_result (Some ty) None ids = None
renumbered_result None v ids = v
