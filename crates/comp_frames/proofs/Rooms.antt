-- What is stored stays within the room that was asked for it.
use Rattle.std.proofs.Common.{◌≡◌, ℕ, zero, suc, ◌+◌, ◌*◌, ◌^◌, ◌<◌, ◌≤◌, Bool, true, false, List, [], ◌∷◌, ◌++◌, length, Option, Some, None, refl, sym, ap, subst, ◌∙◌, arith, append_assoc, append-nil, length-append}
use Rattle.std.specs.Prelude.{slice_index, nat_le, nat_lt, if◌then◌else◌, max}
use Rattle.std.proofs.Math.ListN.{get_or-append}
use Rattle.std.proofs.Math.Seq.{get_or-append_seam}
use Rattle.core_memory.specs.Number.{bytes_of}
use Rattle.core_memory.proofs.Memories.{length_bytes_of}
use Rattle.wit_types.specs.Plain.{Plain, Parts, BoolType, SignedType, UnsignedType, CharType, StringType, ListType, RecordType, VariantType, FlagsType, OwnType, BorrowType, End, More, Bare}
use Rattle.wit_types.specs.PlainValue.{PlainValue, PlainValues, Payload, StringValue, ListValue, RecordValue, VariantValue, End as NoValues, More as Values, Without, With}
use Rattle.wit_types.specs.Layout.{alignment, greatest_alignment, discriminant_size, align_to, count, size, variant_size, end_of, greatest_size}
use Rattle.abi_layout.proofs.LayoutLemmas.{alignment_bounds, greatest_alignment_least, discriminant_bounds}
use Rattle.abi_layout.specs.Numbers.{is_number}
use Rattle.abi_layout.specs.Loading.{payload_offset}
use Rattle.abi_layout.specs.Storing.{Base, Target, Answer, Step, Ask, Write, Place, Refuse, requests, number_bytes, run_bytes, string_steps, item_steps, list_steps, place_and_length, count_values, stores_at, field_steps, case_steps, lower_flat, lower_fields, lower_case}
use Rattle.comp_frames.specs.Within.{InRoom, StayWithin}

-- ---- rooms

-- the lengths that are asked for
abbrev pub asked : List Step → List ℕ
asked [] = []
asked (Ask align len ∷ steps) = len ∷ asked steps
asked (Write base offset bytes ∷ steps) = asked steps
asked (Place base offset request ∷ steps) = asked steps
asked (Refuse ∷ steps) = asked steps

length_asked : (xs : List Step) → length (asked xs) ≡ requests xs
length_asked [] = refl
length_asked (Ask align len ∷ xs) = let h = length_asked xs in omega arith
length_asked (Write base offset bytes ∷ xs) = length_asked xs
length_asked (Place base offset request ∷ xs) = length_asked xs
length_asked (Refuse ∷ xs) = length_asked xs

pub as_many : (rooms : List ℕ) (k : ℕ) (xs : List Step) → length rooms ≡ k → length (rooms ++ asked xs) ≡ k + requests xs
as_many rooms k xs is = length-append rooms (asked xs) ∙ ap (λ n. n + length (asked xs)) is ∙ ap (λ n. k + n) (length_asked xs)

-- an end that comes sooner, and rooms that are asked for later
pub sooner : (memory : Option ℕ) (rooms : List ℕ) (b : Base) (end sooner : ℕ) → sooner ≤ end → InRoom memory rooms b end → InRoom memory rooms b sooner
sooner None rooms Target end less le h = h
sooner (Some m) rooms Target end less le h = omega arith
sooner None rooms (Answer k) end less le h = (h.0, omega (arith, h.1))
sooner (Some m) rooms (Answer k) end less le h = (h.0, omega (arith, h.1))

answer_later : (rooms more : List ℕ) (k end : ℕ) → k < length rooms → end ≤ slice_index rooms k → (k < length (rooms ++ more)) × (end ≤ slice_index (rooms ++ more) k)
answer_later rooms more k end lt le =
    let longer = length-append rooms more in
    (omega arith, subst (λ n. end ≤ n) (sym (get_or-append rooms more 0 k lt)) le)

pub later : (memory : Option ℕ) (rooms more : List ℕ) (b : Base) (end : ℕ) → InRoom memory rooms b end → InRoom memory (rooms ++ more) b end
later None rooms more Target end h = h
later (Some m) rooms more Target end h = h
later None rooms more (Answer k) end h = answer_later rooms more k end h.0 h.1
later (Some m) rooms more (Answer k) end h = answer_later rooms more k end h.0 h.1

newest_here : (rooms : List ℕ) (len end : ℕ) → end ≤ len → (length rooms < length (rooms ++ len ∷ [])) × (end ≤ slice_index (rooms ++ len ∷ []) (length rooms))
newest_here rooms len end le =
    let longer = length-append rooms (len ∷ []) in
    (omega arith, subst (λ n. end ≤ n) (sym (get_or-append_seam rooms len [] 0)) le)

-- the room that was asked for last
pub newest : (memory : Option ℕ) (rooms : List ℕ) (k len end : ℕ) → length rooms ≡ k → end ≤ len → InRoom memory (rooms ++ len ∷ []) (Answer k) end
newest memory rooms k len end is le = subst (λ n. InRoom memory (rooms ++ len ∷ []) (Answer n) end) is (at memory)
  where
    at : (m : Option ℕ) → InRoom m (rooms ++ len ∷ []) (Answer (length rooms)) end
    at None = newest_here rooms len end le
    at (Some m) = newest_here rooms len end le

-- one after the other
pub both_within : (memory : Option ℕ) (rooms : List ℕ) (xs ys : List Step) → StayWithin memory rooms xs → StayWithin memory (rooms ++ asked xs) ys → StayWithin memory rooms (xs ++ ys)
both_within memory rooms [] ys h k = subst (λ r. StayWithin memory r ys) (append-nil rooms) k
both_within memory rooms (Ask align len ∷ xs) ys h k = both_within memory (rooms ++ len ∷ []) xs ys h (subst (λ r. StayWithin memory r ys) (sym (append_assoc rooms (len ∷ []) (asked xs))) k)
both_within memory rooms (Write base offset bytes ∷ xs) ys h k = (h.0, both_within memory rooms xs ys h.1 k)
both_within memory rooms (Place base offset request ∷ xs) ys h k = (h.0, h.1, both_within memory rooms xs ys h.2 k)
both_within memory rooms (Refuse ∷ xs) ys h k = tt

-- ---- sizes

align_least : (at by : ℕ) → 1 ≤ by → at ≤ align_to at by
align_least at by h = grind arith

field_later : (offset by n : ℕ) → 1 ≤ by → offset ≤ align_to offset by + n
field_later offset by n h = let e = align_least offset by h in omega arith

end_later : (ps : Parts) (offset : ℕ) → offset ≤ end_of ps offset
end_later End offset = omega arith
end_later (More name ty rest) offset =
    let next = end_later rest (align_to offset (alignment ty) + size ty) in
    let here = field_later offset (alignment ty) (size ty) (alignment_bounds ty).least in
    omega arith
end_later (Bare name rest) offset = end_later rest offset

max_left : (m n : ℕ) → m ≤ max m n
max_left m n = omega arith

payload_fits : (d a s : ℕ) → 1 ≤ max d a → align_to d a + s ≤ variant_size d a s
payload_fits d a s h = align_least (align_to d a + s) (max d a) h

discriminant_fits : (d a s : ℕ) → 1 ≤ d → 1 ≤ a → d ≤ variant_size d a s
discriminant_fits d a s hd ha =
    let e = align_least d a ha in
    let f = payload_fits d a s (let g = max_left d a in omega arith) in
    omega arith

length_run : (width : ℕ) (vs : PlainValues) → length (run_bytes width vs) ≡ count_values vs * width
length_run width NoValues = omega arith
length_run width (Values v vs) =
    let rest = length_run width vs in
    let here : length (number_bytes width v) ≡ width = length_bytes_of width _ in
    let both = length-append (number_bytes width v) (run_bytes width vs) in
    grind arith

-- ---- values

number_within : (memory : Option ℕ) (rooms : List ℕ) (b : Base) (at width : ℕ) (v : PlainValue) → InRoom memory rooms b (at + width) → StayWithin memory rooms (Write b at (number_bytes width v) ∷ [])
number_within memory rooms b at width v h = (subst (λ n. InRoom memory rooms b (at + n)) (sym (length_bytes_of width _)) h, tt)

cell_within : (memory : Option ℕ) (rooms : List ℕ) (b : Base) (at k len : ℕ) → k < length rooms → InRoom memory rooms b (at + 8) → StayWithin memory rooms (place_and_length b at k len)
cell_within memory rooms b at k len lt h = (
  sooner memory rooms b (at + 8) (at + 4) (omega arith) h,
  lt,
  (sooner memory rooms b (at + 8) (at + 4 + length (bytes_of 4 len)) (let e = length_bytes_of 4 len in omega arith) h, tt),
)

one_more : (rooms : List ℕ) (k len : ℕ) → length rooms ≡ k → k < length (rooms ++ len ∷ [])
one_more rooms k len is = let longer = length-append rooms (len ∷ []) in omega arith

string_within : (memory : Option ℕ) (rooms : List ℕ) (bytes : List ℕ) (k : ℕ) (rest : List Step) → length rooms ≡ k → StayWithin memory (rooms ++ length bytes ∷ []) rest → StayWithin memory rooms (string_steps bytes k ++ rest)
string_within memory rooms bytes k rest is h = at (nat_le (length bytes) 2147483647)
  where
    at : (c : Bool) → StayWithin memory rooms ((if c then Ask 1 (length bytes) ∷ Write (Answer k) 0 bytes ∷ [] else Refuse ∷ []) ++ rest)
    at true = (newest memory rooms k (length bytes) (0 + length bytes) is (omega arith), h)
    at false = tt

items_within : (memory : Option ℕ) (store : PlainValue → Base → ℕ → ℕ → List Step) (width : ℕ) →
    ((rooms : List ℕ) (v : PlainValue) (b : Base) (at k : ℕ) → length rooms ≡ k → InRoom memory rooms b (at + width) → StayWithin memory rooms (store v b at k)) →
    (rooms : List ℕ) (vs : PlainValues) (b : Base) (at k : ℕ) → length rooms ≡ k → InRoom memory rooms b (at + count_values vs * width) → StayWithin memory rooms (item_steps store width vs b at k)
items_within memory store width each rooms NoValues b at k is h = tt
items_within memory store width each rooms (Values v vs) b at k is h =
    let first : InRoom memory rooms b (at + width) = sooner memory rooms b (at + (count_values vs + 1) * width) (at + width) (grind arith) h in
    let same : at + (count_values vs + 1) * width ≡ at + width + count_values vs * width = grind arith in
    let others : InRoom memory rooms b (at + width + count_values vs * width) = subst (InRoom memory rooms b) same h in
    both_within memory rooms (store v b at k) (item_steps store width vs b (at + width) (k + requests (store v b at k))) (each rooms v b at k is first)
    (items_within memory store width each (rooms ++ asked (store v b at k)) vs b (at + width) (k + requests (store v b at k)) (as_many rooms k (store v b at k) is) (later memory rooms (asked (store v b at k)) b _ others))

-- after the request of a list
list_items : (memory : Option ℕ) (store : PlainValue → Base → ℕ → ℕ → List Step) (item : Plain) →
    ((rooms : List ℕ) (v : PlainValue) (b : Base) (at k : ℕ) → length rooms ≡ k → InRoom memory rooms b (at + size item) → StayWithin memory rooms (store v b at k)) →
    (rooms : List ℕ) (vs : PlainValues) (k : ℕ) (rest : List Step) → length rooms ≡ k → ((more : List ℕ) → StayWithin memory ((rooms ++ count_values vs * size item ∷ []) ++ more) rest) → (c : Bool) →
    StayWithin memory (rooms ++ count_values vs * size item ∷ []) ((if c then Write (Answer k) 0 (run_bytes (size item) vs) ∷ [] else item_steps store (size item) vs (Answer k) 0 (k + 1)) ++ rest)
list_items memory store item each rooms vs k rest is h true =
    let len : ℕ = count_values vs * size item in
    (newest memory rooms k len (0 + length (run_bytes (size item) vs)) is (let e = length_run (size item) vs in omega arith), subst (λ r. StayWithin memory r rest) (append-nil (rooms ++ len ∷ [])) (h []))
list_items memory store item each rooms vs k rest is h false =
    let len : ℕ = count_values vs * size item in
    let steps : List Step = item_steps store (size item) vs (Answer k) 0 (k + 1) in
    both_within memory (rooms ++ len ∷ []) steps rest
    (items_within memory store (size item) each (rooms ++ len ∷ []) vs (Answer k) 0 (k + 1) (let longer = length-append rooms (len ∷ []) in omega arith) (newest memory rooms k len (0 + count_values vs * size item) is (omega arith)))
    (h (asked steps))

list_within : (memory : Option ℕ) (store : PlainValue → Base → ℕ → ℕ → List Step) (item : Plain) →
    ((rooms : List ℕ) (v : PlainValue) (b : Base) (at k : ℕ) → length rooms ≡ k → InRoom memory rooms b (at + size item) → StayWithin memory rooms (store v b at k)) →
    (rooms : List ℕ) (vs : PlainValues) (k : ℕ) (rest : List Step) → length rooms ≡ k → ((more : List ℕ) → StayWithin memory ((rooms ++ count_values vs * size item ∷ []) ++ more) rest) →
    StayWithin memory rooms (list_steps store item vs k ++ rest)
list_within memory store item each rooms vs k rest is h = at (nat_lt (count_values vs * size item) (2 ^ 32))
  where
    at : (c : Bool) →
        StayWithin memory rooms
        ((if c then Ask (alignment item) (count_values vs * size item) ∷ (if is_number item then Write (Answer k) 0 (run_bytes (size item) vs) ∷ [] else item_steps store (size item) vs (Answer k) 0 (k + 1)) else Refuse ∷ []) ++ rest)
    at true = list_items memory store item each rooms vs k rest is h (is_number item)
    at false = tt

-- the place of a list, after it
list_cell : (memory : Option ℕ) (rooms : List ℕ) (b : Base) (at k len n : ℕ) → length rooms ≡ k → InRoom memory rooms b (at + 8) → (more : List ℕ) → StayWithin memory ((rooms ++ len ∷ []) ++ more) (place_and_length b at k n)
list_cell memory rooms b at k len n is h more =
    cell_within memory ((rooms ++ len ∷ []) ++ more) b at k n (let longer = length-append (rooms ++ len ∷ []) more in let one = one_more rooms k len is in omega arith)
    (later memory (rooms ++ len ∷ []) more b (at + 8) (later memory rooms (len ∷ []) b (at + 8) h))

mutual
  pub stays_within : (memory : Option ℕ) (ty : Plain) (rooms : List ℕ) (v : PlainValue) (b : Base) (at k : ℕ) → length rooms ≡ k → InRoom memory rooms b (at + size ty) → StayWithin memory rooms (stores_at ty v b at k)
  stays_within memory BoolType rooms v b at k is h = number_within memory rooms b at 1 v h
  stays_within memory (SignedType w) rooms v b at k is h = number_within memory rooms b at (size (SignedType w)) v h
  stays_within memory (UnsignedType w) rooms v b at k is h = number_within memory rooms b at (size (UnsignedType w)) v h
  stays_within memory CharType rooms v b at k is h = number_within memory rooms b at 4 v h
  stays_within memory (FlagsType labels) rooms v b at k is h = number_within memory rooms b at (size (FlagsType labels)) v h
  stays_within memory (OwnType r) rooms v b at k is h = number_within memory rooms b at 4 v h
  stays_within memory (BorrowType r) rooms v b at k is h = number_within memory rooms b at 4 v h
  stays_within memory StringType rooms (StringValue bytes) b at k is h =
      string_within memory rooms bytes k (place_and_length b at k (length bytes)) is (cell_within memory (rooms ++ length bytes ∷ []) b at k (length bytes) (one_more rooms k (length bytes) is) (later memory rooms (length bytes ∷ []) b (at + 8) h))
  stays_within memory StringType rooms _ b at k is h = tt
  stays_within memory (ListType item) rooms (ListValue vs) b at k is h =
      list_within memory (λ x c p j. stores_at item x c p j) item (λ rs x c p j. stays_within memory item rs x c p j) rooms vs k (place_and_length b at k (count_values vs)) is (list_cell memory rooms b at k (count_values vs * size item) (count_values vs) is h)
  stays_within memory (ListType item) rooms _ b at k is h = tt
  stays_within memory (RecordType form fields) rooms (RecordValue vs) b at k is h =
      fields_within memory fields rooms vs b at 0 k is (sooner memory rooms b (at + size (RecordType form fields)) (at + end_of fields 0) (let e = align_least (end_of fields 0) (greatest_alignment fields) (greatest_alignment_least fields) in omega arith) h)
  stays_within memory (RecordType form fields) rooms _ b at k is h = tt
  stays_within memory (VariantType form cases) rooms (VariantValue n payload) b at k is h =
      let d : ℕ = discriminant_size (count cases) in
      let a : ℕ = greatest_alignment cases in
      let s : ℕ = greatest_size cases in
      let first = discriminant_fits d a s (discriminant_bounds (count cases)).least (greatest_alignment_least cases) in
      let second = payload_fits d a s (let g = max_left d a in let l = (discriminant_bounds (count cases)).least in omega arith) in (
        sooner memory rooms b (at + variant_size d a s) (at + length (bytes_of d n)) (let e = length_bytes_of d n in omega arith) h,
        case_within memory cases rooms n payload b (at + payload_offset cases) k is (sooner memory rooms b (at + variant_size d a s) (at + payload_offset cases + s) (omega arith) h),
      )
  stays_within memory (VariantType form cases) rooms _ b at k is h = tt

  pub fields_within : (memory : Option ℕ) (ps : Parts) (rooms : List ℕ) (vs : PlainValues) (b : Base) (at offset k : ℕ) → length rooms ≡ k → InRoom memory rooms b (at + end_of ps offset) → StayWithin memory rooms (field_steps ps vs b at offset k)
  fields_within memory End rooms vs b at offset k is h = tt
  fields_within memory (Bare name rest) rooms vs b at offset k is h = fields_within memory rest rooms vs b at offset k is h
  fields_within memory (More name ty rest) rooms NoValues b at offset k is h = tt
  fields_within memory (More name ty rest) rooms (Values v ws) b at offset k is h =
      let start : ℕ = align_to offset (alignment ty) in
      let steps : List Step = stores_at ty v b (at + start) k in
      let last = end_later rest (start + size ty) in
      both_within memory rooms steps (field_steps rest ws b at (start + size ty) (k + requests steps))
      (stays_within memory ty rooms v b (at + start) k is (sooner memory rooms b (at + end_of rest (start + size ty)) (at + start + size ty) (omega arith) h))
      (fields_within memory rest (rooms ++ asked steps) ws b at (start + size ty) (k + requests steps) (as_many rooms k steps is) (later memory rooms (asked steps) b (at + end_of rest (start + size ty)) h))

  pub case_within : (memory : Option ℕ) (ps : Parts) (rooms : List ℕ) (n : ℕ) (payload : Payload) (b : Base) (at k : ℕ) → length rooms ≡ k → InRoom memory rooms b (at + greatest_size ps) → StayWithin memory rooms (case_steps ps n payload b at k)
  case_within memory End rooms n payload b at k is h = tt
  case_within memory (More name ty rest) rooms zero Without b at k is h = tt
  case_within memory (More name ty rest) rooms zero (With v) b at k is h =
      stays_within memory ty rooms v b at k is (sooner memory rooms b (at + max (size ty) (greatest_size rest)) (at + size ty) (omega arith) h)
  case_within memory (More name ty rest) rooms (suc n) payload b at k is h =
      case_within memory rest rooms n payload b at k is (sooner memory rooms b (at + max (size ty) (greatest_size rest)) (at + greatest_size rest) (omega arith) h)
  case_within memory (Bare name rest) rooms zero payload b at k is h = tt
  case_within memory (Bare name rest) rooms (suc n) payload b at k is h = case_within memory rest rooms n payload b at k is h

-- ---- flat values: nothing is written to a place of the caller's

text_alone : (memory : Option ℕ) (rooms : List ℕ) (bytes : List ℕ) (k : ℕ) → length rooms ≡ k → StayWithin memory rooms (string_steps bytes k)
text_alone memory rooms bytes k is = subst (StayWithin memory rooms) (append-nil (string_steps bytes k)) (string_within memory rooms bytes k [] is tt)

mutual
  pub flat_within : (memory : Option ℕ) (ty : Plain) (rooms : List ℕ) (v : PlainValue) (k : ℕ) → length rooms ≡ k → StayWithin memory rooms (lower_flat ty v k).steps
  flat_within memory BoolType rooms v k is = tt
  flat_within memory (SignedType w) rooms v k is = tt
  flat_within memory (UnsignedType w) rooms v k is = tt
  flat_within memory CharType rooms v k is = tt
  flat_within memory (FlagsType labels) rooms v k is = tt
  flat_within memory (OwnType r) rooms v k is = tt
  flat_within memory (BorrowType r) rooms v k is = tt
  flat_within memory StringType rooms (StringValue bytes) k is = text_alone memory rooms bytes k is
  flat_within memory StringType rooms _ k is = tt
  flat_within memory (ListType item) rooms (ListValue vs) k is =
      subst (StayWithin memory rooms) (append-nil (list_steps (λ x c p j. stores_at item x c p j) item vs k))
      (list_within memory (λ x c p j. stores_at item x c p j) item (λ rs x c p j. stays_within memory item rs x c p j) rooms vs k [] is (λ more. tt))
  flat_within memory (ListType item) rooms _ k is = tt
  flat_within memory (RecordType form fields) rooms (RecordValue vs) k is = flat_fields_within memory fields rooms vs k is
  flat_within memory (RecordType form fields) rooms _ k is = tt
  flat_within memory (VariantType form cases) rooms (VariantValue n payload) k is = flat_case_within memory cases rooms n payload k is
  flat_within memory (VariantType form cases) rooms _ k is = tt

  flat_fields_within : (memory : Option ℕ) (ps : Parts) (rooms : List ℕ) (vs : PlainValues) (k : ℕ) → length rooms ≡ k → StayWithin memory rooms (lower_fields ps vs k).steps
  flat_fields_within memory End rooms vs k is = tt
  flat_fields_within memory (Bare name rest) rooms vs k is = flat_fields_within memory rest rooms vs k is
  flat_fields_within memory (More name ty rest) rooms NoValues k is = tt
  flat_fields_within memory (More name ty rest) rooms (Values v ws) k is =
      let steps : List Step = (lower_flat ty v k).steps in
      both_within memory rooms steps (lower_fields rest ws (k + requests steps)).steps (flat_within memory ty rooms v k is) (flat_fields_within memory rest (rooms ++ asked steps) ws (k + requests steps) (as_many rooms k steps is))

  flat_case_within : (memory : Option ℕ) (ps : Parts) (rooms : List ℕ) (n : ℕ) (payload : Payload) (k : ℕ) → length rooms ≡ k → StayWithin memory rooms (lower_case ps n payload k).steps
  flat_case_within memory End rooms n payload k is = tt
  flat_case_within memory (More name ty rest) rooms zero Without k is = tt
  flat_case_within memory (More name ty rest) rooms zero (With v) k is = flat_within memory ty rooms v k is
  flat_case_within memory (More name ty rest) rooms (suc n) payload k is = flat_case_within memory rest rooms n payload k is
  flat_case_within memory (Bare name rest) rooms zero payload k is = tt
  flat_case_within memory (Bare name rest) rooms (suc n) payload k is = flat_case_within memory rest rooms n payload k is

-- ---- a memory that is longer

grown_room : (memory more : ℕ) (rooms : List ℕ) (b : Base) (end : ℕ) → memory ≤ more → InRoom (Some memory) rooms b end → InRoom (Some more) rooms b end
grown_room memory more rooms Target end le h = omega arith
grown_room memory more rooms (Answer k) end le h = h

pub grown_within : (memory more : ℕ) (rooms : List ℕ) (xs : List Step) → memory ≤ more → StayWithin (Some memory) rooms xs → StayWithin (Some more) rooms xs
grown_within memory more rooms [] le h = tt
grown_within memory more rooms (Ask align len ∷ xs) le h = grown_within memory more (rooms ++ len ∷ []) xs le h
grown_within memory more rooms (Write base offset bytes ∷ xs) le h = (grown_room memory more rooms base _ le h.0, grown_within memory more rooms xs le h.1)
grown_within memory more rooms (Place base offset request ∷ xs) le h = (grown_room memory more rooms base _ le h.0, h.1, grown_within memory more rooms xs le h.2)
grown_within memory more rooms (Refuse ∷ xs) le h = tt
