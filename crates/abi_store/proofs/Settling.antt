-- Steps where the first requests are answered.
use Rattle.std.proofs.Common.{◌≡◌, ℕ, ◌+◌, ◌-◌, ◌*◌, ◌^◌, ap, refl, sym, ◌∙◌, Bool, true, false, List, [], ◌∷◌, ◌++◌, length, arith, zero, suc}
use Rattle.std.specs.Prelude.{if◌then◌else◌, nat_lt, nat_le, slice_index}
use Rattle.std.proofs.lemmas.Bool.Decides.{nat_tests}
use Rattle.core_memory.specs.Number.{bytes_of}
use Rattle.wit_types.specs.Plain.{Plain, Parts, BoolType, SignedType, UnsignedType, CharType, StringType, ListType, RecordType, VariantType, FlagsType, OwnType, BorrowType, End, More, Bare}
use Rattle.wit_types.specs.PlainValue.{PlainValue, PlainValues, Payload, StringValue, ListValue, RecordValue, VariantValue, End as NoValues, More as Values, Without, With}
use Rattle.wit_types.specs.Layout.{alignment, align_to, size, count, discriminant_size}
use Rattle.abi_layout.specs.Numbers.{is_number}
use Rattle.abi_layout.specs.Loading.{payload_offset}
use Rattle.abi_layout.specs.Storing.{Base, Target, Answer, Step, Ask, Write, Place, Refuse, requests, run_bytes, string_steps, item_steps, list_steps, place_and_length, count_values, stores_at, field_steps, case_steps}
use Rattle.abi_store.specs.Plan.{base_left, place_of, settled_step, settled}

pub settled-append : (t : ℕ) (given : List ℕ) (xs ys : List Step) → settled t given (xs ++ ys) ≡ settled t given xs ++ settled t given ys
settled-append t given [] ys = refl
settled-append t given (x ∷ xs) ys = ap (λ (v : List Step). settled_step t given x ∷ v) (settled-append t given xs ys)

place_counts : (t : ℕ) (given : List ℕ) (c : Bool) (b : Base) (o k : ℕ) (bytes : List ℕ) (ys : List Step) → requests ((if c then Write b o bytes else Place b o k) ∷ ys) ≡ requests ys
place_counts t given true b o k bytes ys = refl
place_counts t given false b o k bytes ys = refl

pub requests-settled : (t : ℕ) (given : List ℕ) (xs : List Step) → requests (settled t given xs) ≡ requests xs
requests-settled t given [] = refl
requests-settled t given (Ask align len ∷ xs) = ap (λ k. k + 1) (requests-settled t given xs)
requests-settled t given (Write b o bytes ∷ xs) = requests-settled t given xs
requests-settled t given (Place b o k ∷ xs) =
    place_counts t given (nat_lt k (length given)) (base_left given b) (place_of t given b + o) (k - length given) (bytes_of 4 (slice_index given k)) (settled t given xs) ∙ requests-settled t given xs
requests-settled t given (Refuse ∷ xs) = requests-settled t given xs

-- ---- requests that are not answered yet

if_false : {A : Type 0} (c : Bool) (x y : A) → c ≡ false → (if c then x else y) ≡ y
if_false true x y is = cc
if_false false x y is = refl

late : (n j : ℕ) → nat_lt (j + n) n ≡ false
late n j = grind (arith, nat_tests)

less : (n j : ℕ) → j + n - n ≡ j
less n j = omega arith

pub base-late : (given : List ℕ) (j : ℕ) → base_left given (Answer (j + length given)) ≡ Answer j
base-late given j = if_false (nat_lt (j + length given) (length given)) Target (Answer (j + length given - length given)) (late (length given) j) ∙ ap Answer (less (length given) j)

pub place-late : (t : ℕ) (given : List ℕ) (j : ℕ) → place_of t given (Answer (j + length given)) ≡ 0
place-late t given j = if_false (nat_lt (j + length given) (length given)) (slice_index given (j + length given)) 0 (late (length given) j)

step-late : (t : ℕ) (given : List ℕ) (b : Base) (o j : ℕ) → settled_step t given (Place b o (j + length given)) ≡ Place (base_left given b) (place_of t given b + o) j
step-late t given b o j =
    if_false (nat_lt (j + length given) (length given)) (Write (base_left given b) (place_of t given b + o) (bytes_of 4 (slice_index given (j + length given)))) (Place (base_left given b) (place_of t given b + o) (j + length given - length given)) (late (length given) j)
    ∙ ap (Place (base_left given b) (place_of t given b + o)) (less (length given) j)

write-late : (t : ℕ) (given : List ℕ) (j : ℕ) (bytes : List ℕ) → Write (base_left given (Answer (j + length given))) (place_of t given (Answer (j + length given)) + 0) bytes ≡ Write (Answer j) 0 bytes
write-late t given j bytes =
    ap (λ (b : Base). Write b (place_of t given (Answer (j + length given)) + 0) bytes) (base-late given j) ∙ ap (λ k. Write (Answer j) (k + 0) bytes) (place-late t given j)

pub settle-place : (t : ℕ) (given : List ℕ) (b : Base) (o j len : ℕ) → settled t given (place_and_length b o (j + length given) len) ≡ place_and_length (base_left given b) (place_of t given b + o) j len
settle-place t given b o j len =
    ap (λ (s : Step). s ∷ Write (base_left given b) (place_of t given b + (o + 4)) (bytes_of 4 len) ∷ []) (step-late t given b o j)
    ∙ ap (λ k. Place (base_left given b) (place_of t given b + o) j ∷ Write (base_left given b) k (bytes_of 4 len) ∷ []) (let e : place_of t given b + (o + 4) ≡ place_of t given b + o + 4 = omega arith in e)

-- ---- strings

string_of : (t : ℕ) (given : List ℕ) (c : Bool) (bytes : List ℕ) (j : ℕ) →
    settled t given (if c then Ask 1 (length bytes) ∷ Write (Answer (j + length given)) 0 bytes ∷ [] else Refuse ∷ []) ≡ (if c then Ask 1 (length bytes) ∷ Write (Answer j) 0 bytes ∷ [] else Refuse ∷ [])
string_of t given true bytes j = ap (λ (s : Step). Ask 1 (length bytes) ∷ s ∷ []) (write-late t given j bytes)
string_of t given false bytes j = refl

settle-string : (t : ℕ) (given : List ℕ) (bytes : List ℕ) (b : Base) (o j : ℕ) →
    settled t given (string_steps bytes (j + length given) ++ place_and_length b o (j + length given) (length bytes)) ≡ string_steps bytes j ++ place_and_length (base_left given b) (place_of t given b + o) j (length bytes)
settle-string t given bytes b o j =
    settled-append t given (string_steps bytes (j + length given)) (place_and_length b o (j + length given) (length bytes))
    ∙ ap (λ (v : List Step). v ++ settled t given (place_and_length b o (j + length given) (length bytes))) (string_of t given (nat_le (length bytes) 2147483647) bytes j)
    ∙ ap (λ (v : List Step). string_steps bytes j ++ v) (settle-place t given b o j (length bytes))

-- ---- items

pub settle-items : (t : ℕ) (given : List ℕ) (store : PlainValue → Base → ℕ → ℕ → List Step) (width : ℕ) →
    ((v : PlainValue) (b : Base) (o j : ℕ) → settled t given (store v b o (j + length given)) ≡ store v (base_left given b) (place_of t given b + o) j) →
    (vs : PlainValues) (b : Base) (o j : ℕ) → settled t given (item_steps store width vs b o (j + length given)) ≡ item_steps store width vs (base_left given b) (place_of t given b + o) j
settle-items t given store width each NoValues b o j = refl
settle-items t given store width each (Values v vs) b o j =
    let head : settled t given (store v b o (j + length given)) ≡ store v (base_left given b) (place_of t given b + o) j = each v b o j in
    let r : ℕ = requests (store v b o (j + length given)) in
    let same : r ≡ requests (store v (base_left given b) (place_of t given b + o) j) = sym (requests-settled t given (store v b o (j + length given))) ∙ ap requests head in
    let counted : j + length given + r ≡ j + r + length given = omega arith in
    let tail : settled t given (item_steps store width vs b (o + width) (j + r + length given)) ≡ item_steps store width vs (base_left given b) (place_of t given b + (o + width)) (j + r) = settle-items t given store width each vs b (o + width) (j + r) in
    let place : place_of t given b + (o + width) ≡ place_of t given b + o + width = omega arith in
    settled-append t given (store v b o (j + length given)) (item_steps store width vs b (o + width) (j + length given + r))
    ∙ ap (λ (s : List Step). s ++ settled t given (item_steps store width vs b (o + width) (j + length given + r))) head
    ∙ ap (λ (k : ℕ). store v (base_left given b) (place_of t given b + o) j ++ settled t given (item_steps store width vs b (o + width) k)) counted
    ∙ ap (λ (s : List Step). store v (base_left given b) (place_of t given b + o) j ++ s) tail
    ∙ ap (λ (k : ℕ). store v (base_left given b) (place_of t given b + o) j ++ item_steps store width vs (base_left given b) k (j + r)) place
    ∙ ap (λ (k : ℕ). store v (base_left given b) (place_of t given b + o) j ++ item_steps store width vs (base_left given b) (place_of t given b + o + width) (j + k)) same

items_late : (t : ℕ) (given : List ℕ) (store : PlainValue → Base → ℕ → ℕ → List Step) (width : ℕ) →
    ((v : PlainValue) (b : Base) (o j : ℕ) → settled t given (store v b o (j + length given)) ≡ store v (base_left given b) (place_of t given b + o) j) →
    (vs : PlainValues) (j : ℕ) → settled t given (item_steps store width vs (Answer (j + length given)) 0 (j + length given + 1)) ≡ item_steps store width vs (Answer j) 0 (j + 1)
items_late t given store width each vs j =
    let counted : j + length given + 1 ≡ j + 1 + length given = omega arith in
    ap (λ (k : ℕ). settled t given (item_steps store width vs (Answer (j + length given)) 0 k)) counted ∙ settle-items t given store width each vs (Answer (j + length given)) 0 (j + 1)
    ∙ ap (λ (b : Base). item_steps store width vs b (place_of t given (Answer (j + length given)) + 0) (j + 1)) (base-late given j)
    ∙ ap (λ (k : ℕ). item_steps store width vs (Answer j) (k + 0) (j + 1)) (place-late t given j)

list_of : (t : ℕ) (given : List ℕ) (c d : Bool) (align len : ℕ) (run : List ℕ) (xs ys : List Step) (j : ℕ) → settled t given xs ≡ ys →
    settled t given (if c then Ask align len ∷ (if d then Write (Answer (j + length given)) 0 run ∷ [] else xs) else Refuse ∷ []) ≡ (if c then Ask align len ∷ (if d then Write (Answer j) 0 run ∷ [] else ys) else Refuse ∷ [])
list_of t given true true align len run xs ys j so = ap (λ (s : Step). Ask align len ∷ s ∷ []) (write-late t given j run)
list_of t given true false align len run xs ys j so = ap (λ (v : List Step). Ask align len ∷ v) so
list_of t given false d align len run xs ys j so = refl

settle-list : (t : ℕ) (given : List ℕ) (item : Plain) (store : PlainValue → Base → ℕ → ℕ → List Step) →
    ((v : PlainValue) (b : Base) (o j : ℕ) → settled t given (store v b o (j + length given)) ≡ store v (base_left given b) (place_of t given b + o) j) →
    (vs : PlainValues) (b : Base) (o j : ℕ) →
    settled t given (list_steps store item vs (j + length given) ++ place_and_length b o (j + length given) (count_values vs)) ≡ list_steps store item vs j ++ place_and_length (base_left given b) (place_of t given b + o) j (count_values vs)
settle-list t given item store each vs b o j =
    settled-append t given (list_steps store item vs (j + length given)) (place_and_length b o (j + length given) (count_values vs))
    ∙ ap (λ (v : List Step). v ++ settled t given (place_and_length b o (j + length given) (count_values vs)))
    (list_of t given (nat_lt (count_values vs * size item) (2 ^ 32)) (is_number item) (alignment item) (count_values vs * size item) (run_bytes (size item) vs)
    (item_steps store (size item) vs (Answer (j + length given)) 0 (j + length given + 1)) (item_steps store (size item) vs (Answer j) 0 (j + 1)) j (items_late t given store (size item) each vs j))
    ∙ ap (λ (v : List Step). list_steps store item vs j ++ v) (settle-place t given b o j (count_values vs))

-- ---- values

pub fields_place : (s at a : ℕ) → s + (at + a) ≡ s + at + a
fields_place s at a = omega arith

mutual
  pub settle-stores : (t : ℕ) (given : List ℕ) (ty : Plain) (v : PlainValue) (b : Base) (o j : ℕ) → settled t given (stores_at ty v b o (j + length given)) ≡ stores_at ty v (base_left given b) (place_of t given b + o) j
  settle-stores t given BoolType v b o j = refl
  settle-stores t given (SignedType w) v b o j = refl
  settle-stores t given (UnsignedType w) v b o j = refl
  settle-stores t given CharType v b o j = refl
  settle-stores t given (FlagsType labels) v b o j = refl
  settle-stores t given (OwnType r) v b o j = refl
  settle-stores t given (BorrowType r) v b o j = refl
  settle-stores t given StringType (StringValue bytes) b o j = settle-string t given bytes b o j
  settle-stores t given StringType _ b o j = refl
  settle-stores t given (ListType item) (ListValue vs) b o j =
      settle-list t given item (λ x c p k. stores_at item x c p k) (λ v c p k. settle-stores t given item v c p k) vs b o j
  settle-stores t given (ListType item) _ b o j = refl
  settle-stores t given (RecordType form fields) (RecordValue vs) b o j = settle-fields t given fields vs b o 0 j
  settle-stores t given (RecordType form fields) _ b o j = refl
  settle-stores t given (VariantType form cases) (VariantValue n p) b o j =
      ap (λ (s : List Step). Write (base_left given b) (place_of t given b + o) (bytes_of (discriminant_size (count cases)) n) ∷ s) (settle-cases t given cases n p b (o + payload_offset cases) j)
      ∙ ap (λ (k : ℕ). Write (base_left given b) (place_of t given b + o) (bytes_of (discriminant_size (count cases)) n) ∷ case_steps cases n p (base_left given b) k j) (fields_place (place_of t given b) o (payload_offset cases))
  settle-stores t given (VariantType form cases) _ b o j = refl

  pub settle-fields : (t : ℕ) (given : List ℕ) (ps : Parts) (vs : PlainValues) (b : Base) (at offset j : ℕ) →
      settled t given (field_steps ps vs b at offset (j + length given)) ≡ field_steps ps vs (base_left given b) (place_of t given b + at) offset j
  settle-fields t given End vs b at offset j = refl
  settle-fields t given (Bare name rest) vs b at offset j = settle-fields t given rest vs b at offset j
  settle-fields t given (More name ty rest) NoValues b at offset j = refl
  settle-fields t given (More name ty rest) (Values v ws) b at offset j =
      let start : ℕ = align_to offset (alignment ty) in
      let next : ℕ = start + size ty in
      let place : place_of t given b + (at + start) ≡ place_of t given b + at + start = fields_place (place_of t given b) at start in
      let head : settled t given (stores_at ty v b (at + start) (j + length given)) ≡ stores_at ty v (base_left given b) (place_of t given b + at + start) j =
      settle-stores t given ty v b (at + start) j ∙ ap (λ (k : ℕ). stores_at ty v (base_left given b) k j) place in
      let r : ℕ = requests (stores_at ty v b (at + start) (j + length given)) in
      let same : r ≡ requests (stores_at ty v (base_left given b) (place_of t given b + at + start) j) = sym (requests-settled t given (stores_at ty v b (at + start) (j + length given))) ∙ ap requests head in
      let counted : j + length given + r ≡ j + r + length given = omega arith in
      let tail : settled t given (field_steps rest ws b at next (j + r + length given)) ≡ field_steps rest ws (base_left given b) (place_of t given b + at) next (j + r) = settle-fields t given rest ws b at next (j + r) in
      settled-append t given (stores_at ty v b (at + start) (j + length given)) (field_steps rest ws b at next (j + length given + r))
      ∙ ap (λ (s : List Step). s ++ settled t given (field_steps rest ws b at next (j + length given + r))) head
      ∙ ap (λ (k : ℕ). stores_at ty v (base_left given b) (place_of t given b + at + start) j ++ settled t given (field_steps rest ws b at next k)) counted
      ∙ ap (λ (s : List Step). stores_at ty v (base_left given b) (place_of t given b + at + start) j ++ s) tail
      ∙ ap (λ (k : ℕ). stores_at ty v (base_left given b) (place_of t given b + at + start) j ++ field_steps rest ws (base_left given b) (place_of t given b + at) next (j + k)) same

  pub settle-cases : (t : ℕ) (given : List ℕ) (ps : Parts) (n : ℕ) (p : Payload) (b : Base) (o j : ℕ) → settled t given (case_steps ps n p b o (j + length given)) ≡ case_steps ps n p (base_left given b) (place_of t given b + o) j
  settle-cases t given End n p b o j = refl
  settle-cases t given (More name ty rest) zero Without b o j = refl
  settle-cases t given (More name ty rest) zero (With v) b o j = settle-stores t given ty v b o j
  settle-cases t given (More name ty rest) (suc n) p b o j = settle-cases t given rest n p b o j
  settle-cases t given (Bare name rest) zero p b o j = refl
  settle-cases t given (Bare name rest) (suc n) p b o j = settle-cases t given rest n p b o j
