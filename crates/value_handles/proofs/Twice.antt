-- Values whose handles get other numbers twice, and which numbers stand there then.
use Rattle.std.proofs.Common.{◌≡◌, ℕ, zero, suc, pred, ap, refl, sym, ◌∙◌, List, [], ◌∷◌, ◌++◌, length, drop, map}
use Rattle.wit_types.specs.Plain.{Plain, Parts, BoolType, SignedType, UnsignedType, CharType, StringType, ListType, RecordType, VariantType, FlagsType, OwnType, BorrowType, End, More, Bare}
use Rattle.wit_types.specs.PlainValue.{PlainValue, PlainValues, Payload, ListValue, RecordValue, VariantValue, HandleValue, End as NoValues, More as Values, Without, With}
use Rattle.abi_layout.specs.Handles.{Handle, handles, item_handles, renumbered, renumbered_fields, renumbered_case, renumbered_items, with_numbers}
use Rattle.abi_layout.proofs.HandleLaws.{handles_keep}

as_many : (hs : List Handle) (ns : List ℕ) → length (with_numbers hs ns) ≡ length hs
as_many [] ns = refl
as_many (h ∷ hs) ns = ap suc (as_many hs (drop 1 ns))

pub same_count : (ty : Plain) (v : PlainValue) (ns : List ℕ) → length (handles ty (renumbered ty v ns)) ≡ length (handles ty v)
same_count ty v ns = ap length (handles_keep ty v ns) ∙ as_many (handles ty v) ns

items_twice : (find : PlainValue → List Handle) (change : PlainValue → List ℕ → PlainValue) → ((v : PlainValue) (ns ms : List ℕ) → change (change v ns) ms ≡ change v ms) →
    ((v : PlainValue) (ns : List ℕ) → length (find (change v ns)) ≡ length (find v)) → (vs : PlainValues) (ns ms : List ℕ) →
    renumbered_items find change (renumbered_items find change vs ns) ms ≡ renumbered_items find change vs ms
items_twice find change h k NoValues ns ms = refl
items_twice find change h k (Values v vs) ns ms =
    ap (λ x. Values x (renumbered_items find change (renumbered_items find change vs (drop (length (find v)) ns)) (drop (length (find (change v ns))) ms))) (h v ns ms)
    ∙ ap (λ n. Values (change v ms) (renumbered_items find change (renumbered_items find change vs (drop (length (find v)) ns)) (drop n ms))) (k v ns)
    ∙ ap (Values (change v ms)) (items_twice find change h k vs (drop (length (find v)) ns) (drop (length (find v)) ms))

mutual
  pub twice : (ty : Plain) (v : PlainValue) (ns ms : List ℕ) → renumbered ty (renumbered ty v ns) ms ≡ renumbered ty v ms
  twice BoolType v ns ms = refl
  twice (SignedType _) v ns ms = refl
  twice (UnsignedType _) v ns ms = refl
  twice CharType v ns ms = refl
  twice StringType v ns ms = refl
  twice (ListType item) (ListValue vs) ns ms = ap ListValue (items_twice (λ x. handles item x) (λ x ks. renumbered item x ks) (λ x ks js. twice item x ks js) (λ x ks. same_count item x ks) vs ns ms)
  twice (ListType item) _ ns ms = refl
  twice (RecordType _ fields) (RecordValue vs) ns ms = ap RecordValue (fields_twice fields vs ns ms)
  twice (RecordType _ fields) _ ns ms = refl
  twice (VariantType _ cases) (VariantValue n payload) ns ms = ap (VariantValue n) (case_twice cases n payload ns ms)
  twice (VariantType _ cases) _ ns ms = refl
  twice (FlagsType _) v ns ms = refl
  twice (OwnType _) (HandleValue n) ns ms = refl
  twice (OwnType _) _ ns ms = refl
  twice (BorrowType _) (HandleValue n) ns ms = refl
  twice (BorrowType _) _ ns ms = refl

  fields_twice : (ps : Parts) (vs : PlainValues) (ns ms : List ℕ) → renumbered_fields ps (renumbered_fields ps vs ns) ms ≡ renumbered_fields ps vs ms
  fields_twice End vs ns ms = refl
  fields_twice (More _ ty rest) NoValues ns ms = refl
  fields_twice (More _ ty rest) (Values v vs) ns ms =
      ap (λ x. Values x (renumbered_fields rest (renumbered_fields rest vs (drop (length (handles ty v)) ns)) (drop (length (handles ty (renumbered ty v ns))) ms))) (twice ty v ns ms)
      ∙ ap (λ n. Values (renumbered ty v ms) (renumbered_fields rest (renumbered_fields rest vs (drop (length (handles ty v)) ns)) (drop n ms))) (same_count ty v ns)
      ∙ ap (Values (renumbered ty v ms)) (fields_twice rest vs (drop (length (handles ty v)) ns) (drop (length (handles ty v)) ms))
  fields_twice (Bare _ rest) vs ns ms = fields_twice rest vs ns ms

  case_twice : (ps : Parts) (n : ℕ) (payload : Payload) (ns ms : List ℕ) → renumbered_case ps n (renumbered_case ps n payload ns) ms ≡ renumbered_case ps n payload ms
  case_twice End n payload ns ms = refl
  case_twice (More _ ty rest) zero Without ns ms = refl
  case_twice (More _ ty rest) zero (With v) ns ms = ap With (twice ty v ns ms)
  case_twice (More _ ty rest) (suc n) payload ns ms = case_twice rest n payload ns ms
  case_twice (Bare _ rest) zero payload ns ms = refl
  case_twice (Bare _ rest) (suc n) payload ns ms = case_twice rest n payload ns ms

-- the numbers that stand there, where there is one for each handle
pub numbers_are : (hs : List Handle) (ns : List ℕ) → length ns ≡ length hs → map (λ (h : Handle). h.number) (with_numbers hs ns) ≡ ns
numbers_are [] [] e = refl
numbers_are [] (n ∷ ns) e = absurd (cc)
numbers_are (h ∷ hs) [] e = absurd (cc)
numbers_are (h ∷ hs) (n ∷ ns) e = ap (λ (ms : List ℕ). n ∷ ms) (numbers_are hs ns (ap pred e))

pub numbers_put : (ty : Plain) (v : PlainValue) (ns : List ℕ) → length ns ≡ length (handles ty v) → map (λ (h : Handle). h.number) (handles ty (renumbered ty v ns)) ≡ ns
numbers_put ty v ns e = ap (map (λ (h : Handle). h.number)) (handles_keep ty v ns) ∙ numbers_are (handles ty v) ns e
