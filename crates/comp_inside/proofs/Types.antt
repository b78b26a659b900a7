-- Where values lie, how they are loaded and stored, and which handles they hold: the numbers of resources count for nothing but in
-- the handles' types.
use Rattle.std.proofs.Common.{◌≡◌, ℕ, zero, suc, ◌+◌, ◌*◌, ◌^◌, ◌&&◌, nat_le, nat_lt, max, cond, List, [], ◌∷◌, ◌++◌, drop, length, map, Option, Some, None, Bool, refl, sym, ◌∙◌, ap}
use Rattle.std.specs.Option.{option_map, option_and_then}
use Rattle.std.proofs.Math.Path.{ap₂, fun_ext}
use Rattle.std.proofs.lemmas.List.{length-map, map-append}
use Rattle.virt_base.specs.declared.core_type.CoreType.{CoreType}
use Rattle.virt_base.specs.declared.core_type.CoreType.TheVariants.{I32}
use Rattle.core_memory.specs.Number.{bytes_of}
use Rattle.wit_types.specs.Plain.{Plain, Parts, PlainFunc, AsTuple, BoolType, SignedType, UnsignedType, CharType, StringType, ListType, RecordType, VariantType, FlagsType, OwnType, BorrowType, End, More, Bare}
use Rattle.wit_types.specs.PlainValue.{PlainValue, PlainValues, Payload, BoolValue, IntValue, CharValue, StringValue, ListValue, RecordValue, VariantValue, FlagsValue, HandleValue, End as NoValues, More as Values, Without, With}
use Rattle.wit_types.specs.Layout.{alignment, greatest_alignment, size, end_of, greatest_size, variant_size, discriminant_size, align_to, count, flat, flat_fields, flat_cases, join}
use Rattle.abi_layout.specs.Numbers.{is_number}
use Rattle.abi_layout.specs.Loading.{read, is_aligned, payload_offset, first_or_later, range_at, list_at, loads_at, fields_at, case_at, loads, low_word, lift_flat, lift_fields, lift_case}
use Rattle.abi_layout.specs.Storing.{Base, Target, Answer, Step, Ask, Write, Refuse, requests, on_list, on_record, on_variant, on_first, on_payload, count_values, run_bytes, item_steps, list_steps, place_and_length, stores_at, field_steps, case_steps, stores, spills, Lowered, AnswerTo, Number, nothing, both, of_case, lower_flat, lower_fields, lower_case}
use Rattle.abi_layout.specs.Handles.{Handle, handle_of, item_handles, handles, field_handles, case_handles, renumbered_items, renumbered, renumbered_fields, renumbered_case}
use Rattle.abi_layout.specs.Functions.{FlatFunc, flat_result, core_params, lowered}
use Rattle.comp_types.specs.Substitution.{value_with, parts_with, answer_with, func_with}
use Rattle.comp_worlds.specs.Passing.{answer_parts, answer_tuple, spills_over, lift_words, lower_params, lower_result}

abbrev pub handle_type_with : (ℕ → ℕ) → Handle → Handle
handle_type_with f h = record { ty = value_with f h.ty; number = h.number }

-- ---- values by their forms

pub list_then : {A B : Type 0} → (g : A → B) (none : A) (k : PlainValues → A) (v : PlainValue) → on_list (g none) (λ vs. g (k vs)) v ≡ g (on_list none k v)
list_then g none k (BoolValue b) = refl
list_then g none k (IntValue n) = refl
list_then g none k (CharValue c) = refl
list_then g none k (StringValue bs) = refl
list_then g none k (ListValue vs) = refl
list_then g none k (RecordValue vs) = refl
list_then g none k (VariantValue n p) = refl
list_then g none k (FlagsValue n) = refl
list_then g none k (HandleValue n) = refl

pub record_then : {A B : Type 0} → (g : A → B) (none : A) (k : PlainValues → A) (v : PlainValue) → on_record (g none) (λ vs. g (k vs)) v ≡ g (on_record none k v)
record_then g none k (BoolValue b) = refl
record_then g none k (IntValue n) = refl
record_then g none k (CharValue c) = refl
record_then g none k (StringValue bs) = refl
record_then g none k (ListValue vs) = refl
record_then g none k (RecordValue vs) = refl
record_then g none k (VariantValue n p) = refl
record_then g none k (FlagsValue n) = refl
record_then g none k (HandleValue n) = refl

pub variant_then : {A B : Type 0} → (g : A → B) (none : A) (k : ℕ → Payload → A) (v : PlainValue) → on_variant (g none) (λ n p. g (k n p)) v ≡ g (on_variant none k v)
variant_then g none k (BoolValue b) = refl
variant_then g none k (IntValue n) = refl
variant_then g none k (CharValue c) = refl
variant_then g none k (StringValue bs) = refl
variant_then g none k (ListValue vs) = refl
variant_then g none k (RecordValue vs) = refl
variant_then g none k (VariantValue n p) = refl
variant_then g none k (FlagsValue n) = refl
variant_then g none k (HandleValue n) = refl

first_then : {A B : Type 0} → (g : A → B) (none : A) (k : PlainValue → PlainValues → A) (vs : PlainValues) → on_first (g none) (λ v ws. g (k v ws)) vs ≡ g (on_first none k vs)
first_then g none k NoValues = refl
first_then g none k (Values v vs) = refl

payload_then : {A B : Type 0} → (g : A → B) (none : A) (k : PlainValue → A) (p : Payload) → on_payload (g none) (λ v. g (k v)) p ≡ g (on_payload none k p)
payload_then g none k Without = refl
payload_then g none k (With v) = refl

later_then : {A B : Type 0} → (g : A → B) (first : A) (later : ℕ → A) (n : ℕ) → first_or_later (g first) (λ m. g (later m)) n ≡ g (first_or_later first later n)
later_then g first later zero = refl
later_then g first later (suc n) = refl

items_then : (g : Handle → Handle) (find : PlainValue → List Handle) (vs : PlainValues) → item_handles (λ x. map g (find x)) vs ≡ map g (item_handles find vs)
items_then g find NoValues = refl
items_then g find (Values v vs) = ap (λ z. map g (find v) ++ z) (items_then g find vs) ∙ sym (map-append g (find v) (item_handles find vs))

renumbered_alike : (find find' : PlainValue → List Handle) (change : PlainValue → List ℕ → PlainValue) → ((x : PlainValue) → length (find x) ≡ length (find' x)) → (vs : PlainValues) (ns : List ℕ) → renumbered_items find change vs ns ≡ renumbered_items find' change vs ns
renumbered_alike find find' change same NoValues ns = refl
renumbered_alike find find' change same (Values v vs) ns =
    ap (λ z. Values (change v ns) (renumbered_items find change vs (drop z ns))) (same v) ∙ ap (Values (change v ns)) (renumbered_alike find find' change same vs (drop (length (find' v)) ns))

module _ (f : ℕ → ℕ) where
  -- ---- layout

  count_with : (ps : Parts) → count (parts_with f ps) ≡ count ps
  count_with End = refl
  count_with (More name ty rest) = ap (λ n. n + 1) (count_with rest)
  count_with (Bare name rest) = ap (λ n. n + 1) (count_with rest)

  mutual
    pub alignment_with : (ty : Plain) → alignment (value_with f ty) ≡ alignment ty
    alignment_with BoolType = refl
    alignment_with (SignedType width) = refl
    alignment_with (UnsignedType width) = refl
    alignment_with CharType = refl
    alignment_with StringType = refl
    alignment_with (ListType item) = refl
    alignment_with (RecordType form fields) = greatest_with fields
    alignment_with (VariantType form cases) = ap₂ (λ n a. max (discriminant_size n) a) (count_with cases) (greatest_with cases)
    alignment_with (FlagsType labels) = refl
    alignment_with (OwnType r) = refl
    alignment_with (BorrowType r) = refl

    greatest_with : (ps : Parts) → greatest_alignment (parts_with f ps) ≡ greatest_alignment ps
    greatest_with End = refl
    greatest_with (More name ty rest) = ap₂ max (alignment_with ty) (greatest_with rest)
    greatest_with (Bare name rest) = greatest_with rest

  mutual
    pub size_with : (ty : Plain) → size (value_with f ty) ≡ size ty
    size_with BoolType = refl
    size_with (SignedType width) = refl
    size_with (UnsignedType width) = refl
    size_with CharType = refl
    size_with StringType = refl
    size_with (ListType item) = refl
    size_with (RecordType form fields) = ap₂ align_to (end_with fields 0) (greatest_with fields)
    size_with (VariantType form cases) =
        ap (λ n. variant_size (discriminant_size n) (greatest_alignment (parts_with f cases)) (greatest_size (parts_with f cases))) (count_with cases)
        ∙ ap₂ (variant_size (discriminant_size (count cases))) (greatest_with cases) (greatest_size_with cases)
    size_with (FlagsType labels) = refl
    size_with (OwnType r) = refl
    size_with (BorrowType r) = refl

    end_with : (ps : Parts) (at : ℕ) → end_of (parts_with f ps) at ≡ end_of ps at
    end_with End at = refl
    end_with (More name ty rest) at = ap₂ (λ a s. end_of (parts_with f rest) (align_to at a + s)) (alignment_with ty) (size_with ty) ∙ end_with rest (align_to at (alignment ty) + size ty)
    end_with (Bare name rest) at = end_with rest at

    greatest_size_with : (ps : Parts) → greatest_size (parts_with f ps) ≡ greatest_size ps
    greatest_size_with End = refl
    greatest_size_with (More name ty rest) = ap₂ max (size_with ty) (greatest_size_with rest)
    greatest_size_with (Bare name rest) = greatest_size_with rest

  mutual
    pub flat_with : (ty : Plain) → flat (value_with f ty) ≡ flat ty
    flat_with BoolType = refl
    flat_with (SignedType width) = refl
    flat_with (UnsignedType width) = refl
    flat_with CharType = refl
    flat_with StringType = refl
    flat_with (ListType item) = refl
    flat_with (RecordType form fields) = flat_fields_with fields
    flat_with (VariantType form cases) = ap (λ z. I32 ∷ z) (flat_cases_with cases)
    flat_with (FlagsType labels) = refl
    flat_with (OwnType r) = refl
    flat_with (BorrowType r) = refl

    flat_fields_with : (ps : Parts) → flat_fields (parts_with f ps) ≡ flat_fields ps
    flat_fields_with End = refl
    flat_fields_with (More name ty rest) = ap₂ (λ x y. x ++ y) (flat_with ty) (flat_fields_with rest)
    flat_fields_with (Bare name rest) = flat_fields_with rest

    flat_cases_with : (ps : Parts) → flat_cases (parts_with f ps) ≡ flat_cases ps
    flat_cases_with End = refl
    flat_cases_with (More name ty rest) = ap₂ join (flat_with ty) (flat_cases_with rest)
    flat_cases_with (Bare name rest) = flat_cases_with rest

  payload_with : (cases : Parts) → payload_offset (parts_with f cases) ≡ payload_offset cases
  payload_with cases = ap₂ (λ n a. align_to (discriminant_size n) a) (count_with cases) (greatest_with cases)

  -- ---- loading

  module _ (memory : List ℕ) where
    abbrev list_of : (ℕ → Option PlainValue) → (size align place len : ℕ) → Option PlainValue
    list_of load size align place len = list_at memory load size align place len

    abbrev in_range : (ℕ → Option PlainValue) → (size align at : ℕ) → Option PlainValue
    in_range load size align at = range_at memory at (λ place len. list_of load size align place len)

    abbrev variant_at : (ℕ → ℕ → Option Payload) → (offset width at : ℕ) → Option PlainValue
    variant_at load offset width at = option_and_then (λ n. option_map (VariantValue n) (load n (at + offset))) (read memory at width)

    abbrev and_rest : Option PlainValues → Option PlainValue → Option PlainValues
    and_rest rest first = option_and_then (λ v. option_map (Values v) rest) first

    mutual
      loads_at_with : (ty : Plain) (at : ℕ) → loads_at memory (value_with f ty) at ≡ loads_at memory ty at
      loads_at_with BoolType at = refl
      loads_at_with (SignedType width) at = refl
      loads_at_with (UnsignedType width) at = refl
      loads_at_with CharType at = refl
      loads_at_with StringType at = refl
      loads_at_with (ListType item) at =
          ap (λ load. in_range load (size (value_with f item)) (alignment (value_with f item)) at) (fun_ext (λ p. loads_at_with item p))
          ∙ ap₂ (λ s a. in_range (λ p. loads_at memory item p) s a at) (size_with item) (alignment_with item)
      loads_at_with (RecordType form fields) at = ap (option_map RecordValue) (fields_at_with fields at 0)
      loads_at_with (VariantType form cases) at =
          ap (λ load. variant_at load (payload_offset (parts_with f cases)) (discriminant_size (count (parts_with f cases))) at) (fun_ext (λ n. fun_ext (λ p. case_at_with cases n p)))
          ∙ ap₂ (λ o n. variant_at (λ m p. case_at memory cases m p) o (discriminant_size n) at) (payload_with cases) (count_with cases)
      loads_at_with (FlagsType labels) at = refl
      loads_at_with (OwnType r) at = refl
      loads_at_with (BorrowType r) at = refl

      fields_at_with : (ps : Parts) (at offset : ℕ) → fields_at memory (parts_with f ps) at offset ≡ fields_at memory ps at offset
      fields_at_with End at offset = refl
      fields_at_with (More name ty rest) at offset =
          ap₂ (λ a s. and_rest (fields_at memory (parts_with f rest) at (align_to offset a + s)) (loads_at memory (value_with f ty) (at + align_to offset a))) (alignment_with ty) (size_with ty)
          ∙ ap₂ and_rest (fields_at_with rest at (align_to offset (alignment ty) + size ty)) (loads_at_with ty (at + align_to offset (alignment ty)))
      fields_at_with (Bare name rest) at offset = fields_at_with rest at offset

      case_at_with : (ps : Parts) (n at : ℕ) → case_at memory (parts_with f ps) n at ≡ case_at memory ps n at
      case_at_with End n at = refl
      case_at_with (More name ty rest) n at =
          ap₂ (λ (x : Option PlainValue) (later : ℕ → Option Payload). first_or_later (option_map With x) later n) (loads_at_with ty at) (fun_ext (λ m. case_at_with rest m at))
      case_at_with (Bare name rest) n at = ap (λ (later : ℕ → Option Payload). first_or_later (Some Without) later n) (fun_ext (λ m. case_at_with rest m at))

    loads_with : (ty : Plain) (at : ℕ) → loads memory (value_with f ty) at ≡ loads memory ty at
    loads_with ty at =
        ap₂ (λ a s. cond (is_aligned at a && nat_le (at + s) (length memory)) (loads_at memory (value_with f ty) at) None) (alignment_with ty) (size_with ty)
        ∙ ap (λ x. cond (is_aligned at (alignment ty) && nat_le (at + size ty) (length memory)) x None) (loads_at_with ty at)

    mutual
      lift_flat_with : (ty : Plain) (words : List ℕ) (k : ℕ) → lift_flat memory (value_with f ty) words k ≡ lift_flat memory ty words k
      lift_flat_with BoolType words k = refl
      lift_flat_with (SignedType width) words k = refl
      lift_flat_with (UnsignedType width) words k = refl
      lift_flat_with CharType words k = refl
      lift_flat_with StringType words k = refl
      lift_flat_with (ListType item) words k =
          ap (λ load. list_of load (size (value_with f item)) (alignment (value_with f item)) (low_word words k) (low_word words (k + 1))) (fun_ext (λ p. loads_at_with item p))
          ∙ ap₂ (λ s a. list_of (λ p. loads_at memory item p) s a (low_word words k) (low_word words (k + 1))) (size_with item) (alignment_with item)
      lift_flat_with (RecordType form fields) words k = ap (option_map RecordValue) (lift_fields_with fields words k)
      lift_flat_with (VariantType form cases) words k = ap (option_map (VariantValue (low_word words k))) (lift_case_with cases (low_word words k) words (k + 1))
      lift_flat_with (FlagsType labels) words k = refl
      lift_flat_with (OwnType r) words k = refl
      lift_flat_with (BorrowType r) words k = refl

      lift_fields_with : (ps : Parts) (words : List ℕ) (k : ℕ) → lift_fields memory (parts_with f ps) words k ≡ lift_fields memory ps words k
      lift_fields_with End words k = refl
      lift_fields_with (More name ty rest) words k =
          ap₂ (λ n x. and_rest (lift_fields memory (parts_with f rest) words (k + length n)) x) (flat_with ty) (lift_flat_with ty words k)
          ∙ ap (λ z. and_rest z (lift_flat memory ty words k)) (lift_fields_with rest words (k + length (flat ty)))
      lift_fields_with (Bare name rest) words k = lift_fields_with rest words k

      lift_case_with : (ps : Parts) (n : ℕ) (words : List ℕ) (k : ℕ) → lift_case memory (parts_with f ps) n words k ≡ lift_case memory ps n words k
      lift_case_with End n words k = refl
      lift_case_with (More name ty rest) n words k =
          ap₂ (λ (x : Option PlainValue) (later : ℕ → Option Payload). first_or_later (option_map With x) later n) (lift_flat_with ty words k) (fun_ext (λ m. lift_case_with rest m words k))
      lift_case_with (Bare name rest) n words k = ap (λ (later : ℕ → Option Payload). first_or_later (Some Without) later n) (fun_ext (λ m. lift_case_with rest m words k))

    pub lift_words_with : (most : ℕ) (ty : Plain) (words : List ℕ) → lift_words most (value_with f ty) memory words ≡ lift_words most ty memory words
    lift_words_with most ty words =
        ap (λ x. cond (nat_lt most (length x)) (loads memory (value_with f ty) (low_word words 0)) (lift_flat memory (value_with f ty) words 0)) (flat_with ty)
        ∙ ap₂ (λ x y. cond (spills_over most ty) x y) (loads_with ty (low_word words 0)) (lift_flat_with ty words 0)

  -- ---- storing

  number_with : (ty : Plain) → is_number (value_with f ty) ≡ is_number ty
  number_with BoolType = refl
  number_with (SignedType width) = refl
  number_with (UnsignedType width) = refl
  number_with CharType = refl
  number_with StringType = refl
  number_with (ListType item) = refl
  number_with (RecordType form fields) = refl
  number_with (VariantType form cases) = refl
  number_with (FlagsType labels) = refl
  number_with (OwnType r) = refl
  number_with (BorrowType r) = refl

  abbrev Stores : Type 0
  Stores = PlainValue → Base → ℕ → ℕ → List Step

  -- the steps of a list, by what counts of its items' type
  abbrev steps_of : Stores → (size align : ℕ) → Bool → PlainValues → ℕ → List Step
  steps_of store s a is_one vs k =
      cond (nat_lt (count_values vs * s) (2 ^ 32)) (Ask a (count_values vs * s) ∷ cond is_one (Write (Answer k) 0 (run_bytes s vs) ∷ []) (item_steps store s vs (Answer k) 0 (k + 1))) (Refuse ∷ [])

  list_steps_with : (store store' : Stores) (item : Plain) → store ≡ store' → (vs : PlainValues) (k : ℕ) → list_steps store (value_with f item) vs k ≡ list_steps store' item vs k
  list_steps_with store store' item same vs k =
      ap₂ (λ s a. steps_of store s a (is_number (value_with f item)) vs k) (size_with item) (alignment_with item)
      ∙ ap₂ (λ (st : Stores) n. steps_of st (size item) (alignment item) n vs k) same (number_with item)

  abbrev fields_of : Stores → (PlainValues → ℕ → ℕ → List Step) → (align size : ℕ) → Base → (at offset k : ℕ) → PlainValues → List Step
  fields_of store more a s base at offset k vs =
      on_first [] (λ v ws. store v base (at + align_to offset a) k ++ more ws (align_to offset a + s) (k + requests (store v base (at + align_to offset a) k))) vs

  abbrev case_of : (Payload → ℕ → ℕ → List Step) → (count offset : ℕ) → Base → (at k n : ℕ) → Payload → List Step
  case_of store c offset base at k n payload = Write base at (bytes_of (discriminant_size c) n) ∷ store payload (at + offset) k

  mutual
    stores_at_with : (ty : Plain) (v : PlainValue) (base : Base) (at k : ℕ) → stores_at (value_with f ty) v base at k ≡ stores_at ty v base at k
    stores_at_with BoolType v base at k = refl
    stores_at_with (SignedType width) v base at k = refl
    stores_at_with (UnsignedType width) v base at k = refl
    stores_at_with CharType v base at k = refl
    stores_at_with StringType v base at k = refl
    stores_at_with (ListType item) v base at k =
        ap (λ (g : PlainValues → List Step). on_list [] (λ vs. g vs ++ place_and_length base at k (count_values vs)) v)
        (fun_ext (λ vs. list_steps_with (λ x b o j. stores_at (value_with f item) x b o j) (λ x b o j. stores_at item x b o j) item (fun_ext (λ x. fun_ext (λ b. fun_ext (λ o. fun_ext (λ j. stores_at_with item x b o j))))) vs k))
    stores_at_with (RecordType form fields) v base at k = ap (λ (g : PlainValues → List Step). on_record [] g v) (fun_ext (λ vs. field_steps_with fields vs base at 0 k))
    stores_at_with (VariantType form cases) v base at k =
        ap (λ (g : ℕ → Payload → ℕ → ℕ → List Step). on_variant [] (λ n payload. case_of (g n) (count (parts_with f cases)) (payload_offset (parts_with f cases)) base at k n payload) v)
        (fun_ext (λ n. fun_ext (λ payload. fun_ext (λ o. fun_ext (λ j. case_steps_with cases n payload base o j)))))
        ∙ ap₂ (λ c o. on_variant [] (λ n payload. case_of (λ q a j. case_steps cases n q base a j) c o base at k n payload) v) (count_with cases) (payload_with cases)
    stores_at_with (FlagsType labels) v base at k = refl
    stores_at_with (OwnType r) v base at k = refl
    stores_at_with (BorrowType r) v base at k = refl

    field_steps_with : (ps : Parts) (vs : PlainValues) (base : Base) (at offset k : ℕ) → field_steps (parts_with f ps) vs base at offset k ≡ field_steps ps vs base at offset k
    field_steps_with End vs base at offset k = refl
    field_steps_with (More name ty rest) vs base at offset k =
        ap₂ (λ a s. fields_of (λ x b o j. stores_at (value_with f ty) x b o j) (λ ws o j. field_steps (parts_with f rest) ws base at o j) a s base at offset k vs) (alignment_with ty) (size_with ty)
        ∙ ap₂ (λ (st : Stores) (more : PlainValues → ℕ → ℕ → List Step). fields_of st more (alignment ty) (size ty) base at offset k vs)
        (fun_ext (λ x. fun_ext (λ b. fun_ext (λ o. fun_ext (λ j. stores_at_with ty x b o j))))) (fun_ext (λ ws. fun_ext (λ o. fun_ext (λ j. field_steps_with rest ws base at o j))))
    field_steps_with (Bare name rest) vs base at offset k = field_steps_with rest vs base at offset k

    case_steps_with : (ps : Parts) (n : ℕ) (payload : Payload) (base : Base) (at k : ℕ) → case_steps (parts_with f ps) n payload base at k ≡ case_steps ps n payload base at k
    case_steps_with End n payload base at k = refl
    case_steps_with (More name ty rest) n payload base at k =
        ap₂ (λ (st : Stores) (later : ℕ → List Step). first_or_later (on_payload [] (λ v. st v base at k) payload) later n) (fun_ext (λ x. fun_ext (λ b. fun_ext (λ o. fun_ext (λ j. stores_at_with ty x b o j))))) (fun_ext (λ m. case_steps_with rest m payload base at k))
    case_steps_with (Bare name rest) n payload base at k = ap (λ (later : ℕ → List Step). first_or_later [] later n) (fun_ext (λ m. case_steps_with rest m payload base at k))

  abbrev Lowers : Type 0
  Lowers = PlainValue → ℕ → Lowered

  abbrev lowered_list : (PlainValues → List Step) → ℕ → PlainValue → Lowered
  lowered_list steps k v = on_list nothing (λ vs. record { steps = steps vs; flats = AnswerTo k ∷ Number (count_values vs) ∷ [] }) v

  mutual
    lower_flat_with : (ty : Plain) (v : PlainValue) (k : ℕ) → lower_flat (value_with f ty) v k ≡ lower_flat ty v k
    lower_flat_with BoolType v k = refl
    lower_flat_with (SignedType width) v k = refl
    lower_flat_with (UnsignedType width) v k = refl
    lower_flat_with CharType v k = refl
    lower_flat_with StringType v k = refl
    lower_flat_with (ListType item) v k =
        ap (λ (g : PlainValues → List Step). lowered_list g k v)
        (fun_ext (λ vs. list_steps_with (λ x b o j. stores_at (value_with f item) x b o j) (λ x b o j. stores_at item x b o j) item (fun_ext (λ x. fun_ext (λ b. fun_ext (λ o. fun_ext (λ j. stores_at_with item x b o j))))) vs k))
    lower_flat_with (RecordType form fields) v k = ap (λ (g : PlainValues → Lowered). on_record nothing g v) (fun_ext (λ vs. lower_fields_with fields vs k))
    lower_flat_with (VariantType form cases) v k =
        ap₂ (λ (g : ℕ → Payload → Lowered) fs. on_variant nothing (λ n payload. of_case (length fs) n (g n payload)) v) (fun_ext (λ n. fun_ext (λ payload. lower_case_with cases n payload k))) (flat_cases_with cases)
    lower_flat_with (FlagsType labels) v k = refl
    lower_flat_with (OwnType r) v k = refl
    lower_flat_with (BorrowType r) v k = refl

    lower_fields_with : (ps : Parts) (vs : PlainValues) (k : ℕ) → lower_fields (parts_with f ps) vs k ≡ lower_fields ps vs k
    lower_fields_with End vs k = refl
    lower_fields_with (More name ty rest) vs k =
        ap₂ (λ (lower : Lowers) (more : PlainValues → ℕ → Lowered). on_first nothing (λ v ws. both (lower v k) (more ws (k + requests (lower v k).steps))) vs)
        (fun_ext (λ x. fun_ext (λ j. lower_flat_with ty x j))) (fun_ext (λ ws. fun_ext (λ j. lower_fields_with rest ws j)))
    lower_fields_with (Bare name rest) vs k = lower_fields_with rest vs k

    lower_case_with : (ps : Parts) (n : ℕ) (payload : Payload) (k : ℕ) → lower_case (parts_with f ps) n payload k ≡ lower_case ps n payload k
    lower_case_with End n payload k = refl
    lower_case_with (More name ty rest) n payload k =
        ap₂ (λ (lower : Lowers) (later : ℕ → Lowered). first_or_later (on_payload nothing (λ v. lower v k) payload) later n) (fun_ext (λ x. fun_ext (λ j. lower_flat_with ty x j))) (fun_ext (λ m. lower_case_with rest m payload k))
    lower_case_with (Bare name rest) n payload k = ap (λ (later : ℕ → Lowered). first_or_later nothing later n) (fun_ext (λ m. lower_case_with rest m payload k))

  pub lower_params_with : (ty : Plain) (v : PlainValue) → lower_params (value_with f ty) v ≡ lower_params ty v
  lower_params_with ty v =
      ap₂ (λ a s. cond (spills_over 16 (value_with f ty)) (record { steps = Ask a s ∷ stores_at (value_with f ty) v (Answer 0) 0 1; flats = AnswerTo 0 ∷ [] }) (lower_flat (value_with f ty) v 0)) (alignment_with ty) (size_with ty)
      ∙ ap₂ (λ steps fs. cond (nat_lt 16 (length fs)) (record { steps = Ask (alignment ty) (size ty) ∷ steps; flats = AnswerTo 0 ∷ [] }) (lower_flat (value_with f ty) v 0)) (stores_at_with ty v (Answer 0) 0 1) (flat_with ty)
      ∙ ap (λ l. cond (spills_over 16 ty) (record { steps = spills ty v; flats = AnswerTo 0 ∷ [] }) l) (lower_flat_with ty v 0)

  pub lower_result_with : (ty : Plain) (v : PlainValue) → lower_result (value_with f ty) v ≡ lower_result ty v
  lower_result_with ty v =
      ap₂ (λ steps fs. cond (nat_lt 1 (length fs)) (record { steps = steps; flats = [] }) (lower_flat (value_with f ty) v 0)) (stores_at_with ty v Target 0 0) (flat_with ty)
      ∙ ap (λ l. cond (spills_over 1 ty) (record { steps = stores ty v; flats = [] }) l) (lower_flat_with ty v 0)

  -- ---- handles

  abbrev handles_to : List Handle → List Handle
  handles_to hs = map (handle_type_with f) hs

  own_with : (ty : Plain) (v : PlainValue) → handle_of (value_with f ty) v ≡ handles_to (handle_of ty v)
  own_with ty (BoolValue b) = refl
  own_with ty (IntValue n) = refl
  own_with ty (CharValue c) = refl
  own_with ty (StringValue bs) = refl
  own_with ty (ListValue vs) = refl
  own_with ty (RecordValue vs) = refl
  own_with ty (VariantValue n p) = refl
  own_with ty (FlagsValue n) = refl
  own_with ty (HandleValue n) = refl

  mutual
    pub handles_with : (ty : Plain) (v : PlainValue) → handles (value_with f ty) v ≡ handles_to (handles ty v)
    handles_with BoolType v = refl
    handles_with (SignedType width) v = refl
    handles_with (UnsignedType width) v = refl
    handles_with CharType v = refl
    handles_with StringType v = refl
    handles_with (ListType item) v =
        ap (λ (g : PlainValues → List Handle). on_list [] g v) (fun_ext (λ vs. ap (λ (find : PlainValue → List Handle). item_handles find vs) (fun_ext (λ x. handles_with item x)) ∙ items_then (handle_type_with f) (λ x. handles item x) vs))
        ∙ list_then handles_to [] (λ vs. item_handles (λ x. handles item x) vs) v
    handles_with (RecordType form fields) v =
        ap (λ (g : PlainValues → List Handle). on_record [] g v) (fun_ext (λ vs. field_handles_with fields vs)) ∙ record_then handles_to [] (λ vs. field_handles fields vs) v
    handles_with (VariantType form cases) v =
        ap (λ (g : ℕ → Payload → List Handle). on_variant [] g v) (fun_ext (λ n. fun_ext (λ payload. case_handles_with cases n payload))) ∙ variant_then handles_to [] (λ n payload. case_handles cases n payload) v
    handles_with (FlagsType labels) v = refl
    handles_with (OwnType r) v = own_with (OwnType r) v
    handles_with (BorrowType r) v = own_with (BorrowType r) v

    field_handles_with : (ps : Parts) (vs : PlainValues) → field_handles (parts_with f ps) vs ≡ handles_to (field_handles ps vs)
    field_handles_with End vs = refl
    field_handles_with (More name ty rest) NoValues = refl
    field_handles_with (More name ty rest) (Values v ws) =
        ap₂ (λ x y. x ++ y) (handles_with ty v) (field_handles_with rest ws) ∙ sym (map-append (handle_type_with f) (handles ty v) (field_handles rest ws))
    field_handles_with (Bare name rest) vs = field_handles_with rest vs

    case_handles_with : (ps : Parts) (n : ℕ) (payload : Payload) → case_handles (parts_with f ps) n payload ≡ handles_to (case_handles ps n payload)
    case_handles_with End n payload = refl
    case_handles_with (More name ty rest) zero Without = refl
    case_handles_with (More name ty rest) zero (With v) = handles_with ty v
    case_handles_with (More name ty rest) (suc n) payload = case_handles_with rest n payload
    case_handles_with (Bare name rest) zero payload = refl
    case_handles_with (Bare name rest) (suc n) payload = case_handles_with rest n payload

  as_many : (ty : Plain) (v : PlainValue) → length (handles (value_with f ty) v) ≡ length (handles ty v)
  as_many ty v = ap (λ (hs : List Handle). length hs) (handles_with ty v) ∙ length-map (handles ty v) (handle_type_with f)

  abbrev Changes : Type 0
  Changes = PlainValue → List ℕ → PlainValue

  mutual
    pub renumbered_with : (ty : Plain) (v : PlainValue) (ns : List ℕ) → renumbered (value_with f ty) v ns ≡ renumbered ty v ns
    renumbered_with BoolType v ns = refl
    renumbered_with (SignedType width) v ns = refl
    renumbered_with (UnsignedType width) v ns = refl
    renumbered_with CharType v ns = refl
    renumbered_with StringType v ns = refl
    renumbered_with (ListType item) v ns =
        ap (λ (change : Changes). on_list v (λ vs. ListValue (renumbered_items (λ x. handles (value_with f item) x) change vs ns)) v) (fun_ext (λ x. fun_ext (λ ms. renumbered_with item x ms)))
        ∙ ap (λ (g : PlainValues → PlainValues). on_list v (λ vs. ListValue (g vs)) v) (fun_ext (λ vs. renumbered_alike (λ x. handles (value_with f item) x) (λ x. handles item x) (λ x ms. renumbered item x ms) (as_many item) vs ns))
    renumbered_with (RecordType form fields) v ns = ap (λ (g : PlainValues → PlainValues). on_record v (λ vs. RecordValue (g vs)) v) (fun_ext (λ vs. renumbered_fields_with fields vs ns))
    renumbered_with (VariantType form cases) v ns =
        ap (λ (g : ℕ → Payload → Payload). on_variant v (λ n payload. VariantValue n (g n payload)) v) (fun_ext (λ n. fun_ext (λ payload. renumbered_case_with cases n payload ns)))
    renumbered_with (FlagsType labels) v ns = refl
    renumbered_with (OwnType r) v ns = refl
    renumbered_with (BorrowType r) v ns = refl

    renumbered_fields_with : (ps : Parts) (vs : PlainValues) (ns : List ℕ) → renumbered_fields (parts_with f ps) vs ns ≡ renumbered_fields ps vs ns
    renumbered_fields_with End vs ns = refl
    renumbered_fields_with (More name ty rest) NoValues ns = refl
    renumbered_fields_with (More name ty rest) (Values v ws) ns =
        ap₂ (λ x n. Values x (renumbered_fields (parts_with f rest) ws (drop n ns))) (renumbered_with ty v ns) (as_many ty v)
        ∙ ap (Values (renumbered ty v ns)) (renumbered_fields_with rest ws (drop (length (handles ty v)) ns))
    renumbered_fields_with (Bare name rest) vs ns = renumbered_fields_with rest vs ns

    renumbered_case_with : (ps : Parts) (n : ℕ) (payload : Payload) (ns : List ℕ) → renumbered_case (parts_with f ps) n payload ns ≡ renumbered_case ps n payload ns
    renumbered_case_with End n payload ns = refl
    renumbered_case_with (More name ty rest) zero Without ns = refl
    renumbered_case_with (More name ty rest) zero (With v) ns = ap With (renumbered_with ty v ns)
    renumbered_case_with (More name ty rest) (suc n) payload ns = renumbered_case_with rest n payload ns
    renumbered_case_with (Bare name rest) zero payload ns = refl
    renumbered_case_with (Bare name rest) (suc n) payload ns = renumbered_case_with rest n payload ns

  -- ---- whole functions

  answer_parts_with : (ty : Option Plain) → answer_parts (answer_with f ty) ≡ parts_with f (answer_parts ty)
  answer_parts_with None = refl
  answer_parts_with (Some ty) = refl

  pub answer_tuple_with : (ty : PlainFunc) → answer_tuple (func_with f ty) ≡ value_with f (answer_tuple ty)
  answer_tuple_with ty = ap (RecordType AsTuple) (answer_parts_with ty.answer)

  flat_result_with : (ty : Option Plain) → flat_result (answer_with f ty) ≡ flat_result ty
  flat_result_with None = refl
  flat_result_with (Some ty) = flat_with ty

  abbrev params_of : List CoreType → List CoreType
  params_of fs = cond (nat_lt 16 (length fs)) (I32 ∷ []) fs

  pub core_params_with : (ty : PlainFunc) → core_params (func_with f ty) ≡ core_params ty
  core_params_with ty = ap params_of (flat_fields_with ty.params)

  abbrev lowered_of : List CoreType → List CoreType → FlatFunc
  lowered_of ps rs = record { params = params_of ps ++ cond (nat_lt 1 (length rs)) (I32 ∷ []) []; results = cond (nat_lt 1 (length rs)) [] rs }

  pub lowered_with : (ty : PlainFunc) → lowered (func_with f ty) ≡ lowered ty
  lowered_with ty = ap₂ lowered_of (flat_fields_with ty.params) (flat_result_with ty.answer)
