-- Tests of values by the lists of a type's parts.
use Rattle.std.proofs.Common.{◌≡◌, ◌≢◌, ◌≤◌, ◌<◌, ℕ, zero, suc, refl, sym, ◌∙◌, Bool, true, false, Option, Some, None, List, [], ◌∷◌, length, get_or, arith, ◌&&◌, nat_lt, ◌^◌}
use Rattle.std.proofs.lemmas.Bool.Decides.{nat_tests}
use Rattle.wit_types.specs.declared.types.Case.{Case, out-Case}
use Rattle.wit_types.specs.declared.types.Field.{Field}
use Rattle.wit_types.specs.declared.types.WitType.{WitType}
use Rattle.wit_types.specs.declared.value.Value.{Value}
use Rattle.wit_types.specs.Plain.{Name, OneByte, UnsignedType, VariantForm, VariantType, Plain, Parts, End, More, Bare, bare, payload_of, fields_of, types_of, cases_of, case_part}
use Rattle.wit_types.specs.PlainValue.{PlainValue, Payload, BoolValue, IntValue, CharValue, StringValue, ListValue, RecordValue, VariantValue, FlagsValue, HandleValue, values_of, byte_values}
use Rattle.wit_types.specs.HasType.{is_of, are_of, is_of_case, is_of_payload, is_without, is_variant, all_pass}

pub case_part-first : (name : Name) (p : Option Plain) (rest : Parts) (x : Payload) → is_of_case (case_part name p rest) zero x ≡ is_of_payload p x
case_part-first name None rest x = refl
case_part-first name (Some t) rest x = refl

pub case_part-later : (name : Name) (p : Option Plain) (rest : Parts) (n : ℕ) (x : Payload) → is_of_case (case_part name p rest) (suc n) x ≡ is_of_case rest n x
case_part-later name None rest n x = refl
case_part-later name (Some t) rest n x = refl

pub is_of_case-cases_of : (cs : List Case) (n : ℕ) (x : Payload) (d : Case) → n < length cs → is_of_case (cases_of cs) n x ≡ is_of_payload (payload_of (out-Case (get_or cs n d)).ty) x
is_of_case-cases_of [] n x d lt = absurd (omega arith)
is_of_case-cases_of (c ∷ cs) zero x d lt = case_part-first _ _ _ x
is_of_case-cases_of (c ∷ cs) (suc n) x d lt = case_part-later _ _ _ n x ∙ is_of_case-cases_of cs n x d (omega arith)

pub is_of_case-past : (cs : List Case) (n : ℕ) (x : Payload) → length cs ≤ n → is_of_case (cases_of cs) n x ≡ false
is_of_case-past [] n x le = refl
is_of_case-past (c ∷ cs) zero x le = absurd (omega arith)
is_of_case-past (c ∷ cs) (suc n) x le = case_part-later _ _ _ n x ∙ is_of_case-past cs n x (omega arith)

pub is_of_case-bare : (labels : List Name) (n : ℕ) (x : Payload) → is_of_case (bare labels) n x ≡ (nat_lt n (length labels) && is_without x)
is_of_case-bare [] n x = grind (arith, nat_tests)
is_of_case-bare (l ∷ ls) zero x = grind (arith, nat_tests)
is_of_case-bare (l ∷ ls) (suc n) x = is_of_case-bare ls n x ∙ grind (arith, nat_tests)

and_false : (b : Bool) → (b && false) ≡ false
and_false true = refl
and_false false = refl

pub are_of-fields_of : (fs : List Field) (vs : List Value) → length vs ≢ length fs → are_of (fields_of fs) (values_of vs) ≡ false
are_of-fields_of [] [] differ = absurd (differ refl)
are_of-fields_of [] (v ∷ vs) differ = refl
are_of-fields_of (f ∷ fs) [] differ = refl
are_of-fields_of (f ∷ fs) (v ∷ vs) differ = let rest = are_of-fields_of fs vs (λ e. differ (omega (arith, e))) in rw rest (and_false _)

pub are_of-types_of : (ts : List WitType) (vs : List Value) → length vs ≢ length ts → are_of (types_of ts) (values_of vs) ≡ false
are_of-types_of [] [] differ = absurd (differ refl)
are_of-types_of [] (v ∷ vs) differ = refl
are_of-types_of (t ∷ ts) [] differ = refl
are_of-types_of (t ∷ ts) (v ∷ vs) differ = let rest = are_of-types_of ts vs (λ e. differ (omega (arith, e))) in rw rest (and_false _)

-- the same of bytes
pub are_of-fields_of-bytes : (fs : List Field) (bs : List ℕ) → length bs ≢ length fs → are_of (fields_of fs) (byte_values bs) ≡ false
are_of-fields_of-bytes [] [] differ = absurd (differ refl)
are_of-fields_of-bytes [] (b ∷ bs) differ = refl
are_of-fields_of-bytes (f ∷ fs) [] differ = refl
are_of-fields_of-bytes (f ∷ fs) (b ∷ bs) differ = let rest = are_of-fields_of-bytes fs bs (λ e. differ (omega (arith, e))) in rw rest (and_false _)

pub are_of-types_of-bytes : (ts : List WitType) (bs : List ℕ) → length bs ≢ length ts → are_of (types_of ts) (byte_values bs) ≡ false
are_of-types_of-bytes [] [] differ = absurd (differ refl)
are_of-types_of-bytes [] (b ∷ bs) differ = refl
are_of-types_of-bytes (t ∷ ts) [] differ = refl
are_of-types_of-bytes (t ∷ ts) (b ∷ bs) differ = let rest = are_of-types_of-bytes ts bs (λ e. differ (omega (arith, e))) in rw rest (and_false _)

-- bytes are of the type of bytes
pub are_bytes : (bs : List ℕ) → ((k : ℕ) → get_or bs k 0 < 2 ^ 8) → all_pass (λ v. is_of (UnsignedType OneByte) v) (byte_values bs) ≡ true
are_bytes [] h = refl
are_bytes (b ∷ bs) h =
    let here : b < 256 = h 0 in
    let rest : all_pass (λ v. is_of (UnsignedType OneByte) v) (byte_values bs) ≡ true = are_bytes bs (λ k. h (suc k)) in
    rw rest (grind (arith, nat_tests))

-- an enum has cases without payloads
pub is_of-bare : (form : VariantForm) (labels : List Name) (v : PlainValue) → is_variant (λ n x. nat_lt n (length labels) && is_without x) v ≡ is_of (VariantType form (bare labels)) v
is_of-bare form labels (VariantValue n x) = sym (is_of_case-bare labels n x)
is_of-bare form labels (BoolValue _) = refl
is_of-bare form labels (IntValue _) = refl
is_of-bare form labels (CharValue _) = refl
is_of-bare form labels (StringValue _) = refl
is_of-bare form labels (ListValue _) = refl
is_of-bare form labels (RecordValue _) = refl
is_of-bare form labels (FlagsValue _) = refl
is_of-bare form labels (HandleValue _) = refl

-- two cases have no third
pub is_of_case-two : (p q : Option Plain) (n : ℕ) (x : Payload) → 2 ≤ n → is_of_case (case_part [] p (case_part [] q End)) n x ≡ false
is_of_case-two p q zero x le = absurd (omega arith)
is_of_case-two p q (suc zero) x le = absurd (omega arith)
is_of_case-two p q (suc (suc n)) x le = case_part-later _ p _ _ x ∙ case_part-later _ q _ _ x

pub is_of_case-option : (some : Plain) (n : ℕ) (x : Payload) → 2 ≤ n → is_of_case (Bare [] (More [] some End)) n x ≡ false
is_of_case-option some n x le = is_of_case-two None (Some some) n x le
