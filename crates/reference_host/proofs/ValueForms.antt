-- The result types of rows, and which values have them.
use Rattle.std.proofs.Common.{◌≡◌, ℕ, ◌<◌, Bool, true, false, List, [], ◌∷◌, ◌++◌, map, filter, length, replicate, All, Option, Some, None, refl, ◌∙◌, arith, cond}
use Rattle.std.proofs.lemmas.Bool.Decides.{nat_tests}
use Rattle.std.proofs.lemmas.List.Elements.{All-head, All-tail}
use Rattle.wit_types.specs.Plain.{Name, Width, OneByte, FourBytes, EightBytes, Plain, AsRecord, AsTuple, AsVariant, AsEnum, AsOption, AsResult, UnsignedType, StringType, ListType, RecordType, VariantType, OwnType, End as NoParts, More as Part, Bare, bare, case_part}
use Rattle.wit_types.specs.PlainValue.{PlainValue, Without}
use Rattle.wit_types.specs.HasType.{integers, is_of, all_pass}
use Rattle.wit_types.proofs.TypingLemmas.{is_of_case-bare}
use Rattle.reference_step.specs.Values.{number, numbers, label, ok, error_code, closed, values}
use Rattle.reference_host.proofs.TypeLaws.{first_true, second_true}

-- ---- types, without names

abbrev pub u8 : Plain
u8 = UnsignedType OneByte

abbrev pub u32 : Plain
u32 = UnsignedType FourBytes

abbrev pub u64 : Plain
u64 = UnsignedType EightBytes

abbrev pub handle : Plain
handle = OwnType 0

-- an enum of that many labels
abbrev pub labels : ℕ → Plain
labels count = VariantType AsEnum (bare (replicate count []))

abbrev pub optional : Plain → Plain
optional ty = VariantType AsOption (Bare [] (Part [] ty NoParts))

abbrev pub result : Option Plain → Plain → Plain
result good bad = VariantType AsResult (case_part [] good (Part [] bad NoParts))

-- stream-error of wasi:io/streams
abbrev pub stream_error : Plain
stream_error = VariantType AsVariant (Part [] handle (Bare [] NoParts))

-- the results of wasi:io/streams and of wasi:filesystem/types
abbrev pub streamed : Option Plain → Option Plain
streamed good = Some (result good stream_error)

abbrev pub filed : Option Plain → Option Plain
filed good = Some (result good (labels 37))

abbrev pub datetime : Plain
datetime = RecordType AsRecord (Part [] u64 (Part [] u32 NoParts))

abbrev pub descriptor_stat : Plain
descriptor_stat = RecordType AsRecord (Part [] (labels 8) (Part [] u64 (Part [] u64 (Part [] (optional datetime) (Part [] (optional datetime) (Part [] (optional datetime) NoParts))))))

abbrev pub metadata_hash : Plain
metadata_hash = RecordType AsRecord (Part [] u64 (Part [] u64 NoParts))

abbrev pub directory_entry : Plain
directory_entry = RecordType AsRecord (Part [] (labels 8) (Part [] StringType NoParts))

-- a name and a value
abbrev pub variable : Plain
variable = RecordType AsTuple (Part [] StringType (Part [] StringType NoParts))

-- a folder and its name
abbrev pub folder : Plain
folder = RecordType AsTuple (Part [] handle (Part [] StringType NoParts))

-- ---- values

abbrev pub Has : Plain → PlainValue → Type 0
Has ty v = is_of ty v ≡ true

pub number_has : (width : Width) (n : ℕ) → n < integers width → Has (UnsignedType width) (number n)
number_has width n less = grind (arith, nat_tests, less)

pub numbers_have : (width : Width) (ns : List ℕ) → All (λ n. n < integers width) ns → Has (ListType (UnsignedType width)) (numbers ns)
numbers_have width [] all = refl
numbers_have width (n ∷ ns) all = rw (number_has width n (All-head (λ n. n < integers width) n ns all), numbers_have width ns (All-tail (λ n. n < integers width) n ns all)) refl

pub label_has : (count n : ℕ) → n < length {A = Name} (replicate count []) → Has (labels count) (label n)
label_has count n less = is_of_case-bare (replicate count []) n Without ∙ grind (arith, nat_tests, less)

pub ok_has : (good bad : Plain) (v : PlainValue) → Has good v → Has (result (Some good) bad) (ok v)
ok_has good bad v has = has

-- an error code of wasi:filesystem/types
pub code_has : (good : Option Plain) (e : ℕ) → e < 37 → Has (result good (labels 37)) (error_code e)
code_has None e less = label_has 37 e less
code_has (Some good) e less = label_has 37 e less

pub closed_has : (good : Option Plain) → Has (result good stream_error) closed
closed_has None = refl
closed_has (Some good) = refl

-- ---- lists

pub append_pass : (test : PlainValue → Bool) (xs ys : List PlainValue) → all_pass test (values xs) ≡ true → all_pass test (values ys) ≡ true → all_pass test (values (xs ++ ys)) ≡ true
append_pass test [] ys p q = q
append_pass test (x ∷ xs) ys p q = rw (first_true (test x) (all_pass test (values xs)) p, append_pass test xs ys (second_true (test x) (all_pass test (values xs)) p) q) refl

pub filter_pass : (test keep : PlainValue → Bool) (xs : List PlainValue) → all_pass test (values xs) ≡ true → all_pass test (values (filter keep xs)) ≡ true
filter_pass test keep [] p = refl
filter_pass test keep (x ∷ xs) p = by (keep x) (filter_pass test keep xs (second_true (test x) (all_pass test (values xs)) p))
  where
    by : (b : Bool) → all_pass test (values (filter keep xs)) ≡ true → all_pass test (values (cond b (x ∷ filter keep xs) (filter keep xs))) ≡ true
    by true later = rw (first_true (test x) (all_pass test (values xs)) p, later) refl
    by false later = later

pub each_pass : {A : Type 0} (test : PlainValue → Bool) (f : A → PlainValue) → ((x : A) → test (f x) ≡ true) → (xs : List A) → all_pass test (values (map f xs)) ≡ true
each_pass test f each [] = refl
each_pass test f each (x ∷ xs) = rw (each x, each_pass test f each xs) refl
