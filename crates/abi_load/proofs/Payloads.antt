-- The payload of a case by the lists of a type's cases.
use Rattle.std.proofs.Common.{◌≡◌, ℕ, ◌+◌, ◌<◌, ◌≤◌, ap, refl, sym, ◌∙◌, max, List, [], ◌∷◌, length, get_or, Option, Some, None, arith, suc, zero, inl, inr}
use Rattle.std.specs.Prelude.{option_map, option_and_then, if◌then◌else◌, nat_lt, ◌==◌, Box}
use Rattle.std.proofs.lemmas.Bool.{cases_lt}
use Rattle.std.proofs.lemmas.Bool.Decides.{nat_tests}
use Rattle.wit_types.specs.declared.types.Case.{Case, out-Case}
use Rattle.std.specs.declared.rc.Rc.{Rc}
use Rattle.std.proofs.Common.{Global}
use Rattle.virt_base.specs.declared.items.Items.{Items}
use Rattle.virt_base.specs.declared.text.Text.{Text}
use Rattle.wit_types.specs.declared.types.WitType.{WitType}
use Rattle.wit_types.specs.declared.types.WitType.TheVariants.{Enum, Result as Results}
use Rattle.wit_types.specs.declared.value.Value.{Value}
use Rattle.wit_types.specs.declared.value.Value.TheVariants.{Variant}
use Rattle.wit_types.proofs.ValueLemmas.{plain_value-Variant}
use Rattle.wit_types.specs.Layout.{alignment, greatest_alignment, align_to, discriminant_size, count}
use Rattle.wit_types.specs.Limits.{all_parts}
use Rattle.wit_types.proofs.PlainLemmas.{plain-Enum, plain-Result}
use Rattle.abi_layout.proofs.LayoutLemmas.{count-bare, count-cases_of, count-two, greatest_alignment-two, all_parts-case_part, alignment_bounds}
use Rattle.wit_types.specs.Plain.{VariantType, AsEnum, plain, Name, Plain, Parts, End, More, Bare, bare, payload_of, cases_of, case_part}
use Rattle.wit_types.specs.PlainValue.{PlainValue, VariantValue, Without, With, plain_value}
use Rattle.abi_layout.specs.Loading.{read, case_at, loads_at, payload_offset}
use Rattle.abi_load.specs.Loaded.{payload_at, chosen_at, variant_at, enum_at}
use Rattle.abi_load.proofs.Steps.{variant_of, variant_none, variant_leads}

pub first_case : (m : List ℕ) (name : Name) (p : Option Plain) (rest : Parts) (at : ℕ) → case_at m (case_part name p rest) zero at ≡ payload_at m p at
first_case m name None rest at = refl
first_case m name (Some t) rest at = refl

pub later_case : (m : List ℕ) (name : Name) (p : Option Plain) (rest : Parts) (n at : ℕ) → case_at m (case_part name p rest) (suc n) at ≡ case_at m rest n at
later_case m name None rest n at = refl
later_case m name (Some t) rest n at = refl

pub case_at-cases_of : (m : List ℕ) (cs : List Case) (n at : ℕ) (d : Case) → n < length cs → case_at m (cases_of cs) n at ≡ payload_at m (payload_of (out-Case (get_or cs n d)).ty) at
case_at-cases_of m [] n at d lt = absurd (omega arith)
case_at-cases_of m (c ∷ cs) zero at d lt = first_case m (out-Case c).name (payload_of (out-Case c).ty) (cases_of cs) at
case_at-cases_of m (c ∷ cs) (suc n) at d lt = later_case m (out-Case c).name (payload_of (out-Case c).ty) (cases_of cs) n at ∙ case_at-cases_of m cs n at d (omega arith)

pub case_at-past : (m : List ℕ) (cs : List Case) (n at : ℕ) → length cs ≤ n → case_at m (cases_of cs) n at ≡ None
case_at-past m [] n at le = refl
case_at-past m (c ∷ cs) zero at le = absurd (omega arith)
case_at-past m (c ∷ cs) (suc n) at le = later_case m (out-Case c).name (payload_of (out-Case c).ty) (cases_of cs) n at ∙ case_at-past m cs n at (omega arith)

pub case_at-bare : (m : List ℕ) (labels : List Name) (n at : ℕ) → n < length labels → case_at m (bare labels) n at ≡ Some Without
case_at-bare m [] n at lt = absurd (omega arith)
case_at-bare m (l ∷ ls) zero at lt = refl
case_at-bare m (l ∷ ls) (suc n) at lt = case_at-bare m ls n at (omega arith)

pub case_at-bare-past : (m : List ℕ) (labels : List Name) (n at : ℕ) → length labels ≤ n → case_at m (bare labels) n at ≡ None
case_at-bare-past m [] n at le = refl
case_at-bare-past m (l ∷ ls) zero at le = absurd (omega arith)
case_at-bare-past m (l ∷ ls) (suc n) at le = case_at-bare-past m ls n at (omega arith)

-- two cases have no third
pub case_at-two : (m : List ℕ) (p q : Option Plain) (n at : ℕ) → 2 ≤ n → case_at m (case_part [] p (case_part [] q End)) n at ≡ None
case_at-two m p q zero at le = absurd (omega arith)
case_at-two m p q (suc zero) at le = absurd (omega arith)
case_at-two m p q (suc (suc n)) at le = later_case m [] p (case_part [] q End) (suc n) at ∙ later_case m [] q End n at

pub case_at-second : (m : List ℕ) (p q : Option Plain) (at : ℕ) → case_at m (case_part [] p (case_part [] q End)) 1 at ≡ payload_at m q at
case_at-second m p q at = later_case m [] p (case_part [] q End) 0 at ∙ first_case m [] q End at

-- ---- an enum

and_then_same : {A B : Type 0} (f g : A → Option B) (o : Option A) → ((x : A) → f x ≡ g x) → option_and_then f o ≡ option_and_then g o
and_then_same f g None h = refl
and_then_same f g (Some x) h = h x

chosen : (n k : ℕ) (v : PlainValue) → n < k → (if nat_lt n k then Some v else None) ≡ Some v
chosen n k v lt = grind (arith, nat_tests)

refused : (n k : ℕ) (v : PlainValue) → k ≤ n → (if nat_lt n k then Some v else None) ≡ None
refused n k v le = grind (arith, nat_tests)

enum_case : (m : List ℕ) (labels : List Name) (n place : ℕ) →
    option_map (VariantValue n) (case_at m (bare labels) n place) ≡ (if nat_lt n (length labels) then Some (VariantValue n Without) else None)
enum_case m labels n place = elim (cases_lt n (length labels)) [
  | inl lt ↦ ap (option_map (VariantValue n)) (case_at-bare m labels n place lt) ∙ sym (chosen n (length labels) (VariantValue n Without) lt)
  | inr le ↦ ap (option_map (VariantValue n)) (case_at-bare-past m labels n place le) ∙ sym (refused n (length labels) (VariantValue n Without) le)
]

pub enum_same : (m : List ℕ) (labels : List Name) (at : ℕ) → loads_at m (VariantType AsEnum (bare labels)) at ≡ enum_at m (length labels) at
enum_same m labels at =
    and_then_same (λ n. option_map (VariantValue n) (case_at m (bare labels) n (at + payload_offset (bare labels)))) (λ n. if nat_lt n (length labels) then Some (VariantValue n Without) else None)
    (read m at (discriminant_size (count (bare labels)))) (λ n. enum_case m labels n (at + payload_offset (bare labels)))
    ∙ ap (λ k. option_and_then (λ n. if nat_lt n (length labels) then Some (VariantValue n Without) else None) (read m at (discriminant_size k))) (count-bare labels)

pub enum_loaded : (m : List ℕ) (ty : WitType) (labels : Rc (Items Text) Global) (shown : List Name) (at n : ℕ) → ty ≡ Enum labels → shown ≡ labels.value → n ≡ length shown → loads_at m (plain ty) at ≡ enum_at m n at
enum_loaded m ty labels shown at n is held len =
    ap (λ (p : Plain). loads_at m p at) (ap (λ (w : WitType). plain w) is ∙ plain-Enum labels) ∙ enum_same m labels.value at ∙ ap (λ k. enum_at m k at) (sym (len ∙ ap (λ (v : List Name). length v) held))

-- ---- how many parts a payload has

pub payload_parts : (cs : List Case) (n : ℕ) (d : Case) → n < length cs → all_parts (case_part [] (payload_of (out-Case (get_or cs n d)).ty) End) ≤ all_parts (cases_of cs)
payload_parts [] n d lt = absurd (omega arith)
payload_parts (c ∷ cs) zero d lt = omega (arith, all_parts-case_part (out-Case c).name (payload_of (out-Case c).ty) (cases_of cs))
payload_parts (c ∷ cs) (suc n) d lt = omega (arith, all_parts-case_part (out-Case c).name (payload_of (out-Case c).ty) (cases_of cs), payload_parts cs n d (omega arith))

-- ---- an option

pub option_offset : (p : Plain) (align offset : ℕ) → align ≡ alignment p → offset ≡ align_to (discriminant_size 2) align → offset ≡ payload_offset (Bare [] (More [] p End))
option_offset p align offset is so =
    so ∙ ap (align_to 1) (is ∙ (let e : alignment p ≡ max (alignment p) 1 = omega (arith, (alignment_bounds p).least) in e))

pub option_none : (m : List ℕ) (p : Plain) (at n : ℕ) → read m at 1 ≡ Some n → n ≡ 0 → variant_at m (Bare [] (More [] p End)) at ≡ Some (VariantValue 0 Without)
option_none m p at n is zero_is =
    variant_of m (Bare [] (More [] p End)) at 1 0 (at + payload_offset (Bare [] (More [] p End))) Without refl refl (is ∙ ap Some zero_is) refl

pub option_some : (m : List ℕ) (p : Plain) (at n place offset : ℕ) (v : PlainValue) → read m at 1 ≡ Some n → n ≡ 1 → place ≡ at + offset → offset ≡ payload_offset (Bare [] (More [] p End)) → loads_at m p place ≡ Some v →
    variant_at m (Bare [] (More [] p End)) at ≡ Some (VariantValue 1 (With v))
option_some m p at n place offset v is one there offset_is so =
    variant_of m (Bare [] (More [] p End)) at 1 1 place (With v) refl (there ∙ ap (λ k. at + k) offset_is) (is ∙ ap Some one) (ap (option_map With) so)

-- ---- a case

pub case_none : (m : List ℕ) (n : ℕ) (ty : Option (Rc WitType Global)) (at : ℕ) → ty ≡ None → chosen_at m n (payload_of ty) at ≡ Some (plain_value (Variant n None))
case_none m n ty at is = ap (λ (x : Option (Rc WitType Global)). chosen_at m n (payload_of x) at) is ∙ ap Some (sym (plain_value-Variant n None))

pub case_some : (m : List ℕ) (n : ℕ) (ty : Option (Rc WitType Global)) (b : Rc WitType Global) (at : ℕ) (t : WitType) (v : Value) (held : Box Value Global) → ty ≡ Some b → t ≡ b.value → loads_at m (plain t) at ≡ Some (plain_value v) → held.value ≡ v →
    chosen_at m n (payload_of ty) at ≡ Some (plain_value (Variant n (Some held)))
case_some m n ty b at t v held is same so kept =
    ap (λ (x : Option (Rc WitType Global)). chosen_at m n (payload_of x) at) is
    ∙ ap (λ (x : Option PlainValue). option_map (VariantValue n) (option_map With x)) (ap (λ (w : WitType). loads_at m (plain w) at) (sym same) ∙ so ∙ ap (λ (w : Value). Some (plain_value w)) (sym kept))
    ∙ ap Some (sym (plain_value-Variant n (Some held)))

-- ---- a result

pub result_offset : (p q : Option Plain) (a b align offset : ℕ) → a ≡ greatest_alignment (case_part [] p End) → b ≡ greatest_alignment (case_part [] q End) → align ≡ max a b → offset ≡ align_to (discriminant_size 2) align →
    offset ≡ payload_offset (case_part [] p (case_part [] q End))
result_offset p q a b align offset first second is so =
    so ∙ ap (align_to 1) (is ∙ (let e : max a b ≡ max (greatest_alignment (case_part [] p End)) (greatest_alignment (case_part [] q End)) = omega (arith, first, second) in e) ∙ sym (greatest_alignment-two p q))
    ∙ ap (λ k. align_to (discriminant_size k) (greatest_alignment (case_part [] p (case_part [] q End)))) (sym (count-two p q))

two_wide : (p q : Option Plain) → 1 ≡ discriminant_size (count (case_part [] p (case_part [] q End)))
two_wide p q = ap discriminant_size (sym (count-two p q))

at_two : (m : List ℕ) (p q : Option Plain) (n place : ℕ) → n ≤ 1 → case_at m (case_part [] p (case_part [] q End)) n place ≡ payload_at m (if n == 0 then p else q) place
at_two m p q zero place le = first_case m [] p (case_part [] q End) place
at_two m p q (suc zero) place le = case_at-second m p q place
at_two m p q (suc (suc n)) place le = absurd (omega arith)

pub result_chosen : (m : List ℕ) (p q : Option Plain) (at n place offset : ℕ) → read m at 1 ≡ Some n → n ≤ 1 → place ≡ at + offset → offset ≡ payload_offset (case_part [] p (case_part [] q End)) →
    variant_at m (case_part [] p (case_part [] q End)) at ≡ chosen_at m n (if n == 0 then p else q) place
result_chosen m p q at n place offset is le there offset_is =
    variant_leads m (case_part [] p (case_part [] q End)) at 1 n place (if n == 0 then p else q) (two_wide p q) (there ∙ ap (λ k. at + k) offset_is) is (at_two m p q n place le)

pub result_past : (m : List ℕ) (p q : Option Plain) (at n : ℕ) → read m at 1 ≡ Some n → 1 < n → variant_at m (case_part [] p (case_part [] q End)) at ≡ None
result_past m p q at n is past =
    let place = at + payload_offset (case_part [] p (case_part [] q End)) in
    variant_none m (case_part [] p (case_part [] q End)) at 1 n place (two_wide p q) refl is (case_at-two m p q n place past)

pub result_loaded : (m : List ℕ) (ty : WitType) (ok err : Option (Rc WitType Global)) (at : ℕ) → ty ≡ Results ok err → loads_at m (plain ty) at ≡ variant_at m (case_part [] (payload_of ok) (case_part [] (payload_of err) End)) at
result_loaded m ty ok err at is = ap (λ (p : Plain). loads_at m p at) (ap (λ (w : WitType). plain w) is ∙ plain-Result ok err)

pub other_named : (n : ℕ) (p q : Option Plain) → 0 < n → (if n == 0 then p else q) ≡ q
other_named n p q some = grind (arith, nat_tests)

pub result_is : (m : List ℕ) (ty : WitType) (ok err : Option (Rc WitType Global)) (p q chosen : Option Plain) (at n place : ℕ) → ty ≡ Results ok err → payload_of ok ≡ p → payload_of err ≡ q →
    variant_at m (case_part [] p (case_part [] q End)) at ≡ chosen_at m n (if n == 0 then p else q) place → (if n == 0 then p else q) ≡ chosen → loads_at m (plain ty) at ≡ chosen_at m n chosen place
result_is m ty ok err p q chosen at n place is first second leads choice =
    result_loaded m ty ok err at is ∙ ap (λ (x : Option Plain). variant_at m (case_part [] x (case_part [] (payload_of err) End)) at) first
    ∙ ap (λ (x : Option Plain). variant_at m (case_part [] p (case_part [] x End)) at) second ∙ leads ∙ ap (λ (x : Option Plain). chosen_at m n x place) choice

-- ---- a variant

pub cases_wide : (cs : List Case) (width : ℕ) → width ≡ discriminant_size (length cs) → width ≡ discriminant_size (count (cases_of cs))
cases_wide cs width is = is ∙ ap discriminant_size (sym (count-cases_of cs))

pub cases_offset : (cs : List Case) (align offset : ℕ) → align ≡ greatest_alignment (cases_of cs) → offset ≡ align_to (discriminant_size (length cs)) align → offset ≡ payload_offset (cases_of cs)
cases_offset cs align offset is so =
    so ∙ ap (align_to (discriminant_size (length cs))) is ∙ ap (λ k. align_to (discriminant_size k) (greatest_alignment (cases_of cs))) (sym (count-cases_of cs))

pub variant_chosen : (m : List ℕ) (cs : List Case) (at width n place : ℕ) (d : Case) → width ≡ discriminant_size (length cs) → place ≡ at + payload_offset (cases_of cs) → read m at width ≡ Some n → n < length cs →
    variant_at m (cases_of cs) at ≡ chosen_at m n (payload_of (out-Case (get_or cs n d)).ty) place
variant_chosen m cs at width n place d wide there is lt =
    variant_leads m (cases_of cs) at width n place (payload_of (out-Case (get_or cs n d)).ty) (cases_wide cs width wide) there is (case_at-cases_of m cs n place d lt)

pub variant_past : (m : List ℕ) (cs : List Case) (at width n : ℕ) → width ≡ discriminant_size (length cs) → read m at width ≡ Some n → length cs ≤ n → variant_at m (cases_of cs) at ≡ None
variant_past m cs at width n wide is past =
    let place = at + payload_offset (cases_of cs) in
    variant_none m (cases_of cs) at width n place (cases_wide cs width wide) refl is (case_at-past m cs n place past)
