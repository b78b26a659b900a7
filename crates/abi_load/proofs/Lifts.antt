-- Flat values of variants and records, by the lists of a type's parts.
use Rattle.std.proofs.Common.{◌≡◌, ℕ, ◌+◌, ◌<◌, ◌≤◌, ap, refl, sym, ◌∙◌, Bool, true, false, ◌||◌, List, [], ◌∷◌, ◌++◌, length, get_or, length-append, Option, Some, None, arith, suc, zero, inl, inr, Global}
use Rattle.std.specs.Prelude.{option_map, if◌then◌else◌, nat_lt, ◌==◌, Box, Result, IfOk}
use Rattle.std.specs.declared.rc.Rc.{Rc}
use Rattle.std.proofs.lemmas.Bool.{cases_lt}
use Rattle.std.proofs.lemmas.Bool.Decides.{nat_tests}
use Rattle.virt_base.specs.declared.items.Items.{Items}
use Rattle.virt_base.specs.declared.text.Text.{Text}
use Rattle.wit_types.specs.declared.types.Case.{Case, out-Case}
use Rattle.wit_types.specs.declared.types.WitType.{WitType}
use Rattle.wit_types.specs.declared.types.WitType.TheVariants.{Enum, Result as Results}
use Rattle.wit_types.specs.declared.value.Value.{Value}
use Rattle.wit_types.specs.declared.value.Value.TheVariants.{Variant}
use Rattle.wit_types.proofs.ValueLemmas.{plain_value-Variant}
use Rattle.wit_types.specs.Layout.{flat, flat_fields, flat_cases}
use Rattle.wit_types.specs.Plain.{Name, Plain, Parts, End, More, Bare, bare, plain, payload_of, case_part, cases_of}
use Rattle.wit_types.specs.PlainValue.{PlainValue, PlainValues, VariantValue, Payload, Without, With, plain_value, values_of}
use Rattle.wit_types.proofs.PlainLemmas.{plain-Enum, plain-Result}
use Rattle.abi_layout.specs.Loading.{lift_flat, lift_fields, lift_case, low_word, has_ranges, parts_have_ranges}
use Rattle.abi_layout.proofs.FlatLemmas.{length-join}
use Rattle.abi_load.specs.Lifted.{payload_lifted, case_lifted, variant_lifted, enum_lifted}
use Rattle.std.specs.Prelude.{Ok, Err}
use Rattle.wit_types.specs.HasType.{is_of, HasType}
use Rattle.abi_layout.proofs.TypeLaws.{passed, lifted_passes}
use Rattle.abi_load.specs.declared.fault.LoadFault.{LoadFault}
use Rattle.abi_load.proofs.Chains.{behind, more, ended}

-- ---- the payload of a case

first_lifted : (m : List ℕ) (name : Name) (p : Option Plain) (rest : Parts) (ws : List ℕ) (k : ℕ) → lift_case m (case_part name p rest) zero ws k ≡ payload_lifted m p ws k
first_lifted m name None rest ws k = refl
first_lifted m name (Some t) rest ws k = refl

later_lifted : (m : List ℕ) (name : Name) (p : Option Plain) (rest : Parts) (n : ℕ) (ws : List ℕ) (k : ℕ) → lift_case m (case_part name p rest) (suc n) ws k ≡ lift_case m rest n ws k
later_lifted m name None rest n ws k = refl
later_lifted m name (Some t) rest n ws k = refl

lifted-cases_of : (m : List ℕ) (cs : List Case) (n : ℕ) (ws : List ℕ) (k : ℕ) (d : Case) → n < length cs → lift_case m (cases_of cs) n ws k ≡ payload_lifted m (payload_of (out-Case (get_or cs n d)).ty) ws k
lifted-cases_of m [] n ws k d lt = absurd (omega arith)
lifted-cases_of m (c ∷ cs) zero ws k d lt = first_lifted m (out-Case c).name (payload_of (out-Case c).ty) (cases_of cs) ws k
lifted-cases_of m (c ∷ cs) (suc n) ws k d lt = later_lifted m (out-Case c).name (payload_of (out-Case c).ty) (cases_of cs) n ws k ∙ lifted-cases_of m cs n ws k d (omega arith)

lifted-past : (m : List ℕ) (cs : List Case) (n : ℕ) (ws : List ℕ) (k : ℕ) → length cs ≤ n → lift_case m (cases_of cs) n ws k ≡ None
lifted-past m [] n ws k le = refl
lifted-past m (c ∷ cs) zero ws k le = absurd (omega arith)
lifted-past m (c ∷ cs) (suc n) ws k le = later_lifted m (out-Case c).name (payload_of (out-Case c).ty) (cases_of cs) n ws k ∙ lifted-past m cs n ws k (omega arith)

lifted-bare : (m : List ℕ) (labels : List Name) (n : ℕ) (ws : List ℕ) (k : ℕ) → n < length labels → lift_case m (bare labels) n ws k ≡ Some Without
lifted-bare m [] n ws k lt = absurd (omega arith)
lifted-bare m (l ∷ ls) zero ws k lt = refl
lifted-bare m (l ∷ ls) (suc n) ws k lt = lifted-bare m ls n ws k (omega arith)

lifted-bare-past : (m : List ℕ) (labels : List Name) (n : ℕ) (ws : List ℕ) (k : ℕ) → length labels ≤ n → lift_case m (bare labels) n ws k ≡ None
lifted-bare-past m [] n ws k le = refl
lifted-bare-past m (l ∷ ls) zero ws k le = absurd (omega arith)
lifted-bare-past m (l ∷ ls) (suc n) ws k le = lifted-bare-past m ls n ws k (omega arith)

-- ---- a case with its payload

pub case_is : (ty : Option (Rc WitType Global)) (b : Rc WitType Global) (t : WitType) → ty ≡ Some b → t ≡ b.value → case_part [] (payload_of ty) End ≡ More [] (plain t) End
case_is ty b t is held = rw (is, held) refl

pub case_none : (m : List ℕ) (n : ℕ) (ty : Option (Rc WitType Global)) (ws : List ℕ) (k : ℕ) → ty ≡ None → case_lifted m n (payload_of ty) ws k ≡ Some (plain_value (Variant n None))
case_none m n ty ws k is = ap (λ (x : Option (Rc WitType Global)). case_lifted m n (payload_of x) ws k) is ∙ ap Some (sym (plain_value-Variant n None))

pub case_some : (m : List ℕ) (n : ℕ) (ty : Option (Rc WitType Global)) (b : Rc WitType Global) (ws : List ℕ) (k : ℕ) (t : WitType) (v : Value) (held : Box Value Global) → ty ≡ Some b → t ≡ b.value →
    lift_flat m (plain t) ws k ≡ Some (plain_value v) → held.value ≡ v → case_lifted m n (payload_of ty) ws k ≡ Some (plain_value (Variant n (Some held)))
case_some m n ty b ws k t v held is same so kept =
    ap (λ (x : Option (Rc WitType Global)). case_lifted m n (payload_of x) ws k) is
    ∙ ap (λ (x : Option PlainValue). option_map (VariantValue n) (option_map With x)) (ap (λ (w : WitType). lift_flat m (plain w) ws k) (sym same) ∙ so ∙ ap (λ (w : Value). Some (plain_value w)) (sym kept))
    ∙ ap Some (sym (plain_value-Variant n (Some held)))

-- ---- variants, whose number is read first

numbered : (m : List ℕ) (cases : Parts) (ws : List ℕ) (k n : ℕ) (o : Option Payload) → n ≡ low_word ws k → lift_case m cases n ws (k + 1) ≡ o → variant_lifted m cases ws k ≡ option_map (VariantValue n) o
numbered m cases ws k n o is so = ap (λ j. option_map (VariantValue j) (lift_case m cases j ws (k + 1))) (sym is) ∙ ap (option_map (VariantValue n)) so

pub variant_chosen : (m : List ℕ) (cs : List Case) (ws : List ℕ) (k n : ℕ) (d : Case) → n ≡ low_word ws k → n < length cs → variant_lifted m (cases_of cs) ws k ≡ case_lifted m n (payload_of (out-Case (get_or cs n d)).ty) ws (k + 1)
variant_chosen m cs ws k n d is lt = numbered m (cases_of cs) ws k n (payload_lifted m (payload_of (out-Case (get_or cs n d)).ty) ws (k + 1)) is (lifted-cases_of m cs n ws (k + 1) d lt)

pub variant_past : (m : List ℕ) (cs : List Case) (ws : List ℕ) (k n : ℕ) → n ≡ low_word ws k → length cs ≤ n → variant_lifted m (cases_of cs) ws k ≡ None
variant_past m cs ws k n is le = numbered m (cases_of cs) ws k n None is (lifted-past m cs n ws (k + 1) le)

-- ---- an enum

chosen : (n j : ℕ) (v : PlainValue) → n < j → (if nat_lt n j then Some v else None) ≡ Some v
chosen n j v lt = grind (arith, nat_tests)

refused : (n j : ℕ) (v : PlainValue) → j ≤ n → (if nat_lt n j then Some v else None) ≡ None
refused n j v le = grind (arith, nat_tests)

enum_case : (m : List ℕ) (labels : List Name) (n : ℕ) (ws : List ℕ) (k : ℕ) → option_map (VariantValue n) (lift_case m (bare labels) n ws k) ≡ (if nat_lt n (length labels) then Some (VariantValue n Without) else None)
enum_case m labels n ws k = elim (cases_lt n (length labels)) [
  | inl lt ↦ ap (option_map (VariantValue n)) (lifted-bare m labels n ws k lt) ∙ sym (chosen n (length labels) (VariantValue n Without) lt)
  | inr le ↦ ap (option_map (VariantValue n)) (lifted-bare-past m labels n ws k le) ∙ sym (refused n (length labels) (VariantValue n Without) le)
]

pub enum_is : (m : List ℕ) (ty : WitType) (labels : Rc (Items Text) Global) (shown : List Name) (ws : List ℕ) (k n : ℕ) → ty ≡ Enum labels → shown ≡ labels.value → n ≡ length shown → lift_flat m (plain ty) ws k ≡ enum_lifted n ws k
enum_is m ty labels shown ws k n is held len =
    ap (λ (p : Plain). lift_flat m p ws k) (ap (λ (w : WitType). plain w) is ∙ plain-Enum labels) ∙ enum_case m labels.value (low_word ws k) ws (k + 1)
    ∙ ap (λ j. enum_lifted j ws k) (sym (len ∙ ap (λ (v : List Name). length v) held))

pub enum_chosen : (labels : ℕ) (ws : List ℕ) (k n : ℕ) → n ≡ low_word ws k → n < labels → enum_lifted labels ws k ≡ Some (VariantValue n Without)
enum_chosen labels ws k n is lt = ap (λ j. if nat_lt j labels then Some (VariantValue j Without) else None) (sym is) ∙ chosen n labels (VariantValue n Without) lt

-- ---- an option

pub option_none : (m : List ℕ) (p : Plain) (ws : List ℕ) (k n : ℕ) → n ≡ low_word ws k → n ≡ 0 → variant_lifted m (Bare [] (More [] p End)) ws k ≡ Some (VariantValue 0 Without)
option_none m p ws k n is none = numbered m (Bare [] (More [] p End)) ws k 0 (Some Without) (sym none ∙ is) refl

pub option_some : (m : List ℕ) (p : Plain) (ws : List ℕ) (k n : ℕ) (o : Option PlainValue) → n ≡ low_word ws k → n ≡ 1 → lift_flat m p ws (k + 1) ≡ o → variant_lifted m (Bare [] (More [] p End)) ws k ≡ option_map (λ v. VariantValue 1 (With v)) o
option_some m p ws k n o is one so = numbered m (Bare [] (More [] p End)) ws k 1 (option_map With o) (sym one ∙ is) (ap (option_map With) so) ∙ twice o
  where
    twice : (o : Option PlainValue) → option_map (VariantValue 1) (option_map With o) ≡ option_map (λ v. VariantValue 1 (With v)) o
    twice None = refl
    twice (Some v) = refl

-- ---- a result

two_lifted : (m : List ℕ) (p q : Option Plain) (n : ℕ) (ws : List ℕ) (k : ℕ) → n ≤ 1 → lift_case m (case_part [] p (case_part [] q End)) n ws k ≡ payload_lifted m (if n == 0 then p else q) ws k
two_lifted m p q zero ws k le = first_lifted m [] p (case_part [] q End) ws k
two_lifted m p q (suc zero) ws k le = later_lifted m [] p (case_part [] q End) 0 ws k ∙ first_lifted m [] q End ws k
two_lifted m p q (suc (suc n)) ws k le = absurd (omega arith)

two_past : (m : List ℕ) (p q : Option Plain) (n : ℕ) (ws : List ℕ) (k : ℕ) → 1 < n → lift_case m (case_part [] p (case_part [] q End)) n ws k ≡ None
two_past m p q zero ws k lt = absurd (omega arith)
two_past m p q (suc zero) ws k lt = absurd (omega arith)
two_past m p q (suc (suc n)) ws k lt = later_lifted m [] p (case_part [] q End) (suc n) ws k ∙ later_lifted m [] q End n ws k

result_parts : (m : List ℕ) (ty : WitType) (ok err : Option (Rc WitType Global)) (ws : List ℕ) (k : ℕ) → ty ≡ Results ok err →
    lift_flat m (plain ty) ws k ≡ variant_lifted m (case_part [] (payload_of ok) (case_part [] (payload_of err) End)) ws k
result_parts m ty ok err ws k is = ap (λ (p : Plain). lift_flat m p ws k) (ap (λ (w : WitType). plain w) is ∙ plain-Result ok err)

pub result_past : (m : List ℕ) (ty : WitType) (ok err : Option (Rc WitType Global)) (ws : List ℕ) (k n : ℕ) → ty ≡ Results ok err → n ≡ low_word ws k → 1 < n → lift_flat m (plain ty) ws k ≡ None
result_past m ty ok err ws k n is read past =
    result_parts m ty ok err ws k is
    ∙ numbered m (case_part [] (payload_of ok) (case_part [] (payload_of err) End)) ws k n None read (two_past m (payload_of ok) (payload_of err) n ws (k + 1) past)

pub result_is : (m : List ℕ) (ty : WitType) (ok err : Option (Rc WitType Global)) (ws : List ℕ) (k n : ℕ) (p : Option Plain) → ty ≡ Results ok err → n ≡ low_word ws k → n ≤ 1 → (if n == 0 then payload_of ok else payload_of err) ≡ p →
    lift_flat m (plain ty) ws k ≡ case_lifted m n p ws (k + 1)
result_is m ty ok err ws k n p is read le choice =
    result_parts m ty ok err ws k is
    ∙ numbered m (case_part [] (payload_of ok) (case_part [] (payload_of err) End)) ws k n (payload_lifted m (if n == 0 then payload_of ok else payload_of err) ws (k + 1)) read
    (two_lifted m (payload_of ok) (payload_of err) n ws (k + 1) le)
    ∙ ap (λ (x : Option Plain). case_lifted m n x ws (k + 1)) choice

-- ---- one field after another

pub lifts_more : (m : List ℕ) (due : Option PlainValues) (ps rest : Parts) (name : Name) (ty : Plain) (ws : List ℕ) (k next : ℕ) (xs ys : List Value) (x : Value) →
    due ≡ behind (values_of xs) (lift_fields m ps ws k) → ps ≡ More name ty rest → next ≡ k + length (flat ty) → lift_flat m ty ws k ≡ Some (plain_value x) → ys ≡ xs ++ x ∷ [] → due ≡ behind (values_of ys) (lift_fields m rest ws next)
lifts_more m due ps rest name ty ws k next xs ys x so is end one push =
    more due (lift_fields m ps ws k) (lift_fields m rest ws (k + length (flat ty))) (lift_flat m ty ws k) xs ys x so (ap (λ (v : Parts). lift_fields m v ws k) is) one push
    ∙ ap (λ j. behind (values_of ys) (lift_fields m rest ws j)) (sym end)

pub lifts_end : (m : List ℕ) (due : Option PlainValues) (ps : Parts) (ws : List ℕ) (k : ℕ) (xs : List Value) → due ≡ behind (values_of xs) (lift_fields m ps ws k) → ps ≡ End → due ≡ Some (values_of xs)
lifts_end m due ps ws k xs so is = ended due (lift_fields m ps ws k) xs so (ap (λ (v : Parts). lift_fields m v ws k) is)

pub flats_more : (ps rest : Parts) (name : Name) (ty : Plain) → ps ≡ More name ty rest → length (flat_fields ps) ≡ length (flat ty) + length (flat_fields rest)
flats_more ps rest name ty is = ap (λ (v : Parts). length (flat_fields v)) is ∙ length-append (flat ty) (flat_fields rest)

-- ---- how many flat values a payload has, and whether it may hold a string or a list

pub first_flats : (name : Name) (p : Option Plain) (rest : Parts) → length (flat_cases (case_part [] p End)) ≤ length (flat_cases (case_part name p rest))
first_flats name None rest = omega arith
first_flats name (Some t) rest = omega (arith, length-join (flat t) [], length-join (flat t) (flat_cases rest))

pub later_flats : (name : Name) (p : Option Plain) (rest : Parts) → length (flat_cases rest) ≤ length (flat_cases (case_part name p rest))
later_flats name None rest = omega arith
later_flats name (Some t) rest = omega (arith, length-join (flat t) (flat_cases rest))

pub payload_flats : (cs : List Case) (n : ℕ) (d : Case) → n < length cs → length (flat_cases (case_part [] (payload_of (out-Case (get_or cs n d)).ty) End)) ≤ length (flat_cases (cases_of cs))
payload_flats [] n d lt = absurd (omega arith)
payload_flats (c ∷ cs) zero d lt = first_flats (out-Case c).name (payload_of (out-Case c).ty) (cases_of cs)
payload_flats (c ∷ cs) (suc n) d lt = omega (arith, later_flats (out-Case c).name (payload_of (out-Case c).ty) (cases_of cs), payload_flats cs n d (omega arith))

pub or_first : (a b : Bool) → a ≡ true → (a || b) ≡ true
or_first a b h = ap (λ c. c || b) h

pub or_second : (a b : Bool) → b ≡ true → (a || b) ≡ true
or_second true b h = refl
or_second false b h = h

pub payload_in : (name : Name) (p : Option Plain) (rest : Parts) → parts_have_ranges (case_part [] p End) ≡ true → parts_have_ranges (case_part name p rest) ≡ true
payload_in name None rest h = cc
payload_in name (Some t) rest h = or_first (has_ranges t) (parts_have_ranges rest) (only (has_ranges t) h)
  where
    only : (a : Bool) → (a || false) ≡ true → a ≡ true
    only true h = refl
    only false h = h

pub later_in : (name : Name) (p : Option Plain) (rest : Parts) → parts_have_ranges rest ≡ true → parts_have_ranges (case_part name p rest) ≡ true
later_in name None rest h = h
later_in name (Some t) rest h = or_second (has_ranges t) (parts_have_ranges rest) h

pub payload_ranges : (cs : List Case) (n : ℕ) (d : Case) → n < length cs → parts_have_ranges (case_part [] (payload_of (out-Case (get_or cs n d)).ty) End) ≡ true → parts_have_ranges (cases_of cs) ≡ true
payload_ranges [] n d lt h = absurd (omega arith)
payload_ranges (c ∷ cs) zero d lt h = payload_in (out-Case c).name (payload_of (out-Case c).ty) (cases_of cs) h
payload_ranges (c ∷ cs) (suc n) d lt h = later_in (out-Case c).name (payload_of (out-Case c).ty) (cases_of cs) (payload_ranges cs n d (omega arith) h)

-- ---- the same of types as they are written

pub flat_ranges : (t : Plain) → has_ranges t ≡ true → parts_have_ranges (More [] t End) ≡ true
flat_ranges t h = or_first (has_ranges t) false h

pub ok_ranges : (p q : Option Plain) → parts_have_ranges (case_part [] p End) ≡ true → parts_have_ranges (case_part [] p (case_part [] q End)) ≡ true
ok_ranges p q h = payload_in [] p (case_part [] q End) h

pub err_ranges : (p q : Option Plain) → parts_have_ranges (case_part [] q End) ≡ true → parts_have_ranges (case_part [] p (case_part [] q End)) ≡ true
err_ranges p q h = later_in [] p (case_part [] q End) h

pub ok_flats : (p q : Option Plain) → length (flat_cases (case_part [] p End)) ≤ length (flat_cases (case_part [] p (case_part [] q End)))
ok_flats p q = first_flats [] p (case_part [] q End)

pub err_flats : (p q : Option Plain) → length (flat_cases (case_part [] q End)) ≤ length (flat_cases (case_part [] p (case_part [] q End)))
err_flats p q = later_flats [] p (case_part [] q End)

pub one_flat : (t : Plain) → length (flat t) ≤ length (flat_cases (More [] t End))
one_flat t = omega (arith, length-join (flat t) [])

pub ok_typed : (m : List ℕ) (ty : WitType) (ws : List ℕ) (k : ℕ) (r : Result Value LoadFault) → IfOk r (λ v. lift_flat m (plain ty) ws k ≡ Some (plain_value v)) → IfOk r (λ v. HasType v ty)
ok_typed m ty ws k (Ok v) is = passed (λ x. is_of (plain ty) x) (lift_flat m (plain ty) ws k) (plain_value v) (lifted_passes m (plain ty) ws k) is
ok_typed m ty ws k (Err e) is = tt
