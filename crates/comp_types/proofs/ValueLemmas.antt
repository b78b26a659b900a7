-- Matching of value types by the lists of their parts.
use Rattle.std.proofs.Common.{◌≡◌, ◌<◌, ◌+◌, ℕ, zero, suc, arith, drop, get_or, ap, refl, sym, ◌∙◌, Bool, true, false, Option, Some, None, List, [], ◌∷◌, length, nat_eq, Global}
use Rattle.std.specs.Prelude.{nat_lt, ◌&&◌, if◌then◌else◌}
use Rattle.std.proofs.lemmas.Bool.{and_right, false≢true}
use Rattle.std.proofs.lemmas.Bool.Decides.{Decides-eqb}
use Rattle.std.specs.Cmp.Lexicographic.{pointwise}
use Rattle.wit_types.specs.declared.types.Case.{Case, out-Case}
use Rattle.wit_types.specs.declared.types.Field.{Field, out-Field}
use Rattle.wit_types.specs.declared.types.WitType.{WitType}
use Rattle.wit_types.specs.declared.types.WitType.TheVariants.{Result}
use Rattle.wit_types.proofs.PlainLemmas.{plain-Result}
use Rattle.std.specs.declared.rc.Rc.{Rc}
use Rattle.wit_types.specs.Plain.{Name, Plain, Parts, Width, OneByte, TwoBytes, FourBytes, EightBytes, BoolType, SignedType, UnsignedType, CharType, StringType, VariantType, AsResult, End, bare, plain, payload_of, fields_of, types_of, cases_of, case_part}
use Rattle.comp_types.specs.Items.{same_name}
use Rattle.comp_types.specs.Matching.{Pairs, GoesOn, onward, only_if, primitive_number, same_width, matched_value, matched_parts, matched_parameters, matched_answer}

-- ---- steps of a walk

pub if_false : (o : Option Pairs) (b : Bool) → b ≡ false → only_if b o ≡ None
if_false o b h = rw h refl

pub if_true : (o : Option Pairs) (b : Bool) → b ≡ true → only_if b o ≡ o
if_true o b h = rw h refl

pub if-none : (b : Bool) → only_if b None ≡ None
if-none true = refl
if-none false = refl

pub onward-none : (f : Pairs → Option Pairs) → ((by : Pairs) → f by ≡ None) → (o : Option Pairs) → onward f o ≡ None
onward-none f h None = refl
onward-none f h (Some by) = h by

pub onward-some : (o : Option Pairs) → onward (λ more. Some more) o ≡ o
onward-some None = refl
onward-some (Some by) = refl

-- a part that goes on
pub step_goes : (n same : Bool) (o : Option Pairs) (by : Pairs) (f : Pairs → Option Pairs) → GoesOn same by o → n ≡ true → same ≡ true → only_if n (onward f o) ≡ f by
step_goes true true o by f h e g = ap (onward f) h
step_goes false same o by f h e g = absurd (false≢true e)
step_goes true false o by f h e g = absurd (false≢true g)

if_both : (a b : Bool) (o : Option Pairs) → only_if a (only_if b o) ≡ only_if (a && b) o
if_both true b o = refl
if_both false b o = refl

-- ---- types without parts

abbrev of_number : ℕ → Plain
of_number n = if nat_eq n 1 then BoolType else if nat_eq n 2 then SignedType OneByte else if nat_eq n 3 then UnsignedType OneByte
    else if nat_eq n 4 then SignedType TwoBytes else if nat_eq n 5 then UnsignedType TwoBytes else if nat_eq n 6 then SignedType FourBytes
    else if nat_eq n 7 then UnsignedType FourBytes else if nat_eq n 8 then SignedType EightBytes else if nat_eq n 9 then UnsignedType EightBytes
    else if nat_eq n 10 then CharType else StringType

primitive-is : (p : Plain) → nat_lt 0 (primitive_number p) ≡ true → of_number (primitive_number p) ≡ p
primitive-is BoolType h = refl
primitive-is (SignedType OneByte) h = refl
primitive-is (SignedType TwoBytes) h = refl
primitive-is (SignedType FourBytes) h = refl
primitive-is (SignedType EightBytes) h = refl
primitive-is (UnsignedType OneByte) h = refl
primitive-is (UnsignedType TwoBytes) h = refl
primitive-is (UnsignedType FourBytes) h = refl
primitive-is (UnsignedType EightBytes) h = refl
primitive-is CharType h = refl
primitive-is StringType h = refl
primitive-is _ h = absurd (false≢true h)

pub width-sound : (v w : Width) → same_width v w ≡ true → v ≡ w
width-sound OneByte OneByte h = refl
width-sound TwoBytes TwoBytes h = refl
width-sound FourBytes FourBytes h = refl
width-sound EightBytes EightBytes h = refl
width-sound _ _ h = absurd (false≢true h)

pub width-same : (v : Width) → same_width v v ≡ true
width-same OneByte = refl
width-same TwoBytes = refl
width-same FourBytes = refl
width-same EightBytes = refl

matched_self : (by : Pairs) (p : Plain) → nat_lt 0 (primitive_number p) ≡ true → matched_value by p p ≡ Some by
matched_self by BoolType h = refl
matched_self by (SignedType w) h = rw (width-same w) refl
matched_self by (UnsignedType w) h = rw (width-same w) refl
matched_self by CharType h = refl
matched_self by StringType h = refl
matched_self by _ h = absurd (false≢true h)

unlike : (by : Pairs) (v w : Width) (b : Bool) → same_width v w ≡ b → (v ≡ w → ⊥) → only_if (same_width v w) (Some by) ≡ None
unlike by v w true e h = absurd (h (width-sound v w e))
unlike by v w false e h = rw e refl

unmatched : (by : Pairs) (p q : Plain) → nat_lt 0 (primitive_number p) ≡ true → (p ≡ q → ⊥) → matched_value by p q ≡ None
unmatched by BoolType BoolType l h = absurd (h refl)
unmatched by BoolType q l h = refl
unmatched by (SignedType v) (SignedType w) l h = unlike by v w _ refl (λ e. h (ap SignedType e))
unmatched by (SignedType v) q l h = refl
unmatched by (UnsignedType v) (UnsignedType w) l h = unlike by v w _ refl (λ e. h (ap UnsignedType e))
unmatched by (UnsignedType v) q l h = refl
unmatched by CharType CharType l h = absurd (h refl)
unmatched by CharType q l h = refl
unmatched by StringType StringType l h = absurd (h refl)
unmatched by StringType q l h = refl
unmatched by _ q l h = absurd (false≢true l)

by_number : (by : Pairs) (p q : Plain) (b : Bool) → nat_eq (primitive_number p) (primitive_number q) ≡ b → nat_lt 0 (primitive_number p) ≡ true → matched_value by p q ≡ only_if b (Some by)
by_number by p q true e h =
    let n : primitive_number p ≡ primitive_number q = (Decides-eqb (primitive_number p) (primitive_number q)).0 e in
    let same : p ≡ q = sym (primitive-is p h) ∙ (ap of_number n ∙ primitive-is q (ap (nat_lt 0) (sym n) ∙ h)) in
    rw (← same) (matched_self by p h)
by_number by p q false e h = unmatched by p q h (λ same. false≢true (sym e ∙ (ap (λ r. nat_eq (primitive_number p) (primitive_number r)) (sym same) ∙ (Decides-eqb (primitive_number p) (primitive_number p)).1 refl)))

pub primitive-same : (by : Pairs) (p q : Plain) → nat_lt 0 (primitive_number p) ≡ true → matched_value by p q ≡ only_if (nat_eq (primitive_number p) (primitive_number q)) (Some by)
primitive-same by p q h = by_number by p q _ refl h

-- ---- lists of different lengths

pub fields_differ : (by : Pairs) (xs ys : List Field) → (length xs ≡ length ys → ⊥) → matched_parts by (fields_of xs) (fields_of ys) ≡ None
fields_differ by [] [] h = absurd (h refl)
fields_differ by [] (y ∷ ys) h = refl
fields_differ by (x ∷ xs) [] h = refl
fields_differ by (x ∷ xs) (y ∷ ys) h =
    ap (only_if _) (onward-none (λ more. matched_parts more (fields_of xs) (fields_of ys)) (λ more. fields_differ more xs ys (λ e. h (ap suc e))) _) ∙ if-none _

pub parameters_differ : (by : Pairs) (xs ys : List Field) → (length xs ≡ length ys → ⊥) → matched_parameters by (fields_of xs) (fields_of ys) ≡ None
parameters_differ by [] [] h = absurd (h refl)
parameters_differ by [] (y ∷ ys) h = refl
parameters_differ by (x ∷ xs) [] h = refl
parameters_differ by (x ∷ xs) (y ∷ ys) h = onward-none (λ more. matched_parameters more (fields_of xs) (fields_of ys)) (λ more. parameters_differ more xs ys (λ e. h (ap suc e))) _

pub types_differ : (by : Pairs) (xs ys : List WitType) → (length xs ≡ length ys → ⊥) → matched_parts by (types_of xs) (types_of ys) ≡ None
types_differ by [] [] h = absurd (h refl)
types_differ by [] (y ∷ ys) h = refl
types_differ by (x ∷ xs) [] h = refl
types_differ by (x ∷ xs) (y ∷ ys) h = onward-none (λ more. matched_parts more (types_of xs) (types_of ys)) (λ more. types_differ more xs ys (λ e. h (ap suc e))) _

-- ---- cases with and without payloads

pub case_parts : (by : Pairs) (n k : Name) (p q : Option Plain) (xs ys : Parts) → matched_parts by (case_part n p xs) (case_part k q ys) ≡ only_if (same_name n k) (onward (λ more. matched_parts more xs ys) (matched_answer by p q))
case_parts by n k None None xs ys = refl
case_parts by n k None (Some u) xs ys = sym (if-none (same_name n k))
case_parts by n k (Some t) None xs ys = sym (if-none (same_name n k))
case_parts by n k (Some t) (Some u) xs ys = refl

no_case : (by : Pairs) (n : Name) (p : Option Plain) (xs : Parts) → (matched_parts by End (case_part n p xs) ≡ None) × (matched_parts by (case_part n p xs) End ≡ None)
no_case by n None xs = (refl, refl)
no_case by n (Some t) xs = (refl, refl)

pub cases_differ : (by : Pairs) (xs ys : List Case) → (length xs ≡ length ys → ⊥) → matched_parts by (cases_of xs) (cases_of ys) ≡ None
cases_differ by [] [] h = absurd (h refl)
cases_differ by [] (y ∷ ys) h = (no_case by (out-Case y).name (payload_of (out-Case y).ty) (cases_of ys)).0
cases_differ by (x ∷ xs) [] h = (no_case by (out-Case x).name (payload_of (out-Case x).ty) (cases_of xs)).1
cases_differ by (x ∷ xs) (y ∷ ys) h =
    case_parts by (out-Case x).name (out-Case y).name (payload_of (out-Case x).ty) (payload_of (out-Case y).ty) (cases_of xs) (cases_of ys)
    ∙ (ap (only_if _) (onward-none (λ more. matched_parts more (cases_of xs) (cases_of ys)) (λ more. cases_differ more xs ys (λ e. h (ap suc e))) _) ∙ if-none _)

pub labels_differ : (xs ys : List Name) → (length xs ≡ length ys → ⊥) → pointwise same_name xs ys ≡ false
labels_differ [] [] h = absurd (h refl)
labels_differ [] (y ∷ ys) h = refl
labels_differ (x ∷ xs) [] h = refl
labels_differ (x ∷ xs) (y ∷ ys) h = and_right _ _ (labels_differ xs ys (λ e. h (ap suc e)))

pub same-bare : (by : Pairs) (xs ys : List Name) → matched_parts by (bare xs) (bare ys) ≡ only_if (pointwise same_name xs ys) (Some by)
same-bare by [] [] = refl
same-bare by [] (y ∷ ys) = refl
same-bare by (x ∷ xs) [] = refl
same-bare by (x ∷ xs) (y ∷ ys) = ap (only_if (same_name x y)) (same-bare by xs ys) ∙ if_both (same_name x y) (pointwise same_name xs ys) (Some by)

-- ---- the payloads of results

pub results : (by : Pairs) (p q r s : Option Plain) → matched_value by (VariantType AsResult (case_part [] p (case_part [] q End))) (VariantType AsResult (case_part [] r (case_part [] s End))) ≡ onward (λ more. matched_answer more q s) (matched_answer by p r)
results by p q r s =
    case_parts by [] [] p r (case_part [] q End) (case_part [] s End)
    ∙ ap (λ f. onward f (matched_answer by p r)) (λ i more. (case_parts more [] [] q s End End ∙ onward-some (matched_answer more q s)) i)

pub was_true : (first : Bool) (mid : Pairs) (o : Option Pairs) → GoesOn first mid o → first ≡ true → o ≡ Some mid
was_true true mid o h e = h
was_true false mid o h e = absurd (false≢true e)

pub was_false : (first : Bool) (mid : Pairs) (o : Option Pairs) → GoesOn first mid o → first ≡ false → o ≡ None
was_false false mid o h e = h
was_false true mid o h e = absurd (false≢true (sym e))

pub result_goes : (by mid new : Pairs) (a b : WitType) (p q r s : Option (Rc WitType Global)) (first same : Bool) → a ≡ Result p q → b ≡ Result r s
    → GoesOn first mid (matched_answer by (payload_of p) (payload_of r)) → first ≡ true → GoesOn same new (matched_answer mid (payload_of q) (payload_of s))
    → GoesOn same new (matched_value by (plain a) (plain b))
result_goes by mid new a b p q r s first same is_a is_b h e last =
    let goes = results by (payload_of p) (payload_of q) (payload_of r) (payload_of s)
    ∙ ap (onward (λ more. matched_answer more (payload_of q) (payload_of s))) (was_true first mid (matched_answer by (payload_of p) (payload_of r)) h e) in
    rw (is_a, is_b, plain-Result p q, plain-Result r s, goes) last

-- ---- one part after another

pub fields_step : (by : Pairs) (xs ys : List Field) (i : ℕ) (d e f g : Field) → i < length xs → length xs ≡ length ys
    → matched_parts by (fields_of (drop i xs)) (fields_of (drop i ys)) ≡ only_if (same_name (out-Field (get_or xs i d)).name (out-Field (get_or ys i e)).name)
    (onward (λ more. matched_parts more (fields_of (drop (i + 1) xs)) (fields_of (drop (i + 1) ys))) (matched_value by (plain (out-Field (get_or xs i f)).ty) (plain (out-Field (get_or ys i g)).ty)))
fields_step by [] ys i d e f g lt len = absurd (omega (arith, lt))
fields_step by (x ∷ xs) [] i d e f g lt len = absurd (omega (arith, len))
fields_step by (x ∷ xs) (y ∷ ys) zero d e f g lt len = refl
fields_step by (x ∷ xs) (y ∷ ys) (suc i) d e f g lt len =
    let next : suc i + 1 ≡ suc (i + 1) = omega arith in
    rw next (fields_step by xs ys i d e f g (omega (arith, lt)) (omega (arith, len)))

pub parameters_step : (by : Pairs) (xs ys : List Field) (i : ℕ) (f g : Field) → i < length xs → length xs ≡ length ys
    → matched_parameters by (fields_of (drop i xs)) (fields_of (drop i ys)) ≡
    onward (λ more. matched_parameters more (fields_of (drop (i + 1) xs)) (fields_of (drop (i + 1) ys))) (matched_value by (plain (out-Field (get_or xs i f)).ty) (plain (out-Field (get_or ys i g)).ty))
parameters_step by [] ys i f g lt len = absurd (omega (arith, lt))
parameters_step by (x ∷ xs) [] i f g lt len = absurd (omega (arith, len))
parameters_step by (x ∷ xs) (y ∷ ys) zero f g lt len = refl
parameters_step by (x ∷ xs) (y ∷ ys) (suc i) f g lt len =
    let next : suc i + 1 ≡ suc (i + 1) = omega arith in
    rw next (parameters_step by xs ys i f g (omega (arith, lt)) (omega (arith, len)))

pub types_step : (by : Pairs) (xs ys : List WitType) (i : ℕ) (f g : WitType) → i < length xs → length xs ≡ length ys
    → matched_parts by (types_of (drop i xs)) (types_of (drop i ys)) ≡
    onward (λ more. matched_parts more (types_of (drop (i + 1) xs)) (types_of (drop (i + 1) ys))) (matched_value by (plain (get_or xs i f)) (plain (get_or ys i g)))
types_step by [] ys i f g lt len = absurd (omega (arith, lt))
types_step by (x ∷ xs) [] i f g lt len = absurd (omega (arith, len))
types_step by (x ∷ xs) (y ∷ ys) zero f g lt len = refl
types_step by (x ∷ xs) (y ∷ ys) (suc i) f g lt len =
    let next : suc i + 1 ≡ suc (i + 1) = omega arith in
    rw next (types_step by xs ys i f g (omega (arith, lt)) (omega (arith, len)))

pub cases_step : (by : Pairs) (xs ys : List Case) (i : ℕ) (d e f g : Case) → i < length xs → length xs ≡ length ys
    → matched_parts by (cases_of (drop i xs)) (cases_of (drop i ys)) ≡ only_if (same_name (out-Case (get_or xs i d)).name (out-Case (get_or ys i e)).name)
    (onward (λ more. matched_parts more (cases_of (drop (i + 1) xs)) (cases_of (drop (i + 1) ys))) (matched_answer by (payload_of (out-Case (get_or xs i f)).ty) (payload_of (out-Case (get_or ys i g)).ty)))
cases_step by [] ys i d e f g lt len = absurd (omega (arith, lt))
cases_step by (x ∷ xs) [] i d e f g lt len = absurd (omega (arith, len))
cases_step by (x ∷ xs) (y ∷ ys) zero d e f g lt len = case_parts by (out-Case x).name (out-Case y).name (payload_of (out-Case x).ty) (payload_of (out-Case y).ty) (cases_of xs) (cases_of ys)
cases_step by (x ∷ xs) (y ∷ ys) (suc i) d e f g lt len =
    let next : suc i + 1 ≡ suc (i + 1) = omega arith in
    rw next (cases_step by xs ys i d e f g (omega (arith, lt)) (omega (arith, len)))

pub ruleset values = (same-bare, results, fields_differ, parameters_differ, types_differ, cases_differ, labels_differ, primitive-same)
