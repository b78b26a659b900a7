-- A member that is taken out of an object in memory, and the case of a number.
use Rattle.std.proofs.Common.{◌≡◌, ◌≢◌, ℕ, zero, suc, ◌<◌, List, [], ◌∷◌, ◌++◌, length, get_or, refl, ap, sym, ◌∙◌, Bool, true, false, true≢false, String, string_bytes, Global, nat_cmp, is_eq, arith}
use Rattle.std.specs.Prelude.{Option, Some, None, Result, Err, option_map, is_some, cond, if◌then◌else◌}
use Rattle.std.specs.Str.{bytes_eq}
use Rattle.std.specs.Cmp.Lexicographic.{slice_cmp}
use Rattle.std.specs.Map.{lookup, remove_entry}
use Rattle.std.specs.BTreeMap.{is_at}
use Rattle.std.proofs.lemmas.Map.Text.{is_eq-slice_cmp}
use Rattle.std.proofs.lemmas.Slice.Eq.{bytes_eq-Decides}
use Rattle.serde_json.specs.Data as json
use Rattle.serde_json.specs.Find.{as_null}
use Rattle.serde_json.specs.View.{view, members_view}
use Rattle.serde_json.specs.declared.value.Value.{Value as Json}
use Rattle.wit_types.specs.declared.types.Case.{Case, out-Case}
use Rattle.wit_types.specs.declared.value.Value.{Value}
use Rattle.wit_types.specs.declared.value.Values.{Values}
use Rattle.wit_types.specs.PlainValue.{PlainValue, PlainValues, Payload, VariantValue, Without, plain_value, plain_values, values_of, payload_of as payload_of_value}
use Rattle.wit_types.specs.Plain.{Name, Plain, Parts, End, More, bare, cases_of, case_part, payload_of}
use Rattle.host_port.specs.Untyped.{Untyped, Members, Null, Truth, Number, Inexact, Text, Array, Object, NoMembers, Member, take_member, taken, case_reading, reading, fields_reading, named_member, Chosen, case_named, with_payload, only_member, choice_in, label_in, option_in, ok_or_err, variant_of}
use Rattle.host_script.specs.Json.{untyped, untyped_members}
use Rattle.host_script.specs.Reads.{Gives, only_one, member_in, payload_by}
use Rattle.host_script.specs.declared.values_fault.ReadValueFault.{ReadValueFault}
use Rattle.host_script.specs.declared.values_fault.ReadValueFault.TheVariants.{NotOfType, NoMemory}
use Rattle.host_script.proofs.Joins.{then_rest, one_more, none_more, all_read}

abbrev Entry : Type 0
Entry = String Global × Json

abbrev test_of : Name → String Global → Bool
test_of name = is_at (λ k. slice_cmp nat_cmp name (string_bytes k))

-- what `remove` gives and leaves
abbrev took : Option Json → Members → Option (Untyped × Members)
took None rest = None
took (Some v) rest = Some (untyped (view v), rest)

same_tests : (a b : Bool) → (a ≡ true → b ≡ true) → (b ≡ true → a ≡ true) → a ≡ b
same_tests true b f g = sym (f refl)
same_tests false true f g = g refl
same_tests false false f g = refl

flipped : (xs ys : List ℕ) → bytes_eq xs ys ≡ bytes_eq ys xs
flipped xs ys = same_tests (bytes_eq xs ys) (bytes_eq ys xs) (λ h. is_same ys xs (sym (are_same xs ys h))) (λ h. is_same xs ys (sym (are_same ys xs h)))
  where
    are_same : (ps qs : List ℕ) → bytes_eq ps qs ≡ true → ps ≡ qs
    are_same ps qs h = (bytes_eq-Decides ps qs).0 h

    is_same : (ps qs : List ℕ) → ps ≡ qs → bytes_eq ps qs ≡ true
    is_same ps qs h = (bytes_eq-Decides ps qs).1 h

here_or_later : (b : Bool) (name : Name) (e : Entry) (es : List Entry)
    → take_member name (untyped_members (members_view es)) ≡ took (lookup (test_of name) es) (untyped_members (members_view (remove_entry (test_of name) es)))
    → (if b then Some (untyped (view e.1), untyped_members (members_view es)) else taken (string_bytes e.0) (untyped (view e.1)) (take_member name (untyped_members (members_view es))))
    ≡ took (cond b (Some e.1) (lookup (test_of name) es)) (untyped_members (members_view (cond b es (e ∷ remove_entry (test_of name) es))))
here_or_later true name e es later = refl
here_or_later false name e es later = rw later (passed (lookup (test_of name) es))
  where
    passed : (o : Option Json) → taken (string_bytes e.0) (untyped (view e.1)) (took o (untyped_members (members_view (remove_entry (test_of name) es))))
        ≡ took o (untyped_members (members_view (e ∷ remove_entry (test_of name) es)))
    passed None = refl
    passed (Some v) = refl

pub take_removed : (name : Name) (es : List Entry) → take_member name (untyped_members (members_view es))
    ≡ took (lookup (test_of name) es) (untyped_members (members_view (remove_entry (test_of name) es)))
take_removed name [] = refl
take_removed name (e ∷ es) =
    let same : is_eq (slice_cmp nat_cmp name (string_bytes e.0)) ≡ bytes_eq (string_bytes e.0) name = is_eq-slice_cmp name (string_bytes e.0) ∙ flipped name (string_bytes e.0) in
    rw same (here_or_later (bytes_eq (string_bytes e.0) name) name e es (take_removed name es))

case_part_first : (name : Name) (o : Option Plain) (rest : Parts) (u : Untyped) → case_reading (case_part name o rest) zero u ≡ payload_by o u
case_part_first name None rest u = refl
case_part_first name (Some ty) rest u = refl

case_part_later : (name : Name) (o : Option Plain) (rest : Parts) (n : ℕ) (u : Untyped) → case_reading (case_part name o rest) (suc n) u ≡ case_reading rest n u
case_part_later name None rest n u = refl
case_part_later name (Some ty) rest n u = refl

-- the payload of the case with a number, by its type if it has one
pub case_at_number : (cases : List Case) (n : ℕ) (d : Case) (u : Untyped) → n < length cases → case_reading (cases_of cases) n u ≡ payload_by (payload_of (out-Case (get_or cases n d)).ty) u
case_at_number [] n d u h = absurd (omega arith)
case_at_number (c ∷ cases) zero d u h = case_part_first _ _ _ u
case_at_number (c ∷ cases) (suc n) d u h = case_part_later _ _ _ n u ∙ case_at_number cases n d u (omega arith)

pub first_case : (ok err : Option Plain) (u : Untyped) → case_reading (case_part [] ok (case_part [] err End)) zero u ≡ payload_by ok u
first_case ok err u = case_part_first [] ok _ u

pub second_case : (ok err : Option Plain) (u : Untyped) → case_reading (case_part [] ok (case_part [] err End)) (suc zero) u ≡ payload_by err u
second_case ok err u = case_part_later [] ok _ zero u ∙ case_part_first [] err End u

-- ---- a member for each field

abbrev members_seen : List Entry → Members
members_seen es = untyped_members (members_view es)

by_take : (name : Name) (ty : Plain) (later : Parts) (es : List Entry) (o : Option Json) → lookup (test_of name) es ≡ o
    → fields_reading (More name ty later) (members_seen es)
    ≡ named_member (λ u. reading ty u) (λ others. fields_reading later others) (took o (members_seen (remove_entry (test_of name) es)))
by_take name ty later es o found =
    ap (λ t. named_member (λ u. reading ty u) (λ others. fields_reading later others) t) (take_removed name es)
    ∙ ap (λ x. named_member (λ u. reading ty u) (λ others. fields_reading later others) (took x (members_seen (remove_entry (test_of name) es)))) found

pub field_missing : (parts : Parts) (name : Name) (ty : Plain) (later : Parts) (es : List Entry) (done : List Value)
    → parts ≡ More name ty later → lookup (test_of name) es ≡ None → then_rest (values_of done) (fields_reading parts (members_seen es)) ≡ None
field_missing parts name ty later es done cut none =
    ap (λ p. then_rest (values_of done) (fields_reading p (members_seen es))) cut ∙ ap (λ o. then_rest (values_of done) o) (by_take name ty later es None none)

pub field_wrong : (parts : Parts) (name : Name) (ty : Plain) (later : Parts) (es : List Entry) (found : Json) (done : List Value)
    → parts ≡ More name ty later → lookup (test_of name) es ≡ Some found → reading ty (untyped (view found)) ≡ None
    → then_rest (values_of done) (fields_reading parts (members_seen es)) ≡ None
field_wrong parts name ty later es found done cut there is =
    ap (λ p. then_rest (values_of done) (fields_reading p (members_seen es))) cut
    ∙ (ap (λ o. then_rest (values_of done) o) (by_take name ty later es (Some found) there)
    ∙ none_more (values_of done) (reading ty (untyped (view found))) (fields_reading later (members_seen (remove_entry (test_of name) es))) is)

pub field_more : (parts : Parts) (name : Name) (ty : Plain) (later : Parts) (es others : List Entry) (found : Json) (done more : List Value) (v : Value)
    → parts ≡ More name ty later → lookup (test_of name) es ≡ Some found → others ≡ remove_entry (test_of name) es
    → reading ty (untyped (view found)) ≡ Some (plain_value v) → more ≡ done ++ v ∷ []
    → then_rest (values_of done) (fields_reading parts (members_seen es)) ≡ then_rest (values_of more) (fields_reading later (members_seen others))
field_more parts name ty later es others found done more v cut there left is pushed =
    ap (λ p. then_rest (values_of done) (fields_reading p (members_seen es))) cut
    ∙ (ap (λ o. then_rest (values_of done) o) (by_take name ty later es (Some found) there)
    ∙ (one_more done v (reading ty (untyped (view found))) (fields_reading later (members_seen (remove_entry (test_of name) es))) is
    ∙ (ap (λ vs. then_rest (values_of vs) (fields_reading later (members_seen (remove_entry (test_of name) es)))) (sym pushed)
    ∙ ap (λ x. then_rest (values_of more) (fields_reading later (members_seen x))) (sym left))))

pub fields_done : (parts : Parts) (es : List Entry) (done : List Value) → parts ≡ End → length es ≡ 0
    → then_rest (values_of done) (fields_reading parts (members_seen es)) ≡ Some (values_of done)
fields_done parts [] done ends none = ap (λ p. then_rest (values_of done) (fields_reading p NoMembers)) ends ∙ all_read (values_of done)
fields_done parts (e ∷ es) done ends none = absurd (omega arith)

pub member_left : (parts : Parts) (es : List Entry) (done : List Value) → parts ≡ End → length es ≢ 0
    → then_rest (values_of done) (fields_reading parts (members_seen es)) ≡ None
member_left parts [] done ends some = absurd (some refl)
member_left parts (e ∷ es) done ends some = ap (λ p. then_rest (values_of done) (fields_reading p (members_seen (e ∷ es)))) ends

-- ---- a case that an object or a text names

abbrev chosen_by : (Name → Option ℕ) → Option (Name × Untyped) → Option Chosen
chosen_by number None = None
chosen_by number (Some m) = with_payload m.1 (number m.0)

only_by : (number : Name → Option ℕ) (ms : Members) → only_member number ms ≡ chosen_by number (only_one ms)
only_by number NoMembers = refl
only_by number (Member name u NoMembers) = refl
only_by number (Member name u (Member other v ms)) = refl

choice_by : (number : Name → Option ℕ) (u : Untyped) → choice_in number u ≡ chosen_by number (member_in u)
choice_by number Null = refl
choice_by number (Truth b) = refl
choice_by number (Number n) = refl
choice_by number Inexact = refl
choice_by number (Text bytes) = refl
choice_by number (Array items) = refl
choice_by number (Object ms) = only_by number ms

pub variant_is : (cases : List Case) (u : Untyped) (label : Name) (v : Untyped) (n : ℕ) (d : Case) (o : Option Payload) → member_in u ≡ Some (label, v) → Some n ≡ case_named label (cases_of cases)
    → n < length cases → payload_by (payload_of (out-Case (get_or cases n d)).ty) v ≡ o
    → variant_of (λ m w. case_reading (cases_of cases) m w) (choice_in (λ l. case_named l (cases_of cases)) u) ≡ option_map (λ p. VariantValue n p) o
variant_is cases u label v n d o is named within paid =
    let number = λ (l : Name). case_named l (cases_of cases) in
    let read = λ (m : ℕ) (w : Untyped). case_reading (cases_of cases) m w in
    ap (variant_of read) (choice_by number u ∙ ap (chosen_by number) is)
    ∙ (ap (λ x. variant_of read (with_payload v x)) (sym named)
    ∙ ap (λ x. option_map (λ p. VariantValue n p) x) (case_at_number cases n d v within ∙ paid))

pub variant_kept : (cases : List Case) (u : Untyped) (label : Name) (v : Untyped) (n k : ℕ) (d : Case) (p : Payload) → member_in u ≡ Some (label, v) → Some n ≡ case_named label (cases_of cases)
    → n < length cases → payload_by (payload_of (out-Case (get_or cases n d)).ty) v ≡ Some p → Some n ≡ Some k
    → variant_of (λ m w. case_reading (cases_of cases) m w) (choice_in (λ l. case_named l (cases_of cases)) u) ≡ Some (VariantValue k p)
variant_kept cases u label v n k d p is named within paid kept =
    let same : n ≡ k = cc in
    variant_is cases u label v n d (Some p) is named within paid ∙ ap (λ m. Some (VariantValue m p)) same

pub result_by : (ok err : Option Plain) (number : ℕ) (o : Option Plain) (u v : Untyped) → choice_in ok_or_err u ≡ Some (number, v) → case_reading (case_part [] ok (case_part [] err End)) number v ≡ payload_by o v
    → variant_of (λ m w. case_reading (case_part [] ok (case_part [] err End)) m w) (choice_in ok_or_err u) ≡ option_map (λ p. VariantValue number p) (payload_by o v)
result_by ok err number o u v is paid =
    ap (variant_of (λ m w. case_reading (case_part [] ok (case_part [] err End)) m w)) is ∙ ap (λ x. option_map (λ p. VariantValue number p) x) paid

bare_payload : (labels : List Name) (n : ℕ) → n < length labels → case_reading (bare labels) n Null ≡ Some Without
bare_payload [] n h = absurd (omega arith)
bare_payload (l ∷ labels) zero h = refl
bare_payload (l ∷ labels) (suc n) h = bare_payload labels n (omega arith)

pub enum_is : (labels : List Name) (label : Name) (n k : ℕ) → Some n ≡ case_named label (bare labels) → n < length labels → Some n ≡ Some k
    → variant_of (λ m w. case_reading (bare labels) m w) (label_in (λ l. case_named l (bare labels)) (Text label)) ≡ Some (VariantValue k Without)
enum_is labels label n k named within kept =
    let same : n ≡ k = cc in
    let there : k < length labels = omega (arith, same, within) in
    ap (λ x. variant_of (λ m w. case_reading (bare labels) m w) (with_payload Null x)) (sym named ∙ kept)
    ∙ ap (λ x. option_map (λ p. VariantValue k p) x) (bare_payload labels k there)

pub null_is : (d : json.Data) → is_some (as_null d) ≡ true → option_in (untyped d) ≡ Some (0, Null)
null_is json.null h = refl
null_is (json.boolean b) h = absurd (true≢false (sym h))
null_is (json.number n) h = absurd (true≢false (sym h))
null_is (json.string s) h = absurd (true≢false (sym h))
null_is (json.array ds) h = absurd (true≢false (sym h))
null_is (json.object ms) h = absurd (true≢false (sym h))

-- ---- a fault that is handed on

pub values_fault : (o : Option PlainValue) (whole : Option PlainValues) (e : ReadValueFault) (r : Result Values ReadValueFault) → Gives plain_value o (Err e) → r ≡ Err e → (o ≡ None → whole ≡ None) → Gives plain_values whole r
values_fault o whole e r h is f = rw is (by_fault e h)
  where
    by_fault : (x : ReadValueFault) → Gives plain_value o (Err x) → Gives plain_values whole (Err x)
    by_fault NotOfType k = f k
    by_fault NoMemory k = tt

pub payload_fault : (o : Option Payload) (whole : Option PlainValue) (e : ReadValueFault) (r : Result Value ReadValueFault) → Gives payload_of_value o (Err e) → r ≡ Err e → (o ≡ None → whole ≡ None) → Gives plain_value whole r
payload_fault o whole e r h is f = rw is (by_fault e h)
  where
    by_fault : (x : ReadValueFault) → Gives payload_of_value o (Err x) → Gives plain_value whole (Err x)
    by_fault NotOfType k = f k
    by_fault NoMemory k = tt
