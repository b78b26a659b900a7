-- The listed functions: the result type of each is that of its row, and has the error codes that are answered to it before.
use Rattle.std.proofs.Common.{◌≡◌, ℕ, zero, suc, ◌+◌, ◌-◌, ◌<◌, ◌≤◌, nat_lt, ◌==◌, Bool, true, false, ◌&&◌, List, [], ◌∷◌, length, codes, Option, Some, None, refl, sym, ap, ◌∙◌, inl, inr, arith}
use Rattle.std.specs.Prelude.{if◌then◌else◌}
use Rattle.std.proofs.lemmas.Bool.{cases_lt}
use Rattle.std.proofs.lemmas.Bool.Decides.{nat_tests}
use Rattle.std.specs.List.{list_all, find}
use Rattle.std.specs.Str.{bytes_eq}
use Rattle.wit_types.specs.Plain.{Name, Plain, ListType}
use Rattle.wit_types.specs.HasType.{is_of}
use Rattle.wasi_table.specs.Plain.{PlainKnown, PlainInterface, PlainNamedFunc}
use Rattle.wasi_table.specs.Forms.{form_named}
use Rattle.wasi_table.specs.Types.{kind_of, declared}
use Rattle.wasi_table.specs.Texts.{table_of}
use Rattle.wasi_table.specs.Tables.{Items, described as described_by, described_from}
use Rattle.wasi_listed.specs.IoListed.{described as described_io, known_types}
use Rattle.wasi_listed.specs.FsListed.{described as described_fs}
use Rattle.wasi_listed.specs.declared.net_table.TheConstants.{TABLE}
use Rattle.wasi_listed.specs.NetListed.{described as described_net}
use Rattle.reference_step.specs.Codes as code
use Rattle.reference_step.specs.Values.{error_code}
use Rattle.reference_step.specs.Listed.{Listed, interface_named, interface_at, listed_in, function_in, listed_function}
use Rattle.reference_step.specs.Rules.{alike_results, Errors, FilesystemErrors, SocketErrors, NoErrors, errors_of}
use Rattle.reference_host.proofs.TypeLaws.{first_true, second_true, nameless_result}
use Rattle.reference_host.proofs.ValueForms.{variable, folder}
use Rattle.reference_host.proofs.RowTypes.{row_type, is_type_of}
use Rattle.reference_host.proofs.ArgumentLaws.{are_sized}

-- ---- what is asked of a function

-- an error code is of the type
abbrev pub has_code : Option Plain → ℕ → Bool
has_code None e = false
has_code (Some ty) e = is_of ty (error_code e)

abbrev pub has_errors : Errors → Option Plain → Bool
has_errors FilesystemErrors answer = has_code answer code.insufficient_memory
has_errors SocketErrors answer = has_code answer code.out_of_memory && has_code answer code.access_denied
has_errors NoErrors answer = true

-- the functions that rules on addresses can refuse
abbrev pub is_ruled : Name → Bool
is_ruled f =
    if bytes_eq f (codes "[method]tcp-socket.start-connect") then true
    else if bytes_eq f (codes "[method]tcp-socket.start-bind") then true
    else if bytes_eq f (codes "[method]udp-socket.start-bind") then true
    else if bytes_eq f (codes "[method]udp-socket.stream") then true
    else if bytes_eq f (codes "[method]outgoing-datagram-stream.send") then true
    else bytes_eq f (codes "resolve-addresses")

abbrev pub if_so : Bool → Bool → Bool
if_so true b = b
if_so false b = true

abbrev pub is_environment : Listed → Bool
is_environment f = f.interface == 3 && bytes_eq f.function.name (codes "get-environment")

abbrev pub is_folders : Listed → Bool
is_folders f = f.interface == 19

abbrev pub variables : Option Plain
variables = Some (ListType variable)

abbrev pub folders : Option Plain
folders = Some (ListType folder)

abbrev pub is_form : Option Plain → Listed → Bool
is_form ty f = alike_results ty (nameless_result f.function.ty.answer)

abbrev is_due : Listed → Bool
is_due f =
    is_type_of f.function.ty.answer (row_type f.interface f.function.name)
    && (has_errors (errors_of f) f.function.ty.answer
    && (if_so (is_ruled f.function.name) (has_code f.function.ty.answer code.access_denied)
    && (if_so (is_environment f) (is_form variables f)
    && (if_so (is_folders f) (is_form folders f)
    && are_sized f.function.ty.params))))

pub record IsDue (f : Listed) : Type 0 where
  pub row : is_type_of f.function.ty.answer (row_type f.interface f.function.name) ≡ true
  pub errors : has_errors (errors_of f) f.function.ty.answer ≡ true
  pub ruled : if_so (is_ruled f.function.name) (has_code f.function.ty.answer code.access_denied) ≡ true
  pub environment : if_so (is_environment f) (is_form variables f) ≡ true
  pub folders : if_so (is_folders f) (is_form folders f) ≡ true
  pub sized : are_sized f.function.ty.params ≡ true

six : (a b c d e f : Bool) → (a && (b && (c && (d && (e && f))))) ≡ true → (a ≡ true) × (b ≡ true) × (c ≡ true) × (d ≡ true) × (e ≡ true) × (f ≡ true)
six true true true true true true is = (refl, refl, refl, refl, refl, refl)
six true true true true true false is = cc
six true true true true false f is = cc
six true true true false e f is = cc
six true true false d e f is = cc
six true false c d e f is = cc
six false b c d e f is = cc

due : (f : Listed) → is_due f ≡ true → IsDue f
due f is =
    let each = six (is_type_of f.function.ty.answer (row_type f.interface f.function.name)) (has_errors (errors_of f) f.function.ty.answer) (if_so (is_ruled f.function.name) (has_code f.function.ty.answer code.access_denied)) (if_so (is_environment f) (is_form variables f)) (if_so (is_folders f) (is_form folders f)) (are_sized f.function.ty.params) is in
    record { row = each.0; errors = each.1; ruled = each.2; environment = each.3; folders = each.4; sized = each.5 }

-- ---- each interface

abbrev listed : ℕ → PlainNamedFunc → Listed
listed i g = record { interface = i; function = g }

abbrev are_due : ℕ → Bool
are_due i = list_all (λ g. is_due (listed i g)) (interface_at i).functions

abbrev all_due : ℕ → ℕ → Bool
all_due zero i = true
all_due (suc n) i = are_due i && all_due n (i + 1)

listed_due : all_due 27 0 ≡ true
unfolding described_by described_io described_fs described_net known_types form_named kind_of
listed_due = refl

due_at : (n i j : ℕ) → all_due n i ≡ true → j < n → are_due (i + j) ≡ true
due_at zero i j e less = absurd (omega arith)
due_at (suc n) i zero e less =
    let same : i ≡ i + 0 = omega arith in
    ap are_due (sym same) ∙ first_true (are_due i) (all_due n (i + 1)) e
due_at (suc n) i (suc j) e less =
    let same : i + 1 + j ≡ i + suc j = omega arith in
    ap are_due (sym same) ∙ due_at n (i + 1) j (second_true (are_due i) (all_due n (i + 1)) e) (omega arith)

due_below : (i : ℕ) → i < 27 → are_due i ≡ true
due_below i less =
    let same : i ≡ 0 + i = omega arith in
    ap are_due same ∙ due_at 27 0 i listed_due less

-- ---- after the last interface there are no functions

none_past : (number : ℕ) (known : List PlainKnown) (table : List Items) (left : ℕ) → length table ≤ left → (described_from number known table left).functions ≡ []
none_past number known [] left past = refl
none_past number known (items ∷ rest) zero past = absurd (omega arith)
none_past number known (items ∷ rest) (suc left) past = none_past number (declared (number - suc left) known items) rest left (omega arith)

count_net : length (table_of TABLE.now) ≡ 7
unfolding form_named
count_net = refl

net_past : (i : ℕ) → 27 ≤ i → (described_net i).functions ≡ []
unfolding described_by described_net
net_past i past = none_past i known_types (table_of TABLE.now) (i - 20) (omega (arith, past, count_net))

interface_past : (i : ℕ) → 27 ≤ i → interface_at i ≡ described_net i
interface_past i past =
    let not_io : nat_lt i 18 ≡ false = grind (arith, nat_tests, past) in
    let not_fs : nat_lt i 20 ≡ false = grind (arith, nat_tests, past) in
    rw (not_io, not_fs) refl

due_past : (i : ℕ) → 27 ≤ i → are_due i ≡ true
due_past i past = ap (list_all (λ g. is_due (listed i g))) (ap (λ (x : PlainInterface). x.functions) (interface_past i past) ∙ net_past i past)

due_each : (i : ℕ) → are_due i ≡ true
due_each i = elim (cases_lt i 27) [ inl below ↦ due_below i below | inr past ↦ due_past i past ]

-- ---- a listed function

found_due : (i : ℕ) (p : PlainNamedFunc → Bool) (fs : List PlainNamedFunc) (g : PlainNamedFunc) → find p fs ≡ Some g → list_all (λ x. is_due (listed i x)) fs ≡ true → is_due (listed i g) ≡ true
found_due i p [] g e all = cc
found_due i p (x ∷ fs) g e all = by (p x) refl (λ found. found_due i p fs g found (second_true (is_due (listed i x)) (list_all (λ y. is_due (listed i y)) fs) all))
  where
    by : (b : Bool) → p x ≡ b → (find p fs ≡ Some g → is_due (listed i g) ≡ true) → is_due (listed i g) ≡ true
    by true is later =
        let found : Some x ≡ Some g = rw is at e in
        let same : x ≡ g = cc in
        ap (λ y. is_due (listed i y)) (sym same) ∙ first_true (is_due (listed i x)) (list_all (λ y. is_due (listed i y)) fs) all
    by false is later = let found : find p fs ≡ Some g = rw is at e in later found

listed_is : (i : ℕ) (o : Option PlainNamedFunc) (p : PlainNamedFunc → Bool) (f : Listed) → find p (interface_at i).functions ≡ o → listed_in i o ≡ Some f → is_due f ≡ true
listed_is i None p f found e = cc
listed_is i (Some g) p f found e =
    let same : listed i g ≡ f = cc in
    ap is_due (sym same) ∙ found_due i p (interface_at i).functions g found (due_each i)

function_is : (name : Name) (o : Option ℕ) (f : Listed) → function_in name o ≡ Some f → is_due f ≡ true
function_is name None f e = cc
function_is name (Some i) f e = listed_is i (find (λ g. bytes_eq g.name name) (interface_at i).functions) (λ g. bytes_eq g.name name) f refl e

pub is_listed : (version : ℕ → Name) (interface name : Name) (f : Listed) → listed_function version interface name ≡ Some f → IsDue f
is_listed version interface name f e = due f (function_is name (interface_named version interface) f e)
