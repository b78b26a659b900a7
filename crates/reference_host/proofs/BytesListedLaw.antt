-- The listed functions: none takes as its second argument a list of numbers that are no bytes.
use Rattle.std.proofs.Common.{◌≡◌, ℕ, zero, suc, ◌+◌, ◌-◌, ◌<◌, ◌≤◌, nat_lt, Bool, true, false, ◌&&◌, List, [], ◌∷◌, length, Option, Some, None, refl, sym, ap, ◌∙◌, inl, inr, arith}
use Rattle.std.proofs.lemmas.Bool.{cases_lt}
use Rattle.std.proofs.lemmas.Bool.Decides.{nat_tests}
use Rattle.std.specs.List.{list_all, find}
use Rattle.std.specs.Str.{bytes_eq}
use Rattle.wit_types.specs.Plain.{Name}
use Rattle.wasi_table.specs.Plain.{PlainKnown, PlainNamedFunc}
use Rattle.wasi_table.specs.Forms.{form_named}
use Rattle.wasi_table.specs.Types.{kind_of, declared}
use Rattle.wasi_table.specs.Texts.{table_of}
use Rattle.wasi_table.specs.Tables.{Items, described as described_by, described_from}
use Rattle.wasi_listed.specs.IoListed.{described as described_io, known_types}
use Rattle.wasi_listed.specs.FsListed.{described as described_fs}
use Rattle.wasi_listed.specs.declared.net_table.TheConstants.{TABLE}
use Rattle.wasi_listed.specs.NetListed.{described as described_net}
use Rattle.reference_step.specs.Listed.{Listed, interface_named, interface_at, listed_in, function_in}
use Rattle.reference_host.specs.BytesTyped.{TypedAreBytes}
use Rattle.reference_host.proofs.BytesTypeLaws.{second_bytes, second_typed}

-- ---- each interface

abbrev takes_bytes : PlainNamedFunc → Bool
takes_bytes f = second_bytes f.ty.params

abbrev take_bytes : ℕ → Bool
take_bytes i = list_all takes_bytes (interface_at i).functions

abbrev all_take : ℕ → ℕ → Bool
all_take zero i = true
all_take (suc n) i = take_bytes i && all_take n (i + 1)

listed_take : all_take 27 0 ≡ true
unfolding described_by described_io described_fs described_net known_types form_named kind_of
listed_take = refl

first_true : (a b : Bool) → (a && b) ≡ true → a ≡ true
first_true true b e = refl
first_true false b e = e

second_true : (a b : Bool) → (a && b) ≡ true → b ≡ true
second_true true b e = e
second_true false b e = cc

take_at : (n i j : ℕ) → all_take n i ≡ true → j < n → take_bytes (i + j) ≡ true
take_at zero i j e less = absurd (omega arith)
take_at (suc n) i zero e less =
    let same : i ≡ i + 0 = omega arith in
    ap take_bytes (sym same) ∙ first_true (take_bytes i) (all_take n (i + 1)) e
take_at (suc n) i (suc j) e less =
    let same : i + 1 + j ≡ i + suc j = omega arith in
    ap take_bytes (sym same) ∙ take_at n (i + 1) j (second_true (take_bytes i) (all_take n (i + 1)) e) (omega arith)

take_below : (i : ℕ) → i < 27 → take_bytes i ≡ true
take_below i less =
    let same : i ≡ 0 + i = omega arith in
    ap take_bytes same ∙ take_at 27 0 i listed_take less

-- ---- after the last interface there are no functions

none_past : (number : ℕ) (known : List PlainKnown) (table : List Items) (left : ℕ) → length table ≤ left → (described_from number known table left).functions ≡ []
none_past number known [] left past = refl
none_past number known (items ∷ rest) zero past = absurd (omega arith)
none_past number known (items ∷ rest) (suc left) past = none_past number (declared (number - suc left) known items) rest left (omega arith)

count_net : length (table_of TABLE.now) ≡ 7
unfolding form_named
count_net = refl

net_past : (i : ℕ) → 27 ≤ i → (described_net i).functions ≡ []
unfolding described_by described_net
net_past i past = none_past i known_types (table_of TABLE.now) (i - 20) (omega (arith, past, count_net))

take_past : (i : ℕ) → 27 ≤ i → take_bytes i ≡ true
take_past i past =
    let not_io : nat_lt i 18 ≡ false = grind (arith, nat_tests, past) in
    let not_fs : nat_lt i 20 ≡ false = grind (arith, nat_tests, past) in
    let none : list_all takes_bytes (described_net i).functions ≡ true = ap (list_all takes_bytes) (net_past i past) in
    rw (not_io, not_fs) none

take_each : (i : ℕ) → take_bytes i ≡ true
take_each i = elim (cases_lt i 27) [ inl below ↦ take_below i below | inr past ↦ take_past i past ]

-- ---- a listed function

found_takes : (p : PlainNamedFunc → Bool) (fs : List PlainNamedFunc) (f : PlainNamedFunc) → find p fs ≡ Some f → list_all takes_bytes fs ≡ true → takes_bytes f ≡ true
found_takes p [] f e all = cc
found_takes p (g ∷ fs) f e all = by (p g) refl (λ found. found_takes p fs f found (second_true (takes_bytes g) (list_all takes_bytes fs) all))
  where
    by : (b : Bool) → p g ≡ b → (find p fs ≡ Some f → takes_bytes f ≡ true) → takes_bytes f ≡ true
    by true is later =
        let found : Some g ≡ Some f = rw is at e in
        let same : g ≡ f = cc in
        ap takes_bytes (sym same) ∙ first_true (takes_bytes g) (list_all takes_bytes fs) all
    by false is later = let found : find p fs ≡ Some f = rw is at e in later found

abbrev listed : ℕ → PlainNamedFunc → Listed
listed i g = record { interface = i; function = g }

listed_takes : (i : ℕ) (o : Option PlainNamedFunc) (p : PlainNamedFunc → Bool) (f : Listed) → find p (interface_at i).functions ≡ o → listed_in i o ≡ Some f → takes_bytes f.function ≡ true
listed_takes i None p f found e = cc
listed_takes i (Some g) p f found e =
    let same : listed i g ≡ f = cc in
    ap (λ (x : Listed). takes_bytes x.function) (sym same) ∙ found_takes p (interface_at i).functions g found (take_each i)

function_takes : (name : Name) (o : Option ℕ) (f : Listed) → function_in name o ≡ Some f → takes_bytes f.function ≡ true
function_takes name None f e = cc
function_takes name (Some i) f e = listed_takes i (find (λ g. bytes_eq g.name name) (interface_at i).functions) (λ g. bytes_eq g.name name) f refl e

pub typed_are_bytes : TypedAreBytes
typed_are_bytes version interface name f e args is = second_typed f.function.ty.params args (function_takes name (interface_named version interface) f e) is
