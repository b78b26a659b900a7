-- The listed functions: no result but that of get-directories has handles in a list, and none borrows.
use Rattle.std.proofs.Common.{◌≡◌, ℕ, zero, suc, ◌+◌, ◌==◌, ◌<◌, ◌≤◌, nat_lt, Bool, true, false, ◌&&◌, ◌||◌, List, [], ◌∷◌, length, Option, Some, None, refl, sym, ap, ◌∙◌, arith}
use Rattle.std.specs.List.{list_all, find}
use Rattle.std.specs.Str.{bytes_eq}
use Rattle.std.proofs.lemmas.Bool.Decides.{nat_tests}
use Rattle.wit_types.specs.Plain.{Name, Plain}
use Rattle.wasi_table.specs.Plain.{PlainNamedFunc}
use Rattle.wasi_table.specs.Forms.{form_named}
use Rattle.wasi_table.specs.Types.{kind_of}
use Rattle.wasi_table.specs.Texts.{table_of}
use Rattle.wasi_table.specs.Tables.{Items, described as described_by, numbered as numbered_by, name_in}
use Rattle.wasi_listed.specs.declared.io_table.TheConstants.{TABLE as TABLE_IO}
use Rattle.wasi_listed.specs.declared.fs_table.TheConstants.{TABLE as TABLE_FS}
use Rattle.wasi_listed.specs.declared.net_table.TheConstants.{TABLE as TABLE_NET}
use Rattle.wasi_listed.specs.IoListed.{numbered as numbered_io, described as described_io, known_types}
use Rattle.wasi_listed.specs.FsListed.{numbered as numbered_fs, described as described_fs}
use Rattle.wasi_listed.specs.NetListed.{numbered as numbered_net, described as described_net}
use Rattle.reference_step.specs.Listed.{Listed, or_else, interface_named, interface_numbered, interface_at, in_version, listed_in, function_in, cut}
use Rattle.reference_step.specs.Atoms.{result_atoms, handles}
use Rattle.reference_step.specs.Rules.{same_kind}
use Rattle.ref_guards.specs.RoomEntering.{count_kind, are_kinds, EnteringHasRoom, EnteringHasKinds}
use Rattle.ref_guards.proofs.Bounds.{is_flat_result, few_result}
use Rattle.ref_guards.proofs.KindBounds.{has_kinds_result, no_kind_result}

-- ---- each interface

-- what is asked of a result
abbrev is_due : Option Plain → Bool
is_due ty = is_flat_result ty && has_kinds_result ty

abbrev are_flat : List PlainNamedFunc → Bool
are_flat fs = list_all (λ f. is_due f.ty.answer) fs

abbrev flat_from : ℕ → ℕ → Bool
flat_from zero i = true
flat_from (suc n) i = ((i == 19) || are_flat (interface_at i).functions) && flat_from n (i + 1)

all_flat : flat_from 27 0 ≡ true
unfolding described_by described_io described_fs described_net known_types form_named kind_of
all_flat = refl

first_true : (a b : Bool) → (a && b) ≡ true → a ≡ true
first_true true b e = refl
first_true false b e = e

second_true : (a b : Bool) → (a && b) ≡ true → b ≡ true
second_true true b e = e
second_true false b e = cc

or_second : (a b : Bool) → (a || b) ≡ true → a ≡ false → b ≡ true
or_second true b e f = cc
or_second false b e f = e

flat_at : (n i j : ℕ) → flat_from n i ≡ true → j < n → ((i + j == 19) || are_flat (interface_at (i + j)).functions) ≡ true
flat_at zero i j e less = absurd (omega arith)
flat_at (suc n) i zero e less =
    let same : i ≡ i + 0 = omega arith in
    ap (λ k. (k == 19) || are_flat (interface_at k).functions) (sym same) ∙ first_true ((i == 19) || are_flat (interface_at i).functions) (flat_from n (i + 1)) e
flat_at (suc n) i (suc j) e less =
    let same : i + 1 + j ≡ i + suc j = omega arith in
    ap (λ k. (k == 19) || are_flat (interface_at k).functions) (sym same) ∙ flat_at n (i + 1) j (second_true ((i == 19) || are_flat (interface_at i).functions) (flat_from n (i + 1)) e) (omega arith)

flat_below : (i : ℕ) → i < 27 → ((i == 19) || are_flat (interface_at i).functions) ≡ true
flat_below i less =
    let same : i ≡ 0 + i = omega arith in
    ap (λ k. (k == 19) || are_flat (interface_at k).functions) same ∙ flat_at 27 0 i all_flat less

-- ---- the number of an interface is one of 27

numbered_below : (number : ℕ) (table : List Items) (name : Name) (n : ℕ) → numbered_by number table name ≡ Some n → n < number + length table
numbered_below number [] name n e = cc
numbered_below number (items ∷ rest) name n e = by (bytes_eq (name_in items) name) refl (λ found. numbered_below (number + 1) rest name n found)
  where
    by : (b : Bool) → bytes_eq (name_in items) name ≡ b → (numbered_by (number + 1) rest name ≡ Some n → n < number + 1 + length rest) → n < number + length (items ∷ rest)
    by true is later = let found : Some number ≡ Some n = rw is at e in let same : number ≡ n = cc in omega arith
    by false is later = let found : numbered_by (number + 1) rest name ≡ Some n = rw is at e in let below = later found in omega arith

count_io : length (table_of TABLE_IO.now) ≡ 18
unfolding form_named
count_io = refl

count_fs : length (table_of TABLE_FS.now) ≡ 2
unfolding form_named
count_fs = refl

count_net : length (table_of TABLE_NET.now) ≡ 7
unfolding form_named
count_net = refl

below_io : (name : Name) (n : ℕ) → numbered_io name ≡ Some n → n < 27
unfolding numbered_io
below_io name n e = omega (arith, numbered_below 0 (table_of TABLE_IO.now) name n e, count_io)

below_fs : (name : Name) (n : ℕ) → numbered_fs name ≡ Some n → n < 27
unfolding numbered_fs
below_fs name n e = omega (arith, numbered_below 18 (table_of TABLE_FS.now) name n e, count_fs)

below_net : (name : Name) (n : ℕ) → numbered_net name ≡ Some n → n < 27
unfolding numbered_net
below_net name n e = omega (arith, numbered_below 20 (table_of TABLE_NET.now) name n e, count_net)

or_below : (a b c : Option ℕ) (n : ℕ) → ((m : ℕ) → a ≡ Some m → m < 27) → ((m : ℕ) → b ≡ Some m → m < 27) → ((m : ℕ) → c ≡ Some m → m < 27) → or_else a (or_else b c) ≡ Some n → n < 27
or_below (Some x) b c n p q r e = p n e
or_below None (Some x) c n p q r e = q n e
or_below None None c n p q r e = r n e

interface_below : (name : Name) (n : ℕ) → interface_numbered name ≡ Some n → n < 27
interface_below name n e = or_below (numbered_io name) (numbered_fs name) (numbered_net name) n (below_io name) (below_fs name) (below_net name) e

-- ---- a listed function

flat_found : (p : PlainNamedFunc → Bool) (fs : List PlainNamedFunc) (f : PlainNamedFunc) → find p fs ≡ Some f → are_flat fs ≡ true → is_due f.ty.answer ≡ true
flat_found p [] f e all = cc
flat_found p (g ∷ fs) f e all = by (p g) refl (λ found. flat_found p fs f found (second_true (is_due g.ty.answer) (are_flat fs) all))
  where
    by : (b : Bool) → p g ≡ b → (find p fs ≡ Some f → is_due f.ty.answer ≡ true) → is_due f.ty.answer ≡ true
    by true is later =
        let found : Some g ≡ Some f = rw is at e in
        let same : g ≡ f = cc in
        ap (λ (x : PlainNamedFunc). is_due x.ty.answer) (sym same) ∙ first_true (is_due g.ty.answer) (are_flat fs) all
    by false is later = let found : find p fs ≡ Some f = rw is at e in later found

abbrev listed : ℕ → PlainNamedFunc → Listed
listed i g = record { interface = i; function = g }

flat_listed : (i : ℕ) (o : Option PlainNamedFunc) (p : PlainNamedFunc → Bool) (f : Listed) → i < 27 → find p (interface_at i).functions ≡ o → listed_in i o ≡ Some f → (f.interface == 19) ≡ false → is_due f.function.ty.answer ≡ true
flat_listed i None p f less found e other = cc
flat_listed i (Some g) p f less found e other =
    let same : listed i g ≡ f = cc in
    let not_folders : (i == 19) ≡ false = ap (λ (x : Listed). x.interface == 19) same ∙ other in
    let all : are_flat (interface_at i).functions ≡ true = or_second (i == 19) (are_flat (interface_at i).functions) (flat_below i less) not_folders in
    ap (λ (x : Listed). is_due x.function.ty.answer) (sym same) ∙ flat_found p (interface_at i).functions g found all

flat_function : (version : ℕ → Name) (text name : Name) (o : Option ℕ) (f : Listed) → interface_numbered (cut text).0 ≡ o → function_in name (in_version version (cut text).1 o) ≡ Some f → (f.interface == 19) ≡ false → is_due f.function.ty.answer ≡ true
flat_function version text name None f is e other = cc
flat_function version text name (Some i) f is e other = by (bytes_eq (version i) (cut text).1) refl
  where
    by : (b : Bool) → bytes_eq (version i) (cut text).1 ≡ b → is_due f.function.ty.answer ≡ true
    by true v =
        let found : listed_in i (find (λ g. bytes_eq g.name name) (interface_at i).functions) ≡ Some f = rw v at e in
        flat_listed i (find (λ g. bytes_eq g.name name) (interface_at i).functions) (λ g. bytes_eq g.name name) f (interface_below (cut text).0 i is) refl found other
    by false v = let none : function_in name None ≡ Some f = rw v at e in cc

due_of : (version : ℕ → Name) (interface name : Name) (f : Listed) → function_in name (interface_named version interface) ≡ Some f → (f.interface == 19) ≡ false → is_due f.function.ty.answer ≡ true
due_of version interface name f e other = flat_function version interface name (interface_numbered (cut interface).0) f refl e other

pub entering_has_room : EnteringHasRoom
entering_has_room version interface name f e other v kind =
    few_result kind f.function.ty.answer v (first_true (is_flat_result f.function.ty.answer) (has_kinds_result f.function.ty.answer) (due_of version interface name f e other))

-- ---- kinds

itself : (kind : ℕ) → same_kind kind kind ≡ 1
itself kind = grind (arith, nat_tests)

one_listed : (b : Bool) (g : ℕ × ℕ) (gs : List (ℕ × ℕ)) → nat_lt g.0 14 ≡ b → ((kind : ℕ) → 14 ≤ kind → count_kind kind (g ∷ gs) ≡ 0) → are_kinds gs ≡ true → are_kinds (g ∷ gs) ≡ true
one_listed true g gs is none rest = rw (is, rest) refl
one_listed false g gs is none rest =
    let more : 14 ≤ g.0 = grind (arith, nat_tests) in
    absurd (omega (arith, none g.0 more, itself g.0))

all_listed : (gs : List (ℕ × ℕ)) → ((kind : ℕ) → 14 ≤ kind → count_kind kind gs ≡ 0) → are_kinds gs ≡ true
all_listed [] none = refl
all_listed (g ∷ gs) none = one_listed (nat_lt g.0 14) g gs refl none (all_listed gs (λ kind more. omega (arith, none kind more)))

pub entering_has_kinds : EnteringHasKinds
entering_has_kinds version interface name f e other v =
    let due = due_of version interface name f e other in
    all_listed (handles (result_atoms f.function.ty.answer v)) (λ kind more.
    let few = entering_has_room version interface name f e other v kind in
    let none = no_kind_result kind more f.function.ty.answer (second_true (is_flat_result f.function.ty.answer) (has_kinds_result f.function.ty.answer) due) in
    omega (arith, few, none))
