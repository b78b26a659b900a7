-- What `open-at` makes is a file or a folder, and no other row answers with a descriptor.
use Rattle.std.proofs.Common.{◌≡◌, ◌∙◌, refl, sym, ap, subst, ℕ, zero, suc, List, [], ◌∷◌, Bool, true, false, not, ◌&&◌, ◌||◌, Option, Some, None, cond, inl, inr}
use Rattle.std.specs.Prelude.{◌==◌, codes, slice_index_or, map, if◌then◌else◌, option_map}
use Rattle.std.specs.List.{list_all, find}
use Rattle.std.specs.Str.{bytes_eq}
use Rattle.std.proofs.lemmas.Bool.{eqb-true}
use Rattle.std.proofs.lemmas.Slice.Eq.{bytes_eq-Decides}
use Rattle.wit_types.specs.Plain.{Name, Plain, Parts, End, More, Bare, VariantType, OwnType, BorrowType}
use Rattle.wit_types.specs.PlainValue.{PlainValues, HandleValue, With, Without}
use Rattle.wasi_table.specs.Plain.{PlainNamedFunc}
use Rattle.wasi_table.specs.Tables.{described as described_by}
use Rattle.wasi_table.specs.Forms.{form_named}
use Rattle.wasi_table.specs.Types.{kind_of}
use Rattle.wasi_listed.specs.IoListed.{described as described_io, known_types}
use Rattle.wasi_listed.specs.FsListed.{described as described_fs}
use Rattle.wasi_listed.specs.NetListed.{described as described_net}
use Rattle.tree_table.specs.declared.entries.Node.{Node as TreeNode}
use Rattle.tree_table.specs.declared.entries.Node.TheVariants.{File, Link}
use Rattle.tree_table.specs.Paths.{Path, Answer, At, Fails}
use Rattle.reference_step.specs.Atoms.{Atom, handles, atoms, atoms_at, result_atoms}
use Rattle.reference_step.specs.Codes as code
use Rattle.reference_step.specs.Descriptors as descriptors
use Rattle.reference_step.specs.Handles.{Content, Node, Always, ScratchRoot, ScratchFile, descriptor}
use Rattle.reference_step.specs.Listed.{Listed, interface_at, function_in, interface_named, listed_function}
use Rattle.reference_step.specs.Nodes.{node_at, lead, lead_in, Found, TheRoot, TheFile, Missing, NewName, Named as NewlyNamed, Unnamed}
use Rattle.reference_step.specs.Rows as row_args
use Rattle.reference_step.specs.Rows.{row_of, by_row, all_rows, Named}
use Rattle.reference_step.specs.State.{View, Row, Traps, Does}
use Rattle.reference_step.specs.Values.{label, ok, error_code}
use Rattle.reference_laws.proofs.AnswerKinds.{in_result, kinds_of, places_from, place_passes}
use Rattle.reference_laws.proofs.Free.{lists_directory}
use Rattle.reference_laws.proofs.Handled.{both_true, false_true, one_true, same_some, found_passes, in_interface}
use Rattle.reference_laws.specs.Standing.{is_file}

-- ---- the handles of an error, and of one handle as `ok`

abbrev HasNone : List Atom → Type 0
HasNone xs = handles xs ≡ []

none_bare : (cases : Parts) (n : ℕ) → HasNone (atoms_at cases n Without)
none_bare End n = refl
none_bare (More name ty rest) zero = refl
none_bare (More name ty rest) (suc n) = none_bare rest n
none_bare (Bare name rest) zero = refl
none_bare (Bare name rest) (suc n) = none_bare rest n

none_label : (ty : Plain) (n : ℕ) → HasNone (atoms ty (label n))
none_label (VariantType form cases) n = none_bare cases n
none_label _ n = refl

none_within : (cases : Parts) (m n : ℕ) → HasNone (atoms_at cases m (With (label n)))
none_within End m n = refl
none_within (More name ty rest) zero n = none_label ty n
none_within (More name ty rest) (suc m) n = none_within rest m n
none_within (Bare name rest) zero n = refl
none_within (Bare name rest) (suc m) n = none_within rest m n

none_error : (ty : Plain) (n : ℕ) → HasNone (atoms ty (error_code n))
none_error (VariantType form cases) n = none_within cases 1 n
none_error _ n = refl

abbrev AreFirst : List Atom → Type 0
AreFirst xs = list_all (λ g. g.1 == 0) (handles xs) ≡ true

first_handle : (ty : Plain) → AreFirst (atoms ty (HandleValue 0))
first_handle (OwnType kind) = refl
first_handle _ = refl

first_within : (cases : Parts) (n : ℕ) → AreFirst (atoms_at cases n (With (HandleValue 0)))
first_within End n = refl
first_within (More name ty rest) zero = first_handle ty
first_within (More name ty rest) (suc n) = first_within rest n
first_within (Bare name rest) zero = refl
first_within (Bare name rest) (suc n) = first_within rest n

first_ok : (ty : Plain) → AreFirst (atoms ty (ok (HandleValue 0)))
first_ok (VariantType form cases) = first_within cases 0
first_ok _ = refl

-- ---- what is made for descriptors

-- what is made for each descriptor is a file or a folder
abbrev pub MakesFiles : List Content → List (ℕ × ℕ) → Type 0
MakesFiles makes [] = Unit {0}
MakesFiles makes (g ∷ ids) = (g.0 ≡ descriptor → is_file (slice_index_or makes g.1 Always) ≡ true) × MakesFiles makes ids

abbrev pub RowMakesFiles : Option Plain → Row → Type 0
RowMakesFiles ty Traps = Unit {0}
RowMakesFiles ty (Does e) = MakesFiles e.makes (handles (result_atoms ty e.value))

at_zero : (c : Content) (i : ℕ) → is_file c ≡ true → (i == 0) ≡ true → is_file (slice_index_or (c ∷ []) i Always) ≡ true
at_zero c i file e = subst (λ n. is_file (slice_index_or (c ∷ []) n Always) ≡ true) (sym (eqb-true i 0 e)) file

all_first : (c : Content) (ids : List (ℕ × ℕ)) → is_file c ≡ true → list_all (λ g. g.1 == 0) ids ≡ true → MakesFiles (c ∷ []) ids
all_first c [] file e = tt
all_first c (g ∷ ids) file e = let two = both_true (g.1 == 0) (list_all (λ x. x.1 == 0) ids) e in ((λ k. at_zero c g.1 file two.0), all_first c ids file two.1)

module _ (ty : Option Plain) where
  given_file : (c : Content) → is_file c ≡ true → MakesFiles (c ∷ []) (handles (result_atoms ty (Some (ok (HandleValue 0)))))
  given_file c file = all_first c _ file (of_result ty)
    where
      of_result : (t : Option Plain) → AreFirst (result_atoms t (Some (ok (HandleValue 0))))
      of_result None = refl
      of_result (Some t) = first_ok t

  failed : (n : ℕ) → MakesFiles [] (handles (result_atoms ty (Some (error_code n))))
  failed n = subst (MakesFiles []) (sym (of_result ty)) tt
    where
      of_result : (t : Option Plain) → HasNone (result_atoms t (Some (error_code n)))
      of_result None = refl
      of_result (Some t) = none_error t n

  files_if : (b : Bool) (x y : Row) → RowMakesFiles ty x → RowMakesFiles ty y → RowMakesFiles ty (if b then x else y)
  files_if true x y f g = f
  files_if false x y f g = g

  found_makes : (node : Option TreeNode) (tree : ℕ) (path : Path) (flags : ℕ) → RowMakesFiles ty (descriptors.open_found node tree path flags)
  found_makes (Some (File content)) tree path flags = files_if (descriptors.exclusive flags) _ _ (failed code.exist) (files_if (descriptors.directory flags) _ _ (failed code.not_directory) (given_file (Node tree path) refl))
  found_makes (Some (Link target)) tree path flags = files_if (descriptors.exclusive flags) _ _ (failed code.exist) (failed code.loop)
  found_makes _ tree path flags = files_if (descriptors.exclusive flags) _ _ (failed code.exist) (given_file (Node tree path) refl)

  led_makes : (v : View) (tree : ℕ) (answer : Answer) (flags : ℕ) → RowMakesFiles ty (descriptors.open_led v tree answer flags)
  led_makes v tree (Fails e) flags = files_if (e == code.no_entry && descriptors.create flags) _ _ (failed code.read_only) (failed e)
  led_makes v tree (At found) flags = found_makes (node_at v.trees tree found) tree found flags

  made_makes : (v : View) (name : List ℕ) (n : Option ℕ) (rights : ℕ) → RowMakesFiles ty (descriptors.open_made v name n rights)
  made_makes v name None rights = failed code.insufficient_space
  made_makes v name (Some n) rights = given_file (ScratchFile n (descriptors.write_flag rights)) refl

  new_makes : (v : View) (name : NewName) (rights : ℕ) → RowMakesFiles ty (descriptors.open_new v name rights)
  new_makes v (Unnamed e) rights = failed e
  new_makes v (NewlyNamed name) rights = made_makes v name _ rights

  missing_makes : (v : View) (e : ℕ) (text : List ℕ) (flags rights : ℕ) → RowMakesFiles ty (descriptors.open_missing v e text flags rights)
  missing_makes v e text flags rights =
      files_if (not (e == code.no_entry)) _ _ (failed e)
      (files_if (not (descriptors.create flags)) _ _ (failed code.no_entry) (files_if (descriptors.directory flags) _ _ (failed code.invalid) (new_makes v _ rights)))

  root_makes : (flags rights : ℕ) → RowMakesFiles ty (descriptors.open_root flags rights)
  root_makes flags rights =
      files_if (descriptors.exclusive flags) _ _ (failed code.exist) (files_if (descriptors.write_flag rights || descriptors.truncate flags) _ _ (failed code.is_directory) (given_file ScratchRoot refl))

  file_makes : (v : View) (n flags rights : ℕ) → RowMakesFiles ty (descriptors.open_file v n flags rights)
  file_makes v n flags rights =
      files_if (descriptors.exclusive flags) _ _ (failed code.exist)
      (files_if (descriptors.directory flags) _ _ (failed code.not_directory)
      (files_if (descriptors.truncate flags && not (descriptors.write_flag rights)) _ _ (failed code.invalid)
      (files_if (descriptors.truncate flags) _ _ (given_file (ScratchFile n true) refl) (given_file (ScratchFile n (descriptors.write_flag rights)) refl))))

  scratch_makes : (v : View) (found : Found) (text : List ℕ) (flags rights : ℕ) → RowMakesFiles ty (descriptors.open_scratch v found text flags rights)
  scratch_makes v (Missing e) text flags rights = missing_makes v e text flags rights
  scratch_makes v TheRoot text flags rights = root_makes flags rights
  scratch_makes v (TheFile n) text flags rights = file_makes v n flags rights

  open_makes : (v : View) (c : Content) (follow : ℕ) (text : List ℕ) (flags : ℕ) (rights : ℕ) → RowMakesFiles ty (descriptors.open-at v c follow text flags rights)
  open_makes v (Node tree path) follow text flags rights =
      files_if (descriptors.write_flag rights || descriptors.mutate-directory rights || descriptors.truncate flags) _ _ (failed code.read_only)
      (led_makes v tree (lead v.trees tree path text (descriptors.symlink-follow follow)) flags)
  open_makes v ScratchRoot follow text flags rights = scratch_makes v (lead_in v.scratch text) text flags rights
  open_makes v _ follow text flags rights = failed code.not_directory

-- ---- a test of the functions that rows answer

abbrev is_other : ℕ → Bool
is_other kind = not (kind == descriptor)

abbrev opens : Name → Bool
opens name = bytes_eq name (codes "[method]descriptor.open-at")

abbrev pub fs_types : ℕ
fs_types = 18

-- only `open-at` answers with a descriptor, and `read-directory` is where it is
abbrev opens_well : ℕ → PlainNamedFunc → Bool
opens_well interface f = (list_all is_other (kinds_of f.ty.answer) || ((interface == fs_types) && opens f.name)) && (not (lists_directory f.name) || (interface == fs_types))

-- the interfaces that have rows
abbrev pub with_rows : List Bool
with_rows = map (λ rows. true) all_rows

abbrev all_open : ℕ → Bool
all_open interface = list_all (opens_well interface) (interface_at interface).functions

all_open_well : places_from with_rows all_open ≡ true
unfolding described_io described_fs described_net described_by form_named kind_of known_types
all_open_well = refl

-- `read-directory` takes its descriptor alone
abbrev pub read_directory : Name
read_directory = codes "[method]descriptor.read-directory"

abbrev named : Name → Option PlainNamedFunc
named name = find (λ g. bytes_eq g.name name) (interface_at fs_types).functions

abbrev pub alone : Parts
alone = More [] (BorrowType descriptor) End

takes_alone : option_map (λ g. g.ty.params) (named read_directory) ≡ Some alone
unfolding described_io described_fs described_net described_by form_named kind_of known_types
takes_alone = refl

-- ---- so of a listed function

none_beyond : (xs : List (List Named)) (i : ℕ) → slice_index_or (map (λ rows. true) xs) i false ≡ false → slice_index_or xs i [] ≡ []
none_beyond [] i e = refl
none_beyond (x ∷ xs) zero e = false_true (sym e)
none_beyond (x ∷ xs) (suc i) e = none_beyond xs i e

pub traps_beyond : (i : ℕ) (name : Name) (v : View) (args : PlainValues) → slice_index_or with_rows i false ≡ false → row_of i name v args ≡ Traps
traps_beyond i name v args e = ap (λ rows. by_row (find (λ row. bytes_eq row.0 name) rows) v args) (none_beyond all_rows i e)

none_makes : (makes : List Content) (ids : List (ℕ × ℕ)) → list_all (λ g. is_other g.0) ids ≡ true → MakesFiles makes ids
none_makes makes [] e = tt
none_makes makes (g ∷ ids) e =
    let two = both_true (is_other g.0) (list_all (λ x. is_other x.0) ids) e in
    ((λ k. false_true (subst (λ n. is_other n ≡ true) k two.0)), none_makes makes ids two.1)

others_make : (ty : Option Plain) (row : Row) → list_all is_other (kinds_of ty) ≡ true → RowMakesFiles ty row
others_make ty Traps e = tt
others_make ty (Does effect) e = none_makes effect.makes _ (in_result is_other ty effect.value e)

first_is : (P : PlainNamedFunc → Bool) (x y : PlainNamedFunc) (later : Option PlainNamedFunc) (b : Bool) → P y ≡ b → (later ≡ Some x → P x ≡ true) → cond b (Some y) later ≡ Some x → P x ≡ true
first_is P x y later true is rest e = subst (λ z. P z ≡ true) (same_some x y e) is
first_is P x y later false is rest e = rest e

found_is : (P : PlainNamedFunc → Bool) (xs : List PlainNamedFunc) (x : PlainNamedFunc) → find P xs ≡ Some x → P x ≡ true
found_is P [] x e = absurd cc
found_is P (y ∷ ys) x e = first_is P x y (find P ys) (P y) refl (λ later. found_is P ys x later) e

module _ (version : ℕ → Name) (interface name : Name) (f : Listed) (listed : listed_function version interface name ≡ Some f) where
  well_in : (o : Option ℕ) → function_in name o ≡ Some f → slice_index_or with_rows f.interface false ≡ true → opens_well f.interface f.function ≡ true
  well_in None e there = absurd cc
  well_in (Some i) e there =
      let is = in_interface i (find (λ g. bytes_eq g.name name) (interface_at i).functions) f e in
      subst (λ n. opens_well n f.function ≡ true) is.0
      (found_passes (opens_well i) (λ g. bytes_eq g.name name) (interface_at i).functions f.function (place_passes with_rows all_open all_open_well i (subst (λ n. slice_index_or with_rows n false ≡ true) (sym is.0) there)) is.1)

  opens_it : slice_index_or with_rows f.interface false ≡ true
      → ((list_all is_other (kinds_of f.function.ty.answer) || ((f.interface == fs_types) && opens f.function.name)) ≡ true) × ((not (lists_directory f.function.name) || (f.interface == fs_types)) ≡ true)
  opens_it there =
      both_true (list_all is_other (kinds_of f.function.ty.answer) || ((f.interface == fs_types) && opens f.function.name)) (not (lists_directory f.function.name) || (f.interface == fs_types))
      (well_in (interface_named version interface) listed there)

  module _ (v : View) (args : PlainValues) where
    abbrev OfRow : ℕ → Name → Type 0
    OfRow i n = RowMakesFiles f.function.ty.answer (row_of i n v args)

    of_open : ((f.interface == fs_types) && opens f.function.name) ≡ true → OfRow f.interface f.function.name
    of_open e =
        let two = both_true (f.interface == fs_types) (opens f.function.name) e in
        subst (λ i. OfRow i f.function.name) (sym (eqb-true f.interface fs_types two.0))
        (subst (λ n. OfRow fs_types n) (sym ((bytes_eq-Decides f.function.name (codes "[method]descriptor.open-at")).0 two.1))
        (open_makes f.function.ty.answer v (row_args.handle v 0 args) (row_args.flags 1 args) (row_args.text 2 args) (row_args.flags 3 args) (row_args.flags 4 args)))

    of_place : (b : Bool) → slice_index_or with_rows f.interface false ≡ b → OfRow f.interface f.function.name
    of_place false e = subst (RowMakesFiles f.function.ty.answer) (sym (traps_beyond f.interface f.function.name v args e)) tt
    of_place true e = elim (one_true (list_all is_other (kinds_of f.function.ty.answer)) ((f.interface == fs_types) && opens f.function.name) (opens_it e).0) [
      | inl none ↦ others_make f.function.ty.answer _ none
      | inr opened ↦ of_open opened
    ]

    -- what a listed function makes for descriptors
    pub row_makes_files : RowMakesFiles f.function.ty.answer (row_of f.interface f.function.name v args)
    row_makes_files = of_place (slice_index_or with_rows f.interface false) refl

  -- ---- `read-directory`

  in_types : (b c : Bool) → (not b || c) ≡ true → b ≡ true → c ≡ true
  in_types true c e is = e
  in_types false c e is = false_true is

  pub record Lists : Type 0 where
    pub place : f.interface ≡ fs_types
    pub named_so : f.function.name ≡ read_directory
    pub takes : f.function.ty.params ≡ alone

  same_params : (o : Option PlainNamedFunc) → o ≡ Some f.function → option_map (λ g. g.ty.params) o ≡ Some alone → f.function.ty.params ≡ alone
  same_params o is e = same_parts _ _ (sym (ap (option_map (λ g. g.ty.params)) is) ∙ e)
    where
      same_parts : (x y : Parts) → Some x ≡ Some y → x ≡ y
      same_parts x y e = cc

  found_alone : (o : Option ℕ) → function_in name o ≡ Some f → f.interface ≡ fs_types → f.function.name ≡ read_directory → f.function.ty.params ≡ alone
  found_alone None e place so = absurd cc
  found_alone (Some i) e place so =
      let is = in_interface i (find (λ g. bytes_eq g.name name) (interface_at i).functions) f e in
      let called = (bytes_eq-Decides f.function.name name).0 (found_is (λ g. bytes_eq g.name name) (interface_at i).functions f.function is.1) in
      let there = subst (λ n. find (λ g. bytes_eq g.name name) (interface_at n).functions ≡ Some f.function) (is.0 ∙ place) is.1 in
      same_params (named read_directory) (subst (λ n. named n ≡ Some f.function) (sym called ∙ so) there) takes_alone

  pub listing : lists_directory f.function.name ≡ true → slice_index_or with_rows f.interface false ≡ true → Lists
  listing e there =
      let place = eqb-true f.interface fs_types (in_types (lists_directory f.function.name) (f.interface == fs_types) (opens_it there).1 e) in
      let so = (bytes_eq-Decides f.function.name read_directory).0 e in
      record { place = place; named_so = so; takes = found_alone (interface_named version interface) listed place so }
