-- What the sections after the application add: an alias of each export, and an export of each alias.
use Rattle.std.proofs.Common.{◌≡◌, ◌∙◌, ap, sym, refl, subst, ℕ, zero, suc, ◌+◌, ◌<◌, List, [], ◌∷◌, ◌++◌, length, Bool, true, false, Option, Some, None, map, arith}
use Rattle.std.specs.Prelude.{slice_get, nat_lt, not, ◌&&◌, ◌||◌, if◌then◌else◌}
use Rattle.std.specs.Option.{option_map, option_and_then}
use Rattle.std.specs.List.{list_any}
use Rattle.std.proofs.lemmas.Bool.{false≢true, lt-ltb, false_from_ne_true}
use Rattle.std.proofs.lemmas.List.{length-append}
use Rattle.std.proofs.lemmas.Slice.Eq.{bytes_eq-Decides}
use Rattle.wasm_ast.specs.declared.component.Sort.{Sort}
use Rattle.wasm_ast.specs.declared.component.Sort.TheVariants as sorts
use Rattle.wasm_ast.specs.declared.component.Alias.TheVariants as aliases
use Rattle.wasm_ast.specs.declared.component.ComponentExport.{ComponentExport}
use Rattle.wit_types.specs.Plain.{Name, PlainFunc}
use Rattle.comp_names.specs.Names.{is_legal}
use Rattle.comp_names.specs.Same.{folded, is_same_name}
use Rattle.comp_types.specs.Items.{Item, Entries, FuncItem, InstanceItem, KindItem, End, More, look_up, names, same_name, and_entry}
use Rattle.comp_types.specs.Spaces.{Space, TypeEntry, item_at, and_type, entry_of, and_item}
use Rattle.comp_types.specs.Definitions.{AnAlias, AnExport}
use Rattle.comp_types.specs.Added.{and_some_item, and_some_type, and_again, and_some_entry, after, after_all}
use Rattle.comp_types.specs.Rules.{lengths_of, item_stands, exports_sort, is_of_sort, has_item, is_new_in, name_fits, if_there}
use Rattle.comp_types.specs.Validity.{AllHold, AreValid}
use Rattle.comp_types.specs.Faults.{first_failing}
use Rattle.comp_types.proofs.FaultLaws.{all_hold}
use Rattle.virt_output.specs.declared.counts.Counts.{Counts}
use Rattle.virt_output.specs.Counts.{sort_of, count_of, and_one}
use Rattle.virt_output.specs.Output.{aliases_of, exports_from}
use Rattle.output_same.proofs.Exported.{Fits, AllFit, joined, joined_first, joined_all}

-- ---- an entry is found by its name

same_itself : (name : Name) → same_name name name ≡ true
same_itself name = (bytes_eq-Decides name name).1 refl

alike_itself : (name : Name) → is_same_name name name ≡ true
alike_itself name = (bytes_eq-Decides (folded name) (folded name)).1 refl

apart : (name n : Name) → is_same_name name n ≡ false → same_name n name ≡ false
apart name n h = false_from_ne_true (same_name n name) (λ e. false≢true (sym h ∙ ap (is_same_name name) ((bytes_eq-Decides n name).0 e) ∙ alike_itself name))

neither : (p q : Bool) → not (p || q) ≡ true → (p ≡ false) × (not q ≡ true)
neither true q h = absurd (false≢true h)
neither false q h = (refl, h)

picked : (b : Bool) (i : Item) (o : Option Item) → b ≡ false → (if b then Some i else o) ≡ o
picked true i o h = absurd (false≢true (sym h))
picked false i o h = refl

taken : (b : Bool) (i : Item) (o : Option Item) → b ≡ true → (if b then Some i else o) ≡ Some i
taken true i o h = refl
taken false i o h = absurd (false≢true h)

behind : (before es : Entries) (name : Name) → is_new_in before name ≡ true → look_up name (joined before es) ≡ look_up name es
behind End es name h = ap (look_up name) (joined_all es)
behind (More n i rest) es name h =
    let p = neither (is_same_name name n) (list_any (is_same_name name) (names rest)) h in
    ap (look_up name) (joined_first n i rest es)
    ∙ picked (same_name n name) i (look_up name (joined rest es)) (apart name n p.0)
    ∙ behind rest es name p.1

-- each of these entries is the first of its name among all
abbrev pub AllIn : Entries → Entries → Type 0
AllIn all End = Unit {0}
AllIn all (More name item rest) = (look_up name all ≡ Some item) × AllIn all rest

found : (before es : Entries) → AllFit before es → AllIn (joined before es) es
found before End h = tt
found before (More name item rest) h =
    (behind before (More name item rest) name h.0.new ∙ taken (same_name name name) item (look_up name rest) (same_itself name), found (and_entry before name item) rest h.1)

pub all_in : (es : Entries) → AllFit End es → AllIn es es
all_in es h = subst (λ (all : Entries). AllIn all es) (joined_all es) (found End es h)

-- ---- what stands at an index stays there

-- of what is read of a list at an index
get_kept : {A B : Type 0} → (t : Option A → Option B) → t None ≡ None → (xs ys : List A) (i : ℕ) (y : B) → t (slice_get xs i) ≡ Some y → t (slice_get (xs ++ ys) i) ≡ Some y
get_kept t none [] ys i y h = let never : None ≡ Some y = sym none ∙ h in cc
get_kept t none (x ∷ xs) ys zero y h = h
get_kept t none (x ∷ xs) ys (suc i) y h = get_kept t none xs ys i y h

get_within : {A B : Type 0} → (t : Option A → Option B) → t None ≡ None → (xs : List A) (i : ℕ) (y : B) → t (slice_get xs i) ≡ Some y → i < length xs
get_within t none [] i y h = let never : None ≡ Some y = sym none ∙ h in cc
get_within t none (x ∷ xs) zero y h = omega arith
get_within t none (x ∷ xs) (suc i) y h = omega (arith, get_within t none xs i y h)

get_last : {A : Type 0} → (xs : List A) (y : A) → slice_get (xs ++ y ∷ []) (length xs) ≡ Some y
get_last [] y = refl
get_last (x ∷ xs) y = get_last xs y

abbrev as_func : Option PlainFunc → Option Item
as_func o = option_map FuncItem o

abbrev as_type : Option TypeEntry → Option Item
as_type o = option_map KindItem (option_map (λ (e : TypeEntry). e.kind) o)

abbrev as_instance : Option Entries → Option Item
as_instance o = option_map InstanceItem o

abbrev Keeps : Space → Space → Type 0
Keeps s t = (sort : Sort) (i : ℕ) (y : Item) → item_at s sort i ≡ Some y → item_at t sort i ≡ Some y

type_kept : (s : Space) (e : TypeEntry) → Keeps s (and_type s e)
type_kept s e sorts.Func i y h = h
type_kept s e sorts.Type i y h = get_kept as_type refl s.types (e ∷ []) i y h
type_kept s e sorts.Instance i y h = h

item_kept : (s : Space) (x : Item) → Keeps s (and_item s x)
item_kept s (FuncItem ty) sorts.Func i y h = get_kept as_func refl s.functions (ty ∷ []) i y h
item_kept s (FuncItem ty) sorts.Type i y h = h
item_kept s (FuncItem ty) sorts.Instance i y h = h
item_kept s (InstanceItem entries) sorts.Func i y h = h
item_kept s (InstanceItem entries) sorts.Type i y h = h
item_kept s (InstanceItem entries) sorts.Instance i y h = get_kept as_instance refl s.instances (entries ∷ []) i y h
item_kept s (KindItem kind) sort i y h = type_kept s (entry_of kind) sort i y h

some_item_kept : (s : Space) (o : Option Item) → Keeps s (and_some_item s o)
some_item_kept s None sort i y h = h
some_item_kept s (Some x) sort i y h = item_kept s x sort i y h

some_type_kept : (s : Space) (o : Option TypeEntry) → Keeps s (and_some_type s o)
some_type_kept s None sort i y h = h
some_type_kept s (Some e) sort i y h = type_kept s e sort i y h

again_kept : (s : Space) (sort : Sort) (index : ℕ) → Keeps s (and_again s sort index)
again_kept s sorts.Type index = some_type_kept s (slice_get s.types index)
again_kept s sorts.Func index = some_item_kept s (item_at s sorts.Func index)
again_kept s sorts.Instance index = some_item_kept s (item_at s sorts.Instance index)

-- an entry among the exports changes no index space
exports_kept : (s : Space) (es : Entries) → Keeps s (record s { exports = es })
exports_kept s es sorts.Func i y h = h
exports_kept s es sorts.Type i y h = h
exports_kept s es sorts.Instance i y h = h

-- what is there stands within its index space
stands : (s : Space) (sort : Sort) (i : ℕ) (y : Item) → item_at s sort i ≡ Some y → item_stands (lengths_of s) sort i ≡ true
stands s sorts.Func i y h = lt-ltb i (length s.functions) (get_within as_func refl s.functions i y h)
stands s sorts.Type i y h = lt-ltb i (length s.types) (get_within as_type refl s.types i y h)
stands s sorts.Instance i y h = lt-ltb i (length s.instances) (get_within as_instance refl s.instances i y h)

-- ---- aliases

abbrev pub with_items : Space → Entries → Space
with_items s End = s
with_items s (More name item rest) = with_items (and_item s item) rest

-- the instance at an index stays there
first_kept : (s : Space) (item : Item) (all : Entries) → slice_get s.instances 0 ≡ Some all → slice_get (and_item s item).instances 0 ≡ Some all
first_kept s (FuncItem ty) all h = h
first_kept s (InstanceItem entries) all h = get_kept (λ (o : Option Entries). o) refl s.instances (entries ∷ []) 0 all h
first_kept s (KindItem kind) all h = h

is_of_its_sort : (item : Item) → is_of_sort (sort_of item) item ≡ true
is_of_its_sort (FuncItem ty) = refl
is_of_its_sort (InstanceItem entries) = refl
is_of_its_sort (KindItem kind) = refl

-- the tests of an alias: the instance is there, and exports the name at the sort
two_hold : (a b : Bool) → a ≡ true → b ≡ true
    → first_failing (true ∷ true ∷ true ∷ a ∷ true ∷ true ∷ true ∷ b ∷ true ∷ true ∷ true ∷ true ∷ true ∷ true ∷ true ∷ true ∷ true ∷ true ∷ true ∷ true ∷ true ∷ true ∷ true ∷ true ∷ true ∷ []) ≡ None
two_hold true true h k = refl
two_hold true false h k = absurd (false≢true k)
two_hold false b h k = absurd (false≢true h)

alias_valid : (s : Space) (all : Entries) (name : Name) (item : Item) → slice_get s.instances 0 ≡ Some all → look_up name all ≡ Some item → AllHold [] s (AnAlias (aliases.Export (sort_of item) 0 name))
alias_valid s all name item there named =
    let exported : if_there (exports_sort (sort_of item) name) (slice_get s.instances 0) ≡ true =
    ap (if_there (exports_sort (sort_of item) name)) there ∙ ap (has_item (is_of_sort (sort_of item))) named ∙ is_of_its_sort item in
    all_hold [] s (AnAlias (aliases.Export (sort_of item) 0 name))
    (two_hold (nat_lt 0 (length s.instances)) (if_there (exports_sort (sort_of item) name) (slice_get s.instances 0))
    (lt-ltb 0 (length s.instances) (get_within (λ (o : Option Entries). o) refl s.instances 0 all there)) exported) tt tt

pub aliases_add : (s : Space) (all es : Entries) → slice_get s.instances 0 ≡ Some all → AllIn all es → after_all [] s (map AnAlias (aliases_of es)) ≡ with_items s es
aliases_add s all End there h = refl
aliases_add s all (More name item rest) there h =
    let e : option_and_then (look_up name) (slice_get s.instances 0) ≡ Some item = ap (option_and_then (look_up name)) there ∙ h.0 in
    ap (λ (o : Option Item). after_all [] (and_some_item s o) (map AnAlias (aliases_of rest))) e ∙ aliases_add (and_item s item) all rest (first_kept s item all there) h.1

pub aliases_valid : (s : Space) (all es : Entries) → slice_get s.instances 0 ≡ Some all → AllIn all es → AreValid [] s (map AnAlias (aliases_of es))
aliases_valid s all End there h = tt
aliases_valid s all (More name item rest) there h =
    let e : option_and_then (look_up name) (slice_get s.instances 0) ≡ Some item = ap (option_and_then (look_up name)) there ∙ h.0 in (
      alias_valid s all name item there h.0,
      subst (λ (o : Option Item). AreValid [] (and_some_item s o) (map AnAlias (aliases_of rest))) (sym e) (aliases_valid (and_item s item) all rest (first_kept s item all there) h.1),
    )

-- what aliases leave as it is
item_exports : (s : Space) (x : Item) → (and_item s x).exports ≡ s.exports
item_exports s (FuncItem ty) = refl
item_exports s (InstanceItem entries) = refl
item_exports s (KindItem kind) = refl

item_imports : (s : Space) (x : Item) → (and_item s x).imports ≡ s.imports
item_imports s (FuncItem ty) = refl
item_imports s (InstanceItem entries) = refl
item_imports s (KindItem kind) = refl

pub items_exports : (s : Space) (es : Entries) → (with_items s es).exports ≡ s.exports
items_exports s End = refl
items_exports s (More name item rest) = items_exports (and_item s item) rest ∙ item_exports s item

pub items_imports : (s : Space) (es : Entries) → (with_items s es).imports ≡ s.imports
items_imports s End = refl
items_imports s (More name item rest) = items_imports (and_item s item) rest ∙ item_imports s item

items_kept : (s : Space) (es : Entries) → Keeps s (with_items s es)
items_kept s End sort i y h = h
items_kept s (More name item rest) sort i y h = items_kept (and_item s item) rest sort i y (item_kept s item sort i y h)

-- ---- each alias stands at the next index of its sort

pub record Counted (s : Space) (c : Counts) : Type 0 where
  pub functions : c.functions ≡ length s.functions
  pub types : c.types ≡ length s.types
  pub instances : c.instances ≡ length s.instances

one_more : {A : Type 0} → (n : ℕ) (xs : List A) (y : A) → n ≡ length xs → n + 1 ≡ length (xs ++ y ∷ [])
one_more n xs y h = omega (arith, h, length-append xs (y ∷ []))

counted : (s : Space) (c : Counts) (item : Item) → Counted s c → Counted (and_item s item) (and_one c (sort_of item))
counted s c (FuncItem ty) h = record { functions = one_more c.functions s.functions ty h.functions; types = h.types; instances = h.instances }
counted s c (InstanceItem entries) h = record { functions = h.functions; types = h.types; instances = one_more c.instances s.instances entries h.instances }
counted s c (KindItem kind) h = record { functions = h.functions; types = one_more c.types s.types (entry_of kind) h.types; instances = h.instances }

at_last : (s : Space) (c : Counts) (item : Item) → Counted s c → item_at (and_item s item) (sort_of item) (count_of c (sort_of item)) ≡ Some item
at_last s c (FuncItem ty) h = ap (λ (n : ℕ). option_map FuncItem (slice_get (s.functions ++ ty ∷ []) n)) h.functions ∙ ap as_func (get_last s.functions ty)
at_last s c (InstanceItem entries) h = ap (λ (n : ℕ). option_map InstanceItem (slice_get (s.instances ++ entries ∷ []) n)) h.instances ∙ ap as_instance (get_last s.instances entries)
at_last s c (KindItem kind) h = ap (λ (n : ℕ). as_type (slice_get (s.types ++ entry_of kind ∷ []) n)) h.types ∙ ap as_type (get_last s.types (entry_of kind))

-- these items stand at the next indexes, each after those of its sort
abbrev pub Stand : Space → Counts → Entries → Type 0
Stand s c End = Unit {0}
Stand s c (More name item rest) = (item_at s (sort_of item) (count_of c (sort_of item)) ≡ Some item) × Stand s (and_one c (sort_of item)) rest

stand_kept : (s t : Space) (c : Counts) (es : Entries) → Keeps s t → Stand s c es → Stand t c es
stand_kept s t c End keeps h = tt
stand_kept s t c (More name item rest) keeps h =
    (keeps (sort_of item) (count_of c (sort_of item)) item h.0, stand_kept s t (and_one c (sort_of item)) rest keeps h.1)

pub items_stand : (s : Space) (c : Counts) (es : Entries) → Counted s c → Stand (with_items s es) c es
items_stand s c End h = tt
items_stand s c (More name item rest) h =
    (items_kept (and_item s item) rest (sort_of item) (count_of c (sort_of item)) item (at_last s c item h), items_stand (and_item s item) (and_one c (sort_of item)) rest (counted s c item h))

-- ---- exports

abbrev export_at : Name → Sort → ℕ → ComponentExport
export_at name sort index = record { name = name; sort = sort; index = index; desc = None }

-- the tests of an export: its index, and its name
four_hold : (a b c d : Bool) → a ≡ true → b ≡ true → c ≡ true → d ≡ true
    → first_failing (true ∷ true ∷ true ∷ (a && true) ∷ true ∷ true ∷ true ∷ true ∷ true ∷ true ∷ true ∷ true ∷ true ∷ true ∷ true ∷ true ∷ true ∷ true ∷ true ∷ true ∷ b ∷ c ∷ true ∷ true ∷ d ∷ []) ≡ None
four_hold true true true true h i j k = refl
four_hold true true true false h i j k = absurd (false≢true k)
four_hold true true false d h i j k = absurd (false≢true j)
four_hold true false c d h i j k = absurd (false≢true i)
four_hold false b c d h i j k = absurd (false≢true h)

export_valid : (s : Space) (name : Name) (sort : Sort) (index : ℕ) (item : Item) → item_at s sort index ≡ Some item → Fits s.exports name item → AllHold [] s (AnExport (export_at name sort index))
export_valid s name sort index item there fits =
    all_hold [] s (AnExport (export_at name sort index))
    (four_hold (item_stands (lengths_of s) sort index) (is_legal name) (is_new_in s.exports name) (if_there (name_fits s.exports name) (item_at s sort index))
    (stands s sort index item there) fits.legal fits.new (ap (if_there (name_fits s.exports name)) there ∙ fits.annotated)) tt tt

again_imports : (s : Space) (sort : Sort) (index : ℕ) → (and_again s sort index).imports ≡ s.imports
again_imports s sorts.Type index = with_type (slice_get s.types index)
  where
    with_type : (o : Option TypeEntry) → (and_some_type s o).imports ≡ s.imports
    with_type None = refl
    with_type (Some e) = refl
again_imports s sorts.Func index = with_item (item_at s sorts.Func index)
  where
    with_item : (o : Option Item) → (and_some_item s o).imports ≡ s.imports
    with_item None = refl
    with_item (Some x) = item_imports s x
again_imports s sorts.Instance index = with_item (item_at s sorts.Instance index)
  where
    with_item : (o : Option Item) → (and_some_item s o).imports ≡ s.imports
    with_item None = refl
    with_item (Some x) = item_imports s x

-- what an export of an item that is there adds
abbrev one_exported : Space → Name → Sort → ℕ → Space
one_exported s name sort index = after [] s (AnExport (export_at name sort index))

exported_kept : (s : Space) (name : Name) (sort : Sort) (index : ℕ) → Keeps s (one_exported s name sort index)
exported_kept s name sort index sort2 i y h =
    exports_kept (and_again s sort index) (and_some_entry s.exports name (item_at s sort index)) sort2 i y (again_kept s sort index sort2 i y h)

-- What exports make of a scope in which their items stand: they are valid, and add their entries to the exports alone.
pub record Exports (s : Space) (c : Counts) (es : Entries) : Type 0 where
  pub valid : AreValid [] s (map AnExport (exports_from c es))
  pub exports : (after_all [] s (map AnExport (exports_from c es))).exports ≡ joined s.exports es
  pub imports : (after_all [] s (map AnExport (exports_from c es))).imports ≡ s.imports

pub exports_add : (s : Space) (c : Counts) (es : Entries) → Stand s c es → AllFit s.exports es → Exports s c es
exports_add s c End h fits = record { valid = tt; exports = refl; imports = refl }
exports_add s c (More name item rest) h fits =
    let sort : Sort = sort_of item in
    let index : ℕ = count_of c sort in
    let next : Space = one_exported s name sort index in
    let shown : next.exports ≡ and_entry s.exports name item = ap (and_some_entry s.exports name) h.0 in
    let later = exports_add next (and_one c sort) rest (stand_kept s next (and_one c sort) rest (exported_kept s name sort index) h.1) (subst (λ (es : Entries). AllFit es rest) (sym shown) fits.1) in
    record {
      valid = (export_valid s name sort index item h.0 fits.0, later.valid);
      exports = later.exports ∙ ap (λ (es : Entries). joined es rest) shown;
      imports = later.imports ∙ again_imports s sort index;
    }
