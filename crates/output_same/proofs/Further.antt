-- Scopes further out than all that a valid component names make no difference to it.
use Rattle.std.proofs.Common.{◌≡◌, ◌∙◌, ap, sym, refl, subst, ℕ, zero, suc, ◌<◌, List, [], ◌∷◌, ◌++◌, length, Bool, true, Option, map, arith}
use Rattle.std.specs.Prelude.{slice_get, nat_lt, not, ◌&&◌, ◌||◌}
use Rattle.std.specs.List.{list_any}
use Rattle.std.proofs.lemmas.Bool.{ltb-true, lt-ltb, and_parts, and_from}
use Rattle.std.proofs.lemmas.List.{take-append-le, length-append}
use Rattle.wasm_ast.specs.declared.component.OuterSort.{OuterSort}
use Rattle.wasm_ast.specs.declared.component.OuterSort.TheVariants as sorts
use Rattle.wasm_ast.specs.declared.component.Alias.TheVariants as aliases
use Rattle.wasm_ast.specs.declared.component.TypeAlias.TheVariants as type_aliases
use Rattle.comp_grammar.specs.Trees.{Part, Tree, CoreModule, Nested, CoreInstances, Instances, Aliases, Types, Canons, Imports, Exports, Custom, End, More}
use Rattle.comp_types.specs.declared.lengths.Lengths.{Lengths}
use Rattle.comp_types.specs.Declarations.{Declaration, Declarations, ATypeDef, AnInstanceType, ATypeAlias, ATypeExport, Done, Then}
use Rattle.comp_types.specs.Spaces.{Space}
use Rattle.comp_types.specs.Definitions.{Definition, ACoreInstance, AnInstance, AnAlias, AType, ACanon, AnImport, AnExport, definitions}
use Rattle.comp_types.specs.Added.{and_outer, opened, instance_type, and_depth, and_instance_type, after_declaration, after_declarations, after, after_all, entered, and_nested, after_part, after_tree}
use Rattle.comp_types.specs.Rules.{lengths_of, if_there, outer_stands, indexes_stand, leaves_component, names_none, type_stays, outer_stays, stays_inside, is_within_limits}
use Rattle.comp_types.specs.Validity.{AllHold, IsValidDeclaration, AreValidDeclarations, IsValidDefinition, AreValid, IsValidPart, IsValidTree}

-- ---- what stands in a list stands in a longer one

get_more : {A : Type 0} → (xs ys : List A) (n : ℕ) → n < length xs → slice_get (xs ++ ys) n ≡ slice_get xs n
get_more [] ys n h = absurd (omega (arith, h))
get_more (x ∷ xs) ys zero h = refl
get_more (x ∷ xs) ys (suc n) h = get_more xs ys n (omega (arith, h))

get_mapped : {A B : Type 0} → (f : A → B) (xs ys : List A) (n : ℕ) → n < length xs → slice_get (map f (xs ++ ys)) n ≡ slice_get (map f xs) n
get_mapped f [] ys n h = absurd (omega (arith, h))
get_mapped f (x ∷ xs) ys zero h = refl
get_mapped f (x ∷ xs) ys (suc n) h = get_mapped f xs ys n (omega (arith, h))

longer : {A : Type 0} → (xs ys : List A) (n : ℕ) → n < length xs → nat_lt n (length (xs ++ ys)) ≡ true
longer xs ys n h = lt-ltb n (length (xs ++ ys)) (omega (arith, h, length-append xs ys))

-- ---- outer aliases

within : (scopes : List Space) (count : ℕ) (rest : Bool) → (nat_lt count (length scopes) && rest) ≡ true → count < length scopes
within scopes count rest h = ltb-true count (length scopes) (and_parts (nat_lt count (length scopes)) rest h).0

-- the scope that is named is there
named_scope : (scopes : List Space) (sort : OuterSort) (count i : ℕ) → outer_stays scopes sort count i ≡ true → count < length scopes
named_scope scopes sorts.Type count i h = within scopes count (not (leaves_component scopes count) || if_there (λ (scope : Space). if_there names_none (slice_get scope.types i)) (slice_get scopes count)) h
named_scope scopes sorts.CoreModule count i h = ltb-true count (length scopes) h
named_scope scopes sorts.Component count i h = ltb-true count (length scopes) h

type_stays_more : (scopes more : List Space) (count i : ℕ) → type_stays scopes count i ≡ true → type_stays (scopes ++ more) count i ≡ true
type_stays_more scopes more count i h =
    let p = and_parts (nat_lt count (length scopes)) (not (leaves_component scopes count) || if_there (λ (scope : Space). if_there names_none (slice_get scope.types i)) (slice_get scopes count)) h in
    let low : count < length scopes = ltb-true count (length scopes) p.0 in
    let border : leaves_component (scopes ++ more) count ≡ leaves_component scopes count = ap (λ (xs : List Space). list_any (λ (scope : Space). scope.is_component) xs) (take-append-le count scopes more (omega (arith, low))) in
    let same : (not (leaves_component (scopes ++ more) count) || if_there (λ (scope : Space). if_there names_none (slice_get scope.types i)) (slice_get (scopes ++ more) count))
    ≡ (not (leaves_component scopes count) || if_there (λ (scope : Space). if_there names_none (slice_get scope.types i)) (slice_get scopes count)) =
    ap (λ (b : Bool). not b || if_there (λ (scope : Space). if_there names_none (slice_get scope.types i)) (slice_get (scopes ++ more) count)) border
    ∙ ap (λ (o : Option Space). not (leaves_component scopes count) || if_there (λ (scope : Space). if_there names_none (slice_get scope.types i)) o) (get_more scopes more count low) in
    and_from (nat_lt count (length (scopes ++ more))) (not (leaves_component (scopes ++ more) count) || if_there (λ (scope : Space). if_there names_none (slice_get scope.types i)) (slice_get (scopes ++ more) count))
    (longer scopes more count low) (same ∙ p.1)

outer_stays_more : (scopes more : List Space) (sort : OuterSort) (count i : ℕ) → outer_stays scopes sort count i ≡ true → outer_stays (scopes ++ more) sort count i ≡ true
outer_stays_more scopes more sorts.Type count i h = type_stays_more scopes more count i h
outer_stays_more scopes more sorts.CoreModule count i h = longer scopes more count (ltb-true count (length scopes) h)
outer_stays_more scopes more sorts.Component count i h = longer scopes more count (ltb-true count (length scopes) h)

-- ---- rules 8 and 3 of one definition

stays_more : (around more : List Space) (s : Space) (d : Definition) → stays_inside around s d ≡ true → stays_inside (around ++ more) s d ≡ true
stays_more around more s (ACoreInstance i) h = h
stays_more around more s (AnInstance i) h = h
stays_more around more s (AnAlias (aliases.Export sort i name)) h = h
stays_more around more s (AnAlias (aliases.CoreExport sort i name)) h = h
stays_more around more s (AnAlias (aliases.Outer sort count i)) h = outer_stays_more (s ∷ around) more sort count i h
stays_more around more s (AType (ATypeDef d)) h = h
stays_more around more s (AType (AnInstanceType ds)) h = h
stays_more around more s (AType (ATypeAlias (type_aliases.Export i name))) h = h
stays_more around more s (AType (ATypeAlias (type_aliases.Outer count i))) h = type_stays_more (s ∷ around) more count i h
stays_more around more s (AType (ATypeExport name desc)) h = h
stays_more around more s (ACanon c) h = h
stays_more around more s (AnImport i) h = h
stays_more around more s (AnExport e) h = h

stand_more : (around more : List Space) (s : Space) (d : Definition) → stays_inside around s d ≡ true → indexes_stand (around ++ more) s d ≡ indexes_stand around s d
stand_more around more s (ACoreInstance i) h = refl
stand_more around more s (AnInstance i) h = refl
stand_more around more s (AnAlias (aliases.Export sort i name)) h = refl
stand_more around more s (AnAlias (aliases.CoreExport sort i name)) h = refl
stand_more around more s (AnAlias (aliases.Outer sort count i)) h =
    ap (λ (o : Option Lengths). if_there (outer_stands sort i) o) (get_mapped lengths_of (s ∷ around) more count (named_scope (s ∷ around) sort count i h))
stand_more around more s (AType (ATypeDef d)) h = refl
stand_more around more s (AType (AnInstanceType ds)) h = refl
stand_more around more s (AType (ATypeAlias (type_aliases.Export i name))) h = refl
stand_more around more s (AType (ATypeAlias (type_aliases.Outer count i))) h =
    ap (λ (o : Option Lengths). if_there (outer_stands sorts.Type i) o) (get_mapped lengths_of (s ∷ around) more count (named_scope (s ∷ around) sorts.Type count i h))
stand_more around more s (AType (ATypeExport name desc)) h = refl
stand_more around more s (ACanon c) h = refl
stand_more around more s (AnImport i) h = refl
stand_more around more s (AnExport e) h = refl

-- no other rule speaks of the scopes around
all_hold_more : (around more : List Space) (s : Space) (d : Definition) → AllHold around s d → AllHold (around ++ more) s d
all_hold_more around more s d h = λ rule.
    let stays : stays_inside around s d ≡ true = (h 8).borders refl in
    let k = h rule in record {
      indexes = λ e. stand_more around more s d stays ∙ k.indexes e;
      core_arguments = k.core_arguments;
      core_types = k.core_types;
      inline_names = k.inline_names;
      aliases = k.aliases;
      borders = λ e. stays_more around more s d stays;
      labels = k.labels;
      sizes = k.sizes;
      kinds = k.kinds;
      resources = k.resources;
      functions = k.functions;
      destructors = k.destructors;
      declared_names = k.declared_names;
      flat_types = k.flat_types;
      options = k.options;
      own_resources = k.own_resources;
      import_names = k.import_names;
      legal_names = k.legal_names;
      export_names = k.export_names;
      stated_types = k.stated_types;
      arguments = k.arguments;
      annotations = k.annotations;
    }

-- ---- what a definition adds

outer_more : (around more : List Space) (s : Space) (sort : OuterSort) (count i : ℕ) → outer_stays (s ∷ around) sort count i ≡ true → and_outer s sort (slice_get (s ∷ (around ++ more)) count) i ≡ and_outer s sort (slice_get (s ∷ around) count) i
outer_more around more s sort count i h = ap (λ (o : Option Space). and_outer s sort o i) (get_more (s ∷ around) more count (named_scope (s ∷ around) sort count i h))

-- Where the definition is valid, it adds the same, and stays valid.
abbrev Adds : List Space → List Space → Space → Definition → Type 0
Adds around more s d = (after (around ++ more) s d ≡ after around s d) × IsValidDefinition (around ++ more) s d

mutual
  declared_more : (around more : List Space) (s : Space) (d : Declaration) → IsValidDeclaration around s d → Adds around more s (AType d)
  declared_more around more s (ATypeDef d) h = (refl, all_hold_more around more s (AType (ATypeDef d)) h)
  declared_more around more s (ATypeAlias (type_aliases.Export i name)) h = (refl, all_hold_more around more s (AType (ATypeAlias (type_aliases.Export i name))) h)
  declared_more around more s (ATypeAlias (type_aliases.Outer count i)) h =
      (outer_more around more s sorts.Type count i ((h 8).borders refl), all_hold_more around more s (AType (ATypeAlias (type_aliases.Outer count i))) h)
  declared_more around more s (ATypeExport name desc) h = (refl, all_hold_more around more s (AType (ATypeExport name desc)) h)
  declared_more around more s (AnInstanceType ds) h =
      let inner = declarations_more (s ∷ around) more (opened s) ds h.0 in (
        ap (λ (x : Space). and_depth (and_instance_type s x) (instance_type x).depth) inner.0,
        (inner.1, subst (λ (x : Space). is_within_limits (instance_type x) ≡ true) (sym inner.0) h.1),
      )

  declarations_more : (around more : List Space) (s : Space) (ds : Declarations) → AreValidDeclarations around s ds → (after_declarations (around ++ more) s ds ≡ after_declarations around s ds) × AreValidDeclarations (around ++ more) s ds
  declarations_more around more s Done h = (refl, tt)
  declarations_more around more s (Then d ds) h =
      let first = declared_more around more s d h.0 in
      let rest = declarations_more around more (after_declaration around s d) ds h.1 in (
        ap (λ (x : Space). after_declarations (around ++ more) x ds) first.0 ∙ rest.0,
        (first.1, subst (λ (x : Space). AreValidDeclarations (around ++ more) x ds) (sym first.0) rest.1),
      )

defined_more : (around more : List Space) (s : Space) (d : Definition) → IsValidDefinition around s d → Adds around more s d
defined_more around more s (ACoreInstance i) h = (refl, all_hold_more around more s (ACoreInstance i) h)
defined_more around more s (AnInstance i) h = (refl, all_hold_more around more s (AnInstance i) h)
defined_more around more s (AnAlias (aliases.Export sort i name)) h = (refl, all_hold_more around more s (AnAlias (aliases.Export sort i name)) h)
defined_more around more s (AnAlias (aliases.CoreExport sort i name)) h = (refl, all_hold_more around more s (AnAlias (aliases.CoreExport sort i name)) h)
defined_more around more s (AnAlias (aliases.Outer sort count i)) h =
    (outer_more around more s sort count i ((h 8).borders refl), all_hold_more around more s (AnAlias (aliases.Outer sort count i)) h)
defined_more around more s (AType d) h = declared_more around more s d h
defined_more around more s (ACanon c) h = (refl, all_hold_more around more s (ACanon c) h)
defined_more around more s (AnImport i) h = (refl, all_hold_more around more s (AnImport i) h)
defined_more around more s (AnExport e) h = (refl, all_hold_more around more s (AnExport e) h)

all_more : (around more : List Space) (s : Space) (ds : List Definition) → AreValid around s ds → (after_all (around ++ more) s ds ≡ after_all around s ds) × AreValid (around ++ more) s ds
all_more around more s [] h = (refl, tt)
all_more around more s (d ∷ ds) h =
    let first = defined_more around more s d h.0 in
    let rest = all_more around more (after around s d) ds h.1 in (
      ap (λ (x : Space). after_all (around ++ more) x ds) first.0 ∙ rest.0,
      (first.1, subst (λ (x : Space). AreValid (around ++ more) x ds) (sym first.0) rest.1),
    )

-- ---- parts and components

mutual
  part_more : (around more : List Space) (s : Space) (part : Part) → IsValidPart around s part → (after_part (around ++ more) s part ≡ after_part around s part) × IsValidPart (around ++ more) s part
  part_more around more s (CoreModule span m) h = (refl, h)
  part_more around more s (Nested span tree) h =
      let inner = tree_more (s ∷ around) more (entered s) tree h in
      (ap (λ (x : Space). and_nested s x) inner.0, inner.1)
  part_more around more s (CoreInstances items) h = all_more around more s (definitions (CoreInstances items)) h
  part_more around more s (Instances items) h = all_more around more s (definitions (Instances items)) h
  part_more around more s (Aliases items) h = all_more around more s (definitions (Aliases items)) h
  part_more around more s (Types items) h = all_more around more s (definitions (Types items)) h
  part_more around more s (Canons items) h = all_more around more s (definitions (Canons items)) h
  part_more around more s (Imports items) h = all_more around more s (definitions (Imports items)) h
  part_more around more s (Exports items) h = all_more around more s (definitions (Exports items)) h
  part_more around more s (Custom span) h = (refl, h)

  -- What a valid component makes of a scope is the same, and it is valid, with more scopes around.
  pub tree_more : (around more : List Space) (s : Space) (tree : Tree) → IsValidTree around s tree → (after_tree (around ++ more) s tree ≡ after_tree around s tree) × IsValidTree (around ++ more) s tree
  tree_more around more s End h = (refl, tt)
  tree_more around more s (More part rest) h =
      let first = part_more around more s part h.0 in
      let later = tree_more around more (after_part around s part) rest h.1 in (
        ap (λ (x : Space). after_tree (around ++ more) x rest) first.0 ∙ later.0,
        (first.1, subst (λ (x : Space). IsValidTree (around ++ more) x rest) (sym first.0) later.1),
      )
