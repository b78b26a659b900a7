-- The output of a valid component that imports nothing is valid, imports nothing, and exports what the component exports.
use Rattle.std.proofs.Common.{◌≡◌, ◌∙◌, ap, sym, refl, subst, ℕ, List, [], ◌∷◌, ◌++◌, length, true, false, Some, None, map}
use Rattle.std.specs.Prelude.{slice_get}
use Rattle.wasm_ast.specs.declared.component.Alias.{Alias}
use Rattle.wasm_ast.specs.declared.component.Alias.TheVariants as aliases
use Rattle.wasm_ast.specs.declared.component.Sort.{Sort}
use Rattle.wasm_ast.specs.declared.component.ComponentExport.{ComponentExport}
use Rattle.wasm_ast.specs.declared.component.Instance.TheVariants.{Instantiate}
use Rattle.comp_types.specs.Items.{Entries, End, More}
use Rattle.comp_types.specs.Resources.{entries_have_resource}
use Rattle.comp_types.specs.Substitution.{partner_in, entries_with}
use Rattle.comp_types.specs.Subtyping.{MeetsImports}
use Rattle.comp_types.proofs.ItemsWith.{entries-stay}
use Rattle.comp_grammar.specs.Trees.{Tree, Instances, Aliases, Exports as ExportSection, End as NoSection, More as Section}
use Rattle.comp_types.specs.Spaces.{Space}
use Rattle.comp_types.specs.Definitions.{AnInstance, AnAlias, AnExport}
use Rattle.comp_types.specs.GivenResources.{is_among, named_in, numbered, given_by}
use Rattle.comp_types.specs.Added.{after, after_all, and_nested, nested_of, after_tree, root, type_of}
use Rattle.comp_types.specs.Validity.{AllHold, AreValid, IsValidTree, IsValidComponent}
use Rattle.comp_types.proofs.FaultLaws.{all_hold}
use Rattle.virt_output.specs.declared.counts.Counts.{Counts}
use Rattle.virt_output.specs.Counts.{sort_of, count_of, and_one}
use Rattle.virt_output.specs.Output.{one_instance, aliases_of, exports_from, behind_instance, exports_of, exporting, output_tree}
use Rattle.output_same.proofs.Further.{tree_more}
use Rattle.output_same.proofs.Exported.{AllFit, joined, joined_all, exports_fit}
use Rattle.output_same.proofs.Imported.{nothing_imported}
use Rattle.output_same.proofs.Numbers.{apart, among_own}
use Rattle.output_same.proofs.Renamed.{sort_with, all_fit_with}
use Rattle.output_same.proofs.Added.{AllIn, all_in, with_items, aliases_add, aliases_valid, items_exports, items_imports, Counted, items_stand, Exports, exports_add}

-- ---- the sections are the same, whatever the numbers of resources

same_aliases : (f : ℕ → ℕ) (es : Entries) → aliases_of (entries_with f es) ≡ aliases_of es
same_aliases f End = refl
same_aliases f (More name item rest) = λ i. aliases.Export (sort_with f item i) 0 name ∷ same_aliases f rest i

same_exports : (f : ℕ → ℕ) (c : Counts) (es : Entries) → exports_from c (entries_with f es) ≡ exports_from c es
same_exports f c End = refl
same_exports f c (More name item rest) =
    ap (λ (sort : Sort). (record { name = name; sort = sort; index = count_of c sort; desc = None }) ∷ exports_from (and_one c sort) (entries_with f rest)) (sort_with f item)
    ∙ ap (λ (es : List ComponentExport). (record { name = name; sort = sort_of item; index = count_of c (sort_of item); desc = None }) ∷ es) (same_exports f (and_one c (sort_of item)) rest)

-- ---- aliases and exports after the instance

-- What sections make of a scope: they are valid, and only add exports.
record Exporting (s : Space) (tree : Tree) (out : Entries) : Type 0 where
  valid : IsValidTree [] s tree
  exports : (after_tree [] s tree).exports ≡ out
  imports : (after_tree [] s tree).imports ≡ s.imports

-- the scope with the instance alone, of which these are the exports
record HasInstance (s : Space) (all : Entries) : Type 0 where
  functions : s.functions ≡ []
  types : s.types ≡ []
  instances : s.instances ≡ all ∷ []
  exports : s.exports ≡ End

-- the two sections over these lists
two_sections : (s : Space) (all : Entries) (ls : List Alias) (es : List ComponentExport) → HasInstance s all → AllFit End all → ls ≡ aliases_of all → es ≡ exports_of all
    → Exporting s (Section (Aliases ls) (Section (ExportSection es) NoSection)) all
two_sections s all ls es h fit a e =
    let there : slice_get s.instances 0 ≡ Some all = ap (λ (xs : List Entries). slice_get xs 0) h.instances in
    let inside : AllIn all all = all_in all fit in
    let behind : Space = with_items s all in
    let counts : Counted s behind_instance = record { functions = sym (ap length h.functions); types = sym (ap length h.types); instances = sym (ap length h.instances) } in
    let none : behind.exports ≡ End = items_exports s all ∙ h.exports in
    let out : Exports behind behind_instance all = exports_add behind behind_instance all (items_stand s behind_instance all counts) (subst (λ (x : Entries). AllFit x all) (sym none) fit) in
    let added : after_all [] s (map AnAlias ls) ≡ behind = ap (λ (xs : List Alias). after_all [] s (map AnAlias xs)) a ∙ aliases_add s all all there inside in
    let last : after_all [] (after_all [] s (map AnAlias ls)) (map AnExport es) ≡ after_all [] behind (map AnExport (exports_of all)) =
    ap (λ (x : Space). after_all [] x (map AnExport es)) added ∙ ap (λ (xs : List ComponentExport). after_all [] behind (map AnExport xs)) e in
    record {
      valid = (
        subst (λ (xs : List Alias). AreValid [] s (map AnAlias xs)) (sym a) (aliases_valid s all all there inside),
        (
          subst (λ (x : Space). AreValid [] x (map AnExport es)) (sym added) (subst (λ (xs : List ComponentExport). AreValid [] behind (map AnExport xs)) (sym e) out.valid),
          tt,
        ),
      );
      exports = ap (λ (x : Space). x.exports) last ∙ out.exports ∙ ap (λ (x : Entries). joined x all) none ∙ joined_all all;
      imports = ap (λ (x : Space). x.imports) last ∙ out.imports ∙ items_imports s all;
    }

-- the sections for exports whose resources have other numbers in the instance
behind_the_instance : (s : Space) (f : ℕ → ℕ) (exports : Entries) → HasInstance s (entries_with f exports) → AllFit End exports → Exporting s (exporting exports) (entries_with f exports)
behind_the_instance s f End h fit = record { valid = tt; exports = h.exports; imports = refl }
behind_the_instance s f (More name item rest) h fit =
    two_sections s (entries_with f (More name item rest)) (aliases_of (More name item rest)) (exports_of (More name item rest)) h (all_fit_with f End (More name item rest) fit)
    (sym (same_aliases f (More name item rest))) (sym (same_exports f behind_instance (More name item rest)))

-- ---- the instance

-- the numbers that the resources of the application have in its instance
abbrev pub numbers_in : Space → ℕ → ℕ
numbers_in inner = partner_in (given_by End inner.imports ++ numbered (nested_of inner).own inner.next)

instance_valid : (inner : Space) → inner.imports ≡ End → AllHold [] (and_nested root inner) (AnInstance (Instantiate 0 []))
instance_valid inner none =
    all_hold [] (and_nested root inner) (AnInstance (Instantiate 0 [])) refl tt (refl, subst (λ (imports : Entries). MeetsImports End imports) (sym none) ((λ r. r), tt))

-- the sections after the application
behind_application : (inner : Space) → inner.imports ≡ End → AllFit End inner.exports
    → Exporting (and_nested root inner) (Section (Instances one_instance) (exporting inner.exports)) (entries_with (numbers_in inner) inner.exports)
behind_application inner none fit =
    let s : Space = after [] (and_nested root inner) (AnInstance (Instantiate 0 [])) in
    let rest = behind_the_instance s (numbers_in inner) inner.exports (record { functions = refl; types = refl; instances = refl; exports = refl }) fit in
    record { valid = ((instance_valid inner none, tt), rest.valid); exports = rest.exports; imports = rest.imports }

-- ---- the whole output

-- the scope of an application
abbrev pub scope_of : Tree → Space
scope_of app = after_tree [] root app

-- What an output is.
pub record Stands (app : Tree) (f : ℕ → ℕ) : Type 0 where
  pub valid : IsValidComponent (output_tree app (type_of app).exports)
  pub imports : (type_of (output_tree app (type_of app).exports)).imports ≡ End
  pub exports : (type_of (output_tree app (type_of app).exports)).exports ≡ entries_with f (type_of app).exports

pub output_stands : (app : Tree) → IsValidComponent app → (type_of app).imports ≡ End → Stands app (numbers_in (scope_of app))
output_stands app valid none =
    let outside = tree_more [] (root ∷ []) root app valid in
    let inner : Space = after_tree (root ∷ []) root app in
    let same : inner ≡ scope_of app = outside.0 in
    let rest : Exporting (and_nested root inner) (Section (Instances one_instance) (exporting (scope_of app).exports)) (entries_with (numbers_in (scope_of app)) (scope_of app).exports) =
    subst (λ (x : Space). Exporting (and_nested root x) (Section (Instances one_instance) (exporting (scope_of app).exports)) (entries_with (numbers_in (scope_of app)) (scope_of app).exports)) (sym same)
    (behind_application (scope_of app) none (exports_fit app valid)) in
    record { valid = (outside.1, rest.valid); imports = rest.imports; exports = rest.exports }

-- exports that speak of no resource are the same
pub same_types : (app : Tree) → IsValidComponent app → (type_of app).imports ≡ End → entries_have_resource (type_of app).exports ≡ false → (type_of (output_tree app (type_of app).exports)).exports ≡ (type_of app).exports
same_types app valid none free = (output_stands app valid none).exports ∙ entries-stay (numbers_in (scope_of app)) (type_of app).exports free

-- no two resources in the exports get one number
pub numbers_apart : (app : Tree) → (type_of app).imports ≡ End → (x y : ℕ) → is_among (named_in (type_of app).exports) x ≡ true → is_among (named_in (type_of app).exports) y ≡ true
    → numbers_in (scope_of app) x ≡ numbers_in (scope_of app) y → x ≡ y
numbers_apart app none x y h k e =
    let inner : Space = scope_of app in
    let own : List ℕ = (nested_of inner).own in
    let imported : inner.imported ≡ [] = nothing_imported app none in
    let named : List ℕ = named_in inner.exports in
    let alone : (r : ℕ) → numbers_in inner r ≡ partner_in (numbered own inner.next) r = λ r. ap (λ (imports : Entries). partner_in (given_by End imports ++ numbered own inner.next) r) none in
    apart own inner.next x y (among_own inner.imported named x imported h) (among_own inner.imported named y imported k) (sym (alone x) ∙ e ∙ alone y)
