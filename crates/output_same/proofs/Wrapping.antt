-- An output wraps the application.
use Rattle.std.proofs.Common.{◌≡◌, ◌⊎◌, inl, inr, ℕ, ◌+◌, cond, List, [], ◌∷◌, map, Some, None, Bool, true, false, refl, sym, ◌∙◌, ap}
use Rattle.std.proofs.Math.Path.{ap₂}
use Rattle.wasm_ast.specs.declared.component.Alias.{Alias}
use Rattle.wasm_ast.specs.declared.component.Sort.TheVariants as sorts
use Rattle.wasm_ast.specs.declared.component.ComponentExport.{ComponentExport}
use Rattle.wit_types.specs.Plain.{Name}
use Rattle.comp_types.specs.Items.{Item, Entries, FuncItem, InstanceItem, KindItem, End, More, same_name}
use Rattle.comp_types.proofs.ValueLaws.{name-sound}
use Rattle.comp_grammar.specs.Trees.{Aliases, Exports as ExportSection, End as NoSection, More as Section}
use Rattle.comp_grammar.specs.Components.{no_span}
use Rattle.comp_types.specs.Added.{type_of}
use Rattle.comp_link.specs.Linking.{Given, Givens, GivenFunc, GivenInstance, GivenResource, GivenType, Nothing, Giving, find, linked}
use Rattle.comp_inside.specs.Wrapping.{Handed, alias_of, export_at, exports_from, HandOn, is_of_sort, AreThere, IsNamed, AreExports}
use Rattle.comp_link.specs.Exports.{IsOf, AreExportsOf}
use Rattle.comp_link.proofs.Shapes.{Has, found, has_exports}
use Rattle.comp_link.proofs.Made.{exports_linked}
use Rattle.virt_output.specs.Counts.{sort_of}
use Rattle.virt_output.specs.Output.{aliases_of, exports_from as output_exports, exporting}
use Rattle.output_same.proofs.Exported.{exports_fit}
use Rattle.output_same.proofs.Added.{AllIn, all_in}
use Rattle.output_same.specs.Laws.{OutputsWrap}

-- what is handed on: each export
abbrev handed : Entries → List Handed
handed End = []
handed (More name item rest) = record { name = name; sort = sort_of item } ∷ handed rest

-- ---- the sections

same_aliases : (es : Entries) → aliases_of es ≡ map alias_of (handed es)
same_aliases End = refl
same_aliases (More name item rest) = ap (λ (ls : List Alias). alias_of (record { name = name; sort = sort_of item }) ∷ ls) (same_aliases rest)

same_exports : (f i t : ℕ) (es : Entries) → output_exports (record { functions = f; types = t; instances = i }) es ≡ exports_from f i t (handed es)
same_exports f i t End = refl
same_exports f i t (More name (FuncItem ty) rest) = ap (λ (xs : List ComponentExport). export_at (record { name = name; sort = sorts.Func }) f ∷ xs) (same_exports (f + 1) i t rest)
same_exports f i t (More name (InstanceItem entries) rest) = ap (λ (xs : List ComponentExport). export_at (record { name = name; sort = sorts.Instance }) i ∷ xs) (same_exports f (i + 1) t rest)
same_exports f i t (More name (KindItem kind) rest) = ap (λ (xs : List ComponentExport). export_at (record { name = name; sort = sorts.Type }) t ∷ xs) (same_exports f i (t + 1) rest)

hands_on : (es : Entries) → HandOn (handed es) (exporting es)
hands_on End = inr (refl, refl)
hands_on (More name item rest) =
    let es : Entries = More name item rest in
    inl (ap₂ (λ (ls : List Alias) (xs : List ComponentExport). Section (Aliases ls) (Section (ExportSection xs) NoSection)) (same_aliases es) (same_exports 0 1 0 es))

-- ---- they are all exports

of_its_sort : (item : Item) (g : Given) → IsOf g item → is_of_sort (sort_of item) g ≡ true
of_its_sort (FuncItem ty) (GivenFunc t) h = refl
of_its_sort (InstanceItem entries) (GivenInstance items) h = refl
of_its_sort (KindItem kind) (GivenResource r) h = refl
of_its_sort (KindItem kind) GivenType h = refl
of_its_sort (FuncItem ty) (GivenInstance items) h = absurd h
of_its_sort (FuncItem ty) (GivenResource r) h = absurd h
of_its_sort (FuncItem ty) GivenType h = absurd h
of_its_sort (InstanceItem entries) (GivenFunc t) h = absurd h
of_its_sort (InstanceItem entries) (GivenResource r) h = absurd h
of_its_sort (InstanceItem entries) GivenType h = absurd h
of_its_sort (KindItem kind) (GivenFunc t) h = absurd h
of_its_sort (KindItem kind) (GivenInstance items) h = absurd h

all_there : (exports : Givens) (all es : Entries) → Has exports all → AllIn all es → AreThere exports (handed es)
all_there exports all End has inside = tt
all_there exports all (More name item rest) has inside =
    let f = found exports name item (has name item inside.0) in
    ((f.given, f.there, of_its_sort item f.given f.fits), all_there exports all rest has inside.1)

all_named : (exports : Givens) (es : Entries) → AreExportsOf es exports → (name : Name) (g : Given) → find name exports ≡ Some g → IsNamed name (handed es)
all_named Nothing End h name g is = absurd (let q : None ≡ Some g = is in cc)
all_named (Giving n x rest) End h name g is = absurd h
all_named Nothing (More m i es) h name g is = absurd h
all_named (Giving n x rest) (More m i es) h name g is = at_test (same_name n name) refl is (all_named rest es h.2 name g)
  where
    at_test : (b : Bool) → same_name n name ≡ b → cond b (Some x) (find name rest) ≡ Some g → (find name rest ≡ Some g → IsNamed name (handed es)) → (m ≡ name) ⊎ IsNamed name (handed es)
    at_test true e is' later = inl (sym h.0 ∙ name-sound n name e)
    at_test false e is' later = inr (later is')

pub output_wraps : OutputsWrap
output_wraps app alone defines =
    let es : Entries = (type_of app).exports in
    let exports : Givens = (linked app).exports in
    let each : AreExportsOf es exports = exports_linked app alone.valid defines in
    let are : AreExports exports (handed es) = record { each = all_there exports es es (has_exports exports es each) (all_in es (exports_fit app alone.valid)); all = all_named exports es each } in
    (no_span, handed es, exporting es, refl, hands_on es, are)
