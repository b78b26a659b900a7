-- The modules of a component that bytes spell have their counts.
use Rattle.std.proofs.Common.{◌≡◌, ◌∙◌, ℕ, zero, suc, ◌+◌, ◌==◌, ◌&&◌, Bool, true, false, eqb, ltb, List, [], ◌∷◌, length, Option, Some, None, refl, sym, ap, subst}
use Rattle.std.proofs.lemmas.Bool.{and_parts, eqb-true}
use Rattle.std.specs.List.{AllByRecursion}
use Rattle.wasm_format.specs.Format.{Format, choose, lacking, image, vec, sized}
use Rattle.wasm_format.specs.Sections.{SectionsSpell, built}
use Rattle.wasm_ast.specs.Modules.{Progress, sections as module_sections, all_sections as module_parts, core_module, is_count_of, has_counts}
use Rattle.wasm_ast.specs.declared.component.Span.{Span}
use Rattle.wasm_ast.specs.declared.module.Module.{Module}
use Rattle.wasm_ast.specs.ComponentItems.{instance, alias, component_export}
use Rattle.core_instance.specs.Matching.{HasCounts}
use Rattle.comp_grammar.specs.Trees.{Part, Tree, CoreModule, Nested, CoreInstances, Instances, Aliases, Types, Canons, Imports, Exports, Custom, End, More}
use Rattle.comp_grammar.specs.CoreInstances.{core_instance}
use Rattle.comp_grammar.specs.Items.{canon, component_import}
use Rattle.comp_grammar.specs.TypeSections.{type_items}
use Rattle.comp_grammar.specs.Components.{add, custom_in, core_module_in, core_instances_in, instances_in, aliases_in, types_in, canons_in, imports_in, exports_in, custom, placed_module, placed, nested_section, low_section, high_section, section, sections, parts_of, all_sections, component, SpellsComponent}
use Rattle.comp_grammar.proofs.BuiltLaws.{built_is, parts_built}
use Rattle.comp_joins.specs.Counts.{CountsHoldIn, CountsHold}

-- ---- a module, wherever it stands

counted : (o : Option ℕ) (n count : ℕ) → is_count_of o n ≡ true → o ≡ Some count → n ≡ count
counted None n count e is = absurd (cc)
counted (Some k) n count e is = let same : k ≡ count = cc in eqb-true n k e ∙ same

counts : (p : Progress) → has_counts p ≡ true → HasCounts p.found
counts p e =
    let h = and_parts (length p.found.code == length p.found.functions) (is_count_of p.found.data_count (length p.found.segments)) e in
    record { bodies = eqb-true (length p.found.code) (length p.found.functions) h.0; segments = λ count is. counted p.found.data_count (length p.found.segments) count h.1 is }

module_counts : (at : ℕ) (m : Module) (text : List ℕ) → core_module.Spells at m text → HasCounts m
unfolding core_module module_parts module_sections
module_counts at m text h = subst HasCounts (sym h.1) (counts h.0.1 h.2.3.3)

-- ---- sections

abbrev Counted : Format Part → Type 0
Counted F = (at : ℕ) (p : Part) (text : List ℕ) → F.Spells at p text → CountsHoldIn p

chosen : (b : Bool) (F G : Format Part) → Counted F → Counted G → Counted (choose b F G)
chosen true F G f g = f
chosen false F G f g = g

none_spelled : (tag : ℕ) → Counted (lacking tag)
none_spelled tag at p text s = absurd s

of_items : {A : Type 0} (make : A → Part) (from : Part → A) (F : Format A) → ((a : A) → CountsHoldIn (make a)) → Counted (image make from F)
of_items make from F f at p text s = subst CountsHoldIn (sym s.1) (f s.0)

of_module : Counted (image (λ p. CoreModule p.0 p.1) core_module_in (sized placed_module))
unfolding placed_module
of_module at p text s =
    let w = s.2 in
    let here : ℕ = at + length w.0 in
    let span : Span = record { from = here; to = here + length w.1 } in
    let holds : p ≡ CoreModule span w.3.0 = s.1 ∙ ap (λ (x : Span × Module). CoreModule x.0 x.1) w.3.1 in
    subst CountsHoldIn (sym holds) (module_counts here w.3.0 w.1 w.3.2)

low_counted : (b : ℕ) → Counted (low_section b)
unfolding low_section
low_counted b =
    chosen (eqb b 0) _ _ (of_items Custom custom_in (sized custom) (λ a. tt)) (
    chosen (eqb b 1) _ _ of_module (
    chosen (eqb b 2) _ _ (of_items CoreInstances core_instances_in (sized (vec core_instance)) (λ a. tt))
    (none_spelled b)))

high_counted : (b : ℕ) → Counted (high_section b)
unfolding high_section
high_counted b =
    chosen (eqb b 5) _ _ (of_items Instances instances_in (sized (vec instance)) (λ a. tt)) (
    chosen (eqb b 6) _ _ (of_items Aliases aliases_in (sized (vec alias)) (λ a. tt)) (
    chosen (eqb b 7) _ _ (of_items Types types_in (sized type_items) (λ a. tt)) (
    chosen (eqb b 8) _ _ (of_items Canons canons_in (sized (vec canon)) (λ a. tt)) (
    chosen (eqb b 10) _ _ (of_items Imports imports_in (sized (vec component_import)) (λ a. tt)) (
    chosen (eqb b 11) _ _ (of_items Exports exports_in (sized (vec component_export)) (λ a. tt))
    (none_spelled b))))))

abbrev AllCounted : Format Tree → Type 0
AllCounted F = (at : ℕ) (u : Tree) (text : List ℕ) → F.Spells at u text → CountsHold u

nested_counted : (F : Format Tree) → AllCounted F → Counted (nested_section F)
unfolding nested_section placed
nested_counted F f at p text s =
    let w = s.2 in
    let here : ℕ = at + length w.0 in
    let span : Span = record { from = here; to = here + length w.1 } in
    let holds : p ≡ Nested span w.3.0 = s.1 ∙ ap (λ (x : Span × Tree). Nested x.0 x.1) w.3.1 in
    subst CountsHoldIn (sym holds) (f here w.3.0 w.1 w.3.2)

section_counted : (F : Format Tree) → AllCounted F → Counted (section F)
unfolding section
section_counted F f at p [] s = absurd s
section_counted F f at p (b ∷ text) s =
    chosen (eqb b 4) (nested_section F) (choose (ltb b 5) (low_section b) (high_section b)) (nested_counted F f) (chosen (ltb b 5) (low_section b) (high_section b) (low_counted b) (high_counted b)) (at + 1) p text s

abbrev EachCounted : List Part → Type 0
EachCounted parts = AllByRecursion CountsHoldIn parts

parts_counted : (F : Format Tree) → AllCounted F → (parts : List Part) (t : Tree) (at : ℕ) (text : List ℕ) → SectionsSpell (sections F) t at parts text → EachCounted parts
unfolding sections
parts_counted F f [] t at text w = tt
parts_counted F f (p ∷ parts) t at text w = (section_counted F f at p w.0 w.2, parts_counted F f parts (add t p) (at + length w.0) w.1 w.3)

of_parts : (t : Tree) → EachCounted (parts_of t) → CountsHold t
of_parts End h = tt
of_parts (More part rest) h = (h.0, of_parts rest h.1)

same_sections : (F : Format Tree) (t u : Tree) (parts : List Part) → t ≡ u → built (sections F) End parts ≡ u → parts_of t ≡ parts
same_sections F t u parts e h = ap parts_of (e ∙ sym h ∙ built_is F End parts) ∙ parts_built parts

all_counted : (depth : ℕ) → AllCounted (component depth)
unfolding component all_sections
all_counted zero at t text s = absurd s
all_counted (suc depth) at t text s =
    let pair = s.2 in
    let inner : Format Tree = component depth in
    let each = parts_counted inner (all_counted depth) pair.3.0 End (at + length pair.0) pair.1 pair.3.1 in
    let same : parts_of t ≡ pair.3.0 = same_sections inner t s.0.1 pair.3.0 s.1 pair.3.2 in
    of_parts t (subst EachCounted (sym same) each)

pub spelled_count : (c : Tree) (bytes : List ℕ) → SpellsComponent c bytes → CountsHold c
spelled_count c bytes s = all_counted s.0 0 c bytes s.1
