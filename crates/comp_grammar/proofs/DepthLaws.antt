-- A spelling in which at most that many components stand in one another is a spelling of a component that is at most so deep.
use Rattle.std.proofs.Common.{◌≡◌, ℕ, zero, suc, ◌+◌, ◌≤◌, Bool, true, false, eqb, ltb, List, [], ◌∷◌, length, refl, sym, ap, subst, ◌∙◌, arith}
use Rattle.std.specs.Prelude.{max}
use Rattle.std.specs.List.{AllByRecursion}
use Rattle.std.proofs.Math.Nat.{le-max_left, le-max_right, max-le}
use Rattle.virt_base.specs.Place.{Place}
use Rattle.wasm_format.proofs.Laws.{ok_is}
use Rattle.wasm_format.specs.Format.{Format, choose, lacking, image, vec, sized}
use Rattle.wasm_format.specs.Sections.{SectionsSpell, built}
use Rattle.wasm_ast.specs.declared.component.Span.{Span}
use Rattle.wasm_ast.specs.ComponentItems.{instance, alias, component_export}
use Rattle.comp_grammar.specs.Trees.{Part, Tree, CoreModule, Nested, CoreInstances, Instances, Aliases, Types, Canons, Imports, Exports, Custom, End, More}
use Rattle.comp_grammar.specs.CoreInstances.{core_instance}
use Rattle.comp_grammar.specs.Items.{canon, component_import}
use Rattle.comp_grammar.specs.TypeSections.{type_items}
use Rattle.comp_grammar.specs.Components.{add, custom_in, core_module_in, core_instances_in, instances_in, aliases_in, types_in, canons_in, imports_in, exports_in, custom, placed_module, placed, nested_section, low_section, high_section, section, sections, parts_of, all_sections, component, SpellsAt, SpellsComponent}
use Rattle.comp_grammar.specs.Depths.{depth_in, deepest, depth_of}
use Rattle.comp_grammar.proofs.ComponentLaws.{exact_component}
use Rattle.comp_grammar.proofs.BuiltLaws.{adds, built_is, parts_built}

-- ---- sections that hold no component

abbrev IsFlat : Format Part → Type 0
IsFlat F = (at : ℕ) (p : Part) (text : List ℕ) → F.Spells at p text → depth_in p ≡ 0

flat_choose : (b : Bool) (F G : Format Part) → IsFlat F → IsFlat G → IsFlat (choose b F G)
flat_choose true F G f g = f
flat_choose false F G f g = g

flat_lacking : (tag : ℕ) → IsFlat (lacking tag)
flat_lacking tag at p text s = absurd s

flat_image : {A : Type 0} (make : A → Part) (from : Part → A) (F : Format A) → ((a : A) → depth_in (make a) ≡ 0) → IsFlat (image make from F)
flat_image make from F f at p text s = ap depth_in s.1 ∙ f s.0

flat_low : (b : ℕ) → IsFlat (low_section b)
unfolding low_section depth_in
flat_low b =
    flat_choose (eqb b 0) _ _ (flat_image Custom custom_in (sized custom) (λ a. refl)) (
    flat_choose (eqb b 1) _ _ (flat_image (λ p. CoreModule p.0 p.1) core_module_in (sized placed_module) (λ a. refl)) (
    flat_choose (eqb b 2) _ _ (flat_image CoreInstances core_instances_in (sized (vec core_instance)) (λ a. refl))
    (flat_lacking b)))

flat_high : (b : ℕ) → IsFlat (high_section b)
unfolding high_section depth_in
flat_high b =
    flat_choose (eqb b 5) _ _ (flat_image Instances instances_in (sized (vec instance)) (λ a. refl)) (
    flat_choose (eqb b 6) _ _ (flat_image Aliases aliases_in (sized (vec alias)) (λ a. refl)) (
    flat_choose (eqb b 7) _ _ (flat_image Types types_in (sized type_items) (λ a. refl)) (
    flat_choose (eqb b 8) _ _ (flat_image Canons canons_in (sized (vec canon)) (λ a. refl)) (
    flat_choose (eqb b 10) _ _ (flat_image Imports imports_in (sized (vec component_import)) (λ a. refl)) (
    flat_choose (eqb b 11) _ _ (flat_image Exports exports_in (sized (vec component_export)) (λ a. refl))
    (flat_lacking b))))))

-- ---- one section

-- the components in a section are spelled in one format where they are in another
abbrev Carries : Format Tree → Format Tree → Part → Type 0
Carries F G p = (span : Span) (u : Tree) (at : ℕ) (text : List ℕ) → p ≡ Nested span u → F.Spells at u text → G.Spells at u text

nested_again : (F G : Format Tree) (at : ℕ) (p : Part) (text : List ℕ) → Carries F G p → (nested_section F).Spells at p text → (nested_section G).Spells at p text
unfolding nested_section placed
nested_again F G at p text c s =
    let w = s.2 in
    let here : ℕ = at + length w.0 in
    let span : Span = record { from = here; to = here + length w.1 } in
    let holds : p ≡ Nested span w.3.0 = s.1 ∙ ap (λ (x : Span × Tree). Nested x.0 x.1) w.3.1 in
    (s.0, s.1, (w.0, w.1, w.2, (w.3.0, w.3.1, c span w.3.0 here w.1 holds w.3.2), w.4))

choose_again : (b : Bool) (F G H : Format Part) (at : ℕ) (p : Part) (text : List ℕ) → (F.Spells at p text → G.Spells at p text) → (choose b F H).Spells at p text → (choose b G H).Spells at p text
choose_again true F G H at p text f s = f s
choose_again false F G H at p text f s = s

section_again : (F G : Format Tree) (at : ℕ) (p : Part) (text : List ℕ) → Carries F G p → (section F).Spells at p text → (section G).Spells at p text
unfolding section
section_again F G at p [] c s = absurd s
section_again F G at p (b ∷ text) c s =
    choose_again (eqb b 4) (nested_section F) (nested_section G) (choose (ltb b 5) (low_section b) (high_section b)) (at + 1) p text (nested_again F G (at + 1) p text c) s

-- what the format spells is at most so deep
abbrev AreWithin : ℕ → Format Tree → Type 0
AreWithin d F = (at : ℕ) (u : Tree) (text : List ℕ) → F.Spells at u text → depth_of u ≤ d

nested_within : (F : Format Tree) (d at : ℕ) (p : Part) (text : List ℕ) → AreWithin d F → (nested_section F).Spells at p text → depth_in p ≤ d
unfolding nested_section placed depth_in depth_of
nested_within F d at p text f s =
    let w = s.2 in
    let here : ℕ = at + length w.0 in
    let span : Span = record { from = here; to = here + length w.1 } in
    let holds : p ≡ Nested span w.3.0 = s.1 ∙ ap (λ (x : Span × Tree). Nested x.0 x.1) w.3.1 in
    subst (λ (q : Part). depth_in q ≤ d) (sym holds) (f here w.3.0 w.1 w.3.2)

choose_within : (b : Bool) (F H : Format Part) (d at : ℕ) (p : Part) (text : List ℕ) → (F.Spells at p text → depth_in p ≤ d) → IsFlat H → (choose b F H).Spells at p text → depth_in p ≤ d
choose_within true F H d at p text f h s = f s
choose_within false F H d at p text f h s = omega (arith, h at p text s)

section_within : (F : Format Tree) (d at : ℕ) (p : Part) (text : List ℕ) → AreWithin d F → (section F).Spells at p text → depth_in p ≤ d
unfolding section
section_within F d at p [] f s = absurd s
section_within F d at p (b ∷ text) f s =
    choose_within (eqb b 4) (nested_section F) (choose (ltb b 5) (low_section b) (high_section b)) d (at + 1) p text (nested_within F d (at + 1) p text f)
    (flat_choose (ltb b 5) (low_section b) (high_section b) (flat_low b) (flat_high b)) s

-- ---- all sections

abbrev ArePartsWithin : ℕ → List Part → Type 0
ArePartsWithin d parts = AllByRecursion (λ p. depth_in p ≤ d) parts

parts_again : (F G : Format Tree) (parts : List Part) (s : Tree) (at : ℕ) (text : List ℕ) → AllByRecursion (Carries F G) parts → SectionsSpell (sections F) s at parts text → SectionsSpell (sections G) s at parts text
unfolding sections
parts_again F G [] s at text c w = w
parts_again F G (p ∷ parts) s at text c w = (w.0, w.1, section_again F G at p w.0 c.0 w.2, parts_again F G parts (add s p) (at + length w.0) w.1 c.1 w.3, w.4)

parts_within : (F : Format Tree) (d : ℕ) → AreWithin d F → (parts : List Part) (s : Tree) (at : ℕ) (text : List ℕ) → SectionsSpell (sections F) s at parts text → ArePartsWithin d parts
unfolding sections
parts_within F d f [] s at text w = tt
parts_within F d f (p ∷ parts) s at text w = (section_within F d at p w.0 f w.2, parts_within F d f parts (add s p) (at + length w.0) w.1 w.3)

-- a component is one deeper than its sections
within_of : (d : ℕ) (t : Tree) → ArePartsWithin d (parts_of t) → deepest t ≤ d
unfolding deepest
within_of d End h = omega arith
within_of d (More part rest) h = max-le h.0 (within_of d rest h.1)

parts_of_within : (d : ℕ) (t : Tree) → deepest t ≤ d → ArePartsWithin d (parts_of t)
unfolding deepest
parts_of_within d End h = tt
parts_of_within d (More part rest) h =
    (omega (arith, h, le-max_left (depth_in part) (deepest rest)), parts_of_within d rest (omega (arith, h, le-max_right (depth_in part) (deepest rest))))

-- ---- components

-- the sections of what is spelled, and where they stand
same_sections : (F : Format Tree) (t u : Tree) (parts : List Part) → t ≡ u → built (sections F) End parts ≡ u → parts_of t ≡ parts
same_sections F t u parts e h = ap parts_of (e ∙ sym h ∙ built_is F End parts) ∙ parts_built parts

-- no component is deeper than the spelling allows
pub within : (d : ℕ) → AreWithin d (component d)
unfolding component all_sections depth_of
within zero at t text s = absurd s
within (suc d) at t text s =
    let pair = s.2 in
    let inner : Format Tree = component d in
    let deep = parts_within inner d (within d) pair.3.0 End (at + length pair.0) pair.1 pair.3.1 in
    let same : parts_of t ≡ pair.3.0 = same_sections inner t s.0.1 pair.3.0 s.1 pair.3.2 in
    let h : deepest t ≤ d = within_of d t (subst (λ (z : List Part). ArePartsWithin d z) (sym same) deep) in
    omega (arith, h)

carried : (F G : Format Tree) (d : ℕ) → ((at : ℕ) (u : Tree) (text : List ℕ) → depth_of u ≤ d → F.Spells at u text → G.Spells at u text) → (parts : List Part) → ArePartsWithin d parts → AllByRecursion (Carries F G) parts
unfolding depth_in depth_of
carried F G d f [] h = tt
carried F G d f (p ∷ parts) h = (λ span u at text e s. f at u text (subst (λ (q : Part). depth_in q ≤ d) e h.0) s, carried F G d f parts h.1)

-- a component that is at most so deep is spelled with that bound, where it is with any
pub bounded : (e d : ℕ) (at : ℕ) (t : Tree) (text : List ℕ) → depth_of t ≤ d → (component e).Spells at t text → (component d).Spells at t text
unfolding component all_sections sections depth_of
bounded zero d at t text h s = absurd s
bounded (suc e) zero at t text h s = absurd (omega (arith, h))
bounded (suc e) (suc d) at t text h s =
    let pair = s.2 in
    let F : Format Tree = component e in
    let G : Format Tree = component d in
    let same : parts_of t ≡ pair.3.0 = same_sections F t s.0.1 pair.3.0 s.1 pair.3.2 in
    let low : deepest t ≤ d = omega (arith, h) in
    let deep : ArePartsWithin d pair.3.0 = subst (λ (z : List Part). ArePartsWithin d z) same (parts_of_within d t low) in
    let again = parts_again F G pair.3.0 End (at + length pair.0) pair.1 (carried F G d (bounded e d) pair.3.0 deep) pair.3.1 in
    let end : built (sections G) End pair.3.0 ≡ s.0.1 = built_is G End pair.3.0 ∙ sym (built_is F End pair.3.0) ∙ pair.3.2 in
    (s.0, s.1, (pair.0, pair.1, pair.2, (pair.3.0, again, end, pair.3.3), pair.4))

-- a bound may be raised
pub deeper : (d e at : ℕ) (t : Tree) (text : List ℕ) → d ≤ e → (component d).Spells at t text → (component e).Spells at t text
deeper d e at t text h s = bounded d e at t text (omega (arith, h, within d at t text s)) s

-- a spelling at any depth is one with the component's own
pub at_its_depth : (at : ℕ) (t : Tree) (text : List ℕ) (d : ℕ) → depth_of t ≤ d → SpellsAt at t text → (component d).Spells at t text
at_its_depth at t text d h s = bounded s.0 d at t text h s.1

-- no bytes spell two components
pub spelled_once : (t u : Tree) (text : List ℕ) → SpellsComponent t text → SpellsComponent u text → t ≡ u
spelled_once t u text s r =
    let d : ℕ = max (depth_of t) (depth_of u) in
    let end : Place = record { at = 0 + length text; rest = [] } in
    let left = at_its_depth 0 t text d (le-max_left (depth_of t) (depth_of u)) s in
    let right = at_its_depth 0 u text d (le-max_right (depth_of t) (depth_of u)) r in
    let e = ok_is (t, end) (u, end) (sym ((exact_component d).again t text 0 left) ∙ (exact_component d).again u text 0 right) in
    ap (λ (x : Tree × Place). x.0) e
