-- A component that is spelled at one offset is spelled at every other, up to the places where its parts stand.
use Rattle.std.proofs.Common.{◌≡◌, ℕ, zero, suc, ◌+◌, Bool, true, false, eqb, ltb, List, [], ◌∷◌, length, refl, sym, ap, ◌∙◌}
use Rattle.wasm_format.specs.Format.{Format, choose, lacking, image, sized}
use Rattle.wasm_format.specs.Sections.{SectionsSpell, built}
use Rattle.wasm_ast.specs.declared.component.Span.{Span}
use Rattle.wasm_ast.specs.declared.module.Module.{Module}
use Rattle.comp_grammar.specs.Trees.{Part, Tree, CoreModule, Nested, Custom, End}
use Rattle.comp_grammar.specs.Components.{no_span, add, custom_in, core_module_in, beside, span_of, custom, placed_module, placed, nested_section, low_section, high_section, section, sections, all_sections, component}
use Rattle.comp_write.specs.Copying.{bare_part, bare}
use Rattle.comp_write.proofs.Bounds.{SpellsWithin}
use Rattle.comp_write.proofs.FloatLaws.{IsFloating, floating_u32, floating_sized, floating_vec}
use Rattle.comp_write.proofs.FloatCore.{floating_note, floating_core_module}
use Rattle.comp_write.proofs.FloatItems.{floating_core_instance, floating_instance, floating_alias, floating_type_items, floating_canon, floating_component_import, floating_component_export}
use Rattle.comp_grammar.proofs.BuiltLaws.{built_is}
use Rattle.comp_write.proofs.Bare.{AreSame, same_built}

-- a spelling of the same section at another offset
abbrev pub Floated : Format Part → ℕ → Part → List ℕ → Type 0
Floated F to p text = (q : Part) × F.Spells to q text × (bare_part q ≡ bare_part p)

-- What is spelled is spelled at every offset, up to places.
pub record FloatsBare (F : Format Part) : Type 0 where
  pub floats : (at to : ℕ) (p : Part) (text : List ℕ) → F.Spells at p text → Floated F to p text

bare_choose : (b : Bool) (F G : Format Part) → FloatsBare F → FloatsBare G → FloatsBare (choose b F G)
bare_choose true F G f g = f
bare_choose false F G f g = g

bare_lacking : (tag : ℕ) → FloatsBare (lacking tag)
bare_lacking tag = record { floats = λ at to p text s. absurd s }

bare_image : {A : Type 0} (make : A → Part) (from : Part → A) (F : Format A) → IsFloating F → FloatsBare (image make from F)
bare_image make from F f = record { floats = λ at to p text s. (p, (s.0, s.1, f.floats at to s.0 text s.2), refl) }

-- ---- sections that keep a place

bare_custom : FloatsBare (image Custom custom_in (sized custom))
unfolding custom bare_part
bare_custom = record {
  floats = λ at to p text s.
      let w = s.2 in
      let here : ℕ = to + length w.0 in
      let span : Span = span_of {A = Unit {0}} here (here + length w.1) tt in
      (Custom span, (span, refl, (w.0, w.1, floating_u32.floats at to (length w.1) w.0 w.2, (tt, refl, floating_note.floats (at + length w.0) here tt w.1 w.3.2), w.4)), sym (ap bare_part s.1));
}

bare_core_module : FloatsBare (image (λ p. CoreModule p.0 p.1) core_module_in (sized placed_module))
unfolding placed_module bare_part
bare_core_module = record {
  floats = λ at to p text s.
      let w = s.2 in
      let here : ℕ = to + length w.0 in
      let m : Module = w.3.0 in
      let placed_so : Span × Module = beside here (here + length w.1) m in (
        CoreModule placed_so.0 m,
        (placed_so, refl, (w.0, w.1, floating_u32.floats at to (length w.1) w.0 w.2, (m, refl, floating_core_module.floats (at + length w.0) here m w.1 w.3.2), w.4)),
        sym (ap bare_part s.1 ∙ ap (λ (x : Span × Module). bare_part (CoreModule x.0 x.1)) w.3.1),
      );
}

-- what is spelled at one offset is spelled at every other, up to places
abbrev pub Moves : Format Tree → Type 0
Moves inner = (at to : ℕ) (u : Tree) (text : List ℕ) → inner.Spells at u text → (v : Tree) × inner.Spells to v text × (bare v ≡ bare u)

bare_nested : (inner : Format Tree) → Moves inner → FloatsBare (nested_section inner)
unfolding nested_section placed bare_part
bare_nested inner f = record {
  floats = λ at to p text s.
      let w = s.2 in
      let here : ℕ = to + length w.0 in
      let moved = f (at + length w.0) here w.3.0 w.1 w.3.2 in
      let placed_so : Span × Tree = beside here (here + length w.1) moved.0 in (
        Nested placed_so.0 moved.0,
        (placed_so, refl, (w.0, w.1, floating_u32.floats at to (length w.1) w.0 w.2, (moved.0, refl, moved.1), w.4)),
        ap (Nested no_span) moved.2 ∙ sym (ap bare_part s.1 ∙ ap (λ (x : Span × Tree). bare_part (Nested x.0 x.1)) w.3.1),
      );
}

-- ---- one section

bare_low : (b : ℕ) → FloatsBare (low_section b)
unfolding low_section
bare_low b = search (bare_choose, bare_lacking, bare_image, bare_custom, bare_core_module, floating_sized, floating_vec, floating_core_instance) depth 12

bare_high : (b : ℕ) → FloatsBare (high_section b)
unfolding high_section
bare_high b = search (bare_choose, bare_lacking, bare_image, floating_sized, floating_vec, floating_instance, floating_alias, floating_type_items, floating_canon, floating_component_import, floating_component_export) depth 16

section_floats : (inner : Format Tree) → Moves inner → (at to : ℕ) (p : Part) (text : List ℕ) → (section inner).Spells at p text → Floated (section inner) to p text
unfolding section
section_floats inner f at to p [] s = absurd s
section_floats inner f at to p (b ∷ text) s =
    (bare_choose (eqb b 4) (nested_section inner) (choose (ltb b 5) (low_section b) (high_section b)) (bare_nested inner f) (bare_choose (ltb b 5) (low_section b) (high_section b) (bare_low b) (bare_high b))).floats (at + 1) (to + 1) p text s

-- ---- all sections

parts_float : (inner : Format Tree) → Moves inner → (parts : List Part) (s t : Tree) (at to : ℕ) (text : List ℕ) → SectionsSpell (sections inner) s at parts text → (moved : List Part) × SectionsSpell (sections inner) t to moved text × AreSame moved parts
unfolding sections
parts_float inner f [] s t at to text w = ([], w, tt)
parts_float inner f (p ∷ parts) s t at to text w =
    let one = section_floats inner f at to p w.0 w.2 in
    let rest = parts_float inner f parts (add s p) (add t one.0) (at + length w.0) (to + length w.0) w.1 w.3 in
    (one.0 ∷ rest.0, (w.0, w.1, one.1, rest.1, w.4), (one.2, rest.2))

component_moves : (depth : ℕ) → Moves (component depth)
unfolding component all_sections sections
component_moves zero at to u text s = absurd s
component_moves (suc depth) at to u text s =
    let pair = s.2 in
    let inner : Format Tree = component depth in
    let w = parts_float inner (component_moves depth) pair.3.0 End End (at + length pair.0) (to + length pair.0) pair.1 pair.3.1 in
    let v : Tree = built (sections inner) End w.0 in (
      v,
      ((tt, v), refl, (pair.0, pair.1, pair.2, (w.0, w.1, refl, refl), pair.4)),
      ap bare (built_is inner End w.0) ∙ same_built w.0 pair.3.0 w.2 ∙ sym (ap bare (built_is inner End pair.3.0)) ∙ ap bare pair.3.2 ∙ sym (ap bare s.1),
    )

-- at every offset the same bytes spell the component, up to places
pub moved_to : (depth at to : ℕ) (t : Tree) (text : List ℕ) → SpellsWithin depth at t text → SpellsWithin depth to t text
moved_to depth at to t text s =
    let w = component_moves depth at to s.0 text s.1 in
    (w.0, w.1, w.2 ∙ s.2)
