-- Reading a component stops at a tag for a cause, by induction on how deep components may stand in one another.
use Rattle.std.proofs.Common.{◌≡◌, ℕ, zero, suc, eqb, ltb, Result, Err}
use Rattle.virt_base.specs.Place.{Place}
use Rattle.wasm_format.specs.declared.stop.Stop.{Stop}
use Rattle.wasm_format.specs.declared.stop.Stop.TheVariants.{Unsupported, TooNested}
use Rattle.wasm_format.specs.Format.{Format, choose, sized, both, fixed}
use Rattle.wasm_format.proofs.Laws.{IsExactToEnd, exact_fixed}
use Rattle.wasm_ast.proofs.TypeLaws.{exact}
use Rattle.wasm_ast.proofs.ComponentGrammar.{exact_instance, exact_alias, exact_component_export}
use Rattle.wasm_ast.specs.Modules.{note, core_module}
use Rattle.comp_grammar.specs.Trees.{Part, Tree, End, Nested}
use Rattle.comp_grammar.specs.Components.{section_tag, nested_in, beside, span_of, custom, placed_module, placed, nested_section, low_section, high_section, section, sections, parts_of, preamble, all_sections, too_nested, component_over, component}
use Rattle.comp_grammar.proofs.CoreInstanceLaws.{exact_core_instance}
use Rattle.comp_grammar.proofs.ItemLaws.{exact_canon, exact_component_import}
use Rattle.comp_grammar.proofs.ComponentLaws.{exact_sections, exact_component}
use Rattle.format_causes.specs.Causes.{IsCaused}
use Rattle.format_causes.proofs.CauseLaws.{IsCausedBehind, never, behind_choose, behind_of, caused_tagged, caused_image, caused_spanned, caused_both, caused_fixed}
use Rattle.format_causes.proofs.ListCauses.{caused_sized}
use Rattle.format_causes.proofs.SectionCauses.{caused_to_the_end}
use Rattle.format_causes.proofs.TypeCauses.{causes}
use Rattle.format_causes.proofs.ModuleCauses.{caused_note, caused_core_module}
use Rattle.comp_read.proofs.ItemCauses.{caused_instance, caused_alias, caused_component_export, caused_core_instance, caused_canon, caused_component_import}
use Rattle.comp_read.proofs.TypeSectionCauses.{caused_type_items}

caused_custom : IsCaused custom
unfolding custom
caused_custom = caused_spanned span_of note caused_note

caused_placed_module : IsCaused placed_module
unfolding placed_module
caused_placed_module = caused_spanned beside core_module caused_core_module

caused_nested_section : (inner : Format Tree) → IsCaused inner → IsCaused (nested_section inner)
unfolding nested_section placed
caused_nested_section inner f = caused_image (λ p. Nested p.0 p.1) nested_in (sized (placed inner)) (caused_sized (placed inner) (caused_spanned beside inner f))

behind_low_section : (b : ℕ) → IsCausedBehind b (low_section b)
unfolding low_section
behind_low_section b = search (causes, caused_custom, caused_placed_module, exact_core_instance, caused_core_instance) depth 18

behind_high_section : (b : ℕ) → IsCausedBehind b (high_section b)
unfolding high_section
behind_high_section b = search (causes, exact_instance, exact_alias, exact_canon, exact_component_import, exact_component_export, caused_instance, caused_alias, caused_type_items, caused_canon, caused_component_import, caused_component_export) depth 22

caused_section : (inner : Format Tree) → IsCaused inner → IsCaused (section inner)
unfolding section
caused_section inner f =
    let flat : ℕ → Format Part = λ b. choose (ltb b 5) (low_section b) (high_section b) in
    caused_tagged section_tag (λ b. choose (eqb b 4) (nested_section inner) (flat b)) (λ b.
    behind_choose b (eqb b 4) (nested_section inner) (flat b) (behind_of b (nested_section inner) (caused_nested_section inner f))
    (behind_choose b (ltb b 5) (low_section b) (high_section b) (behind_low_section b) (behind_high_section b)))

caused_sections : (inner : Format Tree) → IsCaused inner → (t : Tree) → IsCaused ((sections inner).form t)
unfolding sections
caused_sections inner f t = caused_section inner f

caused_all_sections : (inner : Format Tree) → IsExactToEnd inner → IsCaused inner → IsCaused (all_sections inner)
unfolding all_sections
caused_all_sections inner exact f = caused_to_the_end (sections inner) End parts_of (exact_sections inner exact) (caused_sections inner f)

caused_component_over : (inner : Format Tree) → IsExactToEnd inner → IsCaused inner → IsCaused (component_over inner)
caused_component_over inner exact f =
    caused_image (λ p. p.1) (λ t. (tt, t)) (both (fixed {A = Unit {0}} preamble tt) (all_sections inner))
    (caused_both (fixed {A = Unit {0}} preamble tt) (all_sections inner) (exact_fixed {A = Unit {0}} preamble tt) (caused_fixed {A = Unit {0}} preamble tt) (caused_all_sections inner exact f))

abbrev stop_is : Stop → Result (Tree × Place) Stop
stop_is d = Err d

no_tag : (at byte : ℕ) → stop_is TooNested ≡ stop_is (Unsupported at byte) → ⊥
no_tag at byte e = cc

pub caused_component : (depth : ℕ) → IsCaused (component depth)
unfolding component
caused_component zero = never too_nested (λ p at byte e. no_tag at byte e)
caused_component (suc depth) = caused_component_over (component depth) (exact_component depth) (caused_component depth)
