-- The format of components is exact, by induction on how deep they stand in one another.
use Rattle.std.proofs.Common.{◌≡◌, ℕ, zero, suc, List, Result, Ok, Err}
use Rattle.wasm_format.specs.declared.stop.Stop.{Stop}
use Rattle.virt_base.specs.Place.{Place}
use Rattle.wasm_format.specs.Format.{Format, sized, both, fixed}
use Rattle.wasm_format.proofs.Laws.{IsExact, IsExactToEnd, exact_choose, exact_lacking, exact_tagged, exact_both, exact_image, exact_vec, exact_sized, exact_fixed, spanned_to_end, to_end, both_to_end, image_to_end}
use Rattle.wasm_format.proofs.SectionLaws.{AreExact, exact_to_the_end}
use Rattle.wasm_ast.proofs.ModuleLaws.{note_to_end, exact_core_module}
use Rattle.wasm_ast.proofs.ComponentGrammar.{exact_instance, exact_alias, exact_component_export}
use Rattle.wasm_ast.specs.Modules.{note, core_module}
use Rattle.comp_grammar.specs.Trees.{Tree, End, Nested}
use Rattle.comp_grammar.specs.Components.{nested_in, beside, span_of, custom, placed_module, placed, nested_section, low_section, high_section, section, sections, parts_of, preamble, all_sections, too_nested, component_over, component}
use Rattle.comp_grammar.proofs.CoreInstanceLaws.{exact_core_instance}
use Rattle.comp_grammar.proofs.ItemLaws.{exact_canon, exact_component_import}
use Rattle.comp_grammar.proofs.TypeSectionLaws.{exact_type_items}

pub exact_custom : IsExactToEnd custom
unfolding custom
exact_custom = spanned_to_end span_of note note_to_end

pub exact_placed_module : IsExactToEnd placed_module
unfolding placed_module
exact_placed_module = spanned_to_end beside core_module exact_core_module

pub exact_placed : (inner : Format Tree) → IsExactToEnd inner → IsExactToEnd (placed inner)
unfolding placed
exact_placed inner f = spanned_to_end beside inner f

pub exact_nested_section : (inner : Format Tree) → IsExactToEnd inner → IsExact (nested_section inner)
unfolding nested_section
exact_nested_section inner f = exact_image (λ p. Nested p.0 p.1) nested_in (sized (placed inner)) (exact_sized (placed inner) (exact_placed inner f))

ruleset exact = (exact_choose, exact_lacking, exact_tagged, exact_both, exact_image, exact_vec, exact_sized, to_end)

pub exact_low_section : (b : ℕ) → IsExact (low_section b)
unfolding low_section
exact_low_section b = search (exact, exact_custom, exact_placed_module, exact_core_instance) depth 16

pub exact_high_section : (b : ℕ) → IsExact (high_section b)
unfolding high_section
exact_high_section b = search (exact, exact_instance, exact_alias, exact_type_items, exact_canon, exact_component_import, exact_component_export) depth 20

pub exact_section : (inner : Format Tree) → IsExactToEnd inner → IsExact (section inner)
unfolding section
exact_section inner f = search (exact_choose, exact_tagged, exact_nested_section, exact_low_section, exact_high_section, f) depth 8

pub exact_sections : (inner : Format Tree) → IsExactToEnd inner → AreExact (sections inner)
unfolding sections section
exact_sections inner f = record { exact = λ t. exact_section inner f; nonempty = λ t at part h. h; no_tag = λ t at a byte e. cc }

pub exact_all_sections : (inner : Format Tree) → IsExactToEnd inner → IsExactToEnd (all_sections inner)
unfolding all_sections
exact_all_sections inner f = exact_to_the_end (sections inner) End parts_of (exact_sections inner f)

pub exact_component_over : (inner : Format Tree) → IsExactToEnd inner → IsExactToEnd (component_over inner)
exact_component_over inner f =
    image_to_end (λ p. p.1) (λ t. (tt, t)) (both (fixed {A = Unit {0}} preamble tt) (all_sections inner))
    (both_to_end (fixed {A = Unit {0}} preamble tt) (all_sections inner) (exact_fixed {A = Unit {0}} preamble tt) (exact_all_sections inner f))

abbrev ok_of : Tree × Place → Result (Tree × Place) Stop
ok_of x = Ok x

not_ok : (a : Tree × Place) (d : Stop) → Err d ≡ ok_of a → ⊥
not_ok a d e = cc

exact_too_nested : IsExactToEnd too_nested
exact_too_nested = record { found = λ p a e. absurd (not_ok a _ e); again = λ a text at s. absurd s; written = λ a at s. absurd s }

pub exact_component : (depth : ℕ) → IsExactToEnd (component depth)
unfolding component
exact_component zero = exact_too_nested
exact_component (suc depth) = exact_component_over (component depth) (exact_component depth)
