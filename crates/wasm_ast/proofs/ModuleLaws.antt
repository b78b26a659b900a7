-- The format of core modules is exact.
use Rattle.std.proofs.Common.{ℕ, List, Option, Some, None}
use Rattle.wasm_format.proofs.Laws.{IsExact, IsExactToEnd, exact_name, exact_fixed, exact_vec_of, to_end, anything_to_end, both_to_end, image_to_end}
use Rattle.wasm_format.proofs.SectionLaws.{AreExact, exact_to_the_end}
use Rattle.wasm_format.specs.Format.{Format}
use Rattle.wasm_ast.specs.Modules.{Progress, note, counted, low_section, high_section, section, sections, no_sections, sections_of, all_sections, core_module}
use Rattle.wasm_ast.proofs.TypeLaws.{exact, exact_core_func, exact_limits, exact_table_type}
use Rattle.wasm_ast.proofs.ItemLaws.{exact_import, exact_export, exact_global, exact_elements, exact_body, exact_segment}

pub note_to_end : IsExactToEnd note
unfolding note
note_to_end = search (exact_name, anything_to_end, both_to_end, image_to_end) depth 6

exact_counted : (count : Option ℕ) → IsExact (counted count)
exact_counted None = search (exact, exact_segment) depth 4
exact_counted (Some n) = search (exact_vec_of, exact_segment) depth 4

exact_low_section : (s : Progress) (b : ℕ) → IsExact (low_section s b)
unfolding low_section
exact_low_section s b = search (exact, note_to_end, exact_core_func, exact_import, exact_table_type, exact_limits, exact_global) depth 20

exact_high_section : (s : Progress) (b : ℕ) → IsExact (high_section s b)
unfolding high_section
exact_high_section s b = search (exact, exact_vec_of, exact_export, exact_elements, exact_body, exact_counted) depth 20

pub exact_section : (s : Progress) → IsExact (section s)
unfolding section
exact_section s = search (exact, exact_low_section, exact_high_section) depth 6

pub exact_sections : AreExact sections
unfolding sections section
exact_sections = record { exact = exact_section; nonempty = λ s at part h. h; no_tag = λ s at a byte e. cc }

pub exact_all_sections : IsExactToEnd all_sections
unfolding all_sections
exact_all_sections = exact_to_the_end sections no_sections (λ s. sections_of s.found) exact_sections

pub exact_core_module : IsExactToEnd core_module
unfolding core_module
exact_core_module = search (exact_fixed, exact_all_sections, both_to_end, image_to_end) depth 6
