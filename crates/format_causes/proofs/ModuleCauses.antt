-- Reading a core module stops at a tag for a cause.
use Rattle.std.proofs.Common.{ℕ, Option, Some, None}
use Rattle.wasm_format.proofs.Laws.{exact_name, exact_fixed}
use Rattle.wasm_ast.specs.Modules.{Progress, note, counted, low_section, high_section, section, sections, no_sections, sections_of, all_sections, core_module}
use Rattle.wasm_ast.proofs.TypeLaws.{exact, exact_core_func, exact_limits, exact_table_type}
use Rattle.wasm_ast.proofs.ItemLaws.{exact_import, exact_export, exact_global, exact_elements, exact_body, exact_segment}
use Rattle.wasm_ast.proofs.ModuleLaws.{exact_sections}
use Rattle.format_causes.specs.Causes.{IsCaused}
use Rattle.format_causes.proofs.CauseLaws.{IsCausedBehind, caused_anything, caused_fixed}
use Rattle.format_causes.proofs.ListCauses.{caused_name, caused_vec_of}
use Rattle.format_causes.proofs.SectionCauses.{caused_to_the_end}
use Rattle.format_causes.proofs.TypeCauses.{causes, caused_core_func, caused_limits, caused_table_type}
use Rattle.format_causes.proofs.ItemCauses.{caused_import, caused_export, caused_global, caused_elements, caused_body, caused_segment}

pub caused_note : IsCaused note
unfolding note
caused_note = search (causes, exact_name, caused_name, caused_anything) depth 6

caused_counted : (count : Option ℕ) → IsCaused (counted count)
caused_counted None = search (causes, exact_segment, caused_segment) depth 4
caused_counted (Some n) = search (caused_vec_of, exact_segment, caused_segment) depth 4

behind_low_section : (s : Progress) (b : ℕ) → IsCausedBehind b (low_section s b)
unfolding low_section
behind_low_section s b = search (causes, exact, exact_core_func, exact_import, exact_table_type, exact_limits, exact_global, caused_note, caused_core_func, caused_import, caused_table_type, caused_limits, caused_global) depth 22 fits 20000

behind_high_section : (s : Progress) (b : ℕ) → IsCausedBehind b (high_section s b)
unfolding high_section
behind_high_section s b = search (causes, exact, exact_export, exact_elements, exact_body, caused_vec_of, caused_export, caused_elements, caused_body, caused_counted) depth 22 fits 20000

caused_section : (s : Progress) → IsCaused (section s)
unfolding section
caused_section s = search (causes, behind_low_section, behind_high_section) depth 6

caused_sections : (s : Progress) → IsCaused (sections.form s)
unfolding sections
caused_sections s = caused_section s

caused_all_sections : IsCaused all_sections
unfolding all_sections
caused_all_sections = caused_to_the_end sections no_sections (λ s. sections_of s.found) exact_sections caused_sections

pub caused_core_module : IsCaused core_module
unfolding core_module
caused_core_module = search (causes, exact_fixed, caused_fixed, caused_all_sections) depth 6
