-- What bytes spell as an item of a module is written in no more bytes.
use Rattle.std.proofs.Common.{ℕ}
use Rattle.wasm_format.proofs.LeastLaws.{IsLeast, HasTag}
use Rattle.wasm_ast.specs.Items.{import_item, import, export_item, export, global, local_run, body, kind_and_funcs, elements_tag, low_elements, high_elements, elements, segment}
use Rattle.core_write.proofs.TypeLeast.{tags, least, least_core_type, least_ref_type, least_limits, least_table_type, least_global_type}
use Rattle.core_write.proofs.InstructionLeast.{least_expr}

least_import_item : IsLeast import_item
unfolding import_item
least_import_item = search (least, least_table_type, least_limits, least_global_type) depth 12

pub least_import : IsLeast import
unfolding import
least_import = search (least, least_import_item) depth 12

least_export_item : IsLeast export_item
unfolding export_item
least_export_item = search least depth 12

pub least_export : IsLeast export
unfolding export
least_export = search (least, least_export_item) depth 12

pub least_global : IsLeast global
unfolding global
least_global = search (least, least_global_type, least_expr) depth 8

least_local_run : IsLeast local_run
unfolding local_run
least_local_run = search (least, least_core_type) depth 8

pub least_body : IsLeast body
unfolding body
least_body = search (least, least_local_run, least_expr) depth 8

least_kind_and_funcs : IsLeast kind_and_funcs
unfolding kind_and_funcs
least_kind_and_funcs = search least depth 8

least_low_elements : (b : ℕ) → IsLeast (low_elements b)
unfolding low_elements
least_low_elements b = search (least, least_kind_and_funcs, least_expr) depth 14

least_high_elements : (b : ℕ) → IsLeast (high_elements b)
unfolding high_elements
least_high_elements b = search (least, least_ref_type, least_expr) depth 14

low_tags : (b : ℕ) → HasTag elements_tag b (low_elements b)
unfolding low_elements
low_tags b = search tags depth 14

high_tags : (b : ℕ) → HasTag elements_tag b (high_elements b)
unfolding high_elements
high_tags b = search tags depth 14

pub least_elements : IsLeast elements
unfolding elements
least_elements = search (least, low_tags, high_tags, least_low_elements, least_high_elements) depth 6

pub least_segment : IsLeast segment
unfolding segment
least_segment = search (least, least_expr) depth 16
