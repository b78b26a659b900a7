-- The formats of a module's items are exact, each by the laws of what it is made of.
use Rattle.std.proofs.Common.{ℕ}
use Rattle.wasm_format.proofs.Laws.{IsExact, exact_name, anything_to_end}
use Rattle.wasm_format.specs.Format.{Format}
use Rattle.wasm_ast.specs.Items.{import_item, import, export_item, export, global, local_run, body, kind_and_funcs, low_elements, high_elements, elements, segment}
use Rattle.wasm_ast.proofs.TypeLaws.{exact, exact_core_type, exact_ref_type, exact_limits, exact_table_type, exact_global_type}
use Rattle.wasm_ast.proofs.InstructionLaws.{exact_expr}

pub exact_import_item : IsExact import_item
unfolding import_item
exact_import_item = search (exact, exact_table_type, exact_limits, exact_global_type) depth 12

pub exact_import : IsExact import
unfolding import
exact_import = search (exact, exact_name, exact_import_item) depth 12

pub exact_export_item : IsExact export_item
unfolding export_item
exact_export_item = search exact depth 12

pub exact_export : IsExact export
unfolding export
exact_export = search (exact, exact_name, exact_export_item) depth 12

pub exact_global : IsExact global
unfolding global
exact_global = search (exact, exact_global_type, exact_expr) depth 8

pub exact_local_run : IsExact local_run
unfolding local_run
exact_local_run = search (exact, exact_core_type) depth 8

pub exact_body : IsExact body
unfolding body
exact_body = search (exact, exact_local_run, exact_expr) depth 8

exact_kind_and_funcs : IsExact kind_and_funcs
unfolding kind_and_funcs
exact_kind_and_funcs = search exact depth 8

exact_low_elements : (b : ℕ) → IsExact (low_elements b)
unfolding low_elements
exact_low_elements b = search (exact, exact_kind_and_funcs, exact_expr) depth 14

exact_high_elements : (b : ℕ) → IsExact (high_elements b)
unfolding high_elements
exact_high_elements b = search (exact, exact_ref_type, exact_expr) depth 14

pub exact_elements : IsExact elements
unfolding elements
exact_elements = search (exact, exact_low_elements, exact_high_elements) depth 6

pub exact_segment : IsExact segment
unfolding segment
exact_segment = search (exact, exact_expr, anything_to_end) depth 16
