-- Reading a module's items stops at a tag for a cause, by the laws of what their formats are made of.
use Rattle.std.proofs.Common.{ℕ}
use Rattle.wasm_format.proofs.Laws.{exact_name}
use Rattle.wasm_ast.specs.Items.{import_item, import, export_item, export, global, local_run, body, kind_and_funcs, low_elements, high_elements, elements, segment}
use Rattle.wasm_ast.proofs.TypeLaws.{exact, exact_ref_type, exact_global_type}
use Rattle.wasm_ast.proofs.InstructionLaws.{exact_expr}
use Rattle.wasm_ast.proofs.ItemLaws.{exact_local_run}
use Rattle.format_causes.specs.Causes.{IsCaused}
use Rattle.format_causes.proofs.CauseLaws.{IsCausedBehind, caused_anything}
use Rattle.format_causes.proofs.ListCauses.{caused_name}
use Rattle.format_causes.proofs.TypeCauses.{causes, caused_core_type, caused_ref_type, caused_limits, caused_table_type, caused_global_type}
use Rattle.format_causes.proofs.InstructionCauses.{caused_expr}

caused_import_item : IsCaused import_item
unfolding import_item
caused_import_item = search (causes, caused_table_type, caused_limits, caused_global_type) depth 14

pub caused_import : IsCaused import
unfolding import
caused_import = search (causes, exact_name, caused_name, caused_import_item) depth 12

caused_export_item : IsCaused export_item
unfolding export_item
caused_export_item = search causes depth 14

pub caused_export : IsCaused export
unfolding export
caused_export = search (causes, exact_name, caused_name, caused_export_item) depth 12

pub caused_global : IsCaused global
unfolding global
caused_global = search (causes, exact_global_type, caused_global_type, caused_expr) depth 8

caused_local_run : IsCaused local_run
unfolding local_run
caused_local_run = search (causes, exact, caused_core_type) depth 8

pub caused_body : IsCaused body
unfolding body
caused_body = search (causes, exact, exact_local_run, caused_local_run, caused_expr) depth 8

caused_kind_and_funcs : IsCaused kind_and_funcs
unfolding kind_and_funcs
caused_kind_and_funcs = search (causes, exact) depth 8

behind_low_elements : (b : ℕ) → IsCausedBehind b (low_elements b)
unfolding low_elements
behind_low_elements b = search (causes, exact, exact_expr, caused_kind_and_funcs, caused_expr) depth 16 fits 20000

behind_high_elements : (b : ℕ) → IsCausedBehind b (high_elements b)
unfolding high_elements
behind_high_elements b = search (causes, exact, exact_ref_type, exact_expr, caused_ref_type, caused_expr) depth 16 fits 20000

pub caused_elements : IsCaused elements
unfolding elements
caused_elements = search (causes, behind_low_elements, behind_high_elements) depth 6

pub caused_segment : IsCaused segment
unfolding segment
caused_segment = search (causes, exact, exact_expr, caused_expr, caused_anything) depth 18
