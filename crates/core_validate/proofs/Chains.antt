-- The items in order, from each kind on.
use Rattle.std.proofs.Common.{◌≡◌, List, ◌++◌}
use Rattle.std.specs.Option.{option_to_list}
use Rattle.wasm_ast.specs.declared.module.Module.{Module}
use Rattle.virt_base.specs.declared.core_type.CoreType.{CoreType}
use Rattle.core_validate.specs.declared.item.CoreImport.{CoreImport}
use Rattle.core_validate.specs.declared.item.CoreExport.{CoreExport}
use Rattle.core_validate.specs.declared.item.ModuleType.{ModuleType}
use Rattle.core_validate.specs.Items.{Item, AFunction, ATable, AGlobal, AStart, Segment, DataSegment, memory_items, body_items, plain_items}

abbrev pub globals_on : Module → List Item
globals_on m = plain_items AGlobal m.globals

abbrev pub memories_on : Module → List Item
memories_on m = memory_items m ++ globals_on m

abbrev pub tables_on : Module → List Item
tables_on m = plain_items ATable m.tables ++ memories_on m

abbrev pub functions_on : Module → List Item
functions_on m = plain_items AFunction m.functions ++ tables_on m

abbrev pub data_on : Module → List Item
data_on m = plain_items DataSegment m.segments

abbrev pub bodies_on : Module → List Item
bodies_on m = body_items m ++ data_on m

abbrev pub segments_on : Module → List Item
segments_on m = plain_items Segment m.elements ++ bodies_on m

abbrev pub start_on : Module → List Item
start_on m = plain_items AStart (option_to_list m.start) ++ segments_on m

abbrev pub module_type : List CoreImport → List CoreExport → ModuleType
module_type imports exports = record { imports = imports; exports = exports }
