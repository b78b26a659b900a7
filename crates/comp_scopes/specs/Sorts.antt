-- The sort of a core item.
use Rattle.wasm_ast.specs.declared.component.CoreSort.{CoreSort}
use Rattle.wasm_ast.specs.declared.component.CoreSort.TheVariants as sorts
use Rattle.core_validate.specs.declared.item.CoreItem.{CoreItem}
use Rattle.core_validate.specs.declared.item.CoreItem.TheVariants.{Func, Table, Memory, Global}

abbrev pub sort_of : CoreItem → CoreSort
sort_of (Func ty) = sorts.Func
sort_of (Table ty limits) = sorts.Table
sort_of (Memory limits) = sorts.Memory
sort_of (Global ty variable) = sorts.Global
