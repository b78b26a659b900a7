-- The index spaces that an output fills: how many of each sort there are so far.
use Rattle.std.specs.Prelude.{ℕ, ◌+◌}
use Rattle.wasm_ast.specs.declared.component.Sort.{Sort}
use Rattle.wasm_ast.specs.declared.component.Sort.TheVariants as sorts
use Rattle.comp_types.specs.Items.{Item, FuncItem, InstanceItem, KindItem}
use Rattle.virt_output.specs.declared.counts.Counts.{Counts}

abbrev pub sort_of : Item → Sort
sort_of (FuncItem ty) = sorts.Func
sort_of (InstanceItem entries) = sorts.Instance
sort_of (KindItem kind) = sorts.Type

-- the next index of a sort
abbrev pub count_of : Counts → Sort → ℕ
count_of c sorts.Func = c.functions
count_of c sorts.Type = c.types
count_of c sorts.Instance = c.instances

abbrev pub and_one : Counts → Sort → Counts
and_one c sorts.Func = record c { functions = c.functions + 1 }
and_one c sorts.Type = record c { types = c.types + 1 }
and_one c sorts.Instance = record c { instances = c.instances + 1 }
