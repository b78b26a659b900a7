-- The items for which a kept list stands.
use Rattle.std.specs.Prelude.{List, []}
use Rattle.wasm_ast.specs.declared.few.Kept.{Kept}
use Rattle.wasm_ast.specs.declared.few.Kept.TheVariants.{Empty, One, Two, Three, More}

abbrev pub few_kept : {T : Type 0} → Kept T → List T
few_kept Empty = []
few_kept (One items) = items
few_kept (Two items) = items
few_kept (Three items) = items
few_kept (More items) = items
