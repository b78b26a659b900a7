-- Copies of function types, by their indexes.
use Rattle.std.specs.Prelude.{◌≡◌, ℕ, List, Some, slice_get}
use Rattle.std.specs.BTreeMap.{BTreeMap, get}
use Rattle.std.specs.Ordering.{nat_cmp}
use Rattle.wasm_ast.specs.declared.module.CoreFunc.{CoreFunc}

-- each is of the type at its index
abbrev pub AreCopies : List CoreFunc → BTreeMap ℕ CoreFunc → Type 0
AreCopies types copies = (n : ℕ) (ty : CoreFunc) → get nat_cmp copies n ≡ Some ty → slice_get types n ≡ Some ty
