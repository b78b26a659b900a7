-- When a core item meets an import (WebAssembly Core 2.0, section 3.2, "External Types" and "Import Subtyping").
use Rattle.std.specs.Prelude.{ℕ, List, [], ◌∷◌, Bool, true, false, ◌&&◌, nat_le, Option, Some, None, if◌then◌else◌}
use Rattle.std.specs.Cmp.Lexicographic.{pointwise}
use Rattle.std.specs.Str.{bytes_eq}
use Rattle.virt_base.specs.declared.core_type.CoreType.{CoreType}
use Rattle.virt_base.specs.declared.core_type.CoreType.TheVariants as types
use Rattle.wasm_ast.specs.declared.module.CoreFunc.{CoreFunc}
use Rattle.wasm_ast.specs.declared.module.Limits.{Limits}
use Rattle.core_validate.specs.declared.item.CoreItem.{CoreItem}
use Rattle.core_validate.specs.declared.item.CoreItem.TheVariants.{Func, Table, Memory, Global}
use Rattle.core_validate.specs.declared.item.CoreExport.{CoreExport}

abbrev pub same_core : CoreType → CoreType → Bool
same_core types.I32 types.I32 = true
same_core types.I64 types.I64 = true
same_core types.Funcref types.Funcref = true
same_core types.Externref types.Externref = true
same_core t u = false

abbrev pub same_func : CoreFunc → CoreFunc → Bool
same_func f g = pointwise same_core f.params g.params && pointwise same_core f.results g.results

-- no greater than the import's greatest, if it has one
abbrev pub is_under : Option ℕ → Option ℕ → Bool
is_under given None = true
is_under None (Some greatest) = false
is_under (Some n) (Some greatest) = nat_le n greatest

abbrev pub fits_limits : Limits → Limits → Bool
fits_limits given asked = nat_le asked.min given.min && is_under given.max asked.max

abbrev pub same_bool : Bool → Bool → Bool
same_bool true b = b
same_bool false true = false
same_bool false false = true

-- what is given may stand where the other is imported
abbrev pub meets : CoreItem → CoreItem → Bool
meets (Func f) (Func g) = same_func f g
meets (Table t given) (Table u asked) = same_core t u && fits_limits given asked
meets (Memory given) (Memory asked) = fits_limits given asked
meets (Global t variable) (Global u asked) = same_core t u && same_bool variable asked
meets _ _ = false

-- names of core items are compared exactly
abbrev pub same_text : List ℕ → List ℕ → Bool
same_text a b = bytes_eq a b

abbrev pub core_look_up : List ℕ → List CoreExport → Option CoreItem
core_look_up name [] = None
core_look_up name (e ∷ es) = if same_text e.name name then Some e.item else core_look_up name es
