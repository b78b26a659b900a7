-- The types that a section defines, as trees: what an instance type declares stands in it, and no longer after it.
use Rattle.std.specs.Prelude.{ℕ, zero, suc, List, [], ◌∷◌}
use Rattle.wasm_ast.specs.declared.component.ExternDesc.{ExternDesc}
use Rattle.wasm_ast.specs.declared.component.TypeAlias.{TypeAlias}
use Rattle.wasm_ast.specs.declared.component.TypeDef.{TypeDef}
use Rattle.wasm_ast.specs.declared.component.TypeDef.TheVariants as defs
use Rattle.wasm_ast.specs.declared.component.TypeItem.{TypeItem}
use Rattle.wasm_ast.specs.declared.component.TypeItem.TheVariants as items

mutual
  -- what an instance type declares, or a section of types defines
  pub data Declaration : Type 0 where
    ATypeDef : TypeDef → Declaration
    AnInstanceType : Declarations → Declaration
    ATypeAlias : TypeAlias → Declaration
    ATypeExport : (name : List ℕ) → (desc : ExternDesc) → Declaration

  pub data Declarations : Type 0 where
    Done : Declarations
    Then : (first : Declaration) → (rest : Declarations) → Declarations

abbrev pub first_of : ℕ → Declarations → Declarations
first_of zero ds = Done
first_of (suc n) Done = Done
first_of (suc n) (Then d ds) = Then d (first_of n ds)

abbrev pub behind : ℕ → Declarations → Declarations
behind zero ds = ds
behind (suc n) Done = Done
behind (suc n) (Then d ds) = behind n ds

-- an instance type takes in that many of the declarations after it
abbrev pub defined : TypeDef → Declarations → Declarations
defined (defs.Instance n) rest = Then (AnInstanceType (first_of n rest)) (behind n rest)
defined d rest = Then (ATypeDef d) rest

abbrev pub grouped : List TypeItem → Declarations
grouped [] = Done
grouped (items.Define d ∷ rest) = defined d (grouped rest)
grouped (items.Alias a ∷ rest) = Then (ATypeAlias a) (grouped rest)
grouped (items.Export name desc ∷ rest) = Then (ATypeExport name desc) (grouped rest)
