-- What canonical functions, owners and stores name, so far as a component is made, is there: calls find what they need.
use Rattle.std.specs.Prelude.{◌≡◌, ◌<◌, ℕ, List, length, Option, Some, None, slice_get}
use Rattle.wasm_ast.specs.declared.module.CoreFunc.{CoreFunc}
use Rattle.core_store.specs.declared.value.StoreFunc.TheVariants.{Outside}
use Rattle.core_store.specs.Scene.{Scene}
use Rattle.comp_worlds.specs.Groups.{Target, Mine, Theirs, type_of, Func, LoweredFunc, ResourceNew, ResourceDrop, ResourceRep, Owner}
use Rattle.comp_link.specs.Linking.{Making}
use Rattle.comp_joins.specs.Holding.{Holds}
use Rattle.call_moments.specs.Fits.{Takes, OptionsFit, LiftingFits, IsProvided}

-- T of each function that may be called from where a component is made
abbrev pub AllCalled : (Target → Type 0) → Making → Type 0
AllCalled T m = Holds (λ r. Unit {0}) T m

module _ (scenes : List Scene) where
  abbrev pub TargetStands : Target → Type 0
  TargetStands (Mine k lifting) = LiftingFits scenes k lifting
  TargetStands (Theirs import) = Unit {0}

  abbrev pub FuncStands : ℕ → Func → Type 0
  FuncStands k (LoweredFunc target options) = TargetStands target × OptionsFit scenes k options (type_of target)
  FuncStands k (ResourceNew r) = Unit {0}
  FuncStands k (ResourceDrop r) = Unit {0}
  FuncStands k (ResourceRep r) = Unit {0}

  abbrev pub OwnerStands : Option Owner → Type 0
  OwnerStands None = Unit {0}
  OwnerStands (Some o) = (o.instance < length scenes) × ((f : ℕ) → o.destructor ≡ Some f → Takes scenes o.instance f 1)

  -- of these canonical functions and owners
  pub record Stands (canons : ℕ → ℕ → Option Func) (owner : ℕ → Option Owner) : Type 0 where
    pub funcs : (k number : ℕ) (f : Func) → canons k number ≡ Some f → FuncStands k f
    pub owners : (r : ℕ) → OwnerStands (owner r)
    pub provided : (k place number : ℕ) (w : Scene) (ty : CoreFunc) → slice_get scenes k ≡ Some w → slice_get w.functions place ≡ Some (Outside ty number) → IsProvided canons k number ty
    pub deepest : (k : ℕ) (w : Scene) → slice_get scenes k ≡ Some w → w.deepest ≡ Some 65536
