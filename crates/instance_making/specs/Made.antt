-- For what instances that are made stand: `made` are the exports of each, by its number.
use Rattle.std.specs.Prelude.{◌≡◌, ℕ, List, [], ◌∷◌, ◌++◌, Option, Some, None, slice_get}
use Rattle.wit_types.specs.Plain.{Name}
use Rattle.comp_link.specs.Linking.{Given as GroupGiven, Givens as GroupGivens, GivenFunc, GivenInstance, GivenResource, GivenType, find}
use Rattle.instance_state.specs.Targets.{target_of}
use Rattle.instance_making.specs.declared.named.Named.{Named}
use Rattle.instance_making.specs.declared.given.Given.{Given}
use Rattle.instance_making.specs.declared.given.Given.TheVariants.{Func, Instance, Resource, «Type»}
use Rattle.instance_making.specs.Named.{found}

-- an instance of this number exports these items
abbrev pub IsInstance : List GroupGivens → ℕ → GroupGivens → Type 0
IsInstance made number items = slice_get made number ≡ Some items

abbrev pub IsGiven : List GroupGivens → Given → GroupGiven → Type 0
IsGiven made (Func target) g = GivenFunc (target_of target) ≡ g
IsGiven made (Instance number) g = (items : GroupGivens) × (slice_get made number ≡ Some items) × (GivenInstance items ≡ g)
IsGiven made (Resource resource) g = GivenResource resource ≡ g
IsGiven made «Type» g = GivenType ≡ g

abbrev pub IsSame : List GroupGivens → Option Given → Option GroupGiven → Type 0
IsSame made None None = Unit {0}
IsSame made (Some item) (Some g) = IsGiven made item g
IsSame made None (Some g) = ⊥
IsSame made (Some item) None = ⊥

-- under each name stands what is found there
abbrev pub Holds : List GroupGivens → Named Given → GroupGivens → Type 0
Holds made items givens = (name : Name) → IsSame made (found items name) (find name givens)

-- each instance of a list holds its exports
abbrev pub EachHolds : List GroupGivens → List (Named Given) → List GroupGivens → Type 0
EachHolds made [] [] = Unit {0}
EachHolds made (i ∷ is) (g ∷ gs) = Holds made i g × EachHolds made is gs
EachHolds made [] (g ∷ gs) = ⊥
EachHolds made (i ∷ is) [] = ⊥

-- the instances that were made are these
abbrev pub AreMade : List (Named Given) → List GroupGivens → Type 0
AreMade instances made = EachHolds made instances made

-- there may be more instances than before, and of all of them this holds
pub record AndMore (before : List GroupGivens) (instances : List (Named Given)) (P : List GroupGivens → Type 0) : Type 0 where
  pub more : List GroupGivens
  pub made : AreMade instances (before ++ more)
  pub holds : P (before ++ more)
