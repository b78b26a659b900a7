-- What holds of each resource, and of each function, that stands in a component as it is made. (This project's own.)
use Rattle.std.specs.Prelude.{ℕ, List, [], ◌∷◌, Option, Some, None}
use Rattle.comp_worlds.specs.Groups.{Target, Func, LoweredFunc, ResourceNew, ResourceDrop, ResourceRep}
use Rattle.comp_link.specs.Linking.{Given, Givens, GivenFunc, GivenInstance, GivenResource, GivenType, Nothing, Giving, Placed, Making}

-- P of resources, by their numbers in the group, and T of what is called
module _ (P : ℕ → Type 0) (T : Target → Type 0) where
  abbrev mutual
    pub ItemHolds : Given → Type 0
    ItemHolds (GivenFunc target) = T target
    ItemHolds (GivenInstance items) = AllHold items
    ItemHolds (GivenResource r) = P r
    ItemHolds GivenType = Unit {0}

    pub AllHold : Givens → Type 0
    AllHold Nothing = Unit {0}
    AllHold (Giving name item rest) = ItemHolds item × AllHold rest

  abbrev pub SomeHolds : Option Given → Type 0
  SomeHolds None = Unit {0}
  SomeHolds (Some item) = ItemHolds item

  abbrev pub ListHolds : List Givens → Type 0
  ListHolds [] = Unit {0}
  ListHolds (gs ∷ list) = AllHold gs × ListHolds list

  abbrev pub PairsHold : List (ℕ × ℕ) → Type 0
  PairsHold [] = Unit {0}
  PairsHold (p ∷ pairs) = P p.1 × PairsHold pairs

  abbrev pub CanonHolds : Func → Type 0
  CanonHolds (ResourceDrop r) = P r
  CanonHolds (ResourceNew r) = P r
  CanonHolds (ResourceRep r) = P r
  CanonHolds (LoweredFunc target options) = T target

  abbrev pub TargetHolds : Option Target → Type 0
  TargetHolds None = Unit {0}
  TargetHolds (Some target) = T target

  abbrev pub FunctionsHold : List (Option Target) → Type 0
  FunctionsHold [] = Unit {0}
  FunctionsHold (f ∷ fs) = TargetHolds f × FunctionsHold fs

  abbrev pub PlacedHold : List Placed → Type 0
  PlacedHold [] = Unit {0}
  PlacedHold (p ∷ ps) = CanonHolds p.canon × PlacedHold ps

  abbrev pub Holds : Making → Type 0
  Holds m = AllHold m.given × ListHolds m.instances × AllHold m.exports × PairsHold m.resources × PlacedHold m.whole.canons × FunctionsHold m.functions
