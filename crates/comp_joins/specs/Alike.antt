-- What is given in another way: what is found by each name is the same, in another order or with more beside it. (This project's own.)
use Rattle.std.specs.Prelude.{◌≡◌, ℕ, zero, suc, List, [], ◌∷◌, Option, Some, None, slice_get}
use Rattle.wit_types.specs.Plain.{Name}
use Rattle.comp_types.specs.Items.{Item, Entries, InstanceItem, End as NoEntries, More as Entry}
use Rattle.comp_worlds.specs.Groups.{Begins}
use Rattle.comp_link.specs.Plans.{Plan, Planned, End, Then, OfComponent, ItemOf, Imports, Exports}
use Rattle.comp_link.specs.Linking.{Given, Givens, GivenFunc, GivenInstance, GivenResource, GivenType, find, item_in, Making, begun, and_stage, given_at, givens_of, link_item, link}

-- as far as that many names lead; where nothing is found, the other may find what `Beyond` says
abbrev pub AlikeTo : (Option Given → Type 0) → ℕ → Option Given → Option Given → Type 0
AlikeTo Beyond zero o o' = Unit {0}
AlikeTo Beyond (suc d) None o' = Beyond o'
AlikeTo Beyond (suc d) (Some (GivenFunc target)) o' = o' ≡ Some (GivenFunc target)
AlikeTo Beyond (suc d) (Some (GivenInstance items)) o' = (items' : Givens) × (o' ≡ Some (GivenInstance items')) × ((name : Name) → AlikeTo Beyond d (find name items) (find name items'))
AlikeTo Beyond (suc d) (Some (GivenResource r)) o' = o' ≡ Some (GivenResource r)
AlikeTo Beyond (suc d) (Some GivenType) o' = o' ≡ Some GivenType

abbrev pub AlikeItem : (Option Given → Type 0) → Option Given → Option Given → Type 0
AlikeItem Beyond o o' = (d : ℕ) → AlikeTo Beyond d o o'

abbrev pub AlikeBut : (Option Given → Type 0) → Givens → Givens → Type 0
AlikeBut Beyond gs gs' = (name : Name) → AlikeItem Beyond (find name gs) (find name gs')

-- nothing beyond, or anything
abbrev pub IsNothing : Option Given → Type 0
IsNothing o = o ≡ None

abbrev pub IsAny : Option Given → Type 0
IsAny o = Unit {0}

-- the same is found by each name
abbrev pub Alike : Givens → Givens → Type 0
Alike = AlikeBut IsNothing

-- What is found in the first is found in the second, and so in each instance of it; the second may have more, as the instance of a
-- subtype has (Component Model, Explainer.md, "Instance and Component Definitions": an argument may have more exports than asked for).
abbrev pub IsAmong : Givens → Givens → Type 0
IsAmong = AlikeBut IsAny

abbrev pub AllAlike : (Option Given → Type 0) → List Givens → List Givens → Type 0
AllAlike Beyond [] [] = Unit {0}
AllAlike Beyond (gs ∷ list) (gs' ∷ list') = AlikeBut Beyond gs gs' × AllAlike Beyond list list'
AllAlike Beyond _ _ = ⊥

-- a making where what is given, what instances export and what is exported are others
abbrev pub regiven : Making → Givens → List Givens → Givens → Making
regiven m given instances exports = record m { given = given; instances = instances; exports = exports }

-- the second exports no further names itself
abbrev pub SameNames : Givens → Givens → Type 0
SameNames gs gs' = (name : Name) → find name gs ≡ None → find name gs' ≡ None

pub record MadeAlike (Beyond : Option Given → Type 0) (m m' : Making) : Type 0 where
  pub is : m' ≡ regiven m m'.given m'.instances m'.exports
  pub given : AlikeBut Beyond m.given m'.given
  pub instances : AllAlike Beyond m.instances m'.instances
  pub exports : AlikeBut Beyond m.exports m'.exports
  pub names : SameNames m.exports m'.exports

-- ---- what a plan looks up

-- each item that the type names in an instance, and so in instances of it, is such as `Found` says
abbrev mutual
  pub FindsIn : (Option Given → Type 0) → Option Given → Item → Type 0
  FindsIn Found (Some (GivenInstance items)) (InstanceItem entries) = FindsAll Found items entries
  FindsIn Found o item = Unit {0}

  pub FindsAll : (Option Given → Type 0) → Givens → Entries → Type 0
  FindsAll Found items NoEntries = Unit {0}
  FindsAll Found items (Entry name item rest) = (Found (find name items) × FindsIn Found (find name items) item) × FindsAll Found items rest

-- and the item itself
abbrev pub Finds : (Option Given → Type 0) → Option Given → Item → Type 0
Finds Found o item = Found o × FindsIn Found o item

abbrev pub FindsIf : (Option Given → Type 0) → Option Given → Option Item → Type 0
FindsIf Found o None = Unit {0}
FindsIf Found o (Some item) = Finds Found o item

-- imports, what is taken out of instances, and what the types of exports name; in components in the component too
abbrev mutual
  pub ItemFinds : (Option Given → Type 0) → Planned → Making → Type 0
  ItemFinds Found (OfComponent component own args) m = PlanFinds Found component (begun (and_stage m.whole Begins) (givens_of m args))
  ItemFinds Found (ItemOf sort instance name) m = Found (item_in (slice_get m.instances instance) name)
  ItemFinds Found (Imports name item) m = Finds Found (find name m.given) item
  ItemFinds Found (Exports name item stated) m = FindsIf Found (given_at m item) stated
  ItemFinds Found item m = Unit {0}

  pub PlanFinds : (Option Given → Type 0) → Plan → Making → Type 0
  PlanFinds Found End m = Unit {0}
  PlanFinds Found (Then item rest) m = ItemFinds Found item m × PlanFinds Found rest (link_item item m)

abbrev pub IsThere : Option Given → Type 0
IsThere None = ⊥
IsThere (Some item) = Unit {0}

-- ---- what a plan makes depends on what is found in what it is given, and on no order

abbrev pub LinkedAlike : Type 0
LinkedAlike = (plan : Plan) (m m' : Making) → MadeAlike IsNothing m m' → MadeAlike IsNothing (link plan m) (link plan m')

-- nor on what is given beside what it looks up
abbrev pub LinkedAmong : Type 0
LinkedAmong = (plan : Plan) (m m' : Making) → MadeAlike IsAny m m' → PlanFinds IsThere plan m → MadeAlike IsAny (link plan m) (link plan m')
