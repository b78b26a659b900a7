-- What a component's instance exports is what its type says, name by name, in order, each of its sort, and each function of its type.
-- (This project's own.)
use Rattle.std.specs.Prelude.{◌≡◌, ℕ, List, [], Bool, true, false, Some}
use Rattle.wit_types.specs.Plain.{Name, Parts, PlainFunc, End as NoParts, More as Part, Bare}
use Rattle.comp_types.specs.Items.{Item, Entries, FuncItem, InstanceItem, KindItem, End, More, same_name, look_up}
use Rattle.comp_types.specs.Substitution.{value_with, answer_with}
use Rattle.comp_grammar.specs.Trees.{Tree}
use Rattle.comp_grammar.specs.Components.{SpellsComponent}
use Rattle.comp_types.specs.Rules.{is_resource}
use Rattle.comp_types.specs.Added.{type_of}
use Rattle.comp_types.specs.Validity.{IsValidComponent}
use Rattle.comp_worlds.specs.Groups.{type_of as type_of_target}
use Rattle.comp_link.specs.Linking.{Given, Givens, GivenFunc, GivenInstance, GivenResource, GivenType, Nothing, Giving, linked}
use Rattle.comp_link.specs.Sections.{DefinesTypes}

-- the one where it is true, and else the other
abbrev pub Either : Bool → Type 0 → Type 0 → Type 0
Either true A B = A
Either false A B = B

-- Function types are equal whatever the names of parameters are; and resources have other numbers where a function stands.
abbrev pub no_number : ℕ → ℕ
no_number r = 0

abbrev pub nameless : Parts → Parts
nameless NoParts = NoParts
nameless (Part name ty rest) = Part [] (value_with no_number ty) (nameless rest)
nameless (Bare name rest) = Bare [] (nameless rest)

-- the types of what passes
abbrev pub passing : PlainFunc → PlainFunc
passing ty = record { params = nameless ty.params; answer = answer_with no_number ty.answer }

abbrev mutual
  -- It is of the item's sort, and a function of its type. An instance has each entry of its type under its name, and may have more.
  pub IsOf : Given → Item → Type 0
  IsOf (GivenFunc target) (FuncItem ty) = passing (type_of_target target) ≡ passing ty
  IsOf (GivenInstance items) (InstanceItem entries) = (name : Name) (item : Item) → look_up name entries ≡ Some item → Finds items name item
  IsOf (GivenResource r) (KindItem kind) = is_resource kind ≡ true
  IsOf GivenType (KindItem kind) = is_resource kind ≡ false
  IsOf _ _ = ⊥

  -- what is first of this name is of the item's sort
  pub Finds : Givens → Name → Item → Type 0
  Finds Nothing name item = ⊥
  Finds (Giving n given rest) name item = Either (same_name n name) (IsOf given item) (Finds rest name item)

abbrev pub AreExportsOf : Entries → Givens → Type 0
AreExportsOf End Nothing = Unit {0}
AreExportsOf (More name item entries) (Giving n given rest) = (n ≡ name) × IsOf given item × AreExportsOf entries rest
AreExportsOf _ _ = ⊥

-- ---- the laws

-- of each valid component
abbrev pub ExportsAreLinked : Type 0
ExportsAreLinked = (c : Tree) → IsValidComponent c → DefinesTypes c → AreExportsOf (type_of c).exports (linked c).exports

-- of each component that bytes spell
abbrev pub SpelledDefine : Type 0
SpelledDefine = (c : Tree) (bytes : List ℕ) → SpellsComponent c bytes → DefinesTypes c
