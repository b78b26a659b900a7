-- The types of what components import and export, as trees (Component Model, Explainer.md, "Type Definitions"). Value types are
-- those of `plain`, and resources are numbers.
use Rattle.std.specs.Prelude.{ℕ, List, [], ◌∷◌, Bool, nat_eq, if◌then◌else◌, Option as Opt, Some, None}
use Rattle.std.specs.Cmp.Lexicographic.{pointwise}
use Rattle.wit_types.specs.Plain.{Name, Plain, PlainFunc}

mutual
  -- an import, an export, or an entry of an instance
  pub data Item : Type 0 where
    FuncItem : (ty : PlainFunc) → Item
    InstanceItem : (entries : Entries) → Item
    KindItem : (kind : Kind) → Item

  -- an entry of sort type
  pub data Kind : Type 0 where
    ResourceKind : (resource : ℕ) → Kind
    ValueKind : (ty : Plain) → Kind
    FuncKind : (ty : PlainFunc) → Kind
    -- an instance type, and the resources that it declares itself: they stand for no resource yet, each time for another one
    InstanceKind : (own : List ℕ) → (entries : Entries) → Kind

  -- named entries in written order
  pub data Entries : Type 0 where
    End : Entries
    More : (name : Name) → (item : Item) → (rest : Entries) → Entries

-- the type of a component
pub record Signature : Type 0 where
  pub imports : Entries
  pub exports : Entries

abbrev pub same_name : Name → Name → Bool
same_name = pointwise nat_eq

-- the first entry of that name
abbrev pub look_up : Name → Entries → Opt Item
look_up name End = None
look_up name (More n item rest) = if same_name n name then Some item else look_up name rest

abbrev pub names : Entries → List Name
names End = []
names (More name _ rest) = name ∷ names rest

-- one more after the others
abbrev pub and_entry : Entries → Name → Item → Entries
and_entry End name item = More name item End
and_entry (More n i rest) name item = More n i (and_entry rest name item)
