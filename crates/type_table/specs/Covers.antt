-- A table has each value type that stands in the index spaces of a component, or of an instance type.
use Rattle.std.specs.Prelude.{List, [], ◌∷◌, All, ⊤, Option, Some, None}
use Rattle.comp_types.specs.Items.{Item}
use Rattle.comp_types.specs.Spaces.{Space, TypeEntry, NestedComponent}
use Rattle.type_table.specs.Tables.{Types, IsSound, HasFunc, HasItem, HasKind, HasEntries}

pub record HasNested (table : Types) (c : NestedComponent) : Type 0 where
  pub imports : HasEntries table c.signature.imports
  pub exports : HasEntries table c.signature.exports

pub record Covers (table : Types) (s : Space) : Type 0 where
  pub sound : IsSound table
  pub functions : All (HasFunc table) s.functions
  pub types : All (λ (e : TypeEntry). HasKind table e.kind) s.types
  pub instances : All (HasEntries table) s.instances
  pub components : All (HasNested table) s.components
  pub imports : HasEntries table s.imports
  pub exports : HasEntries table s.exports

-- of a definition's space and of those around it
abbrev pub CoversEach : Types → List Space → Type 0
CoversEach types [] = ⊤
CoversEach types (s ∷ around) = Covers types s × CoversEach types around

-- an item, if it is there
abbrev pub HasSome : Types → Option Item → Type 0
HasSome types None = ⊤
HasSome types (Some item) = HasItem types item
