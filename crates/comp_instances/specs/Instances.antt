-- The instance that a component makes.
use Rattle.std.specs.Prelude.{◌≡◌, ◌+◌, ◌++◌, ℕ, Option, Some, None, length}
use Rattle.comp_types.specs.Items.{Entries, End}
use Rattle.comp_types.specs.Spaces.{Space, NestedComponent}
use Rattle.comp_types.specs.GivenResources.{given_by, numbered, renamed}
use Rattle.type_table.specs.Tables.{Types, Grew, HasEntries}
use Rattle.comp_instances.specs.declared.made.Made.{Made}

-- the exports of the component with what the arguments give for the resources of its imports, and its own resources new
pub record IsMade (c : NestedComponent) (args : Entries) (first : ℕ) (made : Made) : Type 0 where
  pub exports : made.instance.value.entries ≡ renamed (given_by args c.signature.imports ++ numbered c.own first) c.signature.exports
  pub next : made.next ≡ first + length c.own

-- the table has its types
pub record IsKept (old new : Types) (made : Made) : Type 0 where
  pub grew : Grew old new
  pub has : HasEntries new made.instance.value.entries

-- an instance without exports where the component is not there
abbrev pub IsMadeAt : Space → Option NestedComponent → Entries → Made → Type 0
IsMadeAt s None args made = (made.instance.value.entries ≡ End) × (made.next ≡ s.next)
IsMadeAt s (Some c) args made = IsMade c args s.next made
