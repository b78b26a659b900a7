-- What is kept of a description.
use Rattle.std.specs.Prelude.{◌≡◌, ◌+◌, ℕ, List, length}
use Rattle.wasm_ast.specs.declared.component.ExternDesc.{ExternDesc}
use Rattle.comp_types.specs.Items.{Entries, InstanceItem}
use Rattle.comp_types.specs.Views.{item_of}
use Rattle.comp_types.specs.Spaces.{Space}
use Rattle.comp_types.specs.GivenResources.{numbered, renamed}
use Rattle.comp_types.specs.Added.{described, brought, new_numbers}
use Rattle.type_table.specs.Tables.{Types, Grew, HasItem, HasEntries}
use Rattle.comp_instances.specs.declared.descriptions.Described.{Described}

pub record IsDescribed (s : Space) (desc : ExternDesc) (d : Described) : Type 0 where
  pub item : item_of d.item ≡ described s desc
  pub numbers : d.numbers ≡ new_numbers (brought s desc)
  pub next : d.next ≡ s.next + length (brought s desc)

-- an instance of this type, for whose resources the numbers from the next one on stand
pub record IsNewInstance (ty : List ℕ × Entries) (first : ℕ) (d : Described) : Type 0 where
  pub item : item_of d.item ≡ InstanceItem (renamed (numbered ty.0 first) ty.1)
  pub numbers : d.numbers ≡ new_numbers (numbered ty.0 first)
  pub next : d.next ≡ first + length (numbered ty.0 first)

-- ---- with a table of value types, which only grew

pub record Describes (old new : Types) (s : Space) (desc : ExternDesc) (d : Described) : Type 0 where
  pub is : IsDescribed s desc d
  pub grew : Grew old new
  pub has : HasItem new (described s desc)

pub record MakesInstance (old new : Types) (ty : List ℕ × Entries) (first : ℕ) (d : Described) : Type 0 where
  pub made : IsNewInstance ty first d
  pub grew : Grew old new
  pub has : HasEntries new (renamed (numbered ty.0 first) ty.1)
