-- What a component asks of its outside stands in its type. (This project's own.)
use Rattle.std.specs.Prelude.{◌≡◌, ◌⊎◌, ℕ, [], None}
use Rattle.wit_types.specs.Plain.{Name}
use Rattle.comp_grammar.specs.Trees.{Tree}
use Rattle.comp_types.specs.Items.{Item, Entries, FuncItem, InstanceItem, KindItem, End, More}
use Rattle.comp_types.specs.Validity.{IsValidComponent}
use Rattle.comp_worlds.specs.Groups.{Import}
use Rattle.comp_worlds.specs.Parts.{IsImportOf, DropsSome}
use Rattle.comp_link.specs.Linking.{group_of}
use Rattle.comp_link.specs.Sections.{DefinesTypes}
use Rattle.comp_joins.specs.Joining.{imports_of, IsKnown, known_by}

-- the import is this function, or one of an instance, by the name of the innermost instance that it stands in
abbrev mutual
  pub IsFunction : (interface name : Name) → Item → Import → Type 0
  IsFunction interface name (FuncItem ty) f = record { interface = interface; function = name; ty = ty } ≡ f
  IsFunction interface name (InstanceItem entries) f = IsEntry name entries f
  IsFunction interface name (KindItem kind) f = ⊥

  pub IsEntry : (interface : Name) → Entries → Import → Type 0
  IsEntry interface End f = ⊥
  IsEntry interface (More name item rest) f = IsFunction interface name item f ⊎ IsEntry interface rest f

-- Each import of its group is an entry of its type, with its type.
abbrev pub ValidAskEntries : Type 0
ValidAskEntries = (c : Tree) → IsValidComponent c → DefinesTypes c → (f : Import) → IsImportOf (group_of c) f → IsEntry [] (imports_of c) f

-- What it drops and does not define is a resource of its imports.
abbrev pub ValidDropImported : Type 0
ValidDropImported = (c : Tree) → IsValidComponent c → DefinesTypes c → (r : ℕ) → DropsSome (group_of c) r → (group_of c).owner r ≡ None → IsKnown (known_by c) r
