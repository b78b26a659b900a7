-- Whether a type speaks of resources: of those of others or, where an instance type declares them, of its own.
use Rattle.std.specs.Prelude.{ℕ, List, [], ◌∷◌, Bool, true, false, ◌||◌}
use Rattle.comp_facts.specs.Handles.{has_handle, func_has_handle}
use Rattle.comp_types.specs.Items.{Item, Kind, Entries, FuncItem, InstanceItem, KindItem, ResourceKind, ValueKind, FuncKind, InstanceKind, End, More}

abbrev pub is_some_resource : List ℕ → Bool
is_some_resource [] = false
is_some_resource (r ∷ rs) = true

abbrev mutual
  pub item_has_resource : Item → Bool
  item_has_resource (FuncItem ty) = func_has_handle ty
  item_has_resource (InstanceItem entries) = entries_have_resource entries
  item_has_resource (KindItem kind) = kind_has_resource kind

  pub kind_has_resource : Kind → Bool
  kind_has_resource (ResourceKind _) = true
  kind_has_resource (ValueKind ty) = has_handle ty
  kind_has_resource (FuncKind ty) = func_has_handle ty
  kind_has_resource (InstanceKind own entries) = is_some_resource own || entries_have_resource entries

  pub entries_have_resource : Entries → Bool
  entries_have_resource End = false
  entries_have_resource (More _ item rest) = item_has_resource item || entries_have_resource rest
