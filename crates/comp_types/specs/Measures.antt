-- How large a type is when it is written out, and how deep: limits of this product's own are put on both. A resource is one part;
-- a function and an instance have one part more than their parts together, and are one deeper than the deepest of them.
use Rattle.std.specs.Prelude.{ℕ, ◌+◌, max}
use Rattle.wit_types.specs.Limits.{parts, depth}
use Rattle.comp_facts.specs.Measures.{func_parts, func_depth}
use Rattle.comp_types.specs.Items.{Item, Kind, Entries, FuncItem, InstanceItem, KindItem, ResourceKind, ValueKind, FuncKind, InstanceKind, End, More}

abbrev mutual
  pub item_parts : Item → ℕ
  item_parts (FuncItem ty) = func_parts ty
  item_parts (InstanceItem entries) = entries_parts entries + 1
  item_parts (KindItem kind) = kind_parts kind

  pub kind_parts : Kind → ℕ
  kind_parts (ResourceKind _) = 1
  kind_parts (ValueKind ty) = parts ty
  kind_parts (FuncKind ty) = func_parts ty
  kind_parts (InstanceKind _ entries) = entries_parts entries + 1

  pub entries_parts : Entries → ℕ
  entries_parts End = 0
  entries_parts (More _ item rest) = item_parts item + entries_parts rest

abbrev mutual
  pub item_depth : Item → ℕ
  item_depth (FuncItem ty) = func_depth ty
  item_depth (InstanceItem entries) = entries_depth entries + 1
  item_depth (KindItem kind) = kind_depth kind

  pub kind_depth : Kind → ℕ
  kind_depth (ResourceKind _) = 1
  kind_depth (ValueKind ty) = depth ty
  kind_depth (FuncKind ty) = func_depth ty
  kind_depth (InstanceKind _ entries) = entries_depth entries + 1

  pub entries_depth : Entries → ℕ
  entries_depth End = 0
  entries_depth (More _ item rest) = max (item_depth item) (entries_depth rest)
