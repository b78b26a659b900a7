-- How many names, items and types stand in entries: more than in any of the entries in them.
use Rattle.std.specs.Prelude.{ℕ, ◌+◌}
use Rattle.comp_types.specs.Items.{Item, Kind, Entries, FuncItem, InstanceItem, KindItem, InstanceKind, End, More}

abbrev mutual
  pub item_size : Item → ℕ
  item_size (FuncItem _) = 1
  item_size (InstanceItem entries) = entries_size entries + 2
  item_size (KindItem kind) = kind_size kind + 1

  pub kind_size : Kind → ℕ
  kind_size (InstanceKind _ entries) = entries_size entries + 3
  kind_size _ = 1

  pub entries_size : Entries → ℕ
  entries_size End = 0
  entries_size (More _ item rest) = item_size item + entries_size rest + 1
