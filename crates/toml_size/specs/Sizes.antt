-- How many bytes the keys and strings of a document have together.
use Rattle.std.specs.Prelude.{◌≡◌, ℕ, ◌+◌, ◌≤◌, List, Some, length}
use Rattle.toml.specs.Data.{Data, string, array, table, Items, no_items, item, Members, no_members, member}
use Rattle.toml.specs.Parse.{parse_document}

abbrev mutual
  pub data_size : Data → ℕ
  data_size (string text) = length text
  data_size (array ds) = items_size ds
  data_size (table ms) = members_size ms
  data_size _ = 0

  pub items_size : Items → ℕ
  items_size no_items = 0
  items_size (item d ds) = data_size d + items_size ds

  pub members_size : Members → ℕ
  members_size no_members = 0
  members_size (member key d ms) = length key + (data_size d + members_size ms)

-- the keys and strings of a document are together no longer than its text
abbrev pub DocumentsAreNoLonger : Type 0
DocumentsAreNoLonger = (text : List ℕ) (ms : Members) → parse_document text ≡ Some ms → members_size ms ≤ length text
