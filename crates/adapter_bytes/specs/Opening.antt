-- What the adapter's memory holds at first.
use Rattle.std.specs.Prelude.{◌≡◌, ◌⊎◌, ℕ, ◌+◌, ◌*◌, ◌<◌, ◌≤◌, List, length, take, drop, slice_index_or, Some}
use Rattle.core_memory.specs.Linear.{Linear, size}
use Rattle.adapter_code.specs.declared.layout.Layout.{Layout}
use Rattle.adapter_code.specs.Layout.{table_at, image_at, end_of, pages_of}
use Rattle.table_bytes.specs.Table.{IsTable}

-- as many pages as the parts of the layout need, and no more may come; the static data in its place, and every other byte 0;
-- so that each kind's table has all its places free
pub record Opens (l : Layout) (image : List ℕ) (m : Linear) : Type 0 where
  pub pages : size m ≡ pages_of l
  pub most : m.max ≡ Some (pages_of l)
  pub long : length m.bytes ≡ 65536 * pages_of l
  pub holds : end_of l ≤ length m.bytes
  pub static : take (length image) (drop (image_at l) m.bytes) ≡ image
  pub others : (i : ℕ) → (i < image_at l) ⊎ (image_at l + length image ≤ i) → slice_index_or m.bytes i 0 ≡ 0
  pub tables : (kind : ℕ) → kind < 14 → IsTable m.bytes (table_at l kind) l.slots l.slots
