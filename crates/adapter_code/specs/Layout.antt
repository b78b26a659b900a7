-- How the adapter's memory is cut.
use Rattle.std.specs.Prelude.{ℕ, ◌+◌, ◌*◌, ◌/◌, ◌≤◌}
use Rattle.adapter_code.specs.declared.layout.Layout.{Layout}

-- the next multiple of 8
abbrev pub padded : ℕ → ℕ
padded n = (n + 7) / 8 * 8

-- the part for the flat arguments and results of host calls
abbrev pub calls_len : ℕ
calls_len = 256

-- one kind's slot table: eight bytes, and then sixteen for each place
abbrev pub table_len : ℕ → ℕ
table_len slots = 8 + 16 * slots

-- where the slot table of a kind begins, the static data, the spare bytes and the transfer area, and where that ends
abbrev pub table_at : Layout → ℕ → ℕ
table_at l kind = calls_len + kind * table_len l.slots

abbrev pub image_at : Layout → ℕ
image_at l = calls_len + 14 * table_len l.slots

abbrev pub spare_at : Layout → ℕ
spare_at l = image_at l + padded l.image_len

abbrev pub transfer_at : Layout → ℕ
transfer_at l = spare_at l + padded l.spare

abbrev pub end_of : Layout → ℕ
end_of l = transfer_at l + l.transfer

-- the parts together fit 4,096 pages
abbrev pub Fits : Layout → Type 0
Fits l = end_of l ≤ 268435456

-- the fewest pages that hold the parts
abbrev pub pages_of : Layout → ℕ
pages_of l = (end_of l + 65535) / 65536
