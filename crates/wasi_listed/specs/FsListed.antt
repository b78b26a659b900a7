-- The listed interfaces of wasi:filesystem: what their table says, over what those of wasi:io, wasi:cli, wasi:clocks and
-- wasi:random define.
use Rattle.std.specs.Prelude.{ℕ, Option}
use Rattle.wit_types.specs.Plain.{Name}
use Rattle.wasi_table.specs.Plain.{PlainInterface}
use Rattle.wasi_table.specs.Texts.{table_of}
use Rattle.wasi_table.specs.Tables.{described as described_by, numbered as numbered_by}
use Rattle.wasi_listed.specs.IoListed.{known_types}
use Rattle.wasi_listed.specs.declared.fs.TheConstants.{FIRST}
use Rattle.wasi_listed.specs.declared.fs_table.TheConstants.{TABLE}

-- the number of the interface with a name
unfoldable pub numbered : Name → Option ℕ
numbered name = numbered_by FIRST (table_of TABLE.now) name

-- the interface with a number
unfoldable pub described : ℕ → PlainInterface
described number = described_by known_types FIRST (table_of TABLE.now) number
