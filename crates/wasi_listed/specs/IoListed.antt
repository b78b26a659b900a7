-- The listed interfaces of wasi:io, wasi:cli, wasi:clocks and wasi:random: what their table says.
use Rattle.std.specs.Prelude.{ℕ, List, [], Option}
use Rattle.wit_types.specs.Plain.{Name}
use Rattle.wasi_table.specs.Plain.{PlainKnown, PlainInterface}
use Rattle.wasi_table.specs.Texts.{table_of}
use Rattle.wasi_table.specs.Tables.{declared_all, described as described_by, numbered as numbered_by}
use Rattle.wasi_listed.specs.declared.io_table.TheConstants.{TABLE}

-- the number of the interface with a name
unfoldable pub numbered : Name → Option ℕ
numbered name = numbered_by 0 (table_of TABLE.now) name

-- the interface with a number
unfoldable pub described : ℕ → PlainInterface
described number = described_by [] 0 (table_of TABLE.now) number

-- what the names of types stand for
unfoldable pub known_types : List PlainKnown
known_types = declared_all 0 [] (table_of TABLE.now)
