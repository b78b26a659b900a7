-- The table in the notation of WIT.
use Rattle.std.specs.Prelude.{◌≡◌, ℕ, [], IsTrue}
use Rattle.wit_types.specs.Plain.{Name}
use Rattle.wasi_table.specs.Texts.{table_of}
use Rattle.wasi_table.specs.Known.{are_known}
use Rattle.wasi_table.specs.Wit.{table_text, name_at}
use Rattle.wasi_listed.specs.declared.io_table.TheConstants.{TABLE}
use Rattle.wasi_listed.specs.declared.io_wit.TheConstants.{WIT}

-- the name of an interface by its number
abbrev pub name_of : ℕ → Name
name_of number = name_at (table_of TABLE.now) number

-- the table says what the text says
unfoldable pub IsWit : Type 0
IsWit = table_text name_of 0 [] (table_of TABLE.now) ≡ WIT.now

-- and each of its words is known
unfoldable pub IsKnown : Type 0
IsKnown = IsTrue (are_known 0 [] (table_of TABLE.now))
