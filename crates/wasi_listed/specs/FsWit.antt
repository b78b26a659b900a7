-- The table in the notation of WIT.
use Rattle.std.specs.Prelude.{◌≡◌, ◌-◌, ℕ, IsTrue, if◌then◌else◌, nat_lt}
use Rattle.wit_types.specs.Plain.{Name}
use Rattle.wasi_table.specs.Texts.{table_of}
use Rattle.wasi_table.specs.Known.{are_known}
use Rattle.wasi_table.specs.Wit.{table_text, name_at}
use Rattle.wasi_listed.specs.IoListed.{known_types}
use Rattle.wasi_listed.specs.IoWit.{name_of as name_before}
use Rattle.wasi_listed.specs.declared.fs.TheConstants.{FIRST}
use Rattle.wasi_listed.specs.declared.fs_table.TheConstants.{TABLE}
use Rattle.wasi_listed.specs.declared.fs_wit.TheConstants.{WIT}

-- the name of an interface by its number
abbrev pub name_of : ℕ → Name
name_of number = if nat_lt number FIRST then name_before number else name_at (table_of TABLE.now) (number - FIRST)

-- the table says what the text says
unfoldable pub IsWit : Type 0
IsWit = table_text name_of FIRST known_types (table_of TABLE.now) ≡ WIT.now

-- and each of its words is known
unfoldable pub IsKnown : Type 0
IsKnown = IsTrue (are_known FIRST known_types (table_of TABLE.now))
