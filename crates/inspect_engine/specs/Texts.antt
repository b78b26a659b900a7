-- The words of lines, and the lines.
use Rattle.std.specs.Prelude.{ℕ, Bool, List, [], ◌++◌, length, codes, nat_lt, filter, Option, Some, None, if◌then◌else◌}
use Rattle.std.specs.List.{flat_map}
use Rattle.std.specs.Str.{bytes_eq}
use Rattle.std.specs.Fmt.{decimal}
use Rattle.wit_types.specs.Plain.{Name}
use Rattle.adapter_world.specs.Names.{Named}
use Rattle.inspect_engine.specs.declared.fate.Fate.{Fate}
use Rattle.inspect_engine.specs.declared.fate.Fate.TheVariants.{Asked, Ruled, Refused, Value, Own}
use Rattle.inspect_engine.specs.declared.rows.Row.{Row}
use Rattle.inspect_engine.specs.Rows.{name_in}

-- the key of a policy under which the functions of an interface are decided, by the interface's number: `wasi:io`, whose functions have none
-- and go by their handles; of `wasi:cli` the environment, exit, and streams with terminals; `wasi:clocks`, `wasi:random`,
-- `wasi:filesystem`, `wasi:sockets`
abbrev pub family : ℕ → List ℕ
family interface =
    if nat_lt interface 3 then codes "io"
    else if nat_lt interface 4 then codes "env"
    else if nat_lt interface 5 then codes "exit"
    else if nat_lt interface 13 then codes "stdio"
    else if nat_lt interface 15 then codes "clocks"
    else if nat_lt interface 18 then codes "random"
    else if nat_lt interface 20 then codes "fs"
    else codes "sockets"

abbrev pub fate_word : Fate → List ℕ
fate_word Asked = codes "asked"
fate_word Ruled = codes "ruled"
fate_word Refused = codes "refused"
fate_word Value = codes "value"
fate_word Own = codes "own"

abbrev pub word_of : Option Fate → List ℕ
word_of None = []
word_of (Some fate) = fate_word fate

-- ---- lines

-- a function by its name and its family, with its fate where there is a policy
abbrev pub row_text : List ℕ → List ℕ → Option Fate → List ℕ
row_text name family None = codes "import " ++ (name ++ (codes " " ++ (family ++ codes "\n")))
row_text name family (Some fate) = codes "import " ++ (name ++ (codes " " ++ (family ++ (codes " " ++ (fate_word fate ++ codes "\n")))))

abbrev pub row_line : Row → List ℕ
row_line row = row_text row.name (family row.interface) row.fate

abbrev pub rows_text : List Row → List ℕ
rows_text rows = flat_map row_line rows

-- what an output imports under a name
abbrev pub output_line : Name → Name → List ℕ
output_line import name = codes "output " ++ (name_in import name ++ codes "\n")

abbrev pub names_text : Name → List Name → List ℕ
names_text import names = flat_map (output_line import) names

abbrev pub import_text : Named → List ℕ
import_text named = names_text named.0 named.1

abbrev pub imports_text : List Named → List ℕ
imports_text imports = flat_map import_text imports

-- how many rows have this word
abbrev pub has_word : List ℕ → Row → Bool
has_word word row = bytes_eq (word_of row.fate) word

abbrev pub count : List ℕ → List Row → ℕ
count word rows = length (filter (has_word word) rows)

-- the last line, without a policy and with one
abbrev pub count_line : List Row → List ℕ
count_line rows = codes "functions: " ++ (decimal (length rows) ++ codes " imported\n")

abbrev pub fates_text : List Row → List ℕ
fates_text rows = decimal (count (codes "asked") rows) ++ (codes " asked, " ++ (decimal (count (codes "ruled") rows) ++ (codes " ruled, "
    ++ (decimal (count (codes "refused") rows) ++ (codes " refused, " ++ (decimal (count (codes "value") rows) ++ (codes " value, "
    ++ (decimal (count (codes "own") rows) ++ codes " own"))))))))

abbrev pub counts_line : List Row → List ℕ
counts_line rows = codes "functions: " ++ (decimal (length rows) ++ (codes " imported, " ++ (fates_text rows ++ codes "\n")))
