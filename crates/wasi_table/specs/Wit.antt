-- A table in the notation of WIT (Component Model, WIT.md). An interface has its package in front of its name, a
-- parameter stands without a name, and an item is a line.
use Rattle.std.specs.Prelude.{ℕ, zero, suc, ◌+◌, List, [], ◌∷◌, ◌++◌, map, take, drop, Option, Some, None, codes, if◌then◌else◌}
use Rattle.std.specs.Str.{bytes_eq}
use Rattle.wit_types.specs.Plain.{Name}
use Rattle.wasi_table.specs.declared.forms.Form.{Form}
use Rattle.wasi_table.specs.declared.forms.Form.TheVariants.{Absent, Bool, U8, U16, U32, U64, Str, List as ListForm, Option as OptionForm, Result, Tuple, Own, Borrow, Arrow}
use Rattle.wasi_table.specs.declared.interface.Use.{Use}
use Rattle.wasi_table.specs.Forms.{form_named}
use Rattle.wasi_table.specs.Plain.{PlainKnown}
use Rattle.wasi_table.specs.Texts.{Line}
use Rattle.wasi_table.specs.Items.{PlainItem, UseOf, AliasOf, RecordOf, VariantOf, FlagsOf, EnumOf, ResourceOf, FunctionOf, item_in}
use Rattle.wasi_table.specs.Types.{declared}
use Rattle.wasi_table.specs.Functions.{behind_arrow}
use Rattle.wasi_table.specs.Tables.{Items, name_in, used_by}

abbrev pub joined : List Name → Name
joined [] = []
joined (x ∷ []) = x
joined (x ∷ y ∷ xs) = x ++ codes ", " ++ joined (y ∷ xs)

abbrev pub angled : Name → List Name → Name
angled head parts = head ++ codes "<" ++ joined parts ++ codes ">"

-- the two payloads of a result
abbrev pub result_of : List Name → Name
result_of (ok ∷ err ∷ []) = if bytes_eq err (codes "_") then (if bytes_eq ok (codes "_") then codes "result" else angled (codes "result") (ok ∷ [])) else angled (codes "result") (ok ∷ err ∷ [])
result_of parts = angled (codes "result") parts

-- a form in front of types
abbrev pub formed : Form → List Name → List Name
formed Absent ts = codes "_" ∷ ts
formed Bool ts = codes "bool" ∷ ts
formed U8 ts = codes "u8" ∷ ts
formed U16 ts = codes "u16" ∷ ts
formed U32 ts = codes "u32" ∷ ts
formed U64 ts = codes "u64" ∷ ts
formed Str ts = codes "string" ∷ ts
formed ListForm ts = angled (codes "list") (take 1 ts) ∷ drop 1 ts
formed OptionForm ts = angled (codes "option") (take 1 ts) ∷ drop 1 ts
formed Result ts = result_of (take 2 ts) ∷ drop 2 ts
formed (Tuple n) ts = angled (codes "tuple") (take n ts) ∷ drop n ts
formed Own ts = angled (codes "own") (take 1 ts) ∷ drop 1 ts
formed Borrow ts = angled (codes "borrow") (take 1 ts) ∷ drop 1 ts
formed Arrow ts = codes "->" ∷ ts

abbrev pub word_as : Option Form → Name → List Name → List Name
word_as None word ts = word ∷ ts
word_as (Some form) word ts = formed form ts

-- the types that words spell
abbrev pub types_in : Line → List Name
types_in [] = []
types_in (w ∷ ws) = word_as (form_named w) w (types_in ws)

abbrev pub type_in : Line → Name
type_in words = joined (types_in words)

abbrev pub before_arrow : Line → Line
before_arrow [] = []
before_arrow (w ∷ ws) = if bytes_eq w (codes "->") then [] else w ∷ before_arrow ws

abbrev pub answer_in : Line → Name
answer_in [] = []
answer_in (w ∷ ws) = codes " -> " ++ type_in (w ∷ ws)

abbrev pub signature_in : Line → Name
signature_in words = codes "func(" ++ type_in (before_arrow words) ++ codes ")" ++ answer_in (behind_arrow words)

abbrev pub field_in : Line → Name
field_in [] = []
field_in (label ∷ words) = label ++ codes ": " ++ type_in words

abbrev pub case_in : Line → Name
case_in [] = []
case_in (label ∷ []) = label
case_in (label ∷ w ∷ ws) = label ++ codes "(" ++ type_in (w ∷ ws) ++ codes ")"

abbrev pub method_in : Line → Name
method_in [] = []
method_in (name ∷ words) = codes "    " ++ name ++ codes ": " ++ signature_in words ++ codes ";" ++ 10 ∷ []

abbrev pub methods_in : List Line → Name
methods_in [] = []
methods_in (line ∷ lines) = method_in line ++ methods_in lines

-- an item of the form `  keyword name`, and what stands after it
abbrev pub headed : Name → Name → Name → Name
headed keyword name rest = codes "  " ++ keyword ++ codes " " ++ name ++ rest ++ 10 ∷ []

abbrev pub braced : List Name → Name
braced parts = codes " { " ++ joined parts ++ codes " }"

abbrev pub resource_in : List Line → Name
resource_in [] = codes ";"
resource_in (line ∷ lines) = codes " {" ++ 10 ∷ methods_in (line ∷ lines) ++ codes "  }"

abbrev pub uses_in : (ℕ → Name) → List Use → Name
uses_in names [] = []
uses_in names (u ∷ us) = codes "  use " ++ names u.interface ++ codes ".{" ++ u.name ++ codes "};" ++ 10 ∷ uses_in names us

-- an item, where interfaces have these names and so much is known
abbrev pub item_text : (ℕ → Name) → List PlainKnown → Option PlainItem → Name
item_text names known None = codes "  ?" ++ 10 ∷ []
item_text names known (Some (UseOf name)) = uses_in names (used_by known (Some (UseOf name)))
item_text names known (Some (AliasOf name words)) = headed (codes "type") name (codes " = " ++ type_in words ++ codes ";")
item_text names known (Some (RecordOf name lines)) = headed (codes "record") name (braced (map field_in lines))
item_text names known (Some (VariantOf name lines)) = headed (codes "variant") name (braced (map case_in lines))
item_text names known (Some (FlagsOf name words)) = headed (codes "flags") name (braced words)
item_text names known (Some (EnumOf name words)) = headed (codes "enum") name (braced words)
item_text names known (Some (ResourceOf name lines)) = headed (codes "resource") name (resource_in lines)
item_text names known (Some (FunctionOf name words)) = codes "  " ++ name ++ codes ": " ++ signature_in words ++ codes ";" ++ 10 ∷ []

abbrev pub items_text : (ℕ → Name) → List PlainKnown → Items → Name
items_text names known [] = []
items_text names known (item ∷ items) = item_text names known (item_in item) ++ items_text names known items

abbrev pub interface_text : (ℕ → Name) → List PlainKnown → Items → Name
interface_text names known items = codes "interface " ++ name_in items ++ codes " {" ++ 10 ∷ items_text names known (drop 1 items) ++ codes "}" ++ 10 ∷ []

-- the interfaces of a table, which are numbered from this on, where so much is known before
abbrev pub table_text : (ℕ → Name) → ℕ → List PlainKnown → List Items → Name
table_text names number known [] = []
table_text names number known (items ∷ rest) =
    let more = declared number known items in
    interface_text names more items ++ table_text names (number + 1) more rest

-- the name of an interface of a table by its place
abbrev pub name_at : List Items → ℕ → Name
name_at [] n = []
name_at (items ∷ rest) zero = name_in items
name_at (items ∷ rest) (suc n) = name_at rest n
