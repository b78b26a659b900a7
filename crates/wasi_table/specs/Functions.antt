-- The functions of a table.
use Rattle.std.specs.Prelude.{List, [], ◌∷◌, ◌++◌, Option, Some, None, codes, if◌then◌else◌}
use Rattle.std.specs.Str.{bytes_eq}
use Rattle.wit_types.specs.Plain.{Name, PlainFunc}
use Rattle.wasi_table.specs.declared.forms.Form.TheVariants.{Borrow}
use Rattle.wasi_table.specs.Plain.{PlainKnown, PlainNamedFunc}
use Rattle.wasi_table.specs.Texts.{Line}
use Rattle.wasi_table.specs.Words.{apply, put, read, types_in, names_in}
use Rattle.wasi_table.specs.Items.{PlainItem, UseOf, AliasOf, RecordOf, VariantOf, FlagsOf, EnumOf, ResourceOf, FunctionOf, item_in}
use Rattle.wasi_table.specs.Types.{type_spelled}

-- what stands after the arrow of a signature
abbrev pub behind_arrow : Line → Line
behind_arrow [] = []
behind_arrow (w ∷ ws) = if bytes_eq w (codes "->") then ws else behind_arrow ws

abbrev pub func_type : List PlainKnown → Line → PlainFunc
func_type known words = record { params = types_in (read known words); answer = type_spelled known (behind_arrow words) }

-- a method borrows its resource first
abbrev pub method_type : List PlainKnown → Name → Line → PlainFunc
method_type known resource words =
    record { params = types_in (apply Borrow (put known resource (read known words))); answer = type_spelled known (behind_arrow words) }

abbrev pub func_of : List PlainKnown → Name → Line → PlainNamedFunc
func_of known name words = record { name = name; ty = func_type known words; names = names_in words }

abbrev pub method_name : Name → Name → Name
method_name resource name = codes "[method]" ++ (resource ++ 46 ∷ name)

abbrev pub method_of : List PlainKnown → Name → Name → Line → PlainNamedFunc
method_of known resource name words =
    record { name = method_name resource name; ty = method_type known resource words; names = resource ∷ names_in words }

-- a line of a resource: the method's own name, and its signature
abbrev pub method_in : List PlainKnown → Name → Line → List PlainNamedFunc
method_in known resource [] = []
method_in known resource (name ∷ words) = method_of known resource name words ∷ []

abbrev pub methods_in : List PlainKnown → Name → List Line → List PlainNamedFunc
methods_in known resource [] = []
methods_in known resource (line ∷ lines) = method_in known resource line ++ methods_in known resource lines

-- the functions that an item offers
abbrev pub functions_of : List PlainKnown → Option PlainItem → List PlainNamedFunc
functions_of known None = []
functions_of known (Some (UseOf name)) = []
functions_of known (Some (AliasOf name words)) = []
functions_of known (Some (RecordOf name lines)) = []
functions_of known (Some (VariantOf name lines)) = []
functions_of known (Some (FlagsOf name words)) = []
functions_of known (Some (EnumOf name words)) = []
functions_of known (Some (ResourceOf name lines)) = methods_in known name lines
functions_of known (Some (FunctionOf name words)) = func_of known name words ∷ []

abbrev pub functions_in : List PlainKnown → List (List Line) → List PlainNamedFunc
functions_in known [] = []
functions_in known (item ∷ items) = functions_of known (item_in item) ++ functions_in known items
