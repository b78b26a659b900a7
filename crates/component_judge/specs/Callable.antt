-- The functions that can be called from outside, by their names: exported functions, and functions of exported instances as
-- `INSTANCE#FUNCTION`. Functions of an instance in an instance are none of them.
use Rattle.std.specs.Prelude.{[], ◌∷◌, ◌++◌}
use Rattle.wit_types.specs.Plain.{Name}
use Rattle.comp_types.specs.Items.{Item, Entries, FuncItem, InstanceItem, KindItem, End, More}
use Rattle.host_script.specs.Script.{Exports}

abbrev pub inner_name : Name → Name → Name
inner_name instance name = instance ++ 35 ∷ name

abbrev pub one_function : Name → Item → Exports
one_function name (FuncItem ty) = (name, ty) ∷ []
one_function name (InstanceItem entries) = []
one_function name (KindItem kind) = []

-- those of an instance
abbrev pub inner_functions : Name → Entries → Exports
inner_functions instance End = []
inner_functions instance (More name item rest) = one_function (inner_name instance name) item ++ inner_functions instance rest

abbrev pub functions_of : Name → Item → Exports
functions_of name (FuncItem ty) = (name, ty) ∷ []
functions_of name (InstanceItem entries) = inner_functions name entries
functions_of name (KindItem kind) = []

abbrev pub callable : Entries → Exports
callable End = []
callable (More name item rest) = functions_of name item ++ callable rest
