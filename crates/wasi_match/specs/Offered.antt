-- What a listed interface offers, as an instance type: the types that it uses, its own, and its functions. Its resources are
-- kinds.
use Rattle.std.specs.Prelude.{ℕ, List, [], ◌∷◌, ◌++◌, Option, Some, None}
use Rattle.std.specs.List.{find}
use Rattle.std.specs.Str.{bytes_eq}
use Rattle.comp_types.specs.Items.{Item, Entries, FuncItem, KindItem, ResourceKind, ValueKind, End, More}
use Rattle.wasi_table.specs.declared.interface.Use.{Use}
use Rattle.wasi_table.specs.Plain.{PlainMeaning, IsType, IsKind, PlainNamed, PlainNamedFunc}
use Rattle.wasi_listed.specs.Listed.{described}

-- what the name of a type stands for
abbrev pub meant : PlainMeaning → Item
meant (IsType ty) = KindItem (ValueKind ty)
meant (IsKind kind) = KindItem (ResourceKind kind)

abbrev pub with_functions : List PlainNamedFunc → Entries
with_functions [] = End
with_functions (f ∷ fs) = More f.name (FuncItem f.ty) (with_functions fs)

abbrev pub with_types : List PlainNamed → List PlainNamedFunc → Entries
with_types [] fs = with_functions fs
with_types (t ∷ ts) fs = More t.name (meant t.meaning) (with_types ts fs)

abbrev pub found : Option PlainNamed → List PlainNamed
found None = []
found (Some t) = t ∷ []

-- the type of another interface that an interface uses, as that one defines it
abbrev pub used_type : Use → List PlainNamed
used_type u = found (find (λ t. bytes_eq t.name u.name) (described u.interface).types)

abbrev pub used : List Use → List PlainNamed
used [] = []
used (u ∷ us) = used_type u ++ used us

-- the instance type of the interface with a number
abbrev pub offered : ℕ → Entries
offered number = with_types (used (described number).uses ++ (described number).types) (described number).functions
