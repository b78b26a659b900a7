-- The names of what an output imports: of each needed interface, and in it of the types that it uses, of its own types, and of its
-- functions.
use Rattle.std.specs.Prelude.{ℕ, ◌∷◌, Bool, ◌&&◌, List, [], ◌++◌, map, length, nat_eq, ◌==◌, codes, if◌then◌else◌}
use Rattle.std.specs.List.{list_any, find, flat_map}
use Rattle.std.specs.Option.{option_map_or}
use Rattle.std.specs.Str.{bytes_eq}
use Rattle.wit_types.specs.Plain.{Name}
use Rattle.policy_data.specs.declared.policy.Policy.{Policy}
use Rattle.wasi_table.specs.Plain.{PlainInterface}
use Rattle.wasi_listed.specs.Listed.{described}
use Rattle.wasi_match.specs.declared.listed.ListedUse.{ListedUse}
use Rattle.adapter_world.specs.Needed.{needed_in, func_name}
use Rattle.adapter_world.specs.Behind.{below, interfaces, function_types}
use Rattle.adapter_world.specs.declared.type_names.TypeName.{TypeName}
use Rattle.adapter_world.specs.declared.needs.NeededInterface.{NeededInterface}

-- ---- types

-- the names of types that the needed functions name, through other types too, where the interfaces are these
unfoldable pub types_through : List PlainInterface → Policy → List ListedUse → List TypeName
types_through all p uses = below (λ number. flat_map (function_types all number) (needed_in p uses number)) 27

abbrev pub needed_types : Policy → List ListedUse → List TypeName
needed_types p uses = types_through interfaces p uses

abbrev pub is_named : ℕ → Name → TypeName → Bool
is_named interface name t = nat_eq interface t.interface && bytes_eq t.name name

-- a name, where it is among the needed in this interface
abbrev pub if_among : List TypeName → ℕ → Name → List Name
if_among types interface name = if list_any (is_named interface name) types then name ∷ [] else []

-- the names of an interface's types that are among these: those that it uses, then its own
abbrev pub types_among : List TypeName → ℕ → PlainInterface → List Name
types_among types number i = flat_map (λ u. if_among types number u.name) i.uses ++ flat_map (λ t. if_among types number t.name) i.types

-- ---- imports

-- the name of an import, and the names in it
abbrev pub Named : Type 0
Named = Name × List Name

-- the version by which the application imports an interface, or `0.2.0`
abbrev pub version_of : List ListedUse → ℕ → Name
version_of uses interface = option_map_or (λ u. u.version) (find (λ u. u.interface == interface) uses) (codes "0.2.0")

abbrev pub import_name : List ListedUse → ℕ → Name → Name
import_name uses interface name = name ++ 64 ∷ version_of uses interface

abbrev pub if_some : Name → List Name → List Named
if_some name [] = []
if_some name (n ∷ ns) = (name, n ∷ ns) ∷ []

-- an interface in which something is needed
abbrev pub needed_import : Policy → List ListedUse → List TypeName → ℕ → PlainInterface → List Named
needed_import p uses types number i =
    if_some (import_name uses number i.name) (types_among types number i ++ map func_name (needed_in p uses number))

-- the same of each interface, where these types are needed
unfoldable pub imports_with : Policy → List ListedUse → List TypeName → List Named
imports_with p uses types = below (λ number. needed_import p uses types number (described number)) 27

-- what an output imports for an application with these imports
abbrev pub needed_names : Policy → List ListedUse → List Named
needed_names p uses = imports_with p uses (needed_types p uses)

-- how many functions are needed
unfoldable pub needed_count : Policy → List ListedUse → ℕ
needed_count p uses = length (below (needed_in p uses) 27)

-- what the code keeps of a needed interface
abbrev pub named : NeededInterface → Named
named i = (i.name, (i.uses ++ i.types) ++ i.names)
