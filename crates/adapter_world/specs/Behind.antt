-- The types with which a type is written, through others too. A type is named in an interface, which uses it or defines it.
use Rattle.std.specs.Prelude.{ℕ, zero, suc, List, [], ◌∷◌, ◌++◌, Option, Some, None, slice_get, if◌then◌else◌}
use Rattle.std.specs.List.{flat_map}
use Rattle.std.specs.Str.{bytes_eq}
use Rattle.wit_types.specs.Plain.{Name}
use Rattle.wasi_table.specs.declared.interface.Use.{Use}
use Rattle.wasi_table.specs.Plain.{PlainNamed, PlainNamedFunc, PlainInterface}
use Rattle.wasi_listed.specs.Listed.{described}
use Rattle.adapter_world.specs.declared.type_names.TypeName.{TypeName}

-- what a function gives for each number from 0 to below this one
abbrev pub below : {A : Type 0} → (ℕ → List A) → ℕ → List A
below f zero = []
below f (suc n) = below f n ++ f n

-- the listed interfaces in order
unfoldable pub interfaces : List PlainInterface
interfaces = below (λ number. described number ∷ []) 27

abbrev pub in_interface : ℕ → Name → TypeName
in_interface interface name = record { interface = interface; name = name }

-- a name that an interface uses stands for that of the interface that defines it
abbrev pub defined_by : Name → Use → List TypeName
defined_by name u = if bytes_eq u.name name then in_interface u.interface name ∷ [] else []

abbrev pub named_by : ℕ → Name → List TypeName
named_by interface name = in_interface interface name ∷ []

-- the names with which one of its own types is written
abbrev pub written_with : ℕ → Name → PlainNamed → List TypeName
written_with interface name t = if bytes_eq t.name name then flat_map (named_by interface) t.names else []

abbrev pub behind_in : TypeName → Option PlainInterface → List TypeName
behind_in t None = []
behind_in t (Some i) = flat_map (defined_by t.name) i.uses ++ flat_map (written_with t.interface t.name) i.types

-- what stands right after a name
abbrev pub behind : List PlainInterface → TypeName → List TypeName
behind all t = behind_in t (slice_get all t.interface)

-- a name, and those after it through at most that many more
abbrev pub reached : List PlainInterface → ℕ → TypeName → List TypeName
reached all zero t = t ∷ []
reached all (suc n) t = t ∷ flat_map (reached all n) (behind all t)

-- no listed type is written through more others
abbrev pub named_through : List PlainInterface → ℕ → Name → List TypeName
named_through all interface name = reached all 8 (in_interface interface name)

-- the names in a function's type, and all after them
abbrev pub function_types : List PlainInterface → ℕ → PlainNamedFunc → List TypeName
function_types all interface f = flat_map (named_through all interface) f.names
