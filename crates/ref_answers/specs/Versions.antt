-- The listed interfaces as they are kept.
use Rattle.std.specs.Prelude.{◌≡◌, ℕ, ◌<◌, ◌≤◌, List, [], length, map, get_or, slice_index_or, Some}
use Rattle.wit_types.specs.Plain.{Name, Plain, PlainFunc}
use Rattle.wit_types.specs.Limits.{parts, all_parts}
use Rattle.wasi_table.specs.declared.interface.Interface.{Interface}
use Rattle.wasi_table.specs.declared.kinds.TheConstants.{KINDS}
use Rattle.wasi_table.specs.Plain.{plain_interface, plain_named_func}
use Rattle.host_port.specs.declared.call.Resource.{Resource}
use Rattle.reference_step.specs.Listed.{Listed, interface_at, homes, with_version}
use Rattle.ref_answers.specs.declared.table.Found.{Found}

-- the version of the interface with a number
abbrev pub version_in : List Name → ℕ → Name
version_in versions number = slice_index_or versions number []

-- the first that many interfaces, each at the place of its number
pub record AreFirst (count : ℕ) (interfaces : List Interface) : Type 0 where
  pub all : length interfaces ≡ count
  pub each : (i : ℕ) (d : Interface) → i < count → plain_interface (get_or interfaces i d) ≡ interface_at i

abbrev pub AreDescribed : List Interface → Type 0
AreDescribed interfaces = AreFirst 27 interfaces

pub record AreListed (versions : List Name) (interfaces : List Interface) : Type 0 where
  pub every : length versions ≡ 27
  pub described : AreDescribed interfaces

abbrev pub plain_found : Found → Listed
plain_found f = record { interface = f.interface; function = plain_named_func f.function.now }

-- the name of a kind of resources
abbrev pub kind_name : ℕ → Name
kind_name kind = slice_index_or (map (λ w. w.now) KINDS) kind []

-- the resource of a kind, by the interface that defines it
abbrev pub resource_in : (ℕ → Name) → ℕ → Resource
resource_in version kind = record { interface = with_version version (slice_index_or homes kind 0); name = kind_name kind }

-- the types of a function, written out, have no more parts than the walks over their values may meet
pub record IsSmall (ty : PlainFunc) : Type 0 where
  pub params : all_parts ty.params ≤ 1000000
  pub answer : (result : Plain) → ty.answer ≡ Some result → parts result ≤ 1000000
