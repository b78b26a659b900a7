-- The listed interfaces under their versions, their functions, and the kinds of resources.
use Rattle.std.specs.Prelude.{ℕ, nat_lt, ◌==◌, Bool, true, List, [], ◌∷◌, ◌++◌, Option, Some, None, find, if◌then◌else◌}
use Rattle.std.specs.List.{list_any}
use Rattle.std.specs.Str.{bytes_eq}
use Rattle.wit_types.specs.Plain.{Name}
use Rattle.wasi_table.specs.Types.{kind_of}
use Rattle.wasi_table.specs.Plain.{PlainInterface, PlainNamedFunc}
use Rattle.wasi_listed.specs.IoListed.{numbered as numbered_io, described as described_io}
use Rattle.wasi_listed.specs.FsListed.{numbered as numbered_fs, described as described_fs}
use Rattle.wasi_listed.specs.NetListed.{numbered as numbered_net, described as described_net}
use Rattle.host_port.specs.declared.call.Resource.{Resource}

-- ---- interfaces by number

abbrev pub or_else : {A : Type 0} → Option A → Option A → Option A
or_else None other = other
or_else (Some x) other = Some x

-- the number of the interface with a name without version
abbrev pub interface_numbered : Name → Option ℕ
interface_numbered name = or_else (numbered_io name) (or_else (numbered_fs name) (numbered_net name))

-- the interface with a number: 18 of wasi:io, wasi:cli, wasi:clocks and wasi:random, 2 of wasi:filesystem, then wasi:sockets
abbrev pub interface_at : ℕ → PlainInterface
interface_at number = if nat_lt number 18 then described_io number else if nat_lt number 20 then described_fs number else described_net number

-- the interface that defines a kind
abbrev pub homes : List ℕ
homes = 0 ∷ 1 ∷ 2 ∷ 2 ∷ 8 ∷ 9 ∷ 18 ∷ 18 ∷ 20 ∷ 22 ∷ 23 ∷ 25 ∷ 25 ∷ 25 ∷ []

-- ---- names with versions: the name, `@` and the version

abbrev pub in_front : ℕ → Name × Name → Name × Name
in_front byte (before, behind) = (byte ∷ before, behind)

-- what stands before the first `@`, and after it
abbrev pub cut : Name → Name × Name
cut [] = ([], [])
cut (byte ∷ text) = if byte == 64 then ([], text) else in_front byte (cut text)

abbrev pub with_version : (ℕ → Name) → ℕ → Name
with_version version number = (interface_at number).name ++ 64 ∷ version number

abbrev pub in_version : (ℕ → Name) → Name → Option ℕ → Option ℕ
in_version version text None = None
in_version version text (Some number) = if bytes_eq (version number) text then Some number else None

-- the number of the interface with a name and the version under which it is listed
abbrev pub interface_named : (ℕ → Name) → Name → Option ℕ
interface_named version text = in_version version (cut text).1 (interface_numbered (cut text).0)

-- ---- functions

-- a listed function, and the number of its interface
pub record Listed : Type 0 where
  pub interface : ℕ
  pub function : PlainNamedFunc

abbrev pub listed_in : ℕ → Option PlainNamedFunc → Option Listed
listed_in interface None = None
listed_in interface (Some f) = Some (record { interface = interface; function = f })

abbrev pub function_in : Name → Option ℕ → Option Listed
function_in name None = None
function_in name (Some interface) = listed_in interface (find (λ f. bytes_eq f.name name) (interface_at interface).functions)

-- the listed function with these names, the first of them with its version
abbrev pub listed_function : (ℕ → Name) → Name → Name → Option Listed
listed_function version interface name = function_in name (interface_named version interface)

-- ---- resources

-- whether a name stands in an interface, as its own or as one that it uses
abbrev pub stands_in : Name → PlainInterface → Bool
stands_in name i = if list_any (λ t. bytes_eq t.name name) i.types then true else list_any (λ u. bytes_eq u.name name) i.uses

abbrev pub kind_in : Name → Option ℕ → Option ℕ
kind_in name None = None
kind_in name (Some interface) = if stands_in name (interface_at interface) then kind_of name else None

-- the kind of a resource, by any listed interface in which its name stands
abbrev pub kind_named : (ℕ → Name) → Resource → Option ℕ
kind_named version resource = kind_in resource.name (interface_named version resource.interface)
