-- The names under which components import listed interfaces: an interface's name, `@`, and a version of WASI 0.2.
use Rattle.std.specs.Prelude.{ℕ, [], ◌∷◌, Bool, false, not, ◌&&◌, ◌||◌, ◌==◌, nat_lt, length, codes, Option, Some, None, if◌then◌else◌}
use Rattle.std.specs.List.{list_all, position_or_len, before_first, after_first}
use Rattle.wit_types.specs.Plain.{Name}
use Rattle.comp_names.specs.Labels.{is_digit}
use Rattle.comp_names.specs.Names.{behind}
use Rattle.wasi_listed.specs.IoListed.{numbered as numbered_io}
use Rattle.wasi_listed.specs.FsListed.{numbered as numbered_fs}
use Rattle.wasi_listed.specs.NetListed.{numbered as numbered_net}

abbrev pub or_else : Option ℕ → Option ℕ → Option ℕ
or_else None other = other
or_else (Some n) other = Some n

-- the number of the listed interface with a name without version
unfoldable pub interface_named : Name → Option ℕ
interface_named name = or_else (numbered_io name) (or_else (numbered_fs name) (numbered_net name))

-- one to three digits, of which the first is no zero unless it is alone
abbrev pub is_patch : Name → Bool
is_patch [] = false
is_patch (d ∷ ds) = is_digit d && (list_all is_digit ds && (nat_lt (length ds) 3 && ((length ds == 0) || not (d == 48))))

abbrev pub is_patch_behind : Option Name → Bool
is_patch_behind None = false
is_patch_behind (Some patch) = is_patch patch

-- 0.2.Z, where Z is a number from 0 to 999 without a leading zero
abbrev pub is_version : Name → Bool
is_version version = is_patch_behind (behind (codes "0.2.") version)

-- a listed interface, and the version that a name names it by
pub record Versioned : Type 0 where
  pub interface : ℕ
  pub version : Name

-- an interface in a version, if that is one of WASI 0.2
abbrev pub in_version : Name → Option ℕ → Option Versioned
in_version version None = None
in_version version (Some interface) = if is_version version then Some (record { interface = interface; version = version }) else None

abbrev pub is_at : ℕ → Bool
is_at byte = byte == 64

-- what stands before the first `@`, and what after it
abbrev pub cut : Name → Option (Name × Name)
cut name = if nat_lt (position_or_len is_at name) (length name) then Some (before_first is_at name, after_first is_at name) else None

abbrev pub listed_parts : Option (Name × Name) → Option Versioned
listed_parts None = None
listed_parts (Some p) = in_version p.1 (interface_named p.0)

-- what a name names: before its first `@` stands an interface's name, and after it the version
abbrev pub listed_as : Name → Option Versioned
listed_as name = listed_parts (cut name)
