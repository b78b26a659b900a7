-- The verdict as a function: a walk through the imports, which keeps the interfaces so far and the kinds of their resources.
use Rattle.std.specs.Prelude.{◌≡◌, ℕ, List, [], ◌∷◌, ◌++◌, Bool, true, false, is_some, nat_eq, Option, Some, None, if◌then◌else◌}
use Rattle.std.specs.List.{list_any}
use Rattle.wit_types.specs.Plain.{Name}
use Rattle.comp_types.specs.Items.{Item, Entries, Signature, FuncItem, InstanceItem, KindItem, End, More}
use Rattle.comp_types.specs.Resources.{item_has_resource}
use Rattle.comp_types.specs.Matching.{Pairs, onward, only_if, matched_entries}
use Rattle.wasi_listed.specs.Listed.{described}
use Rattle.wasi_match.specs.Names.{Versioned, listed_as}
use Rattle.wasi_match.specs.declared.listed.ListedUse.{ListedUse}
use Rattle.wasi_match.specs.declared.fault.Cause.TheVariants.{Unlisted, TwoVersions, WrongType, HandleExport}
use Rattle.wasi_match.specs.Offered.{offered}
use Rattle.wasi_match.specs.Listed.{interfaces, places}
use Rattle.wasi_match.specs.Kinds.{turned}
use Rattle.wasi_match.specs.Verdicts.{Verdict, Accepted, Refused, IsVerdict}

abbrev pub instance_in : Item → Option Entries
instance_in (FuncItem ty) = None
instance_in (InstanceItem entries) = Some entries
instance_in (KindItem kind) = None

-- the name of the first export in which a resource type or a handle stands
abbrev pub first_handle : Entries → Option Name
first_handle End = None
first_handle (More name item rest) = if item_has_resource item then Some name else first_handle rest

abbrev pub of_exports : List ListedUse → Option Name → Verdict
of_exports uses None = Accepted uses
of_exports uses (Some name) = Refused HandleExport name

-- the kinds of resources that an import adds to those so far
abbrev pub fitted : Pairs → ℕ → Entries → Option Pairs
fitted by interface entries = onward (λ more. only_if (is_some (turned [] more)) (Some more)) (matched_entries by (offered interface) entries)

abbrev pub on_named : Name → Option Versioned → Option Entries → (Versioned → Entries → Verdict) → Verdict
on_named name None instance go = Refused Unlisted name
on_named name (Some listed) None go = Refused Unlisted name
on_named name (Some listed) (Some entries) go = go listed entries

abbrev pub on_new : Name → Bool → Verdict → Verdict
on_new name true verdict = Refused TwoVersions name
on_new name false verdict = verdict

abbrev pub on_fit : Name → Option Pairs → (Pairs → Verdict) → Verdict
on_fit name None go = Refused WrongType name
on_fit name (Some more) go = go more

abbrev pub use_of : Versioned → Entries → ListedUse
use_of listed entries = record { interface = listed.interface; version = listed.version; functions = places (described listed.interface).functions entries }

abbrev pub verdict_from : List ListedUse → Pairs → Entries → Entries → Verdict
verdict_from uses by End exports = of_exports uses (first_handle exports)
verdict_from uses by (More name item rest) exports =
    on_named name (listed_as name) (instance_in item) (λ listed entries.
    on_new name (list_any (nat_eq listed.interface) (interfaces uses)) (
    on_fit name (fitted by listed.interface entries) (λ more.
    verdict_from (uses ++ use_of listed entries ∷ []) more rest exports)))

unfoldable pub verdict : Signature → Verdict
verdict ty = verdict_from [] [] ty.imports ty.exports

-- this verdict holds of each component, and no other
abbrev pub HasOneVerdict : Type 0
HasOneVerdict = (ty : Signature) → IsVerdict ty (verdict ty) × ((v : Verdict) → IsVerdict ty v → v ≡ verdict ty)
