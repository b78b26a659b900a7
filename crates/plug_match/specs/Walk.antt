-- The second component: each import in order, which the first meets or the host; then whether the first meets one; then the exports.
use Rattle.std.specs.Prelude.{ℕ, List, [], ◌∷◌, ◌++◌, Bool, true, false, ◌&&◌, ◌||◌, not, is_some, length, drop, nat_eq, Option, Some, None, if◌then◌else◌}
use Rattle.std.specs.List.{list_any}
use Rattle.std.specs.Str.{bytes_eq}
use Rattle.wit_types.specs.Plain.{Name}
use Rattle.comp_types.specs.Items.{Item, Entries, End, More, look_up}
use Rattle.comp_types.specs.Matching.{Pairs, matched_entries}
use Rattle.wasi_match.specs.Names.{Versioned, listed_as}
use Rattle.wasi_match.specs.declared.listed.ListedUse.{ListedUse}
use Rattle.wasi_match.specs.declared.fault.Cause.{Cause}
use Rattle.wasi_match.specs.declared.fault.Cause.TheVariants.{Unlisted, TwoVersions, WrongType, HandleExport}
use Rattle.wasi_match.specs.Offered.{offered}
use Rattle.wasi_match.specs.Kinds.{turned}
use Rattle.wasi_match.specs.Walk.{instance_in, first_handle, use_of}
use Rattle.plug_match.specs.declared.first.First.{First}
use Rattle.plug_match.specs.declared.source.Source.{Source}
use Rattle.plug_match.specs.declared.source.Source.TheVariants.{Met, Host}
use Rattle.plug_match.specs.declared.source.Plugging.{Plugging}
use Rattle.plug_match.specs.Steps.{Step, Goes, Stops}
use Rattle.plug_match.specs.Numbers.{met_by, with_pairs}

pub data SecondVerdict : Type 0 where
  Plugs : (sources : List Source) → SecondVerdict
  SecondAtFault : (cause : Cause) → (name : Name) → SecondVerdict
  MeetsNothing : SecondVerdict

-- ---- an import that the first meets

-- an export of another sort meets none
abbrev pub instance_at : Option Item → Option Entries
instance_at None = None
instance_at (Some item) = instance_in item

abbrev pub met_fitted : Plugging → Option Pairs → Step Plugging
met_fitted so_far None = Stops WrongType
met_fitted so_far (Some more) = Goes (record { sources = so_far.sources ++ Met ∷ []; by = more; own = so_far.own })

abbrev pub met_step : Pairs → Plugging → Entries → Option Entries → Step Plugging
met_step kinds so_far given None = Stops WrongType
met_step kinds so_far given (Some asked) = met_fitted so_far (met_by kinds so_far.by given asked)

-- ---- an import that the host meets

abbrev pub is_host_of : ℕ → Source → Bool
is_host_of interface Met = false
is_host_of interface (Host taken) = nat_eq interface taken.interface

abbrev pub is_other_version : Versioned → ListedUse → Bool
is_other_version listed taken = nat_eq listed.interface taken.interface && not (bytes_eq listed.version taken.version)

-- the second has the interface from the host already, or the first has it in another version
abbrev pub is_twice : List ListedUse → List Source → Versioned → Bool
is_twice uses sources listed = list_any (is_host_of listed.interface) sources || list_any (is_other_version listed) uses

-- of the resources that such imports bring no two have one kind
abbrev pub host_apart : Plugging → ListedUse → (more own : Pairs) → Step Plugging
host_apart so_far taken more own = if is_some (turned [] own) then Goes (record { sources = so_far.sources ++ Host taken ∷ []; by = more; own = own }) else Stops WrongType

abbrev pub host_fitted : Plugging → ListedUse → Option Pairs → Step Plugging
host_fitted so_far taken None = Stops WrongType
host_fitted so_far taken (Some more) = host_apart so_far taken more (with_pairs so_far.own (drop (length so_far.by) more))

abbrev pub host_new : Bool → Step Plugging → Step Plugging
host_new true step = Stops TwoVersions
host_new false step = step

-- an instance under the name of a listed interface
abbrev pub host_use : List ListedUse → Plugging → Versioned → Entries → Step Plugging
host_use uses so_far listed asked =
    host_new (is_twice uses so_far.sources listed) (host_fitted so_far (use_of listed asked) (matched_entries so_far.by (offered listed.interface) asked))

abbrev pub host_step : List ListedUse → Plugging → Option Versioned → Option Entries → Step Plugging
host_step uses so_far None instance = Stops Unlisted
host_step uses so_far (Some listed) None = Stops Unlisted
host_step uses so_far (Some listed) (Some asked) = host_use uses so_far listed asked

-- ---- all imports

abbrev pub step_by : First → Plugging → Name → Item → Option Entries → Step Plugging
step_by first so_far name item None = host_step first.uses so_far (listed_as name) (instance_in item)
step_by first so_far name item (Some given) = met_step first.kinds so_far given (instance_in item)

-- one import more
abbrev pub second_step : First → Entries → Plugging → Name → Item → Step Plugging
second_step first given so_far name item = step_by first so_far name item (instance_at (look_up name given))

abbrev pub is_met : Source → Bool
is_met Met = true
is_met (Host taken) = false

abbrev pub of_exports : List Source → Option Name → SecondVerdict
of_exports sources None = Plugs sources
of_exports sources (Some name) = SecondAtFault HandleExport name

abbrev pub at_end : List Source → Entries → SecondVerdict
at_end sources exports = if list_any is_met sources then of_exports sources (first_handle exports) else MeetsNothing

abbrev pub on_second : Name → Step Plugging → (Plugging → SecondVerdict) → SecondVerdict
on_second name (Goes so_far) go = go so_far
on_second name (Stops cause) go = SecondAtFault cause name

abbrev pub second_from : First → Entries → Plugging → Entries → Entries → SecondVerdict
second_from first given so_far End exports = at_end so_far.sources exports
second_from first given so_far (More name item rest) exports = on_second name (second_step first given so_far name item) (λ more. second_from first given more rest exports)

abbrev pub second_of : First → (given imports exports : Entries) → SecondVerdict
second_of first given imports exports = second_from first given (record { sources = []; by = []; own = [] }) imports exports
