-- The first component: its imports are those of a listed component, and of its resources those that come from the host have kinds.
-- The same walk as through the imports of a listed component, which keeps the kinds too.
use Rattle.std.specs.Prelude.{List, [], ◌∷◌, ◌++◌, Bool, true, false, nat_eq, Option, Some, None}
use Rattle.std.specs.List.{list_any}
use Rattle.wit_types.specs.Plain.{Name}
use Rattle.comp_types.specs.Items.{Item, Entries, Signature, End, More}
use Rattle.comp_types.specs.Matching.{Pairs}
use Rattle.wasi_match.specs.Names.{Versioned, listed_as}
use Rattle.wasi_match.specs.declared.fault.Cause.{Cause}
use Rattle.wasi_match.specs.declared.fault.Cause.TheVariants.{Unlisted, TwoVersions, WrongType}
use Rattle.wasi_match.specs.Listed.{interfaces}
use Rattle.wasi_match.specs.Verdicts.{Verdict, Accepted, Refused}
use Rattle.wasi_match.specs.Walk.{instance_in, fitted, use_of}
use Rattle.plug_match.specs.declared.first.First.{First}
use Rattle.plug_match.specs.Steps.{Step, Goes, Stops}

pub data FirstVerdict : Type 0 where
  Asks : (first : First) → FirstVerdict
  FirstAtFault : (cause : Cause) → (name : Name) → FirstVerdict

abbrev pub first_fitted : First → Versioned → Entries → Option Pairs → Step First
first_fitted first listed entries None = Stops WrongType
first_fitted first listed entries (Some more) = Goes (record { uses = first.uses ++ use_of listed entries ∷ []; kinds = more })

abbrev pub first_new : Bool → Step First → Step First
first_new true step = Stops TwoVersions
first_new false step = step

-- an instance under the name of a listed interface
abbrev pub first_use : First → Versioned → Entries → Step First
first_use first listed entries =
    first_new (list_any (nat_eq listed.interface) (interfaces first.uses)) (first_fitted first listed entries (fitted first.kinds listed.interface entries))

abbrev pub first_named : First → Option Versioned → Option Entries → Step First
first_named first None instance = Stops Unlisted
first_named first (Some listed) None = Stops Unlisted
first_named first (Some listed) (Some entries) = first_use first listed entries

-- one import more
abbrev pub first_step : First → Name → Item → Step First
first_step first name item = first_named first (listed_as name) (instance_in item)

abbrev pub on_first : Name → Step First → (First → FirstVerdict) → FirstVerdict
on_first name (Goes first) go = go first
on_first name (Stops cause) go = FirstAtFault cause name

abbrev pub first_from : First → Entries → FirstVerdict
first_from first End = Asks first
first_from first (More name item rest) = on_first name (first_step first name item) (λ more. first_from more rest)

abbrev pub first_of : Entries → FirstVerdict
first_of imports = first_from (record { uses = []; kinds = [] }) imports

-- the same as a verdict of a component with these imports that exports nothing
abbrev pub alone : Entries → Signature
alone imports = record { imports = imports; exports = End }

abbrev pub verdict_alone : FirstVerdict → Verdict
verdict_alone (Asks first) = Accepted first.uses
verdict_alone (FirstAtFault cause name) = Refused cause name
