-- What the answers say: exactly what the walks do. Want of memory says nothing.
use Rattle.std.specs.Prelude.{◌≡◌, Option, Some, None, Result, Ok, Err, IfSome}
use Rattle.comp_types.specs.Items.{Entries}
use Rattle.wasi_match.specs.declared.fault.Cause.TheVariants.{Unlisted, TwoVersions, WrongType, HandleExport}
use Rattle.wasi_match.specs.declared.fault.MatchFault.{MatchFault}
use Rattle.wasi_match.specs.declared.fault.MatchFault.TheVariants.{Unlisted as UnlistedAt, WrongType as WrongTypeAt, TwoVersions as TwoVersionsAt, HandleExport as HandleExportAt, NoMemory}
use Rattle.wasi_match.specs.Verdicts.{IsVerdict}
use Rattle.plug_match.specs.declared.first.First.{First}
use Rattle.plug_match.specs.declared.source.Second.{Second}
use Rattle.plug_match.specs.declared.fault.SecondFault.{SecondFault}
use Rattle.plug_match.specs.declared.fault.SecondFault.TheVariants.{Refused as RefusedAt, NothingMet, NoMemory as NoMemoryLeft}
use Rattle.plug_match.specs.FirstWalk.{FirstVerdict, Asks, FirstAtFault, first_of, alone, verdict_alone}
use Rattle.plug_match.specs.Walk.{SecondVerdict, Plugs, SecondAtFault, MeetsNothing, second_of}

-- ---- of the first

abbrev pub first_fault : MatchFault → Option FirstVerdict
first_fault (UnlistedAt name) = Some (FirstAtFault Unlisted name)
first_fault (TwoVersionsAt name) = Some (FirstAtFault TwoVersions name)
first_fault (WrongTypeAt name) = Some (FirstAtFault WrongType name)
first_fault (HandleExportAt name) = Some (FirstAtFault HandleExport name)
first_fault NoMemory = None

abbrev pub first_verdict : Result First MatchFault → Option FirstVerdict
first_verdict (Ok first) = Some (Asks first)
first_verdict (Err fault) = first_fault fault

abbrev pub AnswersFirst : Entries → Result First MatchFault → Type 0
AnswersFirst imports result = IfSome (first_verdict result) (λ v. v ≡ first_of imports)

-- the verdict of a component with these imports that exports nothing
abbrev pub AnswersAlone : Entries → Result First MatchFault → Type 0
AnswersAlone imports result = IfSome (first_verdict result) (λ v. IsVerdict (alone imports) (verdict_alone v))

-- ---- of the second

abbrev pub second_fault : SecondFault → Option SecondVerdict
second_fault (RefusedAt cause name) = Some (SecondAtFault cause name)
second_fault NothingMet = Some MeetsNothing
second_fault NoMemoryLeft = None

abbrev pub second_verdict : Result Second SecondFault → Option SecondVerdict
second_verdict (Ok second) = Some (Plugs second.sources)
second_verdict (Err fault) = second_fault fault

abbrev pub AnswersSecond : First → (given imports exports : Entries) → Result Second SecondFault → Type 0
AnswersSecond first given imports exports result = IfSome (second_verdict result) (λ v. v ≡ second_of first given imports exports)
