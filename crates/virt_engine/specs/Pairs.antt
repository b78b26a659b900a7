-- Two components that are to be one: what their files have to hold, and why others are refused, in the order of refusals.
use Rattle.std.specs.Prelude.{ℕ, ◌≡◌, ◌⊎◌, List, [], ◌∷◌, Some, Result, Ok, Err, map}
use mathlib.Core.Logic.{inl, inr}
use Rattle.outside.specs.Files.{Held}
use Rattle.virt_base.specs.declared.fault.AppFault.{AppFault}
use Rattle.virt_base.specs.declared.fault.AppFault.TheVariants as app_faults
use Rattle.wit_types.specs.Plain.{Name}
use Rattle.comp_grammar.specs.Trees.{Tree}
use Rattle.comp_grammar.specs.Components.{SpellsComponent}
use Rattle.comp_write.specs.Copying.{bare}
use Rattle.comp_types.specs.Added.{type_of}
use Rattle.comp_types.specs.Validity.{IsValidComponent}
use Rattle.comp_joined.specs.Form.{Joins as AreJoined}
use Rattle.comp_pair.specs.Assembled.{HasSection}
use Rattle.output_same.specs.Holding.{components_in}
use Rattle.output_same.specs.Strategies.{DoesTheSame}
use Rattle.wasi_match.specs.Listed.{IsListed}
use Rattle.wasi_match.specs.declared.listed.ListedUse.{ListedUse}
use Rattle.wasi_match.specs.declared.fault.Cause.{Cause}
use Rattle.wasi_match.specs.declared.fault.Cause.TheVariants as causes
use Rattle.plug_match.specs.declared.first.First.{First}
use Rattle.plug_match.specs.declared.source.Source.{Source}
use Rattle.plug_match.specs.FirstWalk.{FirstVerdict, Asks, FirstAtFault, first_of}
use Rattle.plug_match.specs.Walk.{SecondVerdict, Plugs, SecondAtFault, MeetsNothing, second_of}
use Rattle.plug_compose.specs.Merged.{merged_uses}
use Rattle.plug_compose.specs.Sources.{host_uses}
use Rattle.policy_data.specs.declared.policy.Policy.{Policy}
use Rattle.component_judge.specs.Components.{IsRefusalBy, IsNeverAtFault, IsSound}
use Rattle.component_judge.specs.declared.limits.Purpose.TheVariants.{Virt}
use Rattle.component_judge.specs.declared.refusal.Refusal.{Refusal}
use Rattle.component_judge.specs.declared.refusal.Refusal.TheVariants as refusals
use Rattle.virt_engine.specs.declared.status.PlugFault.{PlugFault}
use Rattle.virt_engine.specs.declared.status.PlugFault.TheVariants as plug_faults
use Rattle.virt_engine.specs.declared.status.Status.{Status}
use Rattle.virt_engine.specs.declared.status.Status.TheVariants.{PlugRefused}
use Rattle.virt_engine.specs.Output.{IsWrappedOf, wrapped_count}
use Rattle.virt_engine.specs.RunDue.{IsVerdictBy}

-- ---- what a part's bytes are read as: a component that is sound, or what is at fault with it

abbrev pub Read : Type 0
Read = Result Tree AppFault

abbrev pub IsRead : List ℕ → Read → Type 0
IsRead bytes (Ok tree) = IsSound Virt bytes tree
IsRead bytes (Err fault) = IsRefusalBy Virt IsNeverAtFault bytes (refusals.Refused fault)

-- The bytes are too many, or their components stand too deep in one another.
abbrev pub IsTooLarge : List ℕ → Refusal → Type 0
IsTooLarge bytes (refusals.OverLimit what value) = IsRefusalBy Virt IsNeverAtFault bytes (refusals.OverLimit what value)
IsTooLarge bytes _ = ⊥

-- ---- what two of them come to: they can be made one, or what is at fault first

abbrev pub fault_by : Cause → Name → AppFault
fault_by causes.Unlisted name = app_faults.Unlisted name
fault_by causes.TwoVersions name = app_faults.TwoVersions name
fault_by causes.WrongType name = app_faults.WrongType name
fault_by causes.HandleExport name = app_faults.HandleExport name

-- Two components, what the first asks of the host, and where each import of the second comes from.
pub record Pair : Type 0 where
  pub first : Tree
  pub asked : First
  pub second : Tree
  pub sources : List Source

pub data PairVerdict : Type 0 where
  Joins : (pair : Pair) → PairVerdict
  Refuses : (fault : PlugFault) → PairVerdict

-- the second's imports, then whether one is met, then its exports
abbrev pub after_second : Tree → First → Tree → SecondVerdict → PairVerdict
after_second first asked second (Plugs sources) = Joins (record { first = first; asked = asked; second = second; sources = sources })
after_second first asked second (SecondAtFault cause name) = Refuses (plug_faults.Second (fault_by cause name))
after_second first asked second MeetsNothing = Refuses plug_faults.NothingMet

-- the second itself
abbrev pub and_second : Tree → First → Read → PairVerdict
and_second first asked (Err fault) = Refuses (plug_faults.Second fault)
and_second first asked (Ok second) = after_second first asked second (second_of asked (type_of first).exports (type_of second).imports (type_of second).exports)

-- the first's imports
abbrev pub after_first : Tree → FirstVerdict → Read → PairVerdict
after_first first (FirstAtFault cause name) second = Refuses (plug_faults.First (fault_by cause name))
after_first first (Asks asked) second = and_second first asked second

-- the first itself
abbrev pub pair_verdict : Read → Read → PairVerdict
pair_verdict (Err fault) second = Refuses (plug_faults.First fault)
pair_verdict (Ok first) second = after_first first (first_of (type_of first).imports) second

-- These bytes are sound components, which can be made one.
pub record IsPair (a b : List ℕ) (pair : Pair) : Type 0 where
  pub first : IsSound Virt a pair.first
  pub second : IsSound Virt b pair.second
  pub joins : pair_verdict (Ok pair.first) (Ok pair.second) ≡ Joins pair

-- ---- the status that two files call for

-- this status is due whatever else is: the file is absent, or too large
abbrev pub IsPartVerdict : Held → List ℕ → Status → Type 0
IsPartVerdict held name status = IsVerdictBy IsTooLarge (held.file name) name status

-- The file holds what is read so.
pub record IsPartFile (held : Held) (name : List ℕ) (read : Read) : Type 0 where
  pub bytes : List ℕ
  pub there : held.file name ≡ Some bytes
  pub is_read : IsRead bytes read

-- The files hold what can't be made one.
pub record AreRefused (held : Held) (first second : List ℕ) (status : Status) : Type 0 where
  pub a : Read
  pub b : Read
  pub first_file : IsPartFile held first a
  pub second_file : IsPartFile held second b
  pub fault : PlugFault
  pub refuses : pair_verdict a b ≡ Refuses fault
  pub told : status ≡ PlugRefused fault

-- the first file, then the second, then what both hold
abbrev pub IsPairVerdict : Held → (first second : List ℕ) → Status → Type 0
IsPairVerdict held first second status = IsPartVerdict held first status
    ⊎ (((a : Read) × IsPartFile held first a × IsPartVerdict held second status) ⊎ AreRefused held first second status)

-- The files hold two components that can be made one.
pub record ArePair (held : Held) (first second : List ℕ) : Type 0 where
  pub a : List ℕ
  pub b : List ℕ
  pub pair : Pair
  pub is_pair : IsPair a b pair
  pub first_there : held.file first ≡ Some a
  pub second_there : held.file second ≡ Some b

-- ---- what is made of them

-- The bytes spell a valid component that is listed. It imports what either asks of the host, with each function once, and exports what
-- the second exports. Two components stand at its outermost level, the first and the second, with their bytes unchanged. It makes an
-- instance of each, and its own sections make nothing.
pub record IsPluggedOf (pair : Pair) (a b bytes : List ℕ) (whole : Tree) (uses : List ListedUse) : Type 0 where
  pub spelled : SpellsComponent whole bytes
  pub valid : IsValidComponent whole
  pub listed : IsListed (type_of whole) uses
  pub imports : uses ≡ merged_uses pair.asked.uses (host_uses pair.sources)
  pub exports : (type_of whole).exports ≡ (type_of pair.second).exports
  pub components : map bare (components_in whole) ≡ bare pair.first ∷ bare pair.second ∷ []
  pub joined : AreJoined pair.first pair.second whole
  pub held_first : HasSection a bytes
  pub held_second : HasSection b bytes

-- an output of a component that imports nothing does what that does
abbrev pub BehavesSo : (policy : Policy) (uses : List ListedUse) (whole : Tree) (plugged bytes : List ℕ) → IsWrappedOf policy uses whole plugged bytes → Type 0
BehavesSo policy uses whole plugged bytes (inl alone) = DoesTheSame alone.1.output whole
BehavesSo policy uses whole plugged bytes (inr beside) = Unit {0}

-- The bytes are an output, under a policy, of the component that two make.
pub record IsPluggedOutput (policy : Policy) (a b bytes : List ℕ) : Type 0 where
  pub pair : Pair
  pub is_pair : IsPair a b pair
  pub plugged : List ℕ
  pub whole : Tree
  pub uses : List ListedUse
  pub made : IsPluggedOf pair a b plugged whole uses
  pub wrapped : IsWrappedOf policy uses whole plugged bytes
  pub behaves : BehavesSo policy uses whole plugged bytes wrapped

-- how many functions it imports
abbrev pub plugged_count : (policy : Policy) (a b bytes : List ℕ) → IsPluggedOutput policy a b bytes → ℕ
plugged_count policy a b bytes o = wrapped_count policy o.uses o.whole o.plugged bytes o.wrapped
