-- Parts of a plugged component that were read, and what is made of them. (For private clauses.)
use Rattle.std.specs.Prelude.{ℕ, ◌≡◌, ◌⊎◌, List, [], true, Some, Result, Ok, Err}
use Rattle.outside.specs.Files.{FilesState}
use Rattle.virt_base.specs.declared.fault.AppFault.TheVariants as app_faults
use Rattle.comp_grammar.specs.Trees.{plain}
use Rattle.comp_types.specs.Added.{type_of}
use Rattle.comp_signature.specs.Signatures.{component_signature}
use Rattle.wasi_match.specs.declared.fault.MatchFault.{MatchFault}
use Rattle.wasi_match.specs.declared.fault.MatchFault.TheVariants as match_faults
use Rattle.plug_match.specs.declared.fault.SecondFault.{SecondFault}
use Rattle.plug_match.specs.declared.fault.SecondFault.TheVariants as second_faults
use Rattle.plug_match.specs.FirstWalk.{Asks}
use Rattle.plug_compose.specs.declared.plugged.Half.{Half}
use Rattle.plug_compose.specs.declared.plugged.Plugged.{Plugged}
use Rattle.plug_compose.specs.Merged.{merged_uses}
use Rattle.plug_compose.specs.Sources.{host_uses}
use Rattle.plug_compose.specs.Plugged.{IsPlugged}
use Rattle.component_judge.specs.Components.{IsSound}
use Rattle.component_judge.specs.Fetching.{FetchesAs}
use Rattle.component_judge.specs.Limits.{bytes_limit, bytes_name}
use Rattle.component_judge.specs.declared.inputs.Fetched.{Fetched}
use Rattle.component_judge.specs.declared.limits.Purpose.TheVariants.{Virt}
use Rattle.component_judge.specs.declared.refusal.Refusal.{Refusal}
use Rattle.component_judge.specs.declared.refusal.Refusal.TheVariants as refusals
use Rattle.component_judge.specs.declared.unready.Unready.{Unready}
use Rattle.virt_engine.specs.declared.plugging.Part.{Part}
use Rattle.virt_engine.specs.declared.plugging.Part.TheVariants.{Sound, AtFault}
use Rattle.virt_engine.specs.declared.plugging.Asking.{Asking}
use Rattle.virt_engine.specs.declared.plugging.Joining.{Joining}
use Rattle.virt_engine.specs.declared.status.PlugFault.{PlugFault}
use Rattle.virt_engine.specs.declared.status.PlugFault.TheVariants.{First, Second, NothingMet}
use Rattle.virt_engine.specs.declared.status.Status.{Status}
use Rattle.virt_engine.specs.declared.status.Status.TheVariants.{NoMemory, PlugRefused}
use Rattle.virt_engine.specs.Pairs.{Read, IsRead, IsTooLarge, Pair, PairVerdict, Joins, Refuses, IsPair, pair_verdict, after_first, fault_by}

-- ---- one part

-- A sound component with its type.
pub record IsSoundHalf (half : Half) : Type 0 where
  pub sound : IsSound Virt half.bytes.items (plain half.component)
  pub typed : component_signature half.ty ≡ type_of (plain half.component)

abbrev pub IsSoundPart : Part → Type 0
IsSoundPart (Sound half) = IsSoundHalf half
IsSoundPart (AtFault fault) = Unit {0}

-- what it was read as
abbrev pub read_of : Part → Read
read_of (Sound half) = Ok (plain half.component)
read_of (AtFault fault) = Err fault

abbrev pub part_bytes : Part → List ℕ
part_bytes (Sound half) = half.bytes.items
part_bytes (AtFault fault) = []

-- the part that these bytes hold
abbrev pub IsPartOf : List ℕ → Part → Type 0
IsPartOf bytes (Sound half) = (half.bytes.items ≡ bytes) × IsSoundHalf half
IsPartOf bytes (AtFault fault) = IsRead bytes (Err fault)

abbrev pub ReadsPart : List ℕ → Result Part Refusal → Type 0
ReadsPart bytes (Ok part) = IsPartOf bytes part
ReadsPart bytes (Err refusal) = (refusal ≡ refusals.NoMemory) ⊎ IsTooLarge bytes refusal

-- The file holds it.
pub record HasPart (name : List ℕ) (s : FilesState) (part : Part) : Type 0 where
  pub bytes : List ℕ
  pub is_part : IsPartOf bytes part
  pub there : s.told ≡ true → s.held.file name ≡ Some bytes

abbrev pub FetchesPart : List ℕ → FilesState → FilesState → Result Part Unready → Type 0
FetchesPart name s t r = FetchesAs name (bytes_name Virt) (bytes_limit Virt) IsTooLarge (HasPart name s) s t r

-- ---- what is at fault

abbrev pub first_status : MatchFault → Status
first_status (match_faults.Unlisted name) = PlugRefused (First (app_faults.Unlisted name))
first_status (match_faults.TwoVersions name) = PlugRefused (First (app_faults.TwoVersions name))
first_status (match_faults.WrongType name) = PlugRefused (First (app_faults.WrongType name))
first_status (match_faults.HandleExport name) = PlugRefused (First (app_faults.HandleExport name))
first_status match_faults.NoMemory = NoMemory

abbrev pub second_status : SecondFault → Status
second_status (second_faults.Refused cause name) = PlugRefused (Second (fault_by cause name))
second_status second_faults.NothingMet = PlugRefused NothingMet
second_status second_faults.NoMemory = NoMemory

-- memory ran out, or the verdict is a refusal with this status
abbrev pub IsRefusedBy : PairVerdict → Status → Type 0
IsRefusedBy verdict status = (status ≡ NoMemory) ⊎ ((fault : PlugFault) × (verdict ≡ Refuses fault) × (status ≡ PlugRefused fault))

-- ---- one after the other

-- the first will do, and this is known of it; or it is at fault whatever the second is
abbrev pub AsksFirst : Part → Result Asking Status → Type 0
AsksFirst part (Ok asking) = (part ≡ Sound asking.half) × ((second : Read) → pair_verdict (read_of part) second ≡ after_first (plain asking.half.component) (Asks asking.asked) second)
AsksFirst part (Err status) = (second : Read) → IsRefusedBy (pair_verdict (read_of part) second) status

-- what both come to, once the first will do
abbrev pub joined_verdict : Asking → Read → PairVerdict
joined_verdict asking second = after_first (plain asking.half.component) (Asks asking.asked) second

abbrev pub pair_so : Asking → Joining → Pair
pair_so asking joining = record { first = plain asking.half.component; asked = asking.asked; second = plain joining.half.component; sources = joining.joined.sources }

abbrev pub MeetsSecond : Asking → Part → Result Joining Status → Type 0
MeetsSecond asking part (Ok joining) = (part ≡ Sound joining.half) × (joined_verdict asking (read_of part) ≡ Joins (pair_so asking joining))
MeetsSecond asking part (Err status) = IsRefusedBy (joined_verdict asking (read_of part)) status

-- a component that was read, as it was plugged
abbrev pub plugged_as : Fetched → Plugged
plugged_as f = record { bytes = f.bytes; component = f.application.judged.component; ty = f.application.judged.ty; listed = f.application.listed }

-- it is made of these two
abbrev pub IsMadeOf : Pair → (a b : List ℕ) → Fetched → Type 0
IsMadeOf pair a b f = IsPlugged pair.first pair.second (type_of pair.second).exports (merged_uses pair.asked.uses (host_uses pair.sources)) a b (plugged_as f)

-- The two parts can be made one, which this is.
pub record ArePlugged (first second : Part) (f : Fetched) : Type 0 where
  pub pair : Pair
  pub is_pair : IsPair (part_bytes first) (part_bytes second) pair
  pub made : IsMadeOf pair (part_bytes first) (part_bytes second) f
  -- both are sound
  pub first_read : read_of first ≡ Ok pair.first
  pub second_read : read_of second ≡ Ok pair.second

abbrev pub PlugsParts : Part → Part → Result Fetched Status → Type 0
PlugsParts first second (Ok f) = ArePlugged first second f
PlugsParts first second (Err status) = IsRefusedBy (pair_verdict (read_of first) (read_of second)) status
