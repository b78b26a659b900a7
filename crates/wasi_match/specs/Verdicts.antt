-- What is said of a component: that it is listed, or what is at fault first. Imports are taken in order, and of each its name is
-- asked first, then whether its interface was imported before, then its type; the exports come after all imports.
use Rattle.std.specs.Prelude.{◌≡◌, List, true, false, Contains, Option, Some, None, Result, Ok, Err, IfSome}
use Rattle.wit_types.specs.Plain.{Name}
use Rattle.comp_types.specs.Items.{Item, Entries, Signature, End, More, and_entry}
use Rattle.comp_types.specs.Resources.{item_has_resource, entries_have_resource}
use Rattle.wasi_match.specs.Names.{Versioned}
use Rattle.wasi_match.specs.declared.listed.Listed.{Listed}
use Rattle.wasi_match.specs.declared.listed.ListedUse.{ListedUse}
use Rattle.wasi_match.specs.declared.fault.Cause.{Cause}
use Rattle.wasi_match.specs.declared.fault.Cause.TheVariants.{Unlisted, TwoVersions, WrongType, HandleExport}
use Rattle.wasi_match.specs.declared.fault.MatchFault.{MatchFault}
use Rattle.wasi_match.specs.declared.fault.MatchFault.TheVariants.{Unlisted as UnlistedAt, WrongType as WrongTypeAt, TwoVersions as TwoVersionsAt, HandleExport as HandleExportAt, NoMemory}
use Rattle.wasi_match.specs.Listed.{IsNamed, AreListed, IsListed, interfaces}

pub data Verdict : Type 0 where
  Accepted : (uses : List ListedUse) → Verdict
  Refused : (cause : Cause) → (name : Name) → Verdict

-- some entries and then others
abbrev pub joined : Entries → Entries → Entries
joined End entries = entries
joined (More name item rest) entries = More name item (joined rest entries)

-- ---- an import at fault, after others that are listed

abbrev pub IsUnlisted : (name : Name) → (item : Item) → Type 0
IsUnlisted name item = (listed : Versioned) (entries : Entries) → IsNamed name item listed entries → ⊥

abbrev pub IsTwice : (name : Name) → (item : Item) → List ListedUse → Type 0
IsTwice name item uses = (listed : Versioned) × (entries : Entries) × IsNamed name item listed entries × Contains (interfaces uses) listed.interface

abbrev pub IsMistyped : (before : Entries) → (name : Name) → (item : Item) → List ListedUse → Type 0
IsMistyped before name item uses =
    (listed : Versioned) × (entries : Entries) × IsNamed name item listed entries × (Contains (interfaces uses) listed.interface → ⊥)
    × ((more : List ListedUse) → AreListed (and_entry before name item) more → ⊥)

abbrev pub IsAtFault : Cause → (before : Entries) → (name : Name) → (item : Item) → List ListedUse → Type 0
IsAtFault Unlisted before name item uses = IsUnlisted name item
IsAtFault TwoVersions before name item uses = IsTwice name item uses
IsAtFault WrongType before name item uses = IsMistyped before name item uses
IsAtFault HandleExport before name item uses = ⊥

pub record HasImportAtFault (cause : Cause) (imports : Entries) (name : Name) : Type 0 where
  pub before : Entries
  pub item : Item
  pub behind : Entries
  pub there : imports ≡ joined before (More name item behind)
  pub uses : List ListedUse
  pub listed : AreListed before uses
  pub fault : IsAtFault cause before name item uses

-- the first export in which a resource type or a handle stands
pub record HasHandle (exports : Entries) (name : Name) : Type 0 where
  pub before : Entries
  pub item : Item
  pub behind : Entries
  pub there : exports ≡ joined before (More name item behind)
  pub none : entries_have_resource before ≡ false
  pub some : item_has_resource item ≡ true

-- ---- all together

abbrev pub IsRefused : Cause → Signature → Name → Type 0
IsRefused Unlisted ty name = HasImportAtFault Unlisted ty.imports name
IsRefused TwoVersions ty name = HasImportAtFault TwoVersions ty.imports name
IsRefused WrongType ty name = HasImportAtFault WrongType ty.imports name
IsRefused HandleExport ty name = (uses : List ListedUse) × AreListed ty.imports uses × HasHandle ty.exports name

abbrev pub IsVerdict : Signature → Verdict → Type 0
IsVerdict ty (Accepted uses) = IsListed ty uses
IsVerdict ty (Refused cause name) = IsRefused cause ty name

-- what an answer says; no memory says nothing
abbrev pub fault_verdict : MatchFault → Option Verdict
fault_verdict (UnlistedAt name) = Some (Refused Unlisted name)
fault_verdict (TwoVersionsAt name) = Some (Refused TwoVersions name)
fault_verdict (WrongTypeAt name) = Some (Refused WrongType name)
fault_verdict (HandleExportAt name) = Some (Refused HandleExport name)
fault_verdict NoMemory = None

abbrev pub verdict_of : Result Listed MatchFault → Option Verdict
verdict_of (Ok listed) = Some (Accepted listed.uses)
verdict_of (Err fault) = fault_verdict fault

abbrev pub Answers : Signature → Result Listed MatchFault → Type 0
Answers ty result = IfSome (verdict_of result) (IsVerdict ty)
