-- What is known of imports that were matched: the interfaces, and the kinds that their resources must have.
use Rattle.std.specs.Prelude.{◌≡◌, ℕ, List, [], Bool, true, IsTrue, All, is_some, nat_eq, Option, Some, None}
use Rattle.std.specs.List.{IsDistinct}
use Rattle.wit_types.specs.Plain.{Name}
use Rattle.comp_types.specs.Items.{Item, Entries, and_entry}
use Rattle.comp_types.specs.Equality.{IsOneToOne}
use Rattle.comp_types.specs.Substitution.{partner_of}
use Rattle.comp_types.specs.Matching.{Pairs, matched_entries}
use Rattle.wasi_listed.specs.Listed.{described}
use Rattle.wasi_match.specs.declared.listed.ListedUse.{ListedUse}
use Rattle.wasi_match.specs.declared.fault.Cause.{Cause}
use Rattle.wasi_match.specs.Offered.{offered}
use Rattle.wasi_match.specs.Listed.{AreUses, interfaces, places}
use Rattle.wasi_match.specs.Kinds.{turned}
use Rattle.wasi_match.specs.Verdicts.{IsAtFault}

-- a relation between kinds and resources
abbrev pub IsOf : (ℕ → ℕ → Bool) → ℕ → ℕ → Type 0
IsOf kinds kind resource = IsTrue (kinds kind resource)

-- The imports before are those of these interfaces where the resources have these kinds, and only there.
pub record IsBegun (before : Entries) (uses : List ListedUse) (by : Pairs) : Type 0 where
  pub fits : (kinds : ℕ → ℕ → Bool) → ((resource kind : ℕ) → partner_of by resource ≡ Some kind → IsTrue (kinds kind resource)) → AreUses (IsOf kinds) before uses
  pub forced : (kinds : ℕ → ℕ → Bool) → IsOneToOne kinds → (others : List ListedUse) → AreUses (IsOf kinds) before others → All (λ p. IsTrue (kinds p.1 p.0)) by
  pub apart : is_some (turned [] by) ≡ true
  pub once : IsDistinct nat_eq (interfaces uses)

-- ---- one import more

-- whether the entries fit the interface, and the places of its functions among them
abbrev pub Fits : Option (List ℕ) → (old new : Pairs) → (interface : ℕ) → (entries : Entries) → Type 0
Fits None old new interface entries = (more : Pairs) → matched_entries old (offered interface) entries ≡ Some more → turned [] more ≡ None
Fits (Some functions) old new interface entries =
    (matched_entries old (offered interface) entries ≡ Some new) × (is_some (turned [] new) ≡ true) × (functions ≡ places (described interface).functions entries)

abbrev pub Steps : Option Cause → (before : Entries) → (name : Name) → (item : Item) → (old new : List ListedUse) → Pairs → Type 0
Steps None before name item old new by = IsBegun (and_entry before name item) new by
Steps (Some cause) before name item old new by = IsAtFault cause before name item old
