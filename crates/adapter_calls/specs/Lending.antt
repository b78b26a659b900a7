-- The arguments of a call that core code of an adapter makes of the host: each of their handles is lent, of a resource of the host's, and
-- the loans end with the call (Component Model, CanonicalABI.md, `lift_borrow` and `canon_lower`).
use Rattle.std.specs.Prelude.{◌≡◌, ℕ, List, [], ◌∷◌, Option, Some, None}
use Rattle.wit_types.specs.Plain.{Plain, PlainFunc}
use Rattle.wit_types.specs.PlainValue.{PlainValue}
use Rattle.abi_layout.specs.Handles.{handles}
use Rattle.handle_space.specs.HandleMap.{HandleMap}
use Rattle.comp_types.specs.Substitution.{value_with}
use Rattle.comp_worlds.specs.Groups.{Options, Config}
use Rattle.comp_worlds.specs.Locals.{bytes_in, done, ends_loans, lifts, with_map}
use Rattle.comp_worlds.specs.Passing.{blank}
use Rattle.row_runs.specs.Passing.{Named, OwnAt, BorrowAt, params_tuple, named_in, lends, lift_words}
use Rattle.adapter_calls.specs.Handling.{map_to, AreOwned}

-- each handle of a value is borrowed
abbrev pub AreBorrowed : List Named → Type 0
AreBorrowed [] = Unit {0}
AreBorrowed (BorrowAt kind index ∷ ns) = AreBorrowed ns
AreBorrowed (OwnAt kind index ∷ ns) = ⊥

-- The value passes with what its handles stand for, and once the loans have ended the handles are as before.
pub record IsLent (to : ℕ → ℕ) (ty : Plain) (most : ℕ) (options : Options) (words : List ℕ) (c : Config ℕ) (table : HandleMap ℕ) (v : PlainValue) (ids : List ℕ) : Type 0 where
  pub map : HandleMap ℕ
  pub loans : List ℕ
  pub lifts_so : lifts most (value_with to ty) options words c ≡ Some (record { config = with_map c (map_to to map); answer = record { passed = record { value = blank ty v; reps = ids }; loans = loans } })
  pub ends : (d : Config ℕ) → d.map ≡ map_to to map → ends_loans loans d ≡ Some (done (with_map d (map_to to table)))

abbrev pub LentOrNot : (to : ℕ → ℕ) (ty : Plain) (most : ℕ) (options : Options) (words : List ℕ) (c : Config ℕ) (table : HandleMap ℕ) → PlainValue → Option (List ℕ) → Type 0
LentOrNot to ty most options words c table v None = lifts most (value_with to ty) options words c ≡ None
LentOrNot to ty most options words c table v (Some ids) = IsLent to ty most options words c table v ids

abbrev pub LiftedOrNot : (to : ℕ → ℕ) (ty : Plain) (most : ℕ) (options : Options) (words : List ℕ) (c : Config ℕ) (table : HandleMap ℕ) → Option PlainValue → Type 0
LiftedOrNot to ty most options words c table None = lifts most (value_with to ty) options words c ≡ None
LiftedOrNot to ty most options words c table (Some v) = LentOrNot to ty most options words c table v (lends (named_in (handles ty v)) table)

-- Words are lifted, and their handles lent, as the row's run lifts and lends them.
abbrev pub LiftsAsLent : Type 0
LiftsAsLent =
    (to : ℕ → ℕ) → ((r s : ℕ) → to r ≡ to s → r ≡ s) → (most : ℕ) (ty : PlainFunc) (options : Options) (words : List ℕ) (c : Config ℕ) (table : HandleMap ℕ) → c.map ≡ map_to to table → AreOwned table.entries →
    ((v : PlainValue) → AreBorrowed (named_in (handles (params_tuple ty) v))) →
    LiftedOrNot to (params_tuple ty) most options words c table (lift_words most (params_tuple ty) (bytes_in options c.store) words)
