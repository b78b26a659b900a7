-- What a function of an adapter answers is lifted: its handles are own, of the adapter's own resources, and leave the handle map (Component
-- Model, CanonicalABI.md, "Lifting" and "Flat Lifting").
use Rattle.std.specs.Prelude.{◌≡◌, ℕ, List, [], ◌∷◌, Option}
use Rattle.std.specs.Option.{option_map, option_and_then}
use Rattle.wit_types.specs.Plain.{Plain, PlainFunc}
use Rattle.wit_types.specs.PlainValue.{PlainValue}
use Rattle.abi_layout.specs.Handles.{handles}
use Rattle.handle_space.specs.HandleMap.{HandleMap, Answered}
use Rattle.adapter_code.specs.Run.{own_resource}
use Rattle.comp_types.specs.Substitution.{value_with}
use Rattle.comp_worlds.specs.Groups.{Options, Config}
use Rattle.comp_worlds.specs.Locals.{Local, Args, bytes_in, lifts, with_map}
use Rattle.comp_worlds.specs.Passing.{blank}
use Rattle.row_runs.specs.Passing.{Named, OwnAt, BorrowAt, answer_tuple, named_in, takes, lift_words}
use Rattle.adapter_calls.specs.Handling.{map_to}

-- the type of an answer whose handles are of the adapter's own resources
abbrev pub own_tuple : PlainFunc → Plain
own_tuple ty = value_with own_resource (answer_tuple ty)

-- no handle of a value is borrowed
abbrev pub AreOwn : List Named → Type 0
AreOwn [] = Unit {0}
AreOwn (OwnAt kind index ∷ ns) = AreOwn ns
AreOwn (BorrowAt kind index ∷ ns) = ⊥

-- the value without the numbers of its handles, and what these stood for; they left the map, and none was lent
abbrev pub lifted : (ℕ → ℕ) → PlainFunc → Config ℕ → PlainValue → Answered ℕ (List ℕ) → Local ℕ (Args ℕ)
lifted to ty c v a = record { config = with_map c (map_to to a.map); answer = record { passed = record { value = blank (own_tuple ty) v; reps = a.answer }; loans = [] } }

abbrev pub lifted_by : (ℕ → ℕ) → PlainFunc → Config ℕ → HandleMap ℕ → PlainValue → Option (Local ℕ (Args ℕ))
lifted_by to ty c table v = option_map (lifted to ty c v) (takes own_resource (named_in (handles (answer_tuple ty) v)) table)

-- Words are lifted as the row's run lifts them.
abbrev pub LiftsAsTaken : Type 0
LiftsAsTaken =
    (to : ℕ → ℕ) → ((r s : ℕ) → to r ≡ to s → r ≡ s) → (most : ℕ) (ty : PlainFunc) (options : Options) (words : List ℕ) (c : Config ℕ) (table : HandleMap ℕ) → c.map ≡ map_to to table →
    ((v : PlainValue) → AreOwn (named_in (handles (answer_tuple ty) v))) →
    lifts most (value_with to (own_tuple ty)) options words c ≡ option_and_then (lifted_by to ty c table) (lift_words most (answer_tuple ty) (bytes_in options c.store) words)
