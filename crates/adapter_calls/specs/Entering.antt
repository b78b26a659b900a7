-- The answer of the host to core code of an adapter: its handles are own, of the host's resources, and enter the handle map (Component Model,
-- CanonicalABI.md, `lower_own`).
use Rattle.std.specs.Prelude.{◌≡◌, ℕ, List}
use Rattle.std.specs.Option.{option_map}
use Rattle.wit_types.specs.Plain.{PlainFunc}
use Rattle.wit_types.specs.PlainValue.{PlainValue}
use Rattle.abi_layout.specs.Handles.{handles}
use Rattle.handle_space.specs.HandleMap.{HandleMap, Answered}
use Rattle.comp_types.specs.Substitution.{value_with}
use Rattle.comp_worlds.specs.Calls.{unborrowed}
use Rattle.comp_worlds.specs.Groups.{Config}
use Rattle.comp_worlds.specs.Hosts.{passed_by}
use Rattle.comp_worlds.specs.Locals.{Local, adds_handles, with_map}
use Rattle.comp_worlds.specs.Passing.{handles_of}
use Rattle.row_runs.specs.Passing.{answer_tuple, named_in, adds}
use Rattle.adapter_calls.specs.Handling.{map_to}
use Rattle.adapter_calls.specs.Lifting.{AreOwn}

-- the handles are in the map, each at its index
abbrev pub entered : (ℕ → ℕ) → Config ℕ → Answered ℕ (List ℕ) → Local ℕ (List ℕ)
entered to c a = record { config = with_map c (map_to to a.map); answer = a.answer }

-- Handles enter as the row's run adds them.
abbrev pub EntersAsAdded : Type 0
EntersAsAdded =
    (to : ℕ → ℕ) (ty : PlainFunc) (v : PlainValue) (c : Config ℕ) (table : HandleMap ℕ) → c.map ≡ map_to to table → AreOwn (named_in (handles (answer_tuple ty) v)) →
    adds_handles unborrowed (handles_of (value_with to (answer_tuple ty)) (passed_by (value_with to (answer_tuple ty)) v)) c ≡ option_map (entered to c) (adds (named_in (handles (answer_tuple ty) v)) table)
