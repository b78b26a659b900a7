-- poll, by whether each pollable is the host's.
use Rattle.std.specs.Prelude.{ℕ, ◌+◌, Bool, List, [], ◌∷◌, if◌then◌else◌}
use Rattle.wit_types.specs.PlainValue.{PlainValue}
use Rattle.reference_step.specs.Values.{number, numbers}
use Rattle.reference_step.specs.State.{Row, Traps, returns}

-- the places of those that are always ready, where the first has this place
abbrev pub always_among : ℕ → List Bool → List ℕ
always_among place [] = []
always_among place (host ∷ rest) = if host then always_among (place + 1) rest else place ∷ always_among (place + 1) rest

abbrev pub ready_place : Bool → ℕ → List PlainValue
ready_place host place = if host then [] else number place ∷ []

-- of no pollable it traps
abbrev pub polled : List Bool → Row
polled [] = Traps
polled (host ∷ rest) = returns (numbers (always_among 0 (host ∷ rest)))
