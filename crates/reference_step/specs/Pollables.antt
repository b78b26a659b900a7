-- wasi:io/poll: what it does where a pollable is not the host's.
use Rattle.std.specs.Prelude.{ℕ, ◌+◌, true, List, [], ◌∷◌, if◌then◌else◌}
use Rattle.wit_types.specs.PlainValue.{PlainValue, BoolValue}
use Rattle.reference_step.specs.Handles.{Content, is_host}
use Rattle.reference_step.specs.Values.{numbers, list_in, id_in}
use Rattle.reference_step.specs.State.{View, Row, Traps, returns, returns_nothing}

abbrev pub ready : Row
ready = returns (BoolValue true)

abbrev pub block : Row
block = returns_nothing

-- the places of those that are always ready, where the first has this place
abbrev pub always_among : (ℕ → Content) → ℕ → List PlainValue → List ℕ
always_among content place [] = []
always_among content place (v ∷ vs) = if is_host (content (id_in v)) then always_among content (place + 1) vs else place ∷ always_among content (place + 1) vs

-- the places of all that are always ready; of no pollable it traps
abbrev pub poll_of : (ℕ → Content) → List PlainValue → Row
poll_of content [] = Traps
poll_of content (v ∷ vs) = returns (numbers (always_among content 0 (v ∷ vs)))

abbrev pub poll : View → PlainValue → Row
poll v pollables = poll_of v.content (list_in pollables)
