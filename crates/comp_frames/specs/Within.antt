-- Steps of storing that write within the room that they asked for.
use Rattle.std.specs.Prelude.{ℕ, ◌+◌, ◌<◌, ◌≤◌, List, [], ◌∷◌, ◌++◌, length, slice_index, Option, Some, None}
use Rattle.abi_layout.specs.Storing.{Base, Target, Answer, Step, Ask, Write, Place, Refuse, Lowered}
use Rattle.abi_store.specs.Plan.{Due, Nothing, Given, Asked}

-- An end, counted from a base, is within the memory, if there may be one of this length; or within the room of a request that was
-- made before, of which these are the lengths.
abbrev pub InRoom : Option ℕ → List ℕ → Base → ℕ → Type 0
InRoom None rooms Target end = ⊥
InRoom (Some memory) rooms Target end = end ≤ memory
InRoom memory rooms (Answer k) end = (k < length rooms) × (end ≤ slice_index rooms k)

abbrev pub StayWithin : Option ℕ → List ℕ → List Step → Type 0
StayWithin memory rooms [] = Unit {0}
StayWithin memory rooms (Ask align len ∷ steps) = StayWithin memory (rooms ++ len ∷ []) steps
StayWithin memory rooms (Write base offset bytes ∷ steps) = InRoom memory rooms base (offset + length bytes) × StayWithin memory rooms steps
StayWithin memory rooms (Place base offset request ∷ steps) = InRoom memory rooms base (offset + 4) × (request < length rooms) × StayWithin memory rooms steps
StayWithin memory rooms (Refuse ∷ steps) = Unit {0}

-- what is left of a plan stays within a memory of this length, once what is due was tested
abbrev pub IsRoomy : ℕ → Due → Lowered → Type 0
IsRoomy memory Nothing left = StayWithin (Some memory) [] left.steps
IsRoomy memory (Given place align len) left = (m : ℕ) → place + len ≤ m → StayWithin (Some m) [] left.steps
IsRoomy memory (Asked align len) left = StayWithin (Some memory) (len ∷ []) left.steps
