-- How far a plan has come, and what is left of it.
use Rattle.std.specs.Prelude.{ℕ, ◌≡◌, ◌+◌, List, [], ◌∷◌, ◌++◌, reverse}
use Rattle.virt_base.specs.declared.core_type.CoreType.{CoreType}
use Rattle.abi_layout.specs.Storing.{Refuse, Lowered, requests}
use Rattle.abi_store.specs.declared.content.Cell.{Cell}
use Rattle.abi_store.specs.declared.content.Cell.TheVariants.{Memory, Flat}
use Rattle.abi_store.specs.declared.request.Request.{Request}
use Rattle.abi_store.specs.declared.work.Work.{Work}
use Rattle.abi_store.specs.declared.slot.Flats.{Flats}
use Rattle.abi_store.specs.declared.stage.Stage.{Stage}
use Rattle.abi_store.specs.declared.stage.Stage.TheVariants.{Flat as OfFlats, Given as OfGiven, Asked as OfAsked, Broken as OfBroken}
use Rattle.abi_store.specs.Plan.{Due, Nothing, Given, Asked, Plan}
use Rattle.abi_store.specs.Rooms.{behind, cell_flats}
use Rattle.abi_store.specs.Flows.{chain}
use Rattle.abi_store.specs.Works.{work_lowered, works_lowered, place_lowered}
use Rattle.abi_store.specs.Slots.{slots_lowered, known}

-- what is in progress, and the flat values after it
abbrev pub rest_of : List Work → Flats → ℕ → Lowered
rest_of works flats k = chain (works_lowered (reverse works)) (slots_lowered (reverse flats.left.items)) k

-- what is left after a request that is asked
abbrev pub asked_left : Request → List Work → Flats → Lowered
asked_left request works flats = record {
  steps = behind request.content request.cell 0 ++ (rest_of works flats (0 + (requests (behind request.content request.cell 0) + 1))).steps;
  flats = known flats.done.items ++ (cell_flats request.cell 0 ++ (rest_of works flats (0 + (requests (behind request.content request.cell 0) + 1))).flats);
}

abbrev pub running_left : List Work → Flats → Lowered
running_left works flats = record { steps = (rest_of works flats 0).steps; flats = known flats.done.items ++ (rest_of works flats 0).flats }

abbrev pub due_of : Stage → Due
due_of OfFlats = Nothing
due_of (OfGiven spot) = Given spot.place spot.align spot.len
due_of (OfAsked request) = Asked request.align request.len
due_of OfBroken = Nothing

-- a plan that trapped, or for which memory ran out, is refused from then on
abbrev pub left_of : Stage → List Work → Flats → Lowered
left_of OfFlats works flats = running_left works flats
left_of (OfGiven spot) works flats = running_left works flats
left_of (OfAsked request) works flats = asked_left request works flats
left_of OfBroken works flats = record { steps = Refuse ∷ []; flats = [] }

abbrev pub plan_of : Stage → List Work → Flats → List CoreType → Plan
plan_of stage works flats types = record { due = due_of stage; left = left_of stage works flats; types = types }

-- what is in progress in memory where only flat values are left, which is nothing
abbrev pub idle_works : Stage → List Work → List Work
idle_works OfFlats works = works
idle_works (OfGiven spot) works = []
idle_works (OfAsked request) works = []
idle_works OfBroken works = []

-- where an answer went: to a place of memory, as a work on top of the others, or among the flat values
abbrev pub IsPlaced : Cell → ℕ → ℕ → List Work → Flats → List Work → Flats → Type 0
IsPlaced (Memory at) place len works flats new after =
    (w : Work) × ((k : ℕ) → work_lowered w k ≡ place_lowered at place len k) × (new ≡ works ++ w ∷ []) × (after.done.items ≡ flats.done.items) × (after.left.items ≡ flats.left.items)
IsPlaced Flat place len works flats new after = (new ≡ works) × (after.done.items ≡ flats.done.items ++ place ∷ []) × (after.left.items ≡ flats.left.items)
