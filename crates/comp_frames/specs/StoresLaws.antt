-- Plans and what the definition stores. Worlds are said to have lists of what was seen below, since clauses speak of no type of
-- states; the lemmas in `proofs/` are over every state.
use Rattle.std.specs.Prelude.{ℕ, ◌≡◌, ◌<◌, ◌≤◌, List, length, Option, Some}
use Rattle.wit_types.specs.Plain.{Plain}
use Rattle.wit_types.specs.PlainValue.{PlainValue}
use Rattle.core_store.specs.State.{memory_at}
use Rattle.abi_layout.specs.Storing.{Lowered}
use Rattle.abi_store.specs.Plan.{Asks, Due, Asked, goes_on, at_plan, flat_plan, spill_plan}
use Rattle.host_port.specs.Calls.{PlainObservation}
use Rattle.core_memory.specs.Linear.{Linear}
use Rattle.comp_worlds.specs.Groups.{Nesting, Group, World, Ports}
use Rattle.comp_worlds.specs.Calls.{Run}
use Rattle.comp_frames.specs.Within.{IsRoomy}
use Rattle.comp_frames.specs.Left.{does_due, goes_from}

abbrev pub GoesOn : Type 0
GoesOn =
    (G : Group) (p : Ports (List PlainObservation)) (run : Run (List PlainObservation)) (d : Nesting) (k at : ℕ) (realloc : Option ℕ) (due : Due) (left : Lowered) (answer : Option ℕ) (w : World (List PlainObservation)) (n : ℕ) →
    at < length (w.configs k).store.memories → IsRoomy (length (memory_at (w.configs k).store at).bytes) due left →
    does_due G p run d k (record { memory = Some at; realloc = realloc }) due left answer w n
    ≡ goes_from G p run d k (record { memory = Some at; realloc = realloc }) at (goes_on due left answer (memory_at (w.configs k).store at)) w n

abbrev pub HasRoom : Type 0
HasRoom = (memory place : ℕ) (ty : Plain) (v : PlainValue) → IsRoomy memory (at_plan place ty v).due (at_plan place ty v).left × IsRoomy memory (flat_plan ty v).due (flat_plan ty v).left × IsRoomy memory (spill_plan ty v).due (spill_plan ty v).left

-- after a request what is left stays within a memory that is as long, or longer
abbrev pub KeepsRoom : Type 0
KeepsRoom =
    (due : Due) (left after : Lowered) (answer : Option ℕ) (align len grown : ℕ) (m new : Linear) → IsRoomy (length m.bytes) due left → goes_on due left answer m ≡ Asks align len after new → length m.bytes ≤ grown →
    IsRoomy grown (Asked align len) after × (length new.bytes ≡ length m.bytes)
