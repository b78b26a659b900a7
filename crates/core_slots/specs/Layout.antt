-- How the slots lie in one list of words.
use Rattle.std.specs.Prelude.{ℕ, ◌≤◌, List, [], ◌∷◌, length, take, drop, reverse}
use Rattle.core_slots.specs.Stacked.{Held, Stacked}
use Rattle.core_slots.specs.declared.slots.Base.{Base}
use Rattle.core_slots.specs.declared.slots.Slots.TheInside.{Inside}

abbrev pub held : List ℕ → List Base → List Held
held ws [] = []
held ws (b ∷ bs) =
    record { operands = reverse (drop b.operands ws); locals = drop b.locals (take b.operands ws) } ∷ held (take b.locals ws) bs

-- each call's words stand below those of the next
abbrev pub Nested : ℕ → List Base → Type 0
Nested top [] = Unit {0}
Nested top (b ∷ bs) = (b.locals ≤ b.operands) × (b.operands ≤ top) × Nested b.locals bs

abbrev pub stacked : List ℕ → ℕ → ℕ → List Base → Stacked
stacked ws locals operands bs = record {
  operands = reverse (drop operands ws);
  locals = drop locals (take operands ws);
  callers = held (take locals ws) bs;
}

abbrev pub view_of : Inside → Stacked
view_of s = stacked s.words.items s.locals s.operands (reverse s.callers.items)

pub record IsLaid (words : List ℕ) (locals operands : ℕ) (callers : List Base) : Type 0 where
  pub low : locals ≤ operands
  pub high : operands ≤ length words
  pub nested : Nested locals callers

abbrev pub IsLaidOut : Inside → Type 0
IsLaidOut s = IsLaid s.words.items s.locals s.operands (reverse s.callers.items)
