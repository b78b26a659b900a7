-- The cause of a stop at a tag in a component, however deep components may stand in one another.
use Rattle.std.specs.Prelude.{◌≡◌, ℕ, ◌+◌, List, ◌∷◌, ◌++◌, length}
use Rattle.virt_base.specs.Place.{Place}
use Rattle.comp_grammar.specs.Trees.{Tree}
use Rattle.comp_grammar.specs.Components.{SpellsAt}

-- This byte stands at this offset, and no component is spelled by bytes that begin as those at the place do, up to and with it.
abbrev pub CauseAtAnyDepth : Place → ℕ → ℕ → Type 0
CauseAtAnyDepth p at byte = (front rest : List ℕ) × (p.rest ≡ front ++ byte ∷ rest) × (at ≡ p.at + length front) × ((t : Tree) (other : List ℕ) → SpellsAt p.at t (front ++ byte ∷ other) → ⊥)
