-- What one turn of a walk does.
use Rattle.std.specs.Prelude.{◌≡◌, ℕ, ◌<◌, ◌≤◌, Bool, List, [], ◌∷◌, ◌++◌, Option, length}
use Rattle.std.specs.Borrow.{Bor}
use Rattle.tree_table.specs.declared.entries.Node.{Node}
use Rattle.tree_table.specs.declared.walking.Turn.{Turn}
use Rattle.tree_table.specs.declared.walking.Turn.TheVariants.{Goes, Follows, Ends, Stops}
use Rattle.tree_table.specs.Paths.{Answer, At, Fails, resolve_parts, is_empty, parts_of}
use Rattle.tree_table.specs.Faults.{code_of}

-- The parts from this one on lead where the turn says, whatever comes after it. The walk began at the path `start` of the tree `home`.
module _ (look : ℕ → List (List ℕ) → Option Node) (tree : ℕ → ℕ) (path : ℕ → List (List ℕ)) (nodes longest : ℕ) (follow last : Bool) (home : ℕ) (start below : List (List ℕ)) (part : List ℕ) where
  abbrev pub Leads : ((List (List ℕ) → List ℕ → List (List ℕ) → Answer) → List (List ℕ) → Answer) → Type 0
  Leads to = (after : List (List ℕ) → List ℕ → List (List ℕ) → Answer) → (parts : List (List ℕ)) → is_empty parts ≡ last → resolve_parts (look home) start follow after below (part ∷ parts) ≡ to after parts

  abbrev pub TurnMeets : Turn → Type 0
  TurnMeets (Goes node) = (node < nodes) × (tree node ≡ home) × ((next : List (List ℕ)) × (path node ≡ next ++ start) × Leads (λ after parts. resolve_parts (look home) start follow after next parts))
  TurnMeets (Follows target) = (length (parts_of target.now) ≤ longest) × Leads (λ after parts. after below target.now parts)
  TurnMeets (Ends node) = (node < nodes) × (tree node ≡ home) × Leads (λ after parts. At (path node))
  TurnMeets (Stops fault) = Leads (λ after parts. Fails (code_of fault))

-- the parts of texts that wait, the last one first
abbrev pub stacked : List (Bor (List ℕ)) → List (List ℕ)
stacked [] = []
stacked (text ∷ texts) = stacked texts ++ parts_of text.now
