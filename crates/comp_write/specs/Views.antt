-- What the fields of a state stand for.
use Rattle.std.specs.Prelude.{ℕ, List, [], ◌∷◌, reverse, Option, Some, None}

-- The instance types that are open, the innermost first, of the innermost one and those around it, the innermost of which stands last.
abbrev pub open_of : Option ℕ → List ℕ → List ℕ
open_of None outer = []
open_of (Some n) outer = n ∷ reverse outer
