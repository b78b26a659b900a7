-- The operands of the innermost level, the top first, and the pieces below it, the bottom first.
use Rattle.std.specs.Prelude.{◌≡◌, ◌≤◌, ◌<◌, ℕ, Bool, Option, Some, None, List, [], ◌++◌, length, reverse, take, drop, if◌then◌else◌}
use Rattle.core_body.specs.declared.operand.Operand.{Operand}
use Rattle.core_body.specs.declared.piece.Piece.{Piece}
use Rattle.core_body.specs.declared.piece.Met.{Met}
use Rattle.core_body.specs.declared.stack.Stack.{Stack}
use Rattle.core_body.specs.declared.stack.Rest.{Rest}
use Rattle.core_body.specs.declared.stack.Top.{Top}
use Rattle.core_body.specs.declared.stack.Walk.{Walk}
use Rattle.core_body.specs.declared.stack.Walk.TheVariants.{Differs, Short, Left}
use Rattle.core_body.specs.Context.{Context}
use Rattle.core_body.specs.Sources.{listed}
use Rattle.core_body.specs.Pieces.{piece_of, pieces_of}

abbrev pub level_of : Context → Stack → List Operand
level_of c s = pieces_of c (reverse (drop s.height s.pieces.items))

abbrev pub below_of : Stack → List Piece
below_of s = take s.height s.pieces.items

-- the level's operands below that many pieces, and from a place down
abbrev pub down_from : Context → Stack → ℕ → List Operand
down_from c s at = pieces_of c (reverse (drop s.height (take at s.pieces.items)))

abbrev pub rest_of : Context → Stack → Rest → List Operand
rest_of c s r = piece_of c r.part ++ down_from c s r.at

-- the place is one of the level
pub record Lies (c : Context) (s : Stack) (r : Rest) : Type 0 where
  pub low : s.height ≤ r.at
  pub high : r.at ≤ length s.pieces.items
  pub over : r.at ≡ length s.pieces.items → piece_of c r.part ≡ []

abbrev pub LiesBelow : Context → Stack → Option Top → Type 0
LiesBelow c s None = Unit {0}
LiesBelow c s (Some t) = Lies c s t.rest

-- from here the pieces below meet the types that are still due
pub record Ready (c : Context) (s : Stack) (at : ℕ) (met : Met) : Type 0 where
  pub within : met.due.len ≤ length (listed c met.due.of)
  pub over : 0 < met.due.len → piece_of c met.part ≡ []
  pub low : s.height ≤ at
  pub high : at ≤ length s.pieces.items
  pub none : at ≡ length s.pieces.items → piece_of c met.part ≡ []

-- what is left of a level whose operands met the types due
abbrev pub outcome : Context → Stack → Bool → Walk → Option (List Operand)
outcome c s dead Differs = None
outcome c s dead Short = if dead then Some [] else None
outcome c s dead (Left r) = Some (rest_of c s r)

abbrev pub EndsIn : Context → Stack → Walk → Type 0
EndsIn c s Differs = Unit {0}
EndsIn c s Short = Unit {0}
EndsIn c s (Left r) = Lies c s r
