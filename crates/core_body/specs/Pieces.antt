-- The operand stack in pieces: each an operand, or one of each type of a run.
use Rattle.std.specs.Prelude.{◌≡◌, ◌≤◌, ◌<◌, Bool, None, List, [], ◌∷◌, ◌++◌, length}
use Rattle.core_body.specs.declared.operand.Operand.{Operand}
use Rattle.core_body.specs.declared.source.Run.{Run}
use Rattle.core_body.specs.declared.piece.Piece.{Piece}
use Rattle.core_body.specs.declared.piece.Piece.TheVariants.{One, Many}
use Rattle.core_body.specs.Context.{Context}
use Rattle.core_body.specs.Typing.{operands}
use Rattle.core_body.specs.Machine.{pops}
use Rattle.core_body.specs.Sources.{listed, front}

-- the operands of a run and of a piece, the top first
abbrev pub run_of : Context → Run → List Operand
run_of c r = operands (front c r)

abbrev pub piece_of : Context → Piece → List Operand
piece_of c (One o) = o ∷ []
piece_of c (Many r) = run_of c r

-- the operands of pieces, the topmost first
abbrev pub pieces_of : Context → List Piece → List Operand
pieces_of c [] = []
pieces_of c (p ∷ ps) = piece_of c p ++ pieces_of c ps

-- the types due cannot be taken off where the piece is on top
abbrev pub NeverMeet : Context → Piece → Run → Type 0
NeverMeet c p due = (dead : Bool) (os : List Operand) → pops dead (piece_of c p ++ os) (run_of c due) ≡ None

-- the piece and the types due have met; what is left of the one, or of the other, is nothing
pub record Meet (c : Context) (p : Piece) (due : Run) (part : Piece) (left : Run) : Type 0 where
  pub same : (dead : Bool) (os : List Operand) → pops dead (piece_of c p ++ os) (run_of c due) ≡ pops dead (piece_of c part ++ os) (run_of c left)
  pub within : left.len ≤ length (listed c left.of)
  pub over : 0 < left.len → piece_of c part ≡ []
  pub none : piece_of c p ≡ [] → piece_of c part ≡ []
