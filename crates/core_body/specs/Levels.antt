-- The machine's levels, as the control stack and the operand stack hold them.
use Rattle.std.specs.Prelude.{◌≡◌, Option, Some, None, List, [], ◌∷◌, reverse, take, drop}
use Rattle.wasm_ast.specs.declared.module.CoreFunc.{CoreFunc}
use Rattle.core_body.specs.declared.operand.Operand.{Operand}
use Rattle.core_body.specs.declared.piece.Piece.{Piece}
use Rattle.core_body.specs.declared.levels.Kind.{Kind}
use Rattle.core_body.specs.declared.levels.Kind.TheVariants.{Whole, Block, Loop, Then, Otherwise}
use Rattle.core_body.specs.declared.levels.Frame.{Frame}
use Rattle.core_body.specs.Context.{Context, block_type}
use Rattle.core_body.specs.Typing.{Labels, operands, outermost}
use Rattle.core_body.specs.Machine.{Level, State, Running, Finished, Stuck, labels_of}
use Rattle.core_body.specs.Sources.{params_in, results_in}
use Rattle.core_body.specs.Pieces.{pieces_of}
use Rattle.core_body.specs.Stack.{level_of, below_of}
use Rattle.core_body.specs.declared.levels.Progress.{Progress}
use Rattle.core_body.specs.declared.levels.Verdict.{Verdict}
use Rattle.core_body.specs.declared.levels.Verdict.TheVariants.{Goes, Over, Refused}

abbrev pub results_at : Option CoreFunc → List Operand
results_at f = operands (results_in f)

abbrev pub params_at : Option CoreFunc → List Operand
params_at f = operands (params_in f)

abbrev pub results_of : Context → Kind → List Operand
results_of c Whole = operands c.due
results_of c (Block n) = results_at (block_type c n)
results_of c (Loop n) = results_at (block_type c n)
results_of c (Then n) = results_at (block_type c n)
results_of c (Otherwise n) = results_at (block_type c n)

abbrev pub label_of : Context → Kind → Option (List Operand)
label_of c Whole = outermost c.results
label_of c (Block n) = Some (results_at (block_type c n))
label_of c (Loop n) = Some (params_at (block_type c n))
label_of c (Then n) = Some (results_at (block_type c n))
label_of c (Otherwise n) = Some (results_at (block_type c n))

abbrev pub other_of : Context → Kind → Option (List Operand)
other_of c (Then n) = Some (params_at (block_type c n))
other_of c _ = None

abbrev pub level_at : Context → Frame → List Operand → Level
level_at c f os = record { dead = f.dead; stack = os; label = label_of c f.kind; results = results_of c f.kind; other = other_of c f.kind }

-- the levels around the innermost one, from the inside out, over the pieces below it
abbrev pub levels_at : Context → List Frame → List Piece → List Level
levels_at c [] below = []
levels_at c (f ∷ fs) below = level_at c f (pieces_of c (reverse (drop f.height below))) ∷ levels_at c fs (take f.height below)

abbrev pub state_of : Context → Progress → State
state_of c p = Running (level_at c p.current (level_of c p.stack)) (levels_at c (reverse p.outer.items) (below_of p.stack))

-- what the verdict says of the machine's next state, where the pass now stands
abbrev pub Says : Verdict → State → State → Type 0
Says Goes now next = next ≡ now
Says Over now next = next ≡ Finished
Says Refused now next = next ≡ Stuck

abbrev pub labels_at : Context → Progress → Labels
labels_at c p = labels_of (level_at c p.current (level_of c p.stack) ∷ levels_at c (reverse p.outer.items) (below_of p.stack))

-- where a pass stands, by what the last instruction led to
abbrev pub state_at : Context → Verdict → Progress → State
state_at c Goes p = state_of c p
state_at c Over p = Finished
state_at c Refused p = Stuck
