-- The code of routines is valid.
use Rattle.std.proofs.Common.{◌≡◌, ℕ, zero, suc, ◌+◌, ◌<◌, ◌≤◌, max, List, [], ◌∷◌, ◌++◌, Option, Some, None, Bool, true, false, length, refl, sym, ap, ◌∙◌, subst, arith, inl, inr, append_assoc}
use Rattle.std.proofs.Math.Nat.{le-max_left, le-max_right}
use Rattle.std.specs.Prelude.{◌⊎◌, ◌==◌, if◌then◌else◌, slice_get, slice_index_or}
use Rattle.std.proofs.lemmas.Bool.Decides.{nat_tests}
use Rattle.virt_base.specs.declared.core_type.CoreType.TheVariants.{I32}
use Rattle.wasm_ast.specs.declared.instr.BlockType.TheVariants.{Empty}
use Rattle.wasm_ast.specs.declared.instr.Op.TheVariants as op
use Rattle.wasm_ast.specs.declared.instr.Instr.{Instr}
use Rattle.wasm_ast.specs.declared.instr.Instr.TheVariants.{Plain, Unreachable, Block, Loop, Br, BrIf, End}
use Rattle.core_body.specs.declared.operand.Operand.{Operand}
use Rattle.core_body.specs.declared.operand.Operand.TheVariants.{Known}
use Rattle.core_body.specs.Context.{Context, function_type}
use Rattle.core_body.specs.Typing.{Labels, label_at}
use Rattle.adapter_code.specs.declared.statement.Width.{Width}
use Rattle.adapter_code.specs.declared.statement.Width.TheVariants.{Narrow, Broad}
use Rattle.adapter_code.specs.declared.statement.Statement.{Statement, Const, Move, Int, Load, Store, If', Repeat', Leave, NewHandle, DropHandle, Trap, Answer}
use Rattle.adapter_code.specs.declared.statement.IntOp.TheVariants.{Sub}
use Rattle.adapter_code.specs.Number.{given_by}
use Rattle.adapter_code.specs.Code.{Code, Stop, Then, Choose, Turns}
use Rattle.adapter_code.specs.WellFormed.{IsNamed, HasWidth, IsFine, IsWellFormed}
use Rattle.adapter_compile.specs.declared.calls.HandleCalls.{HandleCalls}
use Rattle.adapter_compile.specs.Instructions.{Labels as Brackets, label_of, width_in, get, set, tee, numeric, constant, opcode, conversion, load_of, store_of, at_offset, call_at, call_of, statement_code, choice_code, turns_begin, turns_end, turns_code, code_in, routine_code}
use Rattle.adapter_compile.specs.Bounds.{nesting}
use Rattle.adapter_compile.specs.Handles.{makes_type, drops_type}
use Rattle.adapter_compile.specs.Does.{core_type}
use Rattle.adapter_compile.proofs.Places.{has_in}
use Rattle.adapter_compile.proofs.Sim.{names_of}
use Rattle.adapter_transfer.specs.Valid.{IsPiece, MayHold}
use Rattle.adapter_transfer.proofs.ValidPieces.{joined, nothing, above, in_block, in_loop, in_choice}
use Rattle.adapter_transfer.proofs.InstructionLaws.{of_width, get_piece, set_piece, tee_piece, constant_piece, numeric_piece, operator_piece, conversion_piece, load_piece, store_piece, trap_piece, branch_piece, branch_if_piece, call_piece}

-- the labels in a routine's block and its further brackets: no branch takes operands
abbrev around : Brackets → Labels → Labels
around [] outer = Some [] ∷ outer
around (l ∷ ls) outer = Some [] ∷ around ls outer

label_there : (ls : Brackets) (outer : Labels) (n : ℕ) → n ≤ length ls → label_at (around ls outer) n ≡ Some []
label_there [] outer zero le = refl
label_there [] outer (suc n) le = absurd (omega arith)
label_there (l ∷ ls) outer zero le = refl
label_there (l ∷ ls) outer (suc n) le = label_there ls outer n (omega arith)

named_within : (ls : Brackets) (name : ℕ) → IsNamed name (names_of ls) → label_of name ls < length ls
named_within [] name p = absurd p
named_within (None ∷ ls) name p = let r = named_within ls name p in omega (arith, r)
named_within (Some m ∷ ls) name p = go (name == m) refl p (named_within ls name)
  where
    go : (b : Bool) → (name == m) ≡ b → (name ≡ m) ⊎ IsNamed name (names_of ls) → (IsNamed name (names_of ls) → label_of name ls < length ls) → (if b then 0 else suc (label_of name ls)) < suc (length ls)
    go true is p more = omega arith
    go false is (inl same) more = absurd (never is same)
      where
        never : (name == m) ≡ false → name ≡ m → ⊥
        never is same = grind (arith, nat_tests)
    go false is (inr p) more = let r = more p in omega (arith, r)

has_width : (ws : List Width) (i : ℕ) → i < length ws → HasWidth ws i (width_in ws i)
has_width [] i lt = absurd (omega arith)
has_width (w ∷ ws) zero lt = refl
has_width (w ∷ ws) (suc i) lt = has_width ws i (omega arith)

-- what a turn of a `Repeat` ends with, and what comes before its first
abbrev turn_tail : ℕ → List Instr
turn_tail counter = get counter ∷ constant Narrow 1 ∷ numeric 0x6B ∷ tee counter ∷ BrIf 0 ∷ []

abbrev turn_head : ℕ → ℕ → List Instr
turn_head count counter = get count ∷ tee counter ∷ numeric 0x45 ∷ BrIf 0 ∷ []

turns_spelled : (count counter : ℕ) (body : List Instr) →
    Block Empty ∷ ((turn_head count counter ++ (Loop Empty ∷ ((body ++ turn_tail counter) ++ End ∷ []))) ++ End ∷ []) ≡ turns_code count counter body
turns_spelled count counter body =
    ap (λ l. Block Empty ∷ get count ∷ tee counter ∷ numeric 0x45 ∷ BrIf 0 ∷ Loop Empty ∷ l)
    (append_assoc (body ++ turn_tail counter) (End ∷ []) (End ∷ []) ∙ append_assoc body (turn_tail counter) (End ∷ End ∷ []))

-- the pieces in some labels of a context
module _ (c : Context) (labels : Labels) where
  made_piece : (o : Option ℕ) → ((f : ℕ) → o ≡ Some f → function_type c f ≡ Some makes_type) → IsPiece c labels (call_of o ∷ []) (Known I32 ∷ []) (Known I32 ∷ [])
  made_piece None h = trap_piece c labels (Known I32 ∷ []) (Known I32 ∷ [])
  made_piece (Some f) h = call_piece c labels f makes_type (h f refl)

  dropped_piece : (o : Option ℕ) → ((f : ℕ) → o ≡ Some f → function_type c f ≡ Some drops_type) → IsPiece c labels (call_of o ∷ []) (Known I32 ∷ []) []
  dropped_piece None h = trap_piece c labels (Known I32 ∷ []) []
  dropped_piece (Some f) h = call_piece c labels f drops_type (h f refl)

  -- one local above another
  two_piece : (i j : ℕ) (v w : Width) → slice_get c.locals i ≡ Some (core_type v) → slice_get c.locals j ≡ Some (core_type w) → IsPiece c labels (get i ∷ get j ∷ []) [] (of_width w ∷ of_width v ∷ [])
  two_piece i j v w at_i at_j =
      joined c labels (get i ∷ []) (get j ∷ []) [] (of_width v ∷ []) (of_width w ∷ of_width v ∷ []) (get_piece c labels i (core_type v) at_i)
      (above c labels (get j ∷ []) [] (of_width w ∷ []) (of_width v ∷ []) (get_piece c labels j (core_type w) at_j))

  tail_piece : (counter : ℕ) → slice_get c.locals counter ≡ Some I32 → label_at labels 0 ≡ Some [] → IsPiece c labels (turn_tail counter) [] []
  tail_piece counter at label =
      joined c labels (get counter ∷ constant Narrow 1 ∷ []) (numeric 0x6B ∷ tee counter ∷ BrIf 0 ∷ []) [] (Known I32 ∷ Known I32 ∷ []) []
      (joined c labels (get counter ∷ []) (constant Narrow 1 ∷ []) [] (Known I32 ∷ []) (Known I32 ∷ Known I32 ∷ []) (get_piece c labels counter I32 at)
      (above c labels (constant Narrow 1 ∷ []) [] (Known I32 ∷ []) (Known I32 ∷ []) (constant_piece c labels Narrow 1)))
      (joined c labels (numeric 0x6B ∷ []) (tee counter ∷ BrIf 0 ∷ []) (Known I32 ∷ Known I32 ∷ []) (Known I32 ∷ []) [] (operator_piece c labels Sub Narrow)
      (joined c labels (tee counter ∷ []) (BrIf 0 ∷ []) (Known I32 ∷ []) (Known I32 ∷ []) [] (tee_piece c labels counter I32 at) (branch_if_piece c labels 0 label)))

  head_piece : (count counter : ℕ) → slice_get c.locals count ≡ Some I32 → slice_get c.locals counter ≡ Some I32 → label_at labels 0 ≡ Some [] → IsPiece c labels (turn_head count counter) [] []
  head_piece count counter at_count at label =
      joined c labels (get count ∷ []) (tee counter ∷ numeric 0x45 ∷ BrIf 0 ∷ []) [] (Known I32 ∷ []) [] (get_piece c labels count I32 at_count)
      (joined c labels (tee counter ∷ []) (numeric 0x45 ∷ BrIf 0 ∷ []) (Known I32 ∷ []) (Known I32 ∷ []) [] (tee_piece c labels counter I32 at)
      (joined c labels (numeric 0x45 ∷ []) (BrIf 0 ∷ []) (Known I32 ∷ []) (Known I32 ∷ []) [] (numeric_piece c labels 0x45 (Known I32 ∷ []) (Known I32 ∷ []) (refl, refl)) (branch_if_piece c labels 0 label)))

-- a `Repeat` from its turn's body
turns_piece : (c : Context) (labels : Labels) (count counter : ℕ) (body : List Instr) → slice_get c.locals count ≡ Some I32 → slice_get c.locals counter ≡ Some I32 → IsPiece c (Some [] ∷ Some [] ∷ labels) body [] [] → IsPiece c labels (turns_code count counter body) [] []
turns_piece c labels count counter body at_count at p =
    let inner = joined c (Some [] ∷ Some [] ∷ labels) body (turn_tail counter) [] [] [] p (tail_piece c (Some [] ∷ Some [] ∷ labels) counter at refl) in
    let loop = in_loop c (Some [] ∷ labels) (body ++ turn_tail counter) inner in
    let whole = joined c (Some [] ∷ labels) (turn_head count counter) (Loop Empty ∷ ((body ++ turn_tail counter) ++ End ∷ [])) [] [] [] (head_piece c (Some [] ∷ labels) count counter at_count at refl) loop in
    let P : List Instr → Type 0 = λ l. IsPiece c labels l [] [] in
    subst P (turns_spelled count counter body) (in_block c labels (turn_head count counter ++ (Loop Empty ∷ ((body ++ turn_tail counter) ++ End ∷ []))) whole)

module _ (ws : List Width) (calls : HandleCalls) (c : Context) (counters : ℕ) (holds : MayHold c ws counters calls) (outer : Labels) where
  local_there : (i : ℕ) → i < length ws → slice_get c.locals i ≡ Some (core_type (width_in ws i))
  local_there i lt = holds.locals i (width_in ws i) (has_width ws i lt)

  statement_piece : (ls : Brackets) (st : Statement) → IsFine ws (names_of ls) st → IsPiece c (around ls outer) (statement_code ws calls ls st) [] []
  statement_piece ls (Const to v) lt =
      let L = around ls outer in
      joined c L (constant (width_in ws to) v ∷ []) (set to ∷ []) [] (of_width (width_in ws to) ∷ []) [] (constant_piece c L (width_in ws to) v) (set_piece c L to (core_type (width_in ws to)) (local_there to lt))
  statement_piece ls (Move to from) (to_lt, from_lt) =
      let L = around ls outer in
      let tw = width_in ws to in
      let fw = width_in ws from in
      joined c L (get from ∷ []) (conversion tw fw ++ set to ∷ []) [] (of_width fw ∷ []) [] (get_piece c L from (core_type fw) (local_there from from_lt))
      (joined c L (conversion tw fw) (set to ∷ []) (of_width fw ∷ []) (of_width tw ∷ []) [] (conversion_piece c L tw fw) (set_piece c L to (core_type tw) (local_there to to_lt)))
  statement_piece ls (Int o to a b) (w, at_a, at_b, at_to) =
      let L = around ls outer in
      let P : Width → Type 0 = λ v. IsPiece c (around ls outer) (numeric (opcode o v) ∷ []) (of_width w ∷ of_width w ∷ []) (of_width (given_by o w) ∷ []) in
      joined c L (get a ∷ get b ∷ []) (numeric (opcode o (width_in ws a)) ∷ set to ∷ []) [] (of_width w ∷ of_width w ∷ []) [] (two_piece c L a b w w (holds.locals a w at_a) (holds.locals b w at_b))
      (joined c L (numeric (opcode o (width_in ws a)) ∷ []) (set to ∷ []) (of_width w ∷ of_width w ∷ []) (of_width (given_by o w) ∷ []) []
      (subst P (sym (has_in ws a w at_a)) (operator_piece c L o w)) (set_piece c L to (core_type (given_by o w)) (holds.locals to (given_by o w) at_to)))
  statement_piece ls (Load to at offset size) (w, at_at, at_to, fits) =
      let L = around ls outer in
      let P : Width → Type 0 = λ v. IsPiece c (around ls outer) (Plain (op.Load (load_of v size) (at_offset offset)) ∷ []) (Known I32 ∷ []) (of_width w ∷ []) in
      joined c L (get at ∷ []) (Plain (op.Load (load_of (width_in ws to) size) (at_offset offset)) ∷ set to ∷ []) [] (Known I32 ∷ []) [] (get_piece c L at I32 (holds.locals at Narrow at_at))
      (joined c L (Plain (op.Load (load_of (width_in ws to) size) (at_offset offset)) ∷ []) (set to ∷ []) (Known I32 ∷ []) (of_width w ∷ []) []
      (subst P (sym (has_in ws to w at_to)) (load_piece c L w size offset holds.memory)) (set_piece c L to (core_type w) (holds.locals to w at_to)))
  statement_piece ls (Store from at offset size) (w, at_at, at_from, fits) =
      let L = around ls outer in
      let P : Width → Type 0 = λ v. IsPiece c (around ls outer) (Plain (op.Store (store_of v size) (at_offset offset)) ∷ []) (of_width w ∷ Known I32 ∷ []) [] in
      joined c L (get at ∷ get from ∷ []) (Plain (op.Store (store_of (width_in ws from) size) (at_offset offset)) ∷ []) [] (of_width w ∷ Known I32 ∷ []) []
      (two_piece c L at from Narrow w (holds.locals at Narrow at_at) (holds.locals from w at_from))
      (subst P (sym (has_in ws from w at_from)) (store_piece c L w size offset holds.memory))
  statement_piece ls (If' test m f n o) fine = absurd fine
  statement_piece ls (Repeat' name count m body) fine = absurd fine
  statement_piece ls (Leave name) named =
      let lt = named_within ls name named in
      branch_piece c (around ls outer) (label_of name ls) (label_there ls outer (label_of name ls) (omega (arith, lt)))
  statement_piece ls (NewHandle kind rep to) (lt, at_rep, at_to) =
      let L = around ls outer in
      let call = call_of (call_at calls.makes kind) in
      joined c L (get rep ∷ []) (call ∷ set to ∷ []) [] (Known I32 ∷ []) [] (get_piece c L rep I32 (holds.locals rep Narrow at_rep))
      (joined c L (call ∷ []) (set to ∷ []) (Known I32 ∷ []) (Known I32 ∷ []) [] (made_piece c L (call_at calls.makes kind) (holds.makes kind)) (set_piece c L to I32 (holds.locals to Narrow at_to)))
  statement_piece ls (DropHandle kind index) (lt, at_index) =
      let L = around ls outer in
      let call = call_of (call_at calls.drops kind) in
      joined c L (get index ∷ []) (call ∷ []) [] (Known I32 ∷ []) [] (get_piece c L index I32 (holds.locals index Narrow at_index)) (dropped_piece c L (call_at calls.drops kind) (holds.drops kind))
  statement_piece ls Trap fine = trap_piece c (around ls outer) [] []
  statement_piece ls Answer fine = branch_piece c (around ls outer) (length ls) (label_there ls outer (length ls) (omega arith))

  code_piece : (ls : Brackets) (d : ℕ) (code : Code) → IsWellFormed ws (names_of ls) code → d + nesting code ≤ counters → IsPiece c (around ls outer) (code_in ws calls ls d code) [] []
  code_piece ls d Stop fine le = nothing c (around ls outer) []
  code_piece ls d (Then st rest) (fine, more) le =
      joined c (around ls outer) (statement_code ws calls ls st) (code_in ws calls ls d rest) [] [] [] (statement_piece ls st fine) (code_piece ls d rest more le)
  code_piece ls d (Choose test first other rest) (at_test, fine_first, fine_other, more) le =
      let L = around ls outer in
      let F = code_in ws calls (None ∷ ls) d first in
      let O = code_in ws calls (None ∷ ls) d other in
      let inner = max (nesting first) (nesting other) in
      let f : d + nesting first ≤ counters = omega (arith, le, le-max_left (nesting first) (nesting other), le-max_left inner (nesting rest)) in
      let o : d + nesting other ≤ counters = omega (arith, le, le-max_right (nesting first) (nesting other), le-max_left inner (nesting rest)) in
      let r : d + nesting rest ≤ counters = omega (arith, le, le-max_right inner (nesting rest)) in
      joined c L (choice_code test F O) (code_in ws calls ls d rest) [] [] []
      (joined c L (get test ∷ []) _ [] (Known I32 ∷ []) [] (get_piece c L test I32 (holds.locals test Narrow at_test))
      (in_choice c L F O (code_piece (None ∷ ls) d first fine_first f) (code_piece (None ∷ ls) d other fine_other o)))
      (code_piece ls d rest more r)
  code_piece ls d (Turns name count body rest) (at_count, fine, more) le =
      let L = around ls outer in
      let B = code_in ws calls (None ∷ Some name ∷ ls) (suc d) body in
      let b : suc d + nesting body ≤ counters = omega (arith, le, le-max_left (suc (nesting body)) (nesting rest)) in
      let r : d + nesting rest ≤ counters = omega (arith, le, le-max_right (suc (nesting body)) (nesting rest)) in
      let here : d < counters = omega (arith, b) in
      joined c L (turns_code count (length ws + d) B) (code_in ws calls ls d rest) [] [] []
      (turns_piece c L count (length ws + d) B (holds.locals count Narrow at_count) (holds.behind d here) (code_piece (None ∷ Some name ∷ ls) (suc d) body fine b))
      (code_piece ls d rest more r)

pub valid_routine : (ws : List Width) (calls : HandleCalls) (code : Code) (c : Context) (labels : Labels) → IsWellFormed ws [] code → MayHold c ws (nesting code) calls → IsPiece c labels (routine_code ws calls code) [] []
valid_routine ws calls code c labels fine holds =
    in_block c labels (code_in ws calls [] 0 code) (code_piece ws calls c (nesting code) holds labels [] 0 code fine (omega arith))
