-- The structured syntax of a routine's code.
use Rattle.std.proofs.Common.{◌≡◌, ℕ, suc, ◌+◌, List, [], ◌∷◌, ◌++◌, Option, Some, None, length, refl, ap, ◌∙◌, append_assoc}
use Rattle.wasm_ast.specs.declared.instr.BlockType.TheVariants.{Empty}
use Rattle.wasm_ast.specs.declared.instr.Op.TheVariants as op
use Rattle.wasm_ast.specs.declared.instr.Instr.{Instr}
use Rattle.wasm_ast.specs.declared.instr.Instr.TheVariants.{Plain, Unreachable, Block, Loop, If, Else, End, Br, BrIf}
use Rattle.core_store.specs.Tree.{Seq, Stop, Then, InBlock, InLoop, InIf, Part, first, onto, placed, parts, tree}
use Rattle.adapter_code.specs.declared.statement.Width.{Width}
use Rattle.adapter_code.specs.declared.statement.Width.TheVariants.{Narrow, Broad}
use Rattle.adapter_code.specs.declared.statement.Statement.{Statement, Const, Move, Int, Load, Store, If', Repeat', Leave, NewHandle, DropHandle, Trap, Answer}
use Rattle.adapter_code.specs.Code.{Code, Stop as Ends, Then as Next, Choose, Turns}
use Rattle.adapter_compile.specs.declared.calls.HandleCalls.{HandleCalls}
use Rattle.adapter_compile.specs.Instructions.{Labels, label_of, width_in, get, set, tee, numeric, constant, opcode, conversion, load_of, store_of, at_offset, call_at, call_of, statement_code, choice_code, turns_begin, turns_end, turns_code, code_in, routine_code}

abbrev pub converts : Width → Width → Seq → Seq
converts Narrow Broad q = Then (numeric 0xA7) q
converts Broad Narrow q = Then (numeric 0xAD) q
converts Narrow Narrow q = q
converts Broad Broad q = q

-- a statement that holds no others, before the rest
abbrev pub statement_seq : List Width → HandleCalls → Labels → Statement → Seq → Seq
statement_seq ws calls ls (Const to v) q = Then (constant (width_in ws to) v) (Then (set to) q)
statement_seq ws calls ls (Move to from) q = Then (get from) (converts (width_in ws to) (width_in ws from) (Then (set to) q))
statement_seq ws calls ls (Int op to a b) q = Then (get a) (Then (get b) (Then (numeric (opcode op (width_in ws a))) (Then (set to) q)))
statement_seq ws calls ls (Load to at offset size) q = Then (get at) (Then (Plain (op.Load (load_of (width_in ws to) size) (at_offset offset))) (Then (set to) q))
statement_seq ws calls ls (Store from at offset size) q = Then (get at) (Then (get from) (Then (Plain (op.Store (store_of (width_in ws from) size) (at_offset offset))) q))
statement_seq ws calls ls (Leave name) q = Then (Br (label_of name ls)) q
statement_seq ws calls ls (NewHandle kind rep to) q = Then (get rep) (Then (call_of (call_at calls.makes kind)) (Then (set to) q))
statement_seq ws calls ls (DropHandle kind index) q = Then (get index) (Then (call_of (call_at calls.drops kind)) q)
statement_seq ws calls ls Trap q = Then Unreachable q
statement_seq ws calls ls Answer q = Then (Br (length ls)) q
statement_seq ws calls ls other q = q

-- what stands after a turn's body, and before the turns
abbrev pub tail_seq : ℕ → Seq
tail_seq counter = Then (get counter) (Then (constant Narrow 1) (Then (numeric 0x6B) (Then (tee counter) (Then (BrIf 0) Stop))))

abbrev pub head_seq : ℕ → ℕ → Seq → Seq
head_seq count counter body = Then (get count) (Then (tee counter) (Then (numeric 0x45) (Then (BrIf 0) (InLoop Empty body Stop))))

-- a routine's code before the rest
abbrev pub seq_in : List Width → HandleCalls → Labels → ℕ → Code → Seq → Seq
seq_in ws calls ls d Ends q = q
seq_in ws calls ls d (Next statement rest) q = statement_seq ws calls ls statement (seq_in ws calls ls d rest q)
seq_in ws calls ls d (Choose test taken untaken rest) q =
    Then (get test) (InIf Empty (seq_in ws calls (None ∷ ls) d taken Stop) (seq_in ws calls (None ∷ ls) d untaken Stop) (seq_in ws calls ls d rest q))
seq_in ws calls ls d (Turns name count body rest) q =
    InBlock Empty (head_seq count (length ws + d) (seq_in ws calls (None ∷ Some name ∷ ls) (suc d) body (tail_seq (length ws + d)))) (seq_in ws calls ls d rest q)

-- ---- the two agree

parts_constant : (w : Width) (v : ℕ) (rest : List Instr) → parts (constant w v ∷ rest) ≡ onto (Then (constant w v)) (parts rest)
parts_constant Narrow v rest = refl
parts_constant Broad v rest = refl

parts_call : (o : Option ℕ) (rest : List Instr) → parts (call_of o ∷ rest) ≡ onto (Then (call_of o)) (parts rest)
parts_call None rest = refl
parts_call (Some f) rest = refl

parts_move : (to_width from_width : Width) (to : ℕ) (rest : List Instr) → parts ((conversion to_width from_width ++ set to ∷ []) ++ rest) ≡ onto (λ q. converts to_width from_width (Then (set to) q)) (parts rest)
parts_move Narrow Narrow to rest = refl
parts_move Narrow Broad to rest = refl
parts_move Broad Narrow to rest = refl
parts_move Broad Broad to rest = refl

module _ (ws : List Width) (calls : HandleCalls) where
  parts_one : (ls : Labels) (st : Statement) (rest : List Instr) (p : Part) (ps : List Part) → parts rest ≡ p ∷ ps → parts (statement_code ws calls ls st ++ rest) ≡ onto (statement_seq ws calls ls st) (p ∷ ps)
  parts_one ls (Const to v) rest p ps e = parts_constant (width_in ws to) v (set to ∷ rest) ∙ ap (onto (statement_seq ws calls ls (Const to v))) e
  parts_one ls (Move to from) rest p ps e =
      ap (onto (Then (get from))) (parts_move (width_in ws to) (width_in ws from) to rest) ∙ ap (onto (statement_seq ws calls ls (Move to from))) e
  parts_one ls (Int op to a b) rest p ps e = ap (onto (statement_seq ws calls ls (Int op to a b))) e
  parts_one ls (Load to at offset size) rest p ps e = ap (onto (statement_seq ws calls ls (Load to at offset size))) e
  parts_one ls (Store from at offset size) rest p ps e = ap (onto (statement_seq ws calls ls (Store from at offset size))) e
  parts_one ls (If' test m f m' o) rest p ps e = e
  parts_one ls (Repeat' name count m body) rest p ps e = e
  parts_one ls (Leave name) rest p ps e = ap (onto (statement_seq ws calls ls (Leave name))) e
  parts_one ls (NewHandle kind rep to) rest p ps e =
      ap (onto (Then (get rep))) (parts_call (call_at calls.makes kind) (set to ∷ rest)) ∙ ap (onto (statement_seq ws calls ls (NewHandle kind rep to))) e
  parts_one ls (DropHandle kind index) rest p ps e =
      ap (onto (Then (get index))) (parts_call (call_at calls.drops kind) rest) ∙ ap (onto (statement_seq ws calls ls (DropHandle kind index))) e
  parts_one ls Trap rest p ps e = ap (onto (statement_seq ws calls ls Trap)) e
  parts_one ls Answer rest p ps e = ap (onto (statement_seq ws calls ls Answer)) e

  parts_in : (ls : Labels) (d : ℕ) (code : Code) (rest : List Instr) (p : Part) (ps : List Part) → parts rest ≡ p ∷ ps → parts (code_in ws calls ls d code ++ rest) ≡ onto (seq_in ws calls ls d code) (p ∷ ps)
  parts_in ls d Ends rest p ps e = e
  parts_in ls d (Next st more) rest p ps e =
      ap parts (append_assoc (statement_code ws calls ls st) (code_in ws calls ls d more) rest)
      ∙ parts_one ls st (code_in ws calls ls d more ++ rest) _ ps (parts_in ls d more rest p ps e)
  parts_in ls d (Choose test taken untaken more) rest p ps e =
      let Y = code_in ws calls (None ∷ ls) d taken in
      let N = code_in ws calls (None ∷ ls) d untaken in
      let R = code_in ws calls ls d more ++ rest in
      ap parts (append_assoc (choice_code test Y N) (code_in ws calls ls d more) rest)
      ∙ ap (λ l. onto (Then (get test)) (placed (If Empty) (parts l))) (append_assoc Y (Else ∷ (N ++ End ∷ [])) R ∙ ap (λ l. Y ++ (Else ∷ l)) (append_assoc N (End ∷ []) R))
      ∙ ap (λ qs. onto (Then (get test)) (placed (If Empty) qs))
      (parts_in (None ∷ ls) d taken (Else ∷ (N ++ (End ∷ R))) (record { here = Stop; other = seq_in ws calls (None ∷ ls) d untaken Stop }) (parts R)
      (ap (placed Else) (parts_in (None ∷ ls) d untaken (End ∷ R) (record { here = Stop; other = Stop }) (parts R) refl)))
      ∙ ap (onto (λ q. Then (get test) (InIf Empty (seq_in ws calls (None ∷ ls) d taken Stop) (seq_in ws calls (None ∷ ls) d untaken Stop) q))) (parts_in ls d more rest p ps e)
  parts_in ls d (Turns name count body more) rest p ps e =
      let c = length ws + d in
      let B = code_in ws calls (None ∷ Some name ∷ ls) (suc d) body in
      let R = code_in ws calls ls d more ++ rest in
      ap parts (append_assoc (turns_code count c B) (code_in ws calls ls d more) rest)
      ∙ ap (λ l. parts (turns_begin count c ++ l)) (append_assoc B (turns_end c) R)
      ∙ ap (λ qs. placed (Block Empty) (onto (λ q. Then (get count) (Then (tee c) (Then (numeric 0x45) (Then (BrIf 0) q)))) (placed (Loop Empty) qs)))
      (parts_in (None ∷ Some name ∷ ls) (suc d) body (turns_end c ++ R) (record { here = tail_seq c; other = Stop }) (record { here = Stop; other = Stop } ∷ parts R) refl)
      ∙ ap (onto (λ q. InBlock Empty (head_seq count c (seq_in ws calls (None ∷ Some name ∷ ls) (suc d) body (tail_seq c))) q)) (parts_in ls d more rest p ps e)

  -- a whole routine before other code, and the sequence of both
  pub parts_of : (code : Code) (rest : List Instr) (p : Part) (ps : List Part) → parts rest ≡ p ∷ ps → parts (routine_code ws calls code ++ rest) ≡ onto (InBlock Empty (seq_in ws calls [] 0 code Stop)) (p ∷ ps)
  parts_of code rest p ps e =
      ap (λ l. placed (Block Empty) (parts l)) (append_assoc (code_in ws calls [] 0 code) (End ∷ []) rest)
      ∙ ap (placed (Block Empty)) (parts_in [] 0 code (End ∷ rest) (record { here = Stop; other = Stop }) (parts rest) refl)
      ∙ ap (onto (InBlock Empty (seq_in ws calls [] 0 code Stop))) e

  pub tree_of : (code : Code) (behind : List Instr) → tree (routine_code ws calls code ++ behind) ≡ InBlock Empty (seq_in ws calls [] 0 code Stop) (tree behind)
  tree_of code behind =
      ap (λ l. (first (placed (Block Empty) (parts l))).here) (append_assoc (code_in ws calls [] 0 code) (End ∷ []) behind)
      ∙ ap (λ qs. (first (placed (Block Empty) qs)).here) (parts_in [] 0 code (End ∷ behind) (record { here = Stop; other = Stop }) (parts behind) refl)
