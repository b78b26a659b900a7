-- The code of routines, and the bodies of functions, may be written.
use Rattle.std.proofs.Common.{◌≡◌, ℕ, zero, suc, ◌+◌, ◌*◌, ◌<◌, ◌≤◌, ◌^◌, max, Bool, true, false, List, [], ◌∷◌, ◌++◌, Option, Some, None, length, refl, sym, ap, subst, ◌∙◌, arith, append_assoc, length-append}
use Rattle.std.specs.Prelude.{◌==◌, if◌then◌else◌}
use Rattle.std.specs.List.{AllByRecursion}
use Rattle.std.proofs.Math.Nat.{le-max_left, le-max_right}
use Rattle.std.proofs.lemmas.Option.{slice_get_within}
use Rattle.virt_base.specs.declared.core_type.CoreType.{CoreType}
use Rattle.virt_base.specs.declared.core_type.CoreType.TheVariants.{I32, I64, Funcref, Externref}
use Rattle.wasm_format.specs.Format.{Format, vec, write_items, u32_format}
use Rattle.wasm_format.specs.Sections.{write_parts}
use Rattle.wasm_ast.specs.declared.instr.BlockType.TheVariants.{Empty}
use Rattle.wasm_ast.specs.declared.instr.Op.TheVariants as op
use Rattle.wasm_ast.specs.declared.instr.Instr.{Instr}
use Rattle.wasm_ast.specs.declared.instr.Instr.TheVariants.{Plain, Unreachable, Block, Loop, If, Else, End, Br, BrIf, Call}
use Rattle.wasm_ast.specs.declared.module.LocalRun.{LocalRun}
use Rattle.wasm_ast.specs.declared.module.Body.{Body}
use Rattle.wasm_ast.specs.Types.{core_type}
use Rattle.wasm_ast.specs.Instructions.{instr}
use Rattle.wasm_ast.specs.Expressions.{nested, expr}
use Rattle.wasm_ast.specs.Items.{local_run, body}
use Rattle.adapter_code.specs.declared.statement.Width.{Width}
use Rattle.adapter_code.specs.declared.statement.Width.TheVariants.{Narrow, Broad}
use Rattle.adapter_code.specs.declared.statement.Statement.{Statement, Const, Move, Int, Load, Store, If', Repeat', Leave, NewHandle, DropHandle, Trap, Answer}
use Rattle.adapter_code.specs.declared.statement.IntOp.TheVariants.{Sub}
use Rattle.adapter_code.specs.Code.{Code, Stop, Then, Choose, Turns}
use Rattle.adapter_code.specs.WellFormed.{HasWidth, IsFine, IsWellFormed}
use Rattle.adapter_compile.specs.declared.calls.HandleCalls.{HandleCalls}
use Rattle.adapter_compile.specs.Instructions.{Labels, label_of, width_in, get, set, tee, numeric, constant, opcode, conversion, load_of, store_of, at_offset, call_at, call_of, statement_code, choice_code, turns_begin, turns_end, turns_code, code_in, routine_code}
use Rattle.adapter_compile.specs.Bounds.{nesting, brackets}
use Rattle.adapter_compile.specs.Does.{declared_of}
use Rattle.adapter_bytes.specs.Spelled.{statements, IsNumbered, AreNumbered, AreIndexes, IsSpelledIn}
use Rattle.adapter_bytes.proofs.Numbers.{few_unsigned}
use Rattle.adapter_bytes.proofs.Instructions.{IsShort, get_short, set_short, tee_short, constant_short, load_short, store_short, operator_short, is_zero_short, wrap_short, extend_short, trap_short, branch_short, branch_if_short, call_short, end_bracket}
use Rattle.adapter_bytes.proofs.Pieces.{nothing, wider, joined, in_front, in_block, in_loop, in_choice}

label_within : (name : ℕ) (ls : Labels) → label_of name ls ≤ length ls
label_within name [] = omega arith
label_within name (None ∷ ls) = let r = label_within name ls in omega (arith, r)
label_within name (Some m ∷ ls) = go (name == m) (label_within name ls)
  where
    go : (b : Bool) → label_of name ls ≤ length ls → (if b then 0 else suc (label_of name ls)) ≤ suc (length ls)
    go true r = omega arith
    go false r = omega (arith, r)

-- an instruction, and two in a row
one : (i : Instr) → IsShort i → IsSpelledIn 11 (i ∷ [])
one i s = in_front i 0 [] s nothing

two : (i j : Instr) → IsShort i → IsShort j → IsSpelledIn 22 (i ∷ j ∷ [])
two i j s t = in_front i 11 (j ∷ []) s (one j t)

converted : (to from : Width) → IsSpelledIn 11 (conversion to from)
converted Narrow Broad = one (numeric 0xA7) wrap_short
converted Broad Narrow = one (numeric 0xAD) extend_short
converted Narrow Narrow = wider 0 11 [] (omega arith) nothing
converted Broad Broad = wider 0 11 [] (omega arith) nothing

-- what a turn of a `Repeat` ends with
turn_tail : (counter : ℕ) → counter < 2 ^ 32 → IsSpelledIn 55 (get counter ∷ constant Narrow 1 ∷ numeric 0x6B ∷ tee counter ∷ BrIf 0 ∷ [])
turn_tail counter lt =
    in_front (get counter) 44 _ (get_short counter lt) (in_front (constant Narrow 1) 33 _ (constant_short Narrow 1) (in_front (numeric 0x6B) 22 _ (operator_short Sub Narrow)
    (two (tee counter) (BrIf 0) (tee_short counter lt) (branch_if_short 0 (omega arith)))))

turns_spelled : (count counter n : ℕ) (body : List Instr) → count < 2 ^ 32 → counter < 2 ^ 32 → IsSpelledIn n body → IsSpelledIn (107 + n) (turns_code count counter body)
turns_spelled count counter n body at_count at s =
    let tail : List Instr = get counter ∷ constant Narrow 1 ∷ numeric 0x6B ∷ tee counter ∷ BrIf 0 ∷ [] in
    let a = 4 + (n + 55) in
    let b = 11 + a in
    let c = 11 + b in
    let d = 11 + c in
    let loop = in_loop (n + 55) (body ++ tail) (joined n 55 body tail s (turn_tail counter at)) in
    let head =
    in_front (get count) d _ (get_short count at_count) (in_front (tee counter) c _ (tee_short counter at)
    (in_front (numeric 0x45) b _ is_zero_short (in_front (BrIf 0) a _ (branch_if_short 0 (omega arith)) loop))) in
    let whole = in_block (11 + d) _ head in
    let same : Block Empty ∷ ((get count ∷ tee counter ∷ numeric 0x45 ∷ BrIf 0 ∷ Loop Empty ∷ ((body ++ tail) ++ End ∷ [])) ++ End ∷ []) ≡ turns_code count counter body =
    ap (λ l. Block Empty ∷ get count ∷ tee counter ∷ numeric 0x45 ∷ BrIf 0 ∷ Loop Empty ∷ l) (append_assoc (body ++ tail) (End ∷ []) (End ∷ []) ∙ append_assoc body tail (End ∷ End ∷ [])) in
    wider (4 + (11 + d)) (107 + n) (turns_code count counter body) (omega arith) (subst (IsSpelledIn (4 + (11 + d))) same whole)

module _ (ws : List Width) (calls : HandleCalls) (indexes : AreIndexes calls) (small : length ws < 2 ^ 32) where
  there : (i : ℕ) (w : Width) → HasWidth ws i w → i < 2 ^ 32
  there i w h = let lt = slice_get_within ws i w h in omega (arith, lt, small)

  statement_spelled : (ls : Labels) (names : List ℕ) (st : Statement) → IsFine ws names st → IsNumbered st → length ls < 2 ^ 32 → IsSpelledIn 44 (statement_code ws calls ls st)
  statement_spelled ls names (Const to v) lt n deep =
      wider 22 44 _ (omega arith) (two (constant (width_in ws to) v) (set to) (constant_short (width_in ws to) v) (set_short to (omega (arith, lt, small))))
  statement_spelled ls names (Move to from) (to_lt, from_lt) n deep =
      wider 33 44 _ (omega arith) (in_front (get from) 22 _ (get_short from (omega (arith, from_lt, small))) (joined 11 11 (conversion (width_in ws to) (width_in ws from)) (set to ∷ []) (converted (width_in ws to) (width_in ws from)) (one (set to) (set_short to (omega (arith, to_lt, small))))))
  statement_spelled ls names (Int o to a b) (w, at_a, at_b, at_to) n deep =
      in_front (get a) 33 _ (get_short a (there a w at_a)) (in_front (get b) 22 _ (get_short b (there b w at_b)) (two (numeric (opcode o (width_in ws a))) (set to) (operator_short o (width_in ws a)) (set_short to (there to _ at_to))))
  statement_spelled ls names (Load to at offset size) (w, at_at, at_to, fits) n deep =
      wider 33 44 _ (omega arith) (in_front (get at) 22 _ (get_short at (there at Narrow at_at)) (two (Plain (op.Load (load_of (width_in ws to) size) (at_offset offset))) (set to) (load_short (load_of (width_in ws to) size) offset n) (set_short to (there to w at_to))))
  statement_spelled ls names (Store from at offset size) (w, at_at, at_from, fits) n deep =
      wider 33 44 _ (omega arith) (in_front (get at) 22 _ (get_short at (there at Narrow at_at)) (two (get from) (Plain (op.Store (store_of (width_in ws from) size) (at_offset offset))) (get_short from (there from w at_from)) (store_short (store_of (width_in ws from) size) offset n)))
  statement_spelled ls names (If' test m f k o) fine n deep = absurd fine
  statement_spelled ls names (Repeat' name count m body) fine n deep = absurd fine
  statement_spelled ls names (Leave name) named n deep =
      let within = label_within name ls in
      wider 11 44 _ (omega arith) (one (Br (label_of name ls)) (branch_short (label_of name ls) (omega (arith, within, deep))))
  statement_spelled ls names (NewHandle kind rep to) (lt, at_rep, at_to) n deep =
      wider 33 44 _ (omega arith) (in_front (get rep) 22 _ (get_short rep (there rep Narrow at_rep)) (two (call_of (call_at calls.makes kind)) (set to) (call_short (call_at calls.makes kind) (indexes.makes kind)) (set_short to (there to Narrow at_to))))
  statement_spelled ls names (DropHandle kind index) (lt, at_index) n deep =
      wider 22 44 _ (omega arith) (two (get index) (call_of (call_at calls.drops kind)) (get_short index (there index Narrow at_index)) (call_short (call_at calls.drops kind) (indexes.drops kind)))
  statement_spelled ls names Trap fine n deep = wider 11 44 _ (omega arith) (one Unreachable trap_short)
  statement_spelled ls names Answer fine n deep = wider 11 44 _ (omega arith) (one (Br (length ls)) (branch_short (length ls) deep))

  code_spelled : (ls : Labels) (d : ℕ) (names : List ℕ) (code : Code) → IsWellFormed ws names code → AreNumbered code → length ws + d + nesting code < 2 ^ 32 → length ls + brackets code < 2 ^ 32 → IsSpelledIn (107 * statements code) (code_in ws calls ls d code)
  code_spelled ls d names Stop fine n low deep = nothing
  code_spelled ls d names (Then st rest) (fine, more) (n, ns) low deep =
      wider (44 + 107 * statements rest) _ _ (omega arith)
      (joined 44 (107 * statements rest) (statement_code ws calls ls st) (code_in ws calls ls d rest) (statement_spelled ls names st fine n (omega (arith, deep))) (code_spelled ls d names rest more ns low deep))
  code_spelled ls d names (Choose test first other rest) (at_test, fine_first, fine_other, more) (n, m, ns) low deep =
      let F = code_in ws calls (None ∷ ls) d first in
      let O = code_in ws calls (None ∷ ls) d other in
      let a = 107 * statements first in
      let b = 107 * statements other in
      let c = 107 * statements rest in
      let both = max (nesting first) (nesting other) in
      let inner = max (brackets first) (brackets other) in
      let low_first : length ws + d + nesting first < 2 ^ 32 = omega (arith, low, le-max_left (nesting first) (nesting other), le-max_left both (nesting rest)) in
      let low_other : length ws + d + nesting other < 2 ^ 32 = omega (arith, low, le-max_right (nesting first) (nesting other), le-max_left both (nesting rest)) in
      let low_rest : length ws + d + nesting rest < 2 ^ 32 = omega (arith, low, le-max_right both (nesting rest)) in
      let deep_first : suc (length ls) + brackets first < 2 ^ 32 = omega (arith, deep, le-max_left (brackets first) (brackets other), le-max_left (suc inner) (brackets rest)) in
      let deep_other : suc (length ls) + brackets other < 2 ^ 32 = omega (arith, deep, le-max_right (brackets first) (brackets other), le-max_left (suc inner) (brackets rest)) in
      let deep_rest : length ls + brackets rest < 2 ^ 32 = omega (arith, deep, le-max_right (suc inner) (brackets rest)) in
      wider ((11 + (6 + a + b)) + c) _ _ (omega arith)
      (joined (11 + (6 + a + b)) c (choice_code test F O) (code_in ws calls ls d rest)
      (in_front (get test) (6 + a + b) _ (get_short test (there test Narrow at_test)) (in_choice a b F O (code_spelled (None ∷ ls) d names first fine_first n low_first deep_first) (code_spelled (None ∷ ls) d names other fine_other m low_other deep_other)))
      (code_spelled ls d names rest more ns low_rest deep_rest))
  code_spelled ls d names (Turns name count body rest) (at_count, fine, more) (n, ns) low deep =
      let B = code_in ws calls (None ∷ Some name ∷ ls) (suc d) body in
      let a = 107 * statements body in
      let c = 107 * statements rest in
      let low_body : length ws + suc d + nesting body < 2 ^ 32 = omega (arith, low, le-max_left (suc (nesting body)) (nesting rest)) in
      let low_rest : length ws + d + nesting rest < 2 ^ 32 = omega (arith, low, le-max_right (suc (nesting body)) (nesting rest)) in
      let deep_body : suc (suc (length ls)) + brackets body < 2 ^ 32 = omega (arith, deep, le-max_left (suc (suc (brackets body))) (brackets rest)) in
      let deep_rest : length ls + brackets rest < 2 ^ 32 = omega (arith, deep, le-max_right (suc (suc (brackets body))) (brackets rest)) in
      wider ((107 + a) + c) _ _ (omega arith)
      (joined (107 + a) c (turns_code count (length ws + d) B) (code_in ws calls ls d rest)
      (turns_spelled count (length ws + d) a B (there count Narrow at_count) (omega (arith, low_body)) (code_spelled (None ∷ Some name ∷ ls) (suc d) (name ∷ names) body fine n low_body deep_body))
      (code_spelled ls d names rest more ns low_rest deep_rest))

pub routine_spelled : (ws : List Width) (calls : HandleCalls) (code : Code) → IsWellFormed ws [] code → AreNumbered code → AreIndexes calls → length ws + nesting code < 2 ^ 32 → brackets code < 2 ^ 32 → IsSpelledIn (107 * statements code + 4) (routine_code ws calls code)
routine_spelled ws calls code fine n indexes low deep =
    let inner = code_spelled ws calls indexes (omega (arith, low)) [] 0 [] code fine n (omega (arith, low)) (omega (arith, deep)) in
    wider (4 + 107 * statements code) _ _ (omega arith) (in_block (107 * statements code) (code_in ws calls [] 0 code) inner)

-- ---- bodies

pub type_fits : (t : CoreType) → core_type.Fits t
unfolding core_type
type_fits I32 = refl
type_fits I64 = refl
type_fits Funcref = refl
type_fits Externref = refl

pub type_few : (t : CoreType) → length (core_type.write t) ≤ 1
unfolding core_type
type_few I32 = omega arith
type_few I64 = omega arith
type_few Funcref = omega arith
type_few Externref = omega arith

run_fits : (r : LocalRun) → r.count < 2 ^ 32 → local_run.Fits r × (length (local_run.write r) ≤ 6)
unfolding local_run u32_format
run_fits r lt = ((refl, (lt, type_fits r.ty)), omega (arith, few_unsigned 4 r.count, type_few r.ty, length-append (u32_format.write r.count) (core_type.write r.ty)))

runs_fit : (rs : List LocalRun) → AllByRecursion (λ (r : LocalRun). r.count < 2 ^ 32) rs → AllByRecursion local_run.Fits rs × (length (write_items local_run rs) ≤ 6 * length rs)
runs_fit [] h = (tt, omega arith)
runs_fit (r ∷ rs) h =
    let one = run_fits r h.0 in
    let more = runs_fit rs h.1 in
    ((one.0, more.0), omega (arith, one.1, more.1, length-append (local_run.write r) (write_items local_run rs)))

locals_fit : (rs : List LocalRun) → AllByRecursion (λ (r : LocalRun). r.count < 2 ^ 32) rs → length rs < 2 ^ 32 → (vec local_run).Fits rs × (length ((vec local_run).write rs) ≤ 5 + 6 * length rs)
unfolding u32_format
locals_fit rs h lt =
    let all = runs_fit rs h in
    ((lt, all.0), omega (arith, all.1, few_unsigned 4 (length rs), length-append (u32_format.write (length rs)) (write_items local_run rs)))

pub code_fits : (code : List Instr) (most : ℕ) → IsSpelledIn most code → expr.Fits (code ++ End ∷ []) × (length (expr.write (code ++ End ∷ [])) ≤ most + 2)
unfolding expr nested
code_fits code most s =
    let few = s.few false [] (End ∷ []) in
    (s.fits false [] (End ∷ []) (refl, end_bracket.fits false, refl), omega (arith, few, end_bracket.few false, length-append ((instr false).write End) []))

pub body_spelled : (locals : List LocalRun) (code : List Instr) (most : ℕ) → AllByRecursion (λ (r : LocalRun). r.count < 2 ^ 32) locals → length locals < 2 ^ 32 → IsSpelledIn most code
    → let whole : Body = record { locals = locals; code = code ++ End ∷ [] } in body.Fits whole × (length (body.write whole) ≤ 7 + 6 * length locals + most)
unfolding body
body_spelled locals code most h lt s =
    let l = locals_fit locals h lt in
    let c = code_fits code most s in
    ((refl, (l.0, c.0)), omega (arith, l.1, c.1, length-append ((vec local_run).write locals) (expr.write (code ++ End ∷ []))))

-- the locals of a routine and its counters, as a function declares them
pub declared_small : (ws : List Width) (n : ℕ) → n < 2 ^ 32 → AllByRecursion (λ (r : LocalRun). r.count < 2 ^ 32) (declared_of ws n)
declared_small [] zero lt = tt
declared_small [] (suc n) lt = (lt, tt)
declared_small (w ∷ ws) n lt = (omega arith, declared_small ws n lt)

pub declared_few : (ws : List Width) (n : ℕ) → length (declared_of ws n) ≤ length ws + 1
declared_few [] zero = omega arith
declared_few [] (suc n) = omega arith
declared_few (w ∷ ws) n = let r = declared_few ws n in omega (arith, r)
