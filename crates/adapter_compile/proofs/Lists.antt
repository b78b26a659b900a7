-- Routines as lists, as trees and as code.
use Rattle.std.proofs.Common.{◌≡◌, ℕ, zero, suc, ◌+◌, ◌≤◌, max, List, [], ◌∷◌, ◌++◌, Option, Some, None, Vec, Global, length, drop, reverse, sym, ap, ◌∙◌, arith, append_assoc, append-nil, replicate}
use Rattle.std.proofs.Math.Nat.{max-zero, zero-max, max-le, le-max_left, le-max_right}
use Rattle.std.proofs.lemmas.List.{reverse-append}
use Rattle.std.proofs.lemmas.Grind.{flat_map-append}
use Rattle.std.specs.Prelude.{slice_get}
use Rattle.wasm_ast.specs.declared.module.LocalRun.{LocalRun}
use Rattle.core_store.specs.Locals.{each_local}
use Rattle.wasm_ast.specs.declared.instr.BlockType.TheVariants.{Empty}
use Rattle.wasm_ast.specs.declared.instr.Instr.{Instr}
use Rattle.wasm_ast.specs.declared.instr.Instr.TheVariants.{If as IfOf, Else, End}
use Rattle.adapter_code.specs.declared.statement.Width.{Width}
use Rattle.adapter_code.specs.declared.statement.Statement.{Statement, Const, Move, Int, Load, Store, If, If', Repeat, Repeat', Leave, NewHandle, DropHandle, Trap, Answer}
use Rattle.adapter_code.specs.Code.{Code, Stop, Then, Choose, Turns, before, code_of, row_code}
use Rattle.adapter_code.proofs.Codes.{before_if, before_repeat}
use Rattle.adapter_code.proofs.Running.{drop_from}
use Rattle.adapter_compile.specs.declared.calls.HandleCalls.{HandleCalls}
use Rattle.adapter_compile.specs.Instructions.{Labels, get, statement_code, choice_code, turns_begin, turns_end, turns_code, code_in}
use Rattle.adapter_compile.specs.Bounds.{nesting, brackets}

max_assoc : (a b c : ℕ) → max (max a b) c ≡ max a (max b c)
max_assoc a b c =
    let left : max (max a b) c ≤ max a (max b c) =
    max-le (max-le (le-max_left a (max b c)) (omega (arith, le-max_left b c, le-max_right a (max b c)))) (omega (arith, le-max_right b c, le-max_right a (max b c))) in
    let right : max a (max b c) ≤ max (max a b) c =
    max-le (omega (arith, le-max_left a b, le-max_left (max a b) c)) (max-le (omega (arith, le-max_right a b, le-max_left (max a b) c)) (le-max_right (max a b) c)) in
    omega (arith, left, right)

-- the nesting of a statement and of the rest
pub nesting_before : (st : Statement) (q : Code) → nesting (before st q) ≡ max (nesting (before st Stop)) (nesting q)
nesting_before (Const to v) q = sym (zero-max (nesting q))
nesting_before (Move to from) q = sym (zero-max (nesting q))
nesting_before (Int o to a b) q = sym (zero-max (nesting q))
nesting_before (Load to at offset size) q = sym (zero-max (nesting q))
nesting_before (Store from at offset size) q = sym (zero-max (nesting q))
nesting_before (If' test m f n o) q = ap (λ x. max x (nesting q)) (sym (max-zero (max (nesting (row_code f)) (nesting (row_code o)))))
nesting_before (Repeat' name count m body) q = ap (λ x. max x (nesting q)) (sym (max-zero (suc (nesting (row_code body)))))
nesting_before (Leave name) q = sym (zero-max (nesting q))
nesting_before (NewHandle kind rep to) q = sym (zero-max (nesting q))
nesting_before (DropHandle kind index) q = sym (zero-max (nesting q))
nesting_before Trap q = sym (zero-max (nesting q))
nesting_before Answer q = sym (zero-max (nesting q))

pub nesting_if : (test : ℕ) (first other : Vec Statement Global) → nesting (before (If test first other) Stop) ≡ max (nesting (code_of first.items)) (nesting (code_of other.items))
nesting_if test first other = ap nesting (before_if test first other Stop) ∙ max-zero _

pub nesting_repeat : (name count : ℕ) (body : Vec Statement Global) → nesting (before (Repeat name count body) Stop) ≡ suc (nesting (code_of body.items))
nesting_repeat name count body = ap nesting (before_repeat name count body Stop) ∙ max-zero _

-- what is left of a list while its greatest nesting is sought
pub nesting_left : (i : ℕ) (list : List Statement) (st : Statement) (most : ℕ) → slice_get list i ≡ Some st → max most (nesting (code_of (drop i list))) ≡ max (max most (nesting (before st Stop))) (nesting (code_of (drop (i + 1) list)))
nesting_left i list st most there =
    ap (λ l. max most (nesting (code_of l))) (drop_from i list st there)
    ∙ ap (max most) (nesting_before st (code_of (drop (i + 1) list)))
    ∙ sym (max_assoc most (nesting (before st Stop)) (nesting (code_of (drop (i + 1) list))))

pub nesting_at : (i : ℕ) (list : List Statement) (st : Statement) → slice_get list i ≡ Some st → nesting (before st Stop) ≤ nesting (code_of list)
nesting_at i [] st e = cc
nesting_at zero (x ∷ xs) st e =
    let same : x ≡ st = cc in
    let s = ap (λ y. nesting (before y Stop)) same in
    omega (arith, s, nesting_before x (code_of xs), le-max_left (nesting (before x Stop)) (nesting (code_of xs)))
nesting_at (suc i) (x ∷ xs) st e =
    let r = nesting_at i xs st e in omega (arith, r, nesting_before x (code_of xs), le-max_right (nesting (before x Stop)) (nesting (code_of xs)))

-- the same of brackets
pub brackets_before : (st : Statement) (q : Code) → brackets (before st q) ≡ max (brackets (before st Stop)) (brackets q)
brackets_before (Const to v) q = sym (zero-max (brackets q))
brackets_before (Move to from) q = sym (zero-max (brackets q))
brackets_before (Int o to a b) q = sym (zero-max (brackets q))
brackets_before (Load to at offset size) q = sym (zero-max (brackets q))
brackets_before (Store from at offset size) q = sym (zero-max (brackets q))
brackets_before (If' test m f n o) q = ap (λ x. max x (brackets q)) (sym (max-zero (suc (max (brackets (row_code f)) (brackets (row_code o))))))
brackets_before (Repeat' name count m body) q = ap (λ x. max x (brackets q)) (sym (max-zero (suc (suc (brackets (row_code body))))))
brackets_before (Leave name) q = sym (zero-max (brackets q))
brackets_before (NewHandle kind rep to) q = sym (zero-max (brackets q))
brackets_before (DropHandle kind index) q = sym (zero-max (brackets q))
brackets_before Trap q = sym (zero-max (brackets q))
brackets_before Answer q = sym (zero-max (brackets q))

pub brackets_if : (test : ℕ) (first other : Vec Statement Global) → brackets (before (If test first other) Stop) ≡ suc (max (brackets (code_of first.items)) (brackets (code_of other.items)))
brackets_if test first other = ap brackets (before_if test first other Stop) ∙ max-zero _

pub brackets_repeat : (name count : ℕ) (body : Vec Statement Global) → brackets (before (Repeat name count body) Stop) ≡ suc (suc (brackets (code_of body.items)))
brackets_repeat name count body = ap brackets (before_repeat name count body Stop) ∙ max-zero _

pub brackets_at : (i : ℕ) (list : List Statement) (st : Statement) → slice_get list i ≡ Some st → brackets (before st Stop) ≤ brackets (code_of list)
brackets_at i [] st e = cc
brackets_at zero (x ∷ xs) st e =
    let same : x ≡ st = cc in
    let s = ap (λ y. brackets (before y Stop)) same in
    omega (arith, s, brackets_before x (code_of xs), le-max_left (brackets (before x Stop)) (brackets (code_of xs)))
brackets_at (suc i) (x ∷ xs) st e =
    let r = brackets_at i xs st e in omega (arith, r, brackets_before x (code_of xs), le-max_right (brackets (before x Stop)) (brackets (code_of xs)))

pub nesting_within : (code : Code) → nesting code ≤ brackets code
nesting_within Stop = omega arith
nesting_within (Then st rest) = nesting_within rest
nesting_within (Choose test first other rest) =
    let b = max (brackets first) (brackets other) in
    let inner : max (nesting first) (nesting other) ≤ b =
    max-le (omega (arith, nesting_within first, le-max_left (brackets first) (brackets other))) (omega (arith, nesting_within other, le-max_right (brackets first) (brackets other))) in
    max-le (omega (arith, inner, le-max_left (suc b) (brackets rest))) (omega (arith, nesting_within rest, le-max_right (suc b) (brackets rest)))
nesting_within (Turns name count body rest) =
    let b = suc (suc (brackets body)) in
    max-le (omega (arith, nesting_within body, le-max_left b (brackets rest))) (omega (arith, nesting_within rest, le-max_right b (brackets rest)))

more : (xs ys : List Instr) → xs ++ ys ≡ (xs ++ []) ++ ys
more xs ys = ap (λ l. l ++ ys) (sym (append-nil xs))

module _ (ws : List Width) (calls : HandleCalls) (ls : Labels) (d : ℕ) where
  -- the code of a statement and of the rest
  pub code_before : (st : Statement) (q : Code) → code_in ws calls ls d (before st q) ≡ code_in ws calls ls d (before st Stop) ++ code_in ws calls ls d q
  code_before (Const to v) q = more (statement_code ws calls ls (Const to v)) (code_in ws calls ls d q)
  code_before (Move to from) q = more (statement_code ws calls ls (Move to from)) (code_in ws calls ls d q)
  code_before (Int o to a b) q = more (statement_code ws calls ls (Int o to a b)) (code_in ws calls ls d q)
  code_before (Load to at offset size) q = more (statement_code ws calls ls (Load to at offset size)) (code_in ws calls ls d q)
  code_before (Store from at offset size) q = more (statement_code ws calls ls (Store from at offset size)) (code_in ws calls ls d q)
  code_before (If' test m f n o) q = more (choice_code test (code_in ws calls (None ∷ ls) d (row_code f)) (code_in ws calls (None ∷ ls) d (row_code o))) (code_in ws calls ls d q)
  code_before (Repeat' name count m body) q = more (turns_code count (length ws + d) (code_in ws calls (None ∷ Some name ∷ ls) (suc d) (row_code body))) (code_in ws calls ls d q)
  code_before (Leave name) q = more (statement_code ws calls ls (Leave name)) (code_in ws calls ls d q)
  code_before (NewHandle kind rep to) q = more (statement_code ws calls ls (NewHandle kind rep to)) (code_in ws calls ls d q)
  code_before (DropHandle kind index) q = more (statement_code ws calls ls (DropHandle kind index)) (code_in ws calls ls d q)
  code_before Trap q = more (statement_code ws calls ls Trap) (code_in ws calls ls d q)
  code_before Answer q = more (statement_code ws calls ls Answer) (code_in ws calls ls d q)

  pub code_left : (i : ℕ) (list : List Statement) (st : Statement) (out : List Instr) → slice_get list i ≡ Some st → out ++ code_in ws calls ls d (code_of (drop i list)) ≡ (out ++ code_in ws calls ls d (before st Stop)) ++ code_in ws calls ls d (code_of (drop (i + 1) list))
  code_left i list st out there =
      ap (λ l. out ++ code_in ws calls ls d (code_of l)) (drop_from i list st there)
      ∙ ap (λ l. out ++ l) (code_before st (code_of (drop (i + 1) list)))
      ∙ sym (append_assoc out (code_in ws calls ls d (before st Stop)) (code_in ws calls ls d (code_of (drop (i + 1) list))))

  pub code_if : (test : ℕ) (first other : Vec Statement Global) → code_in ws calls ls d (before (If test first other) Stop) ≡ choice_code test (code_in ws calls (None ∷ ls) d (code_of first.items)) (code_in ws calls (None ∷ ls) d (code_of other.items))
  code_if test first other = ap (code_in ws calls ls d) (before_if test first other Stop) ∙ append-nil _

  pub code_repeat : (name count : ℕ) (body : Vec Statement Global) → code_in ws calls ls d (before (Repeat name count body) Stop) ≡ turns_code count (length ws + d) (code_in ws calls (None ∷ Some name ∷ ls) (suc d) (code_of body.items))
  code_repeat name count body = ap (code_in ws calls ls d) (before_repeat name count body Stop) ∙ append-nil _

pub reverse_pushed : (old new : List (Option ℕ)) (x : Option ℕ) → new ≡ old ++ x ∷ [] → reverse new ≡ x ∷ reverse old
reverse_pushed old new x e = ap reverse e ∙ reverse-append old (x ∷ [])

pub brackets_left : (i : ℕ) (list : List Statement) (st : Statement) (most : ℕ) → slice_get list i ≡ Some st → brackets (before st Stop) ≤ most → (brackets (code_of (drop i list)) ≤ most → brackets (code_of list) ≤ most) → brackets (code_of (drop (i + 1) list)) ≤ most → brackets (code_of list) ≤ most
brackets_left i list st most there le so_far rest =
    let e : brackets (code_of (drop i list)) ≡ max (brackets (before st Stop)) (brackets (code_of (drop (i + 1) list))) = ap (λ l. brackets (code_of l)) (drop_from i list st there) ∙ brackets_before st (code_of (drop (i + 1) list)) in
    let both = max-le le rest in
    so_far (omega (arith, e, both))

-- ---- instructions that were put one after another

joined : (x y o rest : List Instr) → o ≡ x ++ y → o ++ rest ≡ x ++ (y ++ rest)
joined x y o rest e = ap (λ l. l ++ rest) e ∙ append_assoc x y rest

pub choice_written : (old o1 o2 o3 o4 o5 first other : List Instr) (test : ℕ) → o1 ≡ old ++ get test ∷ [] → o2 ≡ o1 ++ IfOf Empty ∷ [] → o3 ≡ o2 ++ first → o4 ≡ o3 ++ Else ∷ [] → o5 ≡ o4 ++ other →
    o5 ++ End ∷ [] ≡ old ++ choice_code test first other
choice_written old o1 o2 o3 o4 o5 first other test e1 e2 e3 e4 e5 =
    let last = other ++ End ∷ [] in
    joined o4 other o5 (End ∷ []) e5 ∙ joined o3 (Else ∷ []) o4 last e4 ∙ joined o2 first o3 (Else ∷ last) e3 ∙ joined o1 (IfOf Empty ∷ []) o2 (first ++ (Else ∷ last)) e2
    ∙ joined old (get test ∷ []) o1 (IfOf Empty ∷ (first ++ (Else ∷ last))) e1

pub turns_written : (old o1 o2 body : List Instr) (count counter : ℕ) → o1 ≡ old ++ turns_begin count counter → o2 ≡ o1 ++ body → o2 ++ turns_end counter ≡ old ++ turns_code count counter body
turns_written old o1 o2 body count counter e1 e2 = joined o1 body o2 (turns_end counter) e2 ∙ joined old (turns_begin count counter) o1 (body ++ turns_end counter) e1

-- one run of locals more
pub run_more : (runs : List LocalRun) (run : LocalRun) → each_local (runs ++ run ∷ []) ≡ each_local runs ++ replicate run.count run.ty
run_more runs run = flat_map-append (λ (r : LocalRun). replicate r.count r.ty) runs (run ∷ []) ∙ ap (λ l. each_local runs ++ l) (append-nil (replicate run.count run.ty))
