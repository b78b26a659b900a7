-- How many locals lists of statements name.
use Rattle.std.proofs.Common.{◌≡◌, ℕ, zero, suc, ◌+◌, ◌≤◌, max, List, [], ◌∷◌, Some, Vec, Global, drop, refl, sym, ap, ◌∙◌, arith}
use Rattle.std.proofs.Math.Nat.{max-zero, zero-max, max-le, le-max_left, le-max_right}
use Rattle.std.specs.Prelude.{slice_get}
use Rattle.adapter_code.specs.declared.statement.Statement.{Statement, Const, Move, Int, Load, Store, If, If', Repeat, Repeat', Leave, NewHandle, DropHandle, Trap, Answer}
use Rattle.adapter_code.specs.Code.{Code, Stop, before, row_code, code_of}
use Rattle.adapter_code.proofs.Codes.{before_if, before_repeat}
use Rattle.adapter_code.proofs.Running.{drop_from}
use Rattle.adapter_stubs.specs.Named.{span_of, span}

max_assoc : (a b c : ℕ) → max (max a b) c ≡ max a (max b c)
max_assoc a b c =
    let left : max (max a b) c ≤ max a (max b c) =
    max-le (max-le (le-max_left a (max b c)) (omega (arith, le-max_left b c, le-max_right a (max b c)))) (omega (arith, le-max_right b c, le-max_right a (max b c))) in
    let right : max a (max b c) ≤ max (max a b) c =
    max-le (omega (arith, le-max_left a b, le-max_left (max a b) c)) (max-le (omega (arith, le-max_right a b, le-max_left (max a b) c)) (le-max_right (max a b) c)) in
    omega (arith, left, right)

grown : (x : ℕ) (q : Code) → max x (span q) ≡ max (max x 0) (span q)
grown x q = ap (λ y. max y (span q)) (sym (max-zero x))

-- a statement and the rest
pub span_before : (st : Statement) (q : Code) → span (before st q) ≡ max (span (before st Stop)) (span q)
span_before (Const to v) q = grown _ q
span_before (Move to from) q = grown _ q
span_before (Int o to a b) q = grown _ q
span_before (Load to at offset size) q = grown _ q
span_before (Store from at offset size) q = grown _ q
span_before (If' test m f n o) q = grown _ q
span_before (Repeat' name count m body) q = grown _ q
span_before (Leave name) q = grown _ q
span_before (NewHandle kind rep to) q = grown _ q
span_before (DropHandle kind index) q = grown _ q
span_before Trap q = grown _ q
span_before Answer q = grown _ q

pub span_if : (test : ℕ) (first other : Vec Statement Global) → span (before (If test first other) Stop) ≡ max (suc test) (max (span (code_of first.items)) (span (code_of other.items)))
span_if test first other = ap span (before_if test first other Stop) ∙ max-zero _

pub span_repeat : (name count : ℕ) (body : Vec Statement Global) → span (before (Repeat name count body) Stop) ≡ max (suc count) (span (code_of body.items))
span_repeat name count body = ap span (before_repeat name count body Stop) ∙ max-zero _

-- what is left of a list while its greatest local is sought
pub span_left : (i : ℕ) (list : List Statement) (st : Statement) (most : ℕ) → slice_get list i ≡ Some st → max most (span (code_of (drop i list))) ≡ max (max most (span (before st Stop))) (span (code_of (drop (i + 1) list)))
span_left i list st most there =
    ap (λ l. max most (span (code_of l))) (drop_from i list st there)
    ∙ ap (max most) (span_before st (code_of (drop (i + 1) list)))
    ∙ sym (max_assoc most (span (before st Stop)) (span (code_of (drop (i + 1) list))))
