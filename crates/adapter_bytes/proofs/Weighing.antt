-- How many statements lists have.
use Rattle.std.proofs.Common.{◌≡◌, ℕ, ◌+◌, ◌<◌, ◌≤◌, ◌^◌, List, [], ◌∷◌, Some, Vec, Global, drop, refl, sym, ap, subst, ◌∙◌, arith}
use Rattle.std.specs.Prelude.{slice_get, Option, None, IfSome, IfNone}
use Rattle.adapter_code.specs.declared.statement.Statement.{Statement, Const, Move, Int, Load, Store, If, If', Repeat, Repeat', Leave, NewHandle, DropHandle, Trap, Answer}
use Rattle.adapter_code.specs.Code.{Code, Stop, before, code_of}
use Rattle.adapter_code.proofs.Codes.{before_if, before_repeat}
use Rattle.adapter_code.proofs.Running.{drop_from}
use Rattle.adapter_bytes.specs.Spelled.{statements, AreNumbered}
use Rattle.adapter_state.proofs.EachKind.{left_at}
use Rattle.adapter_stubs.specs.declared.stub.Stub.{Stub}
use Rattle.adapter_bytes.specs.Weight.{weight_of, weight_in, IsNumberedStub, AreNumberedStubs}

-- a statement and the rest
statements_before : (st : Statement) (q : Code) → statements (before st q) ≡ statements (before st Stop) + statements q
statements_before (Const to v) q = omega arith
statements_before (Move to from) q = omega arith
statements_before (Int op to a b) q = omega arith
statements_before (Load to at offset size) q = omega arith
statements_before (Store from at offset size) q = omega arith
statements_before (If' test m f m' o) q = omega arith
statements_before (Repeat' name count m body) q = omega arith
statements_before (Leave name) q = omega arith
statements_before (NewHandle kind rep to) q = omega arith
statements_before (DropHandle kind index) q = omega arith
statements_before Trap q = omega arith
statements_before Answer q = omega arith

numbered_before : (st : Statement) (q : Code) → AreNumbered (before st Stop) → AreNumbered q → AreNumbered (before st q)
numbered_before (Const to v) q h g = (h.0, g)
numbered_before (Move to from) q h g = (h.0, g)
numbered_before (Int op to a b) q h g = (h.0, g)
numbered_before (Load to at offset size) q h g = (h.0, g)
numbered_before (Store from at offset size) q h g = (h.0, g)
numbered_before (If' test m f m' o) q h g = (h.0, h.1, g)
numbered_before (Repeat' name count m body) q h g = (h.0, g)
numbered_before (Leave name) q h g = (h.0, g)
numbered_before (NewHandle kind rep to) q h g = (h.0, g)
numbered_before (DropHandle kind index) q h g = (h.0, g)
numbered_before Trap q h g = (h.0, g)
numbered_before Answer q h g = (h.0, g)

pub statements_if : (test : ℕ) (first other : Vec Statement Global) → statements (before (If test first other) Stop) ≡ 1 + statements (code_of first.items) + statements (code_of other.items)
statements_if test first other = let e = ap statements (before_if test first other Stop) in omega (arith, e)

pub statements_repeat : (name count : ℕ) (body : Vec Statement Global) → statements (before (Repeat name count body) Stop) ≡ 1 + statements (code_of body.items)
statements_repeat name count body = let e = ap statements (before_repeat name count body Stop) in omega (arith, e)

pub numbered_if : (test : ℕ) (first other : Vec Statement Global) → AreNumbered (code_of first.items) → AreNumbered (code_of other.items) → AreNumbered (before (If test first other) Stop)
numbered_if test first other h g = subst AreNumbered (sym (before_if test first other Stop)) (h, g, tt)

pub numbered_repeat : (name count : ℕ) (body : Vec Statement Global) → AreNumbered (code_of body.items) → AreNumbered (before (Repeat name count body) Stop)
numbered_repeat name count body h = subst AreNumbered (sym (before_repeat name count body Stop)) (h, tt)

-- what is left of a list
pub statements_left : (i : ℕ) (list : List Statement) (st : Statement) → slice_get list i ≡ Some st → statements (code_of (drop i list)) ≡ statements (before st Stop) + statements (code_of (drop (i + 1) list))
statements_left i list st there = ap (λ l. statements (code_of l)) (drop_from i list st there) ∙ statements_before st (code_of (drop (i + 1) list))

pub numbered_left : (i : ℕ) (list : List Statement) (st : Statement) → slice_get list i ≡ Some st → AreNumbered (before st Stop) → AreNumbered (code_of (drop (i + 1) list)) → AreNumbered (code_of (drop i list))
numbered_left i list st there h g = subst (λ l. AreNumbered (code_of l)) (sym (drop_from i list st there)) (numbered_before st (code_of (drop (i + 1) list)) h g)

-- ---- what is left of a number, or none

pub if_some_map : (o : Option ℕ) (P Q : ℕ → Type 0) → ((x : ℕ) → P x → Q x) → IfSome o P → IfSome o Q
if_some_map None P Q f h = tt
if_some_map (Some x) P Q f h = f x h

pub if_none_map : (o : Option ℕ) (P Q : Type 0) → (P → Q) → IfNone o P → IfNone o Q
if_none_map None P Q f h = f h
if_none_map (Some x) P Q f h = tt

-- ---- stubs

pub weight_left : (i j : ℕ) (ss : List Stub) (s : Stub) → slice_get ss i ≡ Some s → j ≡ i + 1 → weight_in (drop i ss) ≡ weight_of s + weight_in (drop j ss)
weight_left i j ss s there next = ap weight_in (left_at ss i j s there next)

pub stubs_left : (i j : ℕ) (ss : List Stub) (s : Stub) → slice_get ss i ≡ Some s → j ≡ i + 1 → IsNumberedStub s → AreNumberedStubs (drop j ss) → AreNumberedStubs (drop i ss)
stubs_left i j ss s there next h g = subst AreNumberedStubs (sym (left_at ss i j s there next)) (h, g)
