-- Lists of statements and their trees.
use Rattle.std.proofs.Common.{◌≡◌, ℕ, zero, suc, ◌+◌, ◌<◌, ◌≤◌, List, [], ◌∷◌, ◌++◌, Some, Vec, Global, length, get_or, inl, inr, refl, sym, ap, ◌∙◌, subst, arith}
use Rattle.std.specs.Prelude.{slice_get}
use mathlib.Core.Former.{Count}
use Rattle.adapter_code.specs.declared.statement.Width.{Width}
use Rattle.adapter_code.specs.declared.statement.Width.TheVariants.{Narrow}
use Rattle.adapter_code.specs.declared.statement.Statement.{Statement, Const, Move, Int, Load, Store, If, If', Repeat, Repeat', Leave, NewHandle, DropHandle, Trap, Answer, Row_of-Statement, end_of-Statement, more_of-Statement, items-the_row-Statement, items_hidden-the_row-Statement-0}
use Rattle.adapter_code.specs.Code.{Code, Stop, Then, Choose, Turns, before, row_code, code_of, followed_by}
use Rattle.adapter_code.specs.Run.{State, Run, Next, Left, Over, then_run, chosen, number_at, turns, does, runs}
use Rattle.adapter_code.specs.WellFormed.{HasWidth, IsNamed, IsFine, IsWellFormed}
use Rattle.adapter_code.specs.Plain.{IsPlain, IsUsable, AreUsable}

abbrev first_of : Statement → (n : Count) × Row_of-Statement n
first_of (If' test m f m' o) = (_, f)
first_of (Repeat' name count m body) = (_, body)
first_of _ = (_, end_of-Statement)

abbrev other_of : Statement → (n : Count) × Row_of-Statement n
other_of (If' test m f m' o) = (_, o)
other_of _ = (_, end_of-Statement)

code_rows : (n : _) (row : Row_of-Statement n) → row_code row ≡ code_of (items-the_row-Statement n row)
code_rows n end_of-Statement = refl
code_rows n (more_of-Statement st rest) = ap (before st) (code_rows _ rest)

-- a statement with lists, by the trees of its lists
pub before_if : (test : ℕ) (first other : Vec Statement Global) (rest : Code) → before (If test first other) rest ≡ Choose test (code_of first.items) (code_of other.items) rest
before_if test first other rest =
    let a = first_of (If test first other) in
    let b = other_of (If test first other) in
    ap (λ c. Choose test c (row_code b.1) rest) (code_rows a.0 a.1 ∙ ap code_of (items_hidden-the_row-Statement-0 first))
    ∙ ap (λ c. Choose test (code_of first.items) c rest) (code_rows b.0 b.1 ∙ ap code_of (items_hidden-the_row-Statement-0 other))

pub before_repeat : (name count : ℕ) (body : Vec Statement Global) (rest : Code) → before (Repeat name count body) rest ≡ Turns name count (code_of body.items) rest
before_repeat name count body rest =
    let a = first_of (Repeat name count body) in
    ap (λ c. Turns name count c rest) (code_rows a.0 a.1 ∙ ap code_of (items_hidden-the_row-Statement-0 body))

pub plain_before : (st : Statement) (q : Code) → IsPlain st → before st q ≡ Then st q
plain_before (Const to v) q p = refl
plain_before (Move to from) q p = refl
plain_before (Int op to a b) q p = refl
plain_before (Load to at offset size) q p = refl
plain_before (Store from at offset size) q p = refl
plain_before (If' test m f m' o) q p = absurd p
plain_before (Repeat' name count m body) q p = absurd p
plain_before (Leave name) q p = refl
plain_before (NewHandle kind rep to) q p = refl
plain_before (DropHandle kind index) q p = refl
plain_before Trap q p = refl
plain_before Answer q p = refl

-- the run of a statement, and then that of the rest
stopped : (r : Run) (go : ℕ → State → Run) → then_run r go ≡ then_run (then_run r (runs Stop)) go
stopped (Next k s) go = refl
stopped (Left name k s) go = refl
stopped (Over e k s) go = refl

pub before_then : (st : Statement) (q : Code) (k : ℕ) (s : State) → runs (before st q) k s ≡ then_run (runs (before st Stop) k s) (runs q)
before_then (Const to v) q k s = stopped (does (Const to v) (suc k) s) (runs q)
before_then (Move to from) q k s = stopped (does (Move to from) (suc k) s) (runs q)
before_then (Int op to a b) q k s = stopped (does (Int op to a b) (suc k) s) (runs q)
before_then (Load to at offset size) q k s = stopped (does (Load to at offset size) (suc k) s) (runs q)
before_then (Store from at offset size) q k s = stopped (does (Store from at offset size) (suc k) s) (runs q)
before_then (If' test m f m' o) q k s = stopped (chosen (number_at s test) (runs (row_code f) (suc k) s) (runs (row_code o) (suc k) s)) (runs q)
before_then (Repeat' name count m body) q k s = stopped (turns name (runs (row_code body)) (number_at s count) (suc k) s) (runs q)
before_then (Leave name) q k s = stopped (does (Leave name) (suc k) s) (runs q)
before_then (NewHandle kind rep to) q k s = stopped (does (NewHandle kind rep to) (suc k) s) (runs q)
before_then (DropHandle kind index) q k s = stopped (does (DropHandle kind index) (suc k) s) (runs q)
before_then Trap q k s = stopped (does Trap (suc k) s) (runs q)
before_then Answer q k s = stopped (does Answer (suc k) s) (runs q)

-- a measure of a recursion on statements
abbrev pub size : Code → ℕ
size Stop = 0
size (Then st rest) = suc (size rest)
size (Choose test first other rest) = suc (size first + size other + size rest)
size (Turns name count body rest) = suc (size body + size rest)

pub size_before : (st : Statement) (q : Code) → size (before st q) ≡ size (before st Stop) + size q
size_before (Const to v) q = omega arith
size_before (Move to from) q = omega arith
size_before (Int op to a b) q = omega arith
size_before (Load to at offset size) q = omega arith
size_before (Store from at offset size) q = omega arith
size_before (If' test m f m' o) q = omega arith
size_before (Repeat' name count m body) q = omega arith
size_before (Leave name) q = omega arith
size_before (NewHandle kind rep to) q = omega arith
size_before (DropHandle kind index) q = omega arith
size_before Trap q = omega arith
size_before Answer q = omega arith

pub size_at : (i : ℕ) (list : List Statement) (st : Statement) → slice_get list i ≡ Some st → size (before st Stop) ≤ size (code_of list)
size_at i [] st e = cc
size_at zero (x ∷ xs) st e = let same : x ≡ st = cc in let s = ap (λ y. size (before y Stop)) same in omega (arith, s, size_before x (code_of xs))
size_at (suc i) (x ∷ xs) st e = let r = size_at i xs st e in omega (arith, r, size_before x (code_of xs))

pub size_if : (test : ℕ) (first other : Vec Statement Global) → size (before (If test first other) Stop) ≡ suc (size (code_of first.items) + size (code_of other.items))
size_if test first other = let e = ap size (before_if test first other Stop) in omega (arith, e)

pub size_repeat : (name count : ℕ) (body : Vec Statement Global) → size (before (Repeat name count body) Stop) ≡ suc (size (code_of body.items))
size_repeat name count body = let e = ap size (before_repeat name count body Stop) in omega (arith, e)

-- well-formedness of a statement, and of the rest
pub well_before : (ws : List Width) (names : List ℕ) (st : Statement) (q : Code) → IsWellFormed ws names (before st q) → IsWellFormed ws names (before st Stop) × IsWellFormed ws names q
well_before ws names (Const to v) q h = ((h.0, tt), h.1)
well_before ws names (Move to from) q h = ((h.0, tt), h.1)
well_before ws names (Int op to a b) q h = ((h.0, tt), h.1)
well_before ws names (Load to at offset size) q h = ((h.0, tt), h.1)
well_before ws names (Store from at offset size) q h = ((h.0, tt), h.1)
well_before ws names (If' test m f m' o) q h = ((h.0, h.1, h.2, tt), h.3)
well_before ws names (Repeat' name count m body) q h = ((h.0, h.1, tt), h.2)
well_before ws names (Leave name) q h = ((h.0, tt), h.1)
well_before ws names (NewHandle kind rep to) q h = ((h.0, tt), h.1)
well_before ws names (DropHandle kind index) q h = ((h.0, tt), h.1)
well_before ws names Trap q h = ((h.0, tt), h.1)
well_before ws names Answer q h = ((h.0, tt), h.1)

pub well_at : (ws : List Width) (names : List ℕ) (i : ℕ) (list : List Statement) (st : Statement) → IsWellFormed ws names (code_of list) → slice_get list i ≡ Some st → IsWellFormed ws names (before st Stop)
well_at ws names i [] st h e = cc
well_at ws names zero (x ∷ xs) st h e = let same : x ≡ st = cc in subst (λ y. IsWellFormed ws names (before y Stop)) same (well_before ws names x (code_of xs) h).0
well_at ws names (suc i) (x ∷ xs) st h e = well_at ws names i xs st (well_before ws names x (code_of xs) h).1 e

pub usable_at : (ws : List Width) (i : ℕ) (list : List Statement) (st : Statement) → AreUsable ws list → slice_get list i ≡ Some st → IsUsable ws st
usable_at ws i list st h e = (h.0, well_at ws h.0 i list st h.1 e)

pub usable_if : (ws : List Width) (test : ℕ) (first other : Vec Statement Global) → IsUsable ws (If test first other) → HasWidth ws test Narrow × AreUsable ws first.items × AreUsable ws other.items
usable_if ws test first other h =
    let w = subst (IsWellFormed ws h.0) (before_if test first other Stop) h.1 in
    (w.0, (h.0, w.1), (h.0, w.2))

pub usable_repeat : (ws : List Width) (name count : ℕ) (body : Vec Statement Global) → IsUsable ws (Repeat name count body) → HasWidth ws count Narrow × AreUsable ws body.items
usable_repeat ws name count body h =
    let w = subst (IsWellFormed ws h.0) (before_repeat name count body Stop) h.1 in
    (w.0, (name ∷ h.0, w.1))

pub fine_plain : (ws : List Width) (st : Statement) → IsPlain st → IsUsable ws st → (names : List ℕ) × IsFine ws names st
fine_plain ws st p h = (h.0, (subst (IsWellFormed ws h.0) (plain_before st Stop p) h.1).0)

pub well_join : (ws : List Width) (names : List ℕ) (st : Statement) (q : Code) → IsWellFormed ws names (before st Stop) → IsWellFormed ws names q → IsWellFormed ws names (before st q)
well_join ws names (Const to v) q h g = (h.0, g)
well_join ws names (Move to from) q h g = (h.0, g)
well_join ws names (Int op to a b) q h g = (h.0, g)
well_join ws names (Load to at offset size) q h g = (h.0, g)
well_join ws names (Store from at offset size) q h g = (h.0, g)
well_join ws names (If' test m f m' o) q h g = (h.0, h.1, h.2, g)
well_join ws names (Repeat' name count m body) q h g = (h.0, h.1, g)
well_join ws names (Leave name) q h g = (h.0, g)
well_join ws names (NewHandle kind rep to) q h g = (h.0, g)
well_join ws names (DropHandle kind index) q h g = (h.0, g)
well_join ws names Trap q h g = (h.0, g)
well_join ws names Answer q h g = (h.0, g)

-- well-formedness asks which names there are, and not their order
fine_named : (ws : List Width) (xs ys : List ℕ) (st : Statement) → ((n : ℕ) → IsNamed n xs → IsNamed n ys) → IsFine ws xs st → IsFine ws ys st
fine_named ws xs ys (Const to v) f h = h
fine_named ws xs ys (Move to from) f h = h
fine_named ws xs ys (Int op to a b) f h = h
fine_named ws xs ys (Load to at offset size) f h = h
fine_named ws xs ys (Store from at offset size) f h = h
fine_named ws xs ys (If' test m a m' b) f h = h
fine_named ws xs ys (Repeat' name count m body) f h = h
fine_named ws xs ys (Leave name) f h = f name h
fine_named ws xs ys (NewHandle kind rep to) f h = h
fine_named ws xs ys (DropHandle kind index) f h = h
fine_named ws xs ys Trap f h = h
fine_named ws xs ys Answer f h = h

pub well_named : (ws : List Width) (xs ys : List ℕ) (code : Code) → ((n : ℕ) → IsNamed n xs → IsNamed n ys) → IsWellFormed ws xs code → IsWellFormed ws ys code
well_named ws xs ys Stop f h = tt
well_named ws xs ys (Then st rest) f h = (fine_named ws xs ys st f h.0, well_named ws xs ys rest f h.1)
well_named ws xs ys (Choose test first other rest) f h = (h.0, well_named ws xs ys first f h.1, well_named ws xs ys other f h.2, well_named ws xs ys rest f h.3)
well_named ws xs ys (Turns name count body rest) f h =
    (h.0, well_named ws (name ∷ xs) (name ∷ ys) body (λ n g. elim g [ inl e ↦ inl e | inr r ↦ inr (f n r) ]) h.1, well_named ws xs ys rest f h.2)

pub named_front : (n m : ℕ) (xs : List ℕ) → IsNamed n (xs ++ m ∷ []) → IsNamed n (m ∷ xs)
named_front n m [] h = h
named_front n m (x ∷ xs) (inl e) = inr (inl e)
named_front n m (x ∷ xs) (inr r) = elim (named_front n m xs r) [ inl e ↦ inl e | inr g ↦ inr (inr g) ]

pub named_back : (n m : ℕ) (xs : List ℕ) → IsNamed n (m ∷ xs) → IsNamed n (xs ++ m ∷ [])
named_back n m [] h = h
named_back n m (x ∷ xs) (inl e) = inr (named_back n m xs (inl e))
named_back n m (x ∷ xs) (inr (inl e)) = inl e
named_back n m (x ∷ xs) (inr (inr r)) = inr (named_back n m xs (inr r))

pub named_get : (n : ℕ) (names : List ℕ) (i d : ℕ) → i < length names → get_or names i d ≡ n → IsNamed n names
named_get n [] i d lt e = absurd (omega arith)
named_get n (y ∷ ys) zero d lt e = inl (sym e)
named_get n (y ∷ ys) (suc i) d lt e = inr (named_get n ys i d (omega arith) e)

-- the name is among those that are left
pub named_left : (n : ℕ) (names : List ℕ) (x : ℕ) → (x ≡ n → ⊥) → IsNamed n (x ∷ names) → IsNamed n names
named_left n names x other (inl e) = absurd (other (sym e))
named_left n names x other (inr r) = r

-- ---- one list after another

before_followed : (st : Statement) (q next : Code) → before st (followed_by q next) ≡ followed_by (before st q) next
before_followed (Const to v) q next = refl
before_followed (Move to from) q next = refl
before_followed (Int op to a b) q next = refl
before_followed (Load to at offset size) q next = refl
before_followed (Store from at offset size) q next = refl
before_followed (If' test m f m' o) q next = refl
before_followed (Repeat' name count m body) q next = refl
before_followed (Leave name) q next = refl
before_followed (NewHandle kind rep to) q next = refl
before_followed (DropHandle kind index) q next = refl
before_followed Trap q next = refl
before_followed Answer q next = refl

pub code_append : (xs ys : List Statement) → code_of (xs ++ ys) ≡ followed_by (code_of xs) (code_of ys)
code_append [] ys = refl
code_append (x ∷ xs) ys = ap (before x) (code_append xs ys) ∙ before_followed x (code_of xs) (code_of ys)
