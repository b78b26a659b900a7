-- Routines put at other places, statement by statement.
use Rattle.std.proofs.Common.{◌≡◌, ℕ, zero, suc, ◌+◌, ◌<◌, ◌&&◌, nat_lt, Bool, true, false, List, [], ◌∷◌, ◌++◌, Some, Vec, Global, length, drop, refl, sym, ap, subst, ◌∙◌, arith}
use Rattle.std.specs.Prelude.{slice_get}
use Rattle.std.proofs.lemmas.Bool.{ltb-true}
use Rattle.adapter_code.specs.declared.statement.Statement.{Statement, Const, Move, Int, Load, Store, If, If', Repeat, Repeat', Leave, NewHandle, DropHandle, Trap, Answer}
use Rattle.adapter_code.specs.Code.{Code, Stop, Then, Choose, Turns, before, row_code, code_of, followed_by}
use Rattle.adapter_code.specs.Placed.{place_in, moved_to, placed, statement_within, within}
use Rattle.adapter_code.proofs.Codes.{before_if, before_repeat, code_append}
use Rattle.adapter_code.proofs.Running.{drop_from}

pub both : (a b : Bool) → (a && b) ≡ true → (a ≡ true) × (b ≡ true)
both true b e = (refl, e)
both false b e = absurd cc

-- ---- one routine after another

followed_stop : (code : Code) → followed_by code Stop ≡ code
followed_stop Stop = refl
followed_stop (Then st rest) = ap (Then st) (followed_stop rest)
followed_stop (Choose test first other rest) = ap (Choose test first other) (followed_stop rest)
followed_stop (Turns name count body rest) = ap (Turns name count body) (followed_stop rest)

followed_more : (a b c : Code) → followed_by (followed_by a b) c ≡ followed_by a (followed_by b c)
followed_more Stop b c = refl
followed_more (Then st rest) b c = ap (Then st) (followed_more rest b c)
followed_more (Choose test first other rest) b c = ap (Choose test first other) (followed_more rest b c)
followed_more (Turns name count body rest) b c = ap (Turns name count body) (followed_more rest b c)

-- ---- a statement and the rest

placed_before : (places : List ℕ) (st : Statement) (q : Code) → placed places (before st q) ≡ followed_by (placed places (before st Stop)) (placed places q)
placed_before places (Const to v) q = refl
placed_before places (Move to from) q = refl
placed_before places (Int op to a b) q = refl
placed_before places (Load to at offset size) q = refl
placed_before places (Store from at offset size) q = refl
placed_before places (If' test m f m' o) q = refl
placed_before places (Repeat' name count m body) q = refl
placed_before places (Leave name) q = refl
placed_before places (NewHandle kind rep to) q = refl
placed_before places (DropHandle kind index) q = refl
placed_before places Trap q = refl
placed_before places Answer q = refl

within_before : (n : ℕ) (st : Statement) (q : Code) → within n (before st q) ≡ true → (within n (before st Stop) ≡ true) × (within n q ≡ true)
within_before n (Const to v) q e = let h = both (statement_within n (Const to v)) (within n q) e in (rw h.0 refl, h.1)
within_before n (Move to from) q e = let h = both (statement_within n (Move to from)) (within n q) e in (rw h.0 refl, h.1)
within_before n (Int op to a b) q e = let h = both (statement_within n (Int op to a b)) (within n q) e in (rw h.0 refl, h.1)
within_before n (Load to at offset size) q e = let h = both (statement_within n (Load to at offset size)) (within n q) e in (rw h.0 refl, h.1)
within_before n (Store from at offset size) q e = let h = both (statement_within n (Store from at offset size)) (within n q) e in (rw h.0 refl, h.1)
within_before n (If' test m f m' o) q e =
    let h = both (nat_lt test n) (within n (row_code f) && (within n (row_code o) && within n q)) e in
    let g = both (within n (row_code f)) (within n (row_code o) && within n q) h.1 in
    let k = both (within n (row_code o)) (within n q) g.1 in
    (rw (h.0, g.0, k.0) refl, k.1)
within_before n (Repeat' name count m body) q e =
    let h = both (nat_lt count n) (within n (row_code body) && within n q) e in
    let g = both (within n (row_code body)) (within n q) h.1 in
    (rw (h.0, g.0) refl, g.1)
within_before n (Leave name) q e = let h = both (statement_within n (Leave name)) (within n q) e in (rw h.0 refl, h.1)
within_before n (NewHandle kind rep to) q e = let h = both (statement_within n (NewHandle kind rep to)) (within n q) e in (rw h.0 refl, h.1)
within_before n (DropHandle kind index) q e = let h = both (statement_within n (DropHandle kind index)) (within n q) e in (rw h.0 refl, h.1)
within_before n Trap q e = let h = both (statement_within n Trap) (within n q) e in (rw h.0 refl, h.1)
within_before n Answer q e = let h = both (statement_within n Answer) (within n q) e in (rw h.0 refl, h.1)

pub within_at : (n i : ℕ) (list : List Statement) (st : Statement) → within n (code_of list) ≡ true → slice_get list i ≡ Some st → within n (before st Stop) ≡ true
within_at n i [] st e there = cc
within_at n zero (x ∷ xs) st e there = let same : x ≡ st = cc in subst (λ y. within n (before y Stop) ≡ true) same (within_before n x (code_of xs) e).0
within_at n (suc i) (x ∷ xs) st e there = within_at n i xs st (within_before n x (code_of xs) e).1 there

pub within_if : (n test : ℕ) (first other : Vec Statement Global) → within n (before (If test first other) Stop) ≡ true → (test < n) × (within n (code_of first.items) ≡ true) × (within n (code_of other.items) ≡ true)
within_if n test first other e =
    let f = code_of first.items in
    let o = code_of other.items in
    let h = both (nat_lt test n) (within n f && (within n o && true)) (ap (within n) (sym (before_if test first other Stop)) ∙ e) in
    let g = both (within n f) (within n o && true) h.1 in
    (ltb-true test n h.0, g.0, (both (within n o) true g.1).0)

pub within_repeat : (n name count : ℕ) (body : Vec Statement Global) → within n (before (Repeat name count body) Stop) ≡ true → (count < n) × (within n (code_of body.items) ≡ true)
within_repeat n name count body e =
    let b = code_of body.items in
    let h = both (nat_lt count n) (within n b && true) (ap (within n) (sym (before_repeat name count body Stop)) ∙ e) in
    (ltb-true count n h.0, (both (within n b) true h.1).0)

pub placed_if : (places : List ℕ) (test : ℕ) (first other : Vec Statement Global) → placed places (before (If test first other) Stop) ≡ Choose (place_in places test) (placed places (code_of first.items)) (placed places (code_of other.items)) Stop
placed_if places test first other = ap (placed places) (before_if test first other Stop)

pub placed_repeat : (places : List ℕ) (name count : ℕ) (body : Vec Statement Global) → placed places (before (Repeat name count body) Stop) ≡ Turns name (place_in places count) (placed places (code_of body.items)) Stop
placed_repeat places name count body = ap (placed places) (before_repeat name count body Stop)

-- ---- a statement more

pub placed_more : (places : List ℕ) (i : ℕ) (list new : List Statement) (st x : Statement) → slice_get list i ≡ Some st → ((rest : Code) → before x rest ≡ followed_by (placed places (before st Stop)) rest)
    → followed_by (code_of new) (placed places (code_of (drop i list))) ≡ placed places (code_of list) → followed_by (code_of (new ++ x ∷ [])) (placed places (code_of (drop (i + 1) list))) ≡ placed places (code_of list)
placed_more places i list new st x there is so_far =
    let P = placed places (before st Stop) in
    let Q = placed places (code_of (drop (i + 1) list)) in
    let one : code_of (x ∷ []) ≡ P = is Stop ∙ followed_stop P in
    ap (λ c. followed_by c Q) (code_append new (x ∷ []) ∙ ap (followed_by (code_of new)) one) ∙ followed_more (code_of new) P Q
    ∙ ap (followed_by (code_of new)) (sym (ap (λ l. placed places (code_of l)) (drop_from i list st there) ∙ placed_before places st (code_of (drop (i + 1) list)))) ∙ so_far

pub placed_all : (places : List ℕ) (i : ℕ) (list new : List Statement) → drop i list ≡ [] → followed_by (code_of new) (placed places (code_of (drop i list))) ≡ placed places (code_of list) → code_of new ≡ placed places (code_of list)
placed_all places i list new none so_far = sym (followed_stop (code_of new)) ∙ ap (λ l. followed_by (code_of new) (placed places (code_of l))) (sym none) ∙ so_far
