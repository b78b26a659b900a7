-- A routine that passes the test is well formed.
use Rattle.std.proofs.Common.{◌≡◌, ℕ, ◌<◌, ◌==◌, ◌&&◌, ◌||◌, nat_lt, Bool, true, false, List, [], ◌∷◌, length, Option, Some, None, inl, inr, refl, sym, ap, subst, ◌∙◌, arith}
use Rattle.std.specs.Prelude.{◌⊎◌, slice_get}
use Rattle.std.proofs.lemmas.Bool.{ltb-true, eqb-true}
use Rattle.adapter_code.specs.declared.statement.Width.{Width}
use Rattle.adapter_code.specs.declared.statement.Width.TheVariants.{Narrow, Broad}
use Rattle.adapter_code.specs.declared.statement.IntOp.{IntOp}
use Rattle.adapter_code.specs.declared.statement.Statement.{Statement, Const, Move, Int, Load, Store, If', Repeat', Leave, NewHandle, DropHandle, Trap, Answer}
use Rattle.adapter_code.specs.Number.{given_by}
use Rattle.adapter_code.specs.Code.{Code, Stop, Then, Choose, Turns}
use Rattle.adapter_code.specs.WellFormed.{IsNamed, HasWidth, IsSize, IsFine, IsWellFormed}
use Rattle.table_bytes.specs.Fine.{is_width, has_width, has_size, operates, is_named, is_fine, well_formed}

both : (a b : Bool) → (a && b) ≡ true → (a ≡ true) × (b ≡ true)
both true b e = (refl, e)
both false b e = absurd cc

either : (a b : Bool) → (a || b) ≡ true → (a ≡ true) ⊎ (b ≡ true)
either true b e = inl refl
either false b e = inr e

width_is : (o : Option Width) (w : Width) → is_width o w ≡ true → o ≡ Some w
width_is None w e = absurd cc
width_is (Some Narrow) Narrow e = refl
width_is (Some Narrow) Broad e = absurd cc
width_is (Some Broad) Narrow e = absurd cc
width_is (Some Broad) Broad e = refl

small_size : (size : ℕ) → ((size == 1) || ((size == 2) || (size == 4))) ≡ true → IsSize Narrow size
small_size size e =
    elim (either (size == 1) ((size == 2) || (size == 4)) e) [
      | inl one ↦ inl (eqb-true size 1 one)
      | inr more ↦ elim (either (size == 2) (size == 4) more) [ inl two ↦ inr (inl (eqb-true size 2 two)) | inr four ↦ inr (inr (eqb-true size 4 four)) ]
    ]

wide_size : (size : ℕ) → ((size == 1) || ((size == 2) || ((size == 4) || (size == 8)))) ≡ true → IsSize Broad size
wide_size size e =
    elim (either (size == 1) ((size == 2) || ((size == 4) || (size == 8))) e) [
      | inl one ↦ inl (eqb-true size 1 one)
      | inr more ↦ elim (either (size == 2) ((size == 4) || (size == 8)) more) [
        | inl two ↦ inr (inl (eqb-true size 2 two))
        | inr most ↦ elim (either (size == 4) (size == 8) most) [ inl four ↦ inr (inr (inl (eqb-true size 4 four))) | inr eight ↦ inr (inr (inr (eqb-true size 8 eight))) ]
      ]
    ]

size_is : (o : Option Width) (size : ℕ) → has_size o size ≡ true → (w : Width) × (o ≡ Some w) × IsSize w size
size_is None size e = absurd cc
size_is (Some Narrow) size e = (Narrow, refl, small_size size e)
size_is (Some Broad) size e = (Broad, refl, wide_size size e)

named_is : (name : ℕ) (names : List ℕ) → is_named name names ≡ true → IsNamed name names
named_is name [] e = absurd cc
named_is name (n ∷ names) e = elim (either (name == n) (is_named name names) e) [ inl same ↦ inl (eqb-true name n same) | inr more ↦ inr (named_is name names more) ]

operates_is : (ws : List Width) (op : IntOp) (to b : ℕ) (o : Option Width) → operates ws op to b o ≡ true → (w : Width) × (o ≡ Some w) × HasWidth ws b w × HasWidth ws to (given_by op w)
operates_is ws op to b None e = absurd cc
operates_is ws op to b (Some w) e =
    let h = both (has_width ws b w) (has_width ws to (given_by op w)) e in
    (w, refl, width_is (slice_get ws b) w h.0, width_is (slice_get ws to) (given_by op w) h.1)

fine_is : (ws : List Width) (names : List ℕ) (st : Statement) → is_fine ws names st ≡ true → IsFine ws names st
fine_is ws names (Const to v) e = ltb-true to (length ws) e
fine_is ws names (Move to from) e = let h = both (nat_lt to (length ws)) (nat_lt from (length ws)) e in (ltb-true to (length ws) h.0, ltb-true from (length ws) h.1)
fine_is ws names (Int op to a b) e = operates_is ws op to b (slice_get ws a) e
fine_is ws names (Load to at offset size) e =
    let h = both (has_width ws at Narrow) (has_size (slice_get ws to) size) e in
    let s = size_is (slice_get ws to) size h.1 in
    (s.0, width_is (slice_get ws at) Narrow h.0, s.1, s.2)
fine_is ws names (Store from at offset size) e =
    let h = both (has_width ws at Narrow) (has_size (slice_get ws from) size) e in
    let s = size_is (slice_get ws from) size h.1 in
    (s.0, width_is (slice_get ws at) Narrow h.0, s.1, s.2)
fine_is ws names (If' test m f n o) e = absurd cc
fine_is ws names (Repeat' name count m body) e = absurd cc
fine_is ws names (Leave name) e = named_is name names e
fine_is ws names (NewHandle kind rep to) e =
    let h = both (nat_lt kind 14) (has_width ws rep Narrow && has_width ws to Narrow) e in
    let g = both (has_width ws rep Narrow) (has_width ws to Narrow) h.1 in
    (ltb-true kind 14 h.0, width_is (slice_get ws rep) Narrow g.0, width_is (slice_get ws to) Narrow g.1)
fine_is ws names (DropHandle kind index) e =
    let h = both (nat_lt kind 14) (has_width ws index Narrow) e in
    (ltb-true kind 14 h.0, width_is (slice_get ws index) Narrow h.1)
fine_is ws names Trap e = tt
fine_is ws names Answer e = tt

pub well_formed_is : (ws : List Width) (names : List ℕ) (code : Code) → well_formed ws names code ≡ true → IsWellFormed ws names code
well_formed_is ws names Stop e = tt
well_formed_is ws names (Then st rest) e =
    let h = both (is_fine ws names st) (well_formed ws names rest) e in
    (fine_is ws names st h.0, well_formed_is ws names rest h.1)
well_formed_is ws names (Choose test first other rest) e =
    let h = both (has_width ws test Narrow) (well_formed ws names first && (well_formed ws names other && well_formed ws names rest)) e in
    let g = both (well_formed ws names first) (well_formed ws names other && well_formed ws names rest) h.1 in
    let f = both (well_formed ws names other) (well_formed ws names rest) g.1 in
    (width_is (slice_get ws test) Narrow h.0, well_formed_is ws names first g.0, well_formed_is ws names other f.0, well_formed_is ws names rest f.1)
well_formed_is ws names (Turns name count body rest) e =
    let h = both (has_width ws count Narrow) (well_formed ws (name ∷ names) body && well_formed ws names rest) e in
    let g = both (well_formed ws (name ∷ names) body) (well_formed ws names rest) h.1 in
    (width_is (slice_get ws count) Narrow h.0, well_formed_is ws (name ∷ names) body g.0, well_formed_is ws names rest g.1)
