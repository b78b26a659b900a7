-- Branch tables: operands below the top one, as many as a label has.
use Rattle.std.proofs.Common.{◌≡◌, ℕ, ◌<◌, ◌≤◌, ◌+◌, suc, refl, sym, ◌∙◌, ap, Option, Some, None, List, [], ◌∷◌, Bool, true, false, cond, ◌&&◌, is_some, length, drop, map, get_or, arith, drop-cons, ◌≢◌}
use Rattle.std.proofs.Math.ListN.{drop_of_length-le}
use Rattle.std.proofs.lemmas.List.{length-reverse}
use Rattle.virt_base.specs.declared.core_type.CoreType.{CoreType}
use Rattle.virt_base.specs.declared.core_type.CoreType.TheVariants.{I32}
use Rattle.core_body.specs.declared.operand.Operand.{Operand}
use Rattle.core_body.specs.declared.operand.Operand.TheVariants.{Known}
use Rattle.core_body.specs.Typing.{Labels, label_at, operands}
use Rattle.core_body.specs.Machine.{pops, below, like, under, all_below, Level, State, Running, Stuck, with_stack, apply, each_takes, takes_them, of_table, Dies, Refused}
use Rattle.core_body.proofs.Fits.{below-yes, Below-refl, both}

length-like : (l os : List Operand) → length (like l os) ≡ length l
length-like [] os = refl
length-like (x ∷ l) [] = ap suc (length-like l [])
length-like (x ∷ l) (o ∷ os) = ap suc (length-like l os)

length-map_lem : (ts : List CoreType) → length (map (λ t. Known t) ts) ≡ length ts
length-map_lem [] = refl
length-map_lem (t ∷ ts) = ap suc (length-map_lem ts)

pub length-operands : (ts : List CoreType) → length (operands ts) ≡ length ts
length-operands ts = length-reverse (map (λ t. Known t) ts) ∙ length-map_lem ts

and-false : (b : Bool) → (b && false) ≡ false
and-false true = refl
and-false false = refl

all_below-lengths : (xs ys : List Operand) → length xs ≢ length ys → all_below xs ys ≡ false
all_below-lengths [] [] h = absurd (h refl)
all_below-lengths [] (y ∷ ys) h = refl
all_below-lengths (x ∷ xs) [] h = refl
all_below-lengths (x ∷ xs) (y ∷ ys) h = ap (λ t. below x y && t) (all_below-lengths xs ys (λ e. h (ap suc e))) ∙ and-false (below x y)

-- labels of another length don't fit
pub fits-lengths : (first label : List CoreType) (os : List Operand) → length first ≢ length label → all_below (like (operands first) os) (operands label) ≡ false
fits-lengths first label os h =
    all_below-lengths (like (operands first) os) (operands label) (λ e. h (sym (length-operands first) ∙ sym (length-like (operands first) os) ∙ e ∙ length-operands label))

-- whether all could be taken off says what the machine does
pub with_stack-some : (r : Option (List Operand)) (s : State) → is_some r ≡ true → with_stack r (λ os. s) ≡ s
with_stack-some None s e = cc
with_stack-some (Some os) s e = refl

pub with_stack-none : (r : Option (List Operand)) (s : State) → is_some r ≡ false → with_stack r (λ os. s) ≡ Stuck
with_stack-none None s e = refl
with_stack-none (Some os) s e = cc

-- the labels of a table, from a place on
pub each_takes-at : (labels : Labels) (l : List Operand) (ns : List ℕ) (i : ℕ) → i < length ns →
    each_takes labels l (drop i ns) ≡ (takes_them (label_at labels (get_or ns i 0)) l && each_takes labels l (drop (i + 1) ns))
each_takes-at labels l ns i h =
    let step : suc i ≡ i + 1 = omega arith in
    ap (each_takes labels l) (drop-cons ns i 0 h) ∙ ap (λ n. takes_them (label_at labels (get_or ns i 0)) l && each_takes labels l (drop n ns)) step

-- a label that does not fit, and one that does, where the default's types are taken
pub each_takes-stop : (labels : Labels) (l : List Operand) (ns : List ℕ) (i : ℕ) (a : Bool) → i < length ns →
    (a && false) ≡ (a && takes_them (label_at labels (get_or ns i 0)) l) → (a && false) ≡ (a && each_takes labels l (drop i ns))
each_takes-stop labels l ns i a h e = go a (takes_them (label_at labels (get_or ns i 0)) l) (each_takes labels l (drop (i + 1) ns)) e ∙ ap (λ b. a && b) (sym (each_takes-at labels l ns i h))
  where
    go : (a t more : Bool) → (a && false) ≡ (a && t) → (a && false) ≡ (a && (t && more))
    go false t more e = refl
    go true t more e = ap (λ b. b && more) e

pub each_takes-goes : (labels : Labels) (l : List Operand) (ns : List ℕ) (i : ℕ) (a : Bool) → i < length ns →
    (a && true) ≡ (a && takes_them (label_at labels (get_or ns i 0)) l) → (a && each_takes labels l (drop (i + 1) ns)) ≡ (a && each_takes labels l (drop i ns))
each_takes-goes labels l ns i a h e = go a (takes_them (label_at labels (get_or ns i 0)) l) (each_takes labels l (drop (i + 1) ns)) e ∙ ap (λ b. a && b) (sym (each_takes-at labels l ns i h))
  where
    go : (a t more : Bool) → (a && true) ≡ (a && t) → (a && more) ≡ (a && (t && more))
    go false t more e = refl
    go true t more e = ap (λ b. b && more) e

pub each_takes-done : (labels : Labels) (l : List Operand) (ns : List ℕ) (i : ℕ) → length ns ≤ i → each_takes labels l (drop i ns) ≡ true
each_takes-done labels l ns i h = ap (each_takes labels l) (drop_of_length-le ns h)

pub of_table-found : (labels : Labels) (os first : List Operand) (d : ℕ) (ns : List ℕ) → label_at labels d ≡ Some first →
    of_table (label_at labels d) labels os (d ∷ ns)
    ≡ cond (all_below (like first (under os)) first && each_takes labels (like first (under os)) ns) (Dies (Known I32 ∷ like first (under os))) Refused
of_table-found labels os first d ns e =
    ap (λ x. of_table x labels os (d ∷ ns)) e
    ∙ ap (λ x. cond (takes_them x (like first (under os)) && each_takes labels (like first (under os)) ns) (Dies (Known I32 ∷ like first (under os))) Refused) e

below-none : (l : List Operand) → all_below (like l []) l ≡ true
below-none [] = refl
below-none (x ∷ l) = below-none l

-- what stands in the place of the default's types is below them and can be taken off where those types can
table-pops : (dead : Bool) (l os : List Operand) → (all_below (like l os) l && is_some (pops dead os (like l os))) ≡ is_some (pops dead os l)
table-pops dead [] os = refl
table-pops true (x ∷ l) [] = ap (λ b. b && true) (below-none l)
table-pops false (x ∷ l) [] = ap (λ b. b && false) (below-none l)
table-pops dead (x ∷ l) (o ∷ os) =
    ap (λ b. (below o x && all_below (like l os) l) && is_some (cond b (pops dead os (like l os)) None)) (below-yes o o (Below-refl o)) ∙ go (below o x) (table-pops dead l os)
  where
    go : (b : Bool) → (all_below (like l os) l && is_some (pops dead os (like l os))) ≡ is_some (pops dead os l) →
        ((b && all_below (like l os) l) && is_some (pops dead os (like l os))) ≡ is_some (cond b (pops dead os l) None)
    go true more = more
    go false more = refl

table-indexed : (dead : Bool) (l os : List Operand) →
    (all_below (like l (under os)) l && is_some (pops dead os (Known I32 ∷ like l (under os)))) ≡ is_some (pops dead os (Known I32 ∷ l))
table-indexed true l [] = ap (λ b. b && true) (below-none l)
table-indexed false l [] = ap (λ b. b && false) (below-none l)
table-indexed dead l (o ∷ os) = go (below o (Known I32)) (table-pops dead l os)
  where
    go : (b : Bool) → (all_below (like l os) l && is_some (pops dead os (like l os))) ≡ is_some (pops dead os l) →
        (all_below (like l os) l && is_some (cond b (pops dead os (like l os)) None)) ≡ is_some (cond b (pops dead os l) None)
    go true more = more
    go false more = and-false (all_below (like l os) l)

-- a table by three tests: its default is a label, the others take what it takes, and that can be taken off
pub table-goes : (l : Level) (outer : List Level) (labels : Labels) (first rest : List Operand) (d : ℕ) (ns : List ℕ) (fits : Bool) → label_at labels d ≡ Some first →
    (all_below (like first (under l.stack)) first && fits) ≡ (all_below (like first (under l.stack)) first && each_takes labels (like first (under l.stack)) ns) → fits ≡ true →
    pops l.dead l.stack (Known I32 ∷ first) ≡ Some rest →
    apply (of_table (label_at labels d) labels l.stack (d ∷ ns)) l outer ≡ Running (record l { dead = true; stack = [] }) outer
table-goes l outer labels first rest d ns fits found each goes taken =
    let row = like first (under l.stack) in
    let test = both (all_below row first) (is_some (pops l.dead l.stack (Known I32 ∷ row))) (table-indexed l.dead first l.stack ∙ ap is_some taken) in
    let all : (all_below row first && each_takes labels row ns) ≡ true = sym each ∙ ap (λ b. all_below row first && b) goes ∙ ap (λ b. b && true) test.0 in
    ap (λ u. apply u l outer) (of_table-found labels l.stack first d ns found ∙ ap (λ b. cond b (Dies (Known I32 ∷ row)) Refused) all)
    ∙ with_stack-some (pops l.dead l.stack (Known I32 ∷ row)) (Running (record l { dead = true; stack = [] }) outer) test.1

pub table-unfit : (l : Level) (outer : List Level) (labels : Labels) (first : List Operand) (d : ℕ) (ns : List ℕ) (fits : Bool) → label_at labels d ≡ Some first →
    (all_below (like first (under l.stack)) first && fits) ≡ (all_below (like first (under l.stack)) first && each_takes labels (like first (under l.stack)) ns) → fits ≡ false →
    apply (of_table (label_at labels d) labels l.stack (d ∷ ns)) l outer ≡ Stuck
table-unfit l outer labels first d ns fits found each unfit =
    let row = like first (under l.stack) in
    let none : (all_below row first && each_takes labels row ns) ≡ false = sym each ∙ ap (λ b. all_below row first && b) unfit ∙ and-false (all_below row first) in
    ap (λ u. apply u l outer) (of_table-found labels l.stack first d ns found ∙ ap (λ b. cond b (Dies (Known I32 ∷ row)) Refused) none)

pub table-lacks : (l : Level) (outer : List Level) (labels : Labels) (first : List Operand) (d : ℕ) (ns : List ℕ) → label_at labels d ≡ Some first →
    pops l.dead l.stack (Known I32 ∷ first) ≡ None → apply (of_table (label_at labels d) labels l.stack (d ∷ ns)) l outer ≡ Stuck
table-lacks l outer labels first d ns found lacks =
    let row = like first (under l.stack) in
    let whole = of_table-found labels l.stack first d ns found in
    ap (λ u. apply u l outer) whole ∙ go (all_below row first) (each_takes labels row ns) (table-indexed l.dead first l.stack ∙ ap is_some lacks)
  where
    go : (a b : Bool) → (a && is_some (pops l.dead l.stack (Known I32 ∷ like first (under l.stack)))) ≡ false →
        apply (cond (a && b) (Dies (Known I32 ∷ like first (under l.stack))) Refused) l outer ≡ Stuck
    go false b e = refl
    go true false e = refl
    go true true e = with_stack-none (pops l.dead l.stack (Known I32 ∷ like first (under l.stack))) (Running (record l { dead = true; stack = [] }) outer) e

-- where the default's types are another label's, it takes what they take
pub label-same : (first label row : List Operand) (r : Option (List Operand)) → r ≡ Some label → first ≡ label → (all_below row first && true) ≡ (all_below row first && takes_them r row)
label-same first label row r found same =
    let e : takes_them r row ≡ all_below row first = ap (λ x. takes_them x row) found ∙ ap (all_below row) (sym same) in
    go (all_below row first) (takes_them r row) e
  where
    go : (a b : Bool) → b ≡ a → (a && true) ≡ (a && b)
    go false b e = refl
    go true b e = sym e
