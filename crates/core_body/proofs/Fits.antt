-- Which operands a stack of the machine stands for.
use Rattle.std.proofs.Common.{◌≡◌, ℕ, refl, sym, ◌∙◌, ap, subst, Option, Some, None, List, [], ◌∷◌, ◌++◌, Bool, true, false, cond, ◌&&◌}
use Rattle.virt_base.specs.declared.core_type.CoreType.{CoreType}
use Rattle.virt_base.specs.declared.core_type.CoreType.TheVariants.{I32, I64, Funcref, Externref}
use Rattle.core_body.specs.declared.operand.Operand.{Operand}
use Rattle.core_body.specs.declared.operand.Operand.TheVariants.{Any, Known}
use Rattle.core_body.specs.Typing.{Below, AllBelow}
use Rattle.core_body.specs.Machine.{same, below, pops, same_list, all_below, like, under, takes_them, each_takes}
use Rattle.core_body.specs.Typing.{Labels, EachTakes, label_at}

-- the list may stand on the machine's stack
abbrev pub Fit : Bool → List Operand → List Operand → Type 0
Fit dead [] [] = Unit {0}
Fit true [] (t ∷ ts) = Unit {0}
Fit false [] (t ∷ ts) = ⊥
Fit dead (o ∷ os) [] = ⊥
Fit dead (o ∷ os) (t ∷ ts) = Below o t × Fit dead os ts

pub Below-refl : (o : Operand) → Below o o
Below-refl Any = tt
Below-refl (Known t) = refl

pub Below-trans : (a b c : Operand) → Below a b → Below b c → Below a c
Below-trans Any b c p q = tt
Below-trans (Known t) b c p q = let P : Operand → Type 0 = λ o. Below o c in subst P (sym p) q

pub AllBelow-refl : (os : List Operand) → AllBelow os os
AllBelow-refl [] = tt
AllBelow-refl (o ∷ os) = (Below-refl o, AllBelow-refl os)

pub AllBelow-trans : (xs ys zs : List Operand) → AllBelow xs ys → AllBelow ys zs → AllBelow xs zs
AllBelow-trans [] [] zs p q = q
AllBelow-trans [] (y ∷ ys) zs p q = absurd p
AllBelow-trans (x ∷ xs) [] zs p q = absurd p
AllBelow-trans (x ∷ xs) (y ∷ ys) [] p q = absurd q
AllBelow-trans (x ∷ xs) (y ∷ ys) (z ∷ zs) p q = (Below-trans x y z p.0 q.0, AllBelow-trans xs ys zs p.1 q.1)

pub AllBelow-append : (xs ys us vs : List Operand) → AllBelow xs ys → AllBelow us vs → AllBelow (xs ++ us) (ys ++ vs)
AllBelow-append [] [] us vs p q = q
AllBelow-append [] (y ∷ ys) us vs p q = absurd p
AllBelow-append (x ∷ xs) [] us vs p q = absurd p
AllBelow-append (x ∷ xs) (y ∷ ys) us vs p q = (p.0, AllBelow-append xs ys us vs p.1 q)

pub Fit-below : (dead : Bool) (os ts us : List Operand) → Fit dead os ts → AllBelow ts us → Fit dead os us
Fit-below dead [] [] [] p q = tt
Fit-below dead [] [] (u ∷ us) p q = absurd q
Fit-below dead [] (t ∷ ts) [] p q = absurd q
Fit-below true [] (t ∷ ts) (u ∷ us) p q = tt
Fit-below false [] (t ∷ ts) (u ∷ us) p q = absurd p
Fit-below dead (o ∷ os) [] us p q = absurd p
Fit-below dead (o ∷ os) (t ∷ ts) [] p q = absurd q
Fit-below dead (o ∷ os) (t ∷ ts) (u ∷ us) p q = (Below-trans o t u p.0 q.0, Fit-below dead os ts us p.1 q.1)

pub Fit-dead : (ts : List Operand) → Fit true [] ts
Fit-dead [] = tt
Fit-dead (t ∷ ts) = tt

-- the test is the relation
same-refl : (t : CoreType) → same t t ≡ true
same-refl I32 = refl
same-refl I64 = refl
same-refl Funcref = refl
same-refl Externref = refl

same-eq : (t u : CoreType) → same t u ≡ true → t ≡ u
same-eq I32 I32 e = refl
same-eq I32 I64 e = cc
same-eq I32 Funcref e = cc
same-eq I32 Externref e = cc
same-eq I64 I32 e = cc
same-eq I64 I64 e = refl
same-eq I64 Funcref e = cc
same-eq I64 Externref e = cc
same-eq Funcref I32 e = cc
same-eq Funcref I64 e = cc
same-eq Funcref Funcref e = refl
same-eq Funcref Externref e = cc
same-eq Externref I32 e = cc
same-eq Externref I64 e = cc
same-eq Externref Funcref e = cc
same-eq Externref Externref e = refl

pub below-yes : (a b : Operand) → Below a b → below a b ≡ true
below-yes Any b p = refl
below-yes (Known t) Any p = cc
below-yes (Known t) (Known u) p = let e : t ≡ u = cc in let P : CoreType → Type 0 = λ v. same t v ≡ true in subst P e (same-refl t)

pub below-is : (a b : Operand) → below a b ≡ true → Below a b
below-is Any b e = tt
below-is (Known t) Any e = cc
below-is (Known t) (Known u) e = ap Known (same-eq t u e)

-- what is taken off leaves what fits below it
pub pops-of_fit : (dead : Bool) (os ps fs : List Operand) → Fit dead os (ps ++ fs) → (rest : List Operand) × (pops dead os ps ≡ Some rest) × Fit dead rest fs
pops-of_fit dead os [] fs h = (os, refl, h)
pops-of_fit true [] (p ∷ ps) fs h = ([], refl, Fit-dead fs)
pops-of_fit false [] (p ∷ ps) fs h = absurd h
pops-of_fit dead (o ∷ os) (p ∷ ps) fs h =
    let rest = pops-of_fit dead os ps fs h.1 in
    (rest.0, ap (λ b. cond b (pops dead os ps) None) (below-yes o p h.0) ∙ rest.1, rest.2)

pub fit-of_pops : (dead : Bool) (os ps rest fs : List Operand) → pops dead os ps ≡ Some rest → Fit dead rest fs → Fit dead os (ps ++ fs)
fit-of_pops dead os [] rest fs e h = let same : os ≡ rest = cc in let P : List Operand → Type 0 = λ l. Fit dead l fs in subst P (sym same) h
fit-of_pops true [] (p ∷ ps) rest fs e h = tt
fit-of_pops false [] (p ∷ ps) rest fs e h = cc
fit-of_pops dead (o ∷ os) (p ∷ ps) rest fs e h = go (λ e'. fit-of_pops dead os ps rest fs e' h) (below o p) refl
  where
    go : (pops dead os ps ≡ Some rest → Fit dead os (ps ++ fs)) → (b : Bool) → below o p ≡ b → Fit dead (o ∷ os) ((p ∷ ps) ++ fs)
    go more true is = (below-is o p is, more (ap (λ b. cond b (pops dead os ps) None) (sym is) ∙ e))
    go more false is = let never : None ≡ Some rest = ap (λ b. cond b (pops dead os ps) None) (sym is) ∙ e in cc

-- what is put on
pub fit-push : (dead : Bool) (xs ys os fs : List Operand) → AllBelow xs ys → Fit dead os fs → Fit dead (xs ++ os) (ys ++ fs)
fit-push dead [] [] os fs p h = h
fit-push dead [] (y ∷ ys) os fs p h = absurd p
fit-push dead (x ∷ xs) [] os fs p h = absurd p
fit-push dead (x ∷ xs) (y ∷ ys) os fs p h = (p.0, fit-push dead xs ys os fs p.1 h)

pub push-split : (dead : Bool) (xs os ts : List Operand) → Fit dead (xs ++ os) ts → (fs : List Operand) × AllBelow (xs ++ fs) ts × Fit dead os fs
push-split dead [] os ts h = (ts, AllBelow-refl ts, h)
push-split dead (x ∷ xs) os [] h = absurd h
push-split dead (x ∷ xs) os (t ∷ ts) h =
    let r = push-split dead xs os ts h.1 in
    (r.0, (h.0, r.1), r.2)

pub Fit-refl : (dead : Bool) (os : List Operand) → Fit dead os os
Fit-refl dead [] = tt
Fit-refl dead (o ∷ os) = (Below-refl o, Fit-refl dead os)

pub AllBelow-of_fit : (os ts : List Operand) → Fit false os ts → AllBelow os ts
AllBelow-of_fit [] [] h = tt
AllBelow-of_fit [] (t ∷ ts) h = h
AllBelow-of_fit (o ∷ os) [] h = h
AllBelow-of_fit (o ∷ os) (t ∷ ts) h = (h.0, AllBelow-of_fit os ts h.1)

pub nil-of_fit : (dead : Bool) (os : List Operand) → Fit dead os [] → os ≡ []
nil-of_fit dead [] h = refl
nil-of_fit dead (o ∷ os) h = absurd h

below-antisym : (x y : Operand) → below x y ≡ true → below y x ≡ true → x ≡ y
below-antisym Any Any p q = refl
below-antisym Any (Known t) p q = cc
below-antisym (Known t) y p q = below-is (Known t) y p

pub both : (a b : Bool) → (a && b) ≡ true → (a ≡ true) × (b ≡ true)
both true b e = (refl, e)
both false b e = cc

pub same_list-is : (xs ys : List Operand) → same_list xs ys ≡ true → xs ≡ ys
same_list-is [] [] e = refl
same_list-is [] (y ∷ ys) e = cc
same_list-is (x ∷ xs) [] e = cc
same_list-is (x ∷ xs) (y ∷ ys) e =
    let p = both (below x y) _ e in
    let q = both (below y x) _ p.1 in
    let h = below-antisym x y p.0 q.0 in
    let t = same_list-is xs ys q.1 in
    cc

pub same_list-refl : (xs : List Operand) → same_list xs xs ≡ true
same_list-refl [] = refl
same_list-refl (x ∷ xs) = rw (below-yes x x (Below-refl x)) (same_list-refl xs)

all_below-is : (xs ys : List Operand) → all_below xs ys ≡ true → AllBelow xs ys
all_below-is [] [] e = tt
all_below-is [] (y ∷ ys) e = cc
all_below-is (x ∷ xs) [] e = cc
all_below-is (x ∷ xs) (y ∷ ys) e = let p = both (below x y) _ e in (below-is x y p.0, all_below-is xs ys p.1)

all_below-yes : (xs ys : List Operand) → AllBelow xs ys → all_below xs ys ≡ true
all_below-yes [] [] h = refl
all_below-yes [] (y ∷ ys) h = absurd h
all_below-yes (x ∷ xs) [] h = absurd h
all_below-yes (x ∷ xs) (y ∷ ys) h = rw (below-yes x y h.0) (all_below-yes xs ys h.1)

takes_them-is : (r : Option (List Operand)) (l : List Operand) → takes_them r l ≡ true → (to : List Operand) × (r ≡ Some to) × AllBelow l to
takes_them-is None l e = cc
takes_them-is (Some to) l e = (to, refl, all_below-is l to e)

pub each_takes-is : (labels : Labels) (l : List Operand) (ms : List ℕ) → each_takes labels l ms ≡ true → EachTakes labels l ms
each_takes-is labels l [] e = tt
each_takes-is labels l (m ∷ ms) e =
    let p = both (takes_them (label_at labels m) l) _ e in
    (takes_them-is (label_at labels m) l p.0, each_takes-is labels l ms p.1)

pub each_takes-yes : (labels : Labels) (low l : List Operand) (ms : List ℕ) → AllBelow low l → EachTakes labels l ms → each_takes labels low ms ≡ true
each_takes-yes labels low l [] p h = refl
each_takes-yes labels low l (m ∷ ms) p h =
    let e : takes_them (label_at labels m) low ≡ true = ap (λ r. takes_them r low) h.0.1 ∙ all_below-yes low h.0.0 (AllBelow-trans low l h.0.0 p h.0.2) in
    rw e (each_takes-yes labels low l ms p h.1)

pub like-fit : (dead : Bool) (l to os fs : List Operand) → AllBelow l to → Fit dead os (l ++ fs) → Fit dead os (like to os ++ fs) × AllBelow (like to os) l
like-fit dead [] [] os fs p h = (h, tt)
like-fit dead [] (t ∷ to) os fs p h = absurd p
like-fit dead (x ∷ l) [] os fs p h = absurd p
like-fit true (x ∷ l) (t ∷ to) [] fs p h = (tt, (tt, (like-fit true l to [] fs p.1 (Fit-dead (l ++ fs))).1))
like-fit false (x ∷ l) (t ∷ to) [] fs p h = absurd h
like-fit dead (x ∷ l) (t ∷ to) (o ∷ os) fs p h =
    let r = like-fit dead l to os fs p.1 h.1 in
    ((Below-refl o, r.0), (h.0, r.1))

pub table-fit : (dead : Bool) (l to os fs : List Operand) → AllBelow l to → Fit dead os (Known I32 ∷ l ++ fs) →
    Fit dead os (Known I32 ∷ like to (under os) ++ fs) × AllBelow (like to (under os)) l
table-fit true l to [] fs p h = (tt, (like-fit true l to [] fs p (Fit-dead (l ++ fs))).1)
table-fit false l to [] fs p h = absurd h
table-fit dead l to (o ∷ os) fs p h = let r = like-fit dead l to os fs p h.1 in ((h.0, r.0), r.1)
