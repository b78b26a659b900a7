-- What a program's loops over a routine show.
use Rattle.std.proofs.Common.{◌≡◌, ℕ, zero, suc, ◌+◌, List, [], ◌∷◌, Some, drop, refl, sym, ap, ◌∙◌, subst, arith}
use Rattle.std.specs.Prelude.{slice_get, if◌then◌else◌}
use Rattle.std.proofs.lemmas.Bool.{eq-eqb, ne_eqb}
use Rattle.adapter_code.specs.declared.statement.Statement.{Statement}
use Rattle.adapter_code.specs.declared.flow.Flow.{Flow}
use Rattle.adapter_code.specs.declared.flow.Flow.TheVariants.{Next as Goes, Left as Leaves, Over as Ends}
use Rattle.adapter_code.specs.Code.{Stop, before, code_of}
use Rattle.adapter_code.specs.Run.{State, Run, Next, Left, Over, then_run, turn_end, turns, chosen, does, runs}
use Rattle.adapter_code.specs.Shown.{Shows}
use Rattle.adapter_code.specs.Plain.{IsPlain}
use Rattle.adapter_code.proofs.Codes.{before_then, plain_before}

pub shown_next : (r : Run) (t : State) → Shows r Goes t → (k : ℕ) × (r ≡ Next k t)
shown_next (Next k s) t e = (k, ap (Next k) e)
shown_next (Left m k s) t e = absurd e
shown_next (Over f k s) t e = absurd e

pub drop_from : {X : Type 0} (i : ℕ) (list : List X) (st : X) → slice_get list i ≡ Some st → drop i list ≡ st ∷ drop (i + 1) list
drop_from i [] st e = cc
drop_from zero (x ∷ xs) st e = let same : x ≡ st = cc in ap (λ y. y ∷ xs) same
drop_from (suc i) (x ∷ xs) st e = let step : suc i + 1 ≡ suc (i + 1) = omega arith in drop_from i xs st e ∙ ap (λ n. st ∷ drop n (x ∷ xs)) (sym step)

-- what is left of a list, from a state
pub record IsLeft (list rest : List Statement) (first now : State) : Type 0 where
  pub goes : (k : ℕ) → (k' : ℕ) × (runs (code_of list) k first ≡ runs (code_of rest) k' now)

pub left_all : (list : List Statement) (s : State) → IsLeft list (drop 0 list) s s
left_all list s = record { goes = λ k. (k, refl) }

step_from : (list : List Statement) (i : ℕ) (st : Statement) (k : ℕ) (s : State) → slice_get list i ≡ Some st → runs (code_of (drop i list)) k s ≡ then_run (runs (before st Stop) k s) (runs (code_of (drop (i + 1) list)))
step_from list i st k s there = ap (λ l. runs (code_of l) k s) (drop_from i list st there) ∙ before_then st (code_of (drop (i + 1) list)) k s

pub left_more : (list : List Statement) (i : ℕ) (st : Statement) (first s t : State) → slice_get list i ≡ Some st → IsLeft list (drop i list) first s → ((k : ℕ) → Shows (runs (before st Stop) k s) Goes t) → IsLeft list (drop (i + 1) list) first t
left_more list i st first s t there l shows = record {
  goes = λ k.
      let a = l.goes k in
      let b = shown_next (runs (before st Stop) a.0 s) t (shows a.0) in
      (b.0, a.1 ∙ step_from list i st a.0 s there ∙ ap (λ r. then_run r (runs (code_of (drop (i + 1) list)))) b.1);
}

-- a flow that ends a list
abbrev pub IsLast : Flow → Type 0
IsLast Goes = ⊥
IsLast (Leaves m) = Unit {0}
IsLast (Ends e) = Unit {0}

past : (r : Run) (go : ℕ → State → Run) (w : Flow) (t : State) → IsLast w → Shows r w t → Shows (then_run r go) w t
past (Next k s) go Goes t last h = absurd last
past (Next k s) go (Leaves m) t last h = absurd h
past (Next k s) go (Ends e) t last h = absurd h
past (Left m k s) go w t last h = h
past (Over e k s) go w t last h = h

pub left_last : (list : List Statement) (i : ℕ) (st : Statement) (first s t : State) (w : Flow) → slice_get list i ≡ Some st → IsLeft list (drop i list) first s → ((k : ℕ) → Shows (runs (before st Stop) k s) w t) → IsLast w → (k : ℕ) → Shows (runs (code_of list) k first) w t
left_last list i st first s t w there l shows last k =
    let a = l.goes k in
    subst (λ r. Shows r w t) (sym (a.1 ∙ step_from list i st a.0 s there)) (past (runs (before st Stop) a.0 s) (runs (code_of (drop (i + 1) list))) w t last (shows a.0))

pub left_none : (list rest : List Statement) (first s : State) → IsLeft list rest first s → rest ≡ [] → (k : ℕ) → Shows (runs (code_of list) k first) Goes s
left_none list rest first s l e k = let a = l.goes k in subst (λ r. Shows r Goes s) (sym (a.1 ∙ ap (λ r. runs (code_of r) a.0 s) e)) refl

-- what is left of the turns
pub record IsTurning (name : ℕ) (f : ℕ → State → Run) (n left : ℕ) (first now : State) : Type 0 where
  pub goes : (k : ℕ) → (k' : ℕ) × (turns name f n k first ≡ turns name f left k' now)

pub turning_all : (name : ℕ) (f : ℕ → State → Run) (n : ℕ) (s : State) → IsTurning name f n n s s
turning_all name f n s = record { goes = λ k. (k, refl) }

pub turning_more : (name : ℕ) (f : ℕ → State → Run) (n left : ℕ) (first s t : State) → IsTurning name f n (suc left) first s → ((k : ℕ) → Shows (f k s) Goes t) → IsTurning name f n left first t
turning_more name f n left first s t l shows = record {
  goes = λ k. let a = l.goes k in let b = shown_next (f (suc a.0) s) t (shows (suc a.0)) in (b.0, a.1 ∙ ap (λ r. turn_end name r (turns name f left)) b.1);
}

pub turning_none : (name : ℕ) (f : ℕ → State → Run) (n : ℕ) (first s : State) → IsTurning name f n 0 first s → (k : ℕ) → Shows (turns name f n k first) Goes s
turning_none name f n first s l k = let a = l.goes k in subst (λ r. Shows r Goes s) (sym a.1) refl

-- a turn that leaves this `Repeat`
out_here : (name : ℕ) (r : Run) (go : ℕ → State → Run) (t : State) → Shows r (Leaves name) t → Shows (turn_end name r go) Goes t
out_here name (Next k s) go t h = absurd h
out_here name (Left m k s) go t h = subst (λ b. Shows (if b then Next k s else Left m k s) Goes t) (sym (eq-eqb m name h.0)) h.1
out_here name (Over e k s) go t h = absurd h

pub turning_out : (name : ℕ) (f : ℕ → State → Run) (n left : ℕ) (first s t : State) → IsTurning name f n (suc left) first s → ((k : ℕ) → Shows (f k s) (Leaves name) t) → (k : ℕ) → Shows (turns name f n k first) Goes t
turning_out name f n left first s t l shows k = let a = l.goes k in subst (λ r. Shows r Goes t) (sym a.1) (out_here name (f (suc a.0) s) (turns name f left) t (shows (suc a.0)))

-- and one that goes further out
abbrev pub IsFurther : ℕ → Flow → Type 0
IsFurther name Goes = ⊥
IsFurther name (Leaves m) = m ≡ name → ⊥
IsFurther name (Ends e) = Unit {0}

further : (name : ℕ) (r : Run) (go : ℕ → State → Run) (w : Flow) (t : State) → IsFurther name w → Shows r w t → Shows (turn_end name r go) w t
further name (Next k s) go Goes t last h = absurd last
further name (Next k s) go (Leaves m) t last h = absurd h
further name (Next k s) go (Ends e) t last h = absurd h
further name (Left m k s) go Goes t last h = absurd last
further name (Left m k s) go (Leaves n) t last h = subst (λ b. Shows (if b then Next k s else Left m k s) (Leaves n) t) (sym (ne_eqb m name (λ e. last (sym h.0 ∙ e)))) h
further name (Left m k s) go (Ends e) t last h = absurd h
further name (Over e k s) go w t last h = h

pub turning_last : (name : ℕ) (f : ℕ → State → Run) (n left : ℕ) (first s t : State) (w : Flow) → IsTurning name f n (suc left) first s → ((k : ℕ) → Shows (f k s) w t) → IsFurther name w → (k : ℕ) → Shows (turns name f n k first) w t
turning_last name f n left first s t w l shows last k =
    let a = l.goes k in
    subst (λ r. Shows r w t) (sym a.1) (further name (f (suc a.0) s) (turns name f left) w t last (shows (suc a.0)))

pub last_of : (w : Flow) → (w ≡ Goes → ⊥) → IsLast w
last_of Goes no' = no' refl
last_of (Leaves m) no' = tt
last_of (Ends e) no' = tt

-- nothing is after the statement
pub at_stop : (r : Run) (w : Flow) (t : State) → Shows r w t → Shows (then_run r (runs Stop)) w t
at_stop (Next k s) w t h = h
at_stop (Left m k s) w t h = h
at_stop (Over e k s) w t h = h

-- a test that is not 0, and one that is
pub chosen_yes : (x : ℕ) (a b : Run) → (x ≡ 0 → ⊥) → chosen x a b ≡ a
chosen_yes zero a b pos = absurd (pos refl)
chosen_yes (suc x) a b pos = refl

pub chosen_no : (x : ℕ) (a b : Run) → x ≡ 0 → chosen x a b ≡ b
chosen_no zero a b e = refl
chosen_no (suc x) a b e = absurd (omega arith)

pub shows_plain : (st : Statement) (k : ℕ) (s t : State) (w : Flow) → IsPlain st → Shows (does st (suc k) s) w t → Shows (runs (before st Stop) k s) w t
shows_plain st k s t w p h = subst (λ c. Shows (runs c k s) w t) (sym (plain_before st Stop p)) (at_stop (does st (suc k) s) w t h)
