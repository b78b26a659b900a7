-- The call from outside, in what is in progress.
use Rattle.std.proofs.Common.{◌≡◌, ℕ, zero, suc, ◌+◌, ◌≤◌, ◌-◌, List, [], ◌∷◌, ◌++◌, length, take, drop, Some, refl, sym, ap, ◌∙◌, arith}
use Rattle.std.specs.Prelude.{reverse, slice_get}
use Rattle.core_interp.specs.declared.control.Control.{Control}
use Rattle.core_interp.specs.declared.control.Control.TheVariants.{Label, Called, Entry}
use Rattle.core_interp.specs.declared.control.Flow.{Flow}
use Rattle.core_interp.specs.declared.control.Flow.TheVariants.{On, Ended, Failed, Asking, Exhausted, Deep}
use Rattle.core_interp.specs.declared.running.Running.{Running}
use Rattle.core_store.specs.State.{State}
use Rattle.core_store.specs.Config.{Reply, Out}
use Rattle.core_interp.specs.Jumping.{beyond}
use Rattle.core_interp.specs.Valid.{arities}
use Rattle.core_interp.specs.Run.{progress, ahead, entries, outermost, Remains, IsNoTrap, TrapsBehind, Branches}
use Rattle.core_interp.proofs.Given.{pushed, dropped}

-- one more in progress, and one less
pub entries_pushed : (xs ys : List Control) (c : Control) → ys ≡ xs ++ c ∷ [] → entries (reverse ys) ≡ entries (c ∷ reverse xs)
entries_pushed xs ys c e = ap entries (pushed xs ys c e)

pub label_pushed : (xs ys : List Control) (to a h : ℕ) → ys ≡ xs ++ Label to a h ∷ [] → entries (reverse ys) ≡ entries (reverse xs)
label_pushed xs ys to a h e = entries_pushed xs ys (Label to a h) e

pub called_pushed : (xs ys : List Control) (f to r : ℕ) → ys ≡ xs ++ Called f to r ∷ [] → entries (reverse ys) ≡ entries (reverse xs)
called_pushed xs ys f to r e = entries_pushed xs ys (Called f to r) e

pub label_popped : (xs ys : List Control) (to a h : ℕ) → xs ≡ ys ++ Label to a h ∷ [] → entries (reverse ys) ≡ entries (reverse xs)
label_popped xs ys to a h e = sym (entries_pushed ys xs (Label to a h) e)

pub called_popped : (xs ys : List Control) (f to r : ℕ) → xs ≡ ys ++ Called f to r ∷ [] → entries (reverse ys) ≡ entries (reverse xs)
called_popped xs ys f to r e = sym (entries_pushed ys xs (Called f to r) e)

pub entry_popped : (xs ys : List Control) (r : ℕ) → xs ≡ ys ++ Entry r ∷ [] → r ∷ entries (reverse ys) ≡ entries (reverse xs)
entry_popped xs ys r e = sym (entries_pushed ys xs (Entry r) e)

-- labels that a branch leaves
entries_dropped : (k a : ℕ) (cs : List Control) → slice_get (arities cs) k ≡ Some a → entries (drop k cs) ≡ entries cs
entries_dropped zero a cs e = refl
entries_dropped (suc k) a [] e = refl
entries_dropped (suc k) a (Label to b h ∷ cs) e = entries_dropped k a cs e
entries_dropped (suc k) a (Called f to r ∷ cs) e = absurd (past k r a e)
  where
    past : (k r a : ℕ) → slice_get (r ∷ []) (suc k) ≡ Some a → ⊥
    past k r a e = cc
entries_dropped (suc k) a (Entry r ∷ cs) e = absurd (past k r a e)
  where
    past : (k r a : ℕ) → slice_get (r ∷ []) (suc k) ≡ Some a → ⊥
    past k r a e = cc

pub cut_entries : (m : Running) (s : State) (zs : List Control) (k : ℕ) → k ≤ length m.controls.items → zs ≡ take (length m.controls.items - k) m.controls.items → Branches m s k → entries (reverse zs) ≡ outermost m
cut_entries m s zs k le cut x =
    ap entries (dropped m.controls.items zs k le cut) ∙ entries_dropped k x.jumping.reaches.0 (progress m) x.jumping.reaches.1

-- blocks and loops that a return leaves
pub beyond_entries : (cs : List Control) → entries (beyond cs) ≡ entries cs
beyond_entries [] = refl
beyond_entries (Label to a h ∷ cs) = beyond_entries cs
beyond_entries (Called f to r ∷ cs) = refl
beyond_entries (Entry r ∷ cs) = refl

pub back_entries : (m : Running) (c : Control) (ys : List Control) → beyond (progress m) ≡ c ∷ reverse ys → entries (c ∷ reverse ys) ≡ outermost m
back_entries m c ys e = ap entries (sym e) ∙ beyond_entries (progress m)

-- one run after another
pub remains_on : (flow : Flow) (m k l : Running) → outermost k ≡ outermost m → Remains flow k l → Remains flow m l
remains_on On m k l e h = h ∙ e
remains_on (Ended r) m k l e h = h ∙ e
remains_on Failed m k l e h = tt
remains_on (Asking f) m k l e h = h ∙ e
remains_on Deep m k l e h = tt
remains_on Exhausted m k l e h = h ∙ e

-- ---- traps
pub no_trap : (X : List Reply → ℕ → Out) (taken : ℕ) (flow : Flow) → IsNoTrap flow → TrapsBehind X taken flow
no_trap X taken On h = tt
no_trap X taken (Ended r) h = tt
no_trap X taken Failed h = absurd h
no_trap X taken (Asking f) h = tt
no_trap X taken Deep h = tt
no_trap X taken Exhausted h = tt

pub traps_on : (X Y : List Reply → ℕ → Out) (c a b : ℕ) (flow : Flow) → b ≤ a → a ≤ c → ((rs : List Reply) (n : ℕ) → ahead X (c - a) rs n ≡ Y rs n) → TrapsBehind Y (a - b) flow → TrapsBehind X (c - b) flow
traps_on X Y c a b On le le' e h = tt
traps_on X Y c a b (Ended r) le le' e h = tt
traps_on X Y c a b Failed le le' e h =
    let some = h.0 in
    let q : c - b - 1 ≡ c - a + (a - b - 1) = omega arith in (
      omega arith,
      λ rs. ap (X rs) q ∙ e rs (a - b - 1) ∙ h.1 rs,
    )
traps_on X Y c a b (Asking f) le le' e h = tt
traps_on X Y c a b Deep le le' e h = tt
traps_on X Y c a b Exhausted le le' e h = tt
