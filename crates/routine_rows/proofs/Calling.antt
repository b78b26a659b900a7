-- Calls that begin, pause and go on.
use Rattle.std.proofs.Common.{◌≡◌, ℕ, ◌+◌, ◌-◌, ◌≤◌, List, [], ◌∷◌, ◌++◌, length, subst, arith}
use Rattle.std.specs.Prelude.{slice_get}
use Rattle.core_store.specs.declared.value.CoreValue.{CoreValue}
use Rattle.core_store.specs.State.{State}
use Rattle.core_store.specs.Config.{Reply}
use Rattle.core_store.specs.Scene.{scene_of}
use Rattle.core_store.specs.Fine.{IsFine}
use Rattle.core_store.proofs.Stores.{back_self}
use Rattle.core_interp.specs.declared.machine.Machine.{Machine}
use Rattle.core_interp.specs.declared.machine.Pause.{Pause}
use Rattle.core_interp.specs.declared.machine.Pause.TheVariants.{AtHost}
use Rattle.core_interp.specs.Session.{CanRun, IsCallable, Follows, Says, Pauses, IsAwaited, awaited, resumed}
use Rattle.routine_rows.specs.Going.{Goes}

pub can_go : (m : Machine) (s : State) → Goes m s → CanRun m s
can_go m s (first, f, args, used, taken, follows) = follows.can

pub begins : (m : Machine) (s : State) (at count : ℕ) (args : List CoreValue) → ((t : State) → IsCallable (slice_get t.functions at) (length args) → Follows t at args [] 0 m t) → IsCallable (slice_get s.functions at) count → count ≡ length args → Goes m s
begins m s at count args starts h e = (s, at, args, [], 0, starts s (subst (IsCallable (slice_get s.functions at)) e h))

-- where a call asks
asks : (m m' : Machine) (s t first : State) (f a b taken number : ℕ) (args asked : List CoreValue) (used : List Reply) (p : Pause) → p ≡ AtHost number asked → Pauses m s a p m' t b → Follows first f args used taken m s →
    Says first f args used (taken + (a - b)) b (AtHost number asked) m' t
asks m m' s t first f a b taken number args asked used p is pauses follows =
    subst (λ (q : Pause). Says first f args used (taken + (a - b)) b q m' t) is (pauses.says first f args used taken follows)

pub awaits : (m m' : Machine) (s t : State) (a b number n : ℕ) (asked : List CoreValue) (p : Pause) → p ≡ AtHost number asked → Pauses m s a p m' t b → Goes m s → n ≡ awaited m' → IsAwaited m' n
awaits m m' s t a b number n asked p is pauses (first, f, args, used, taken, follows) e =
    let said = asks m m' s t first f a b taken number args asked used p is pauses follows in
    record { due = e; room = room said.1.awaited.due said.1.awaited.room e }
  where
    room : {k j l w : ℕ} → k ≡ w → k ≤ l → j ≡ w → j ≤ l
    room e le f = omega (arith, e, le, f)

pub goes_on : (m m' : Machine) (s t : State) (a b number : ℕ) (asked results : List CoreValue) (p : Pause) → p ≡ AtHost number asked → Pauses m s a p m' t b → Goes m s → length results ≡ awaited m' → Goes (resumed m' results) t
goes_on m m' s t a b number asked results p is pauses (first, f, args, used, taken, follows) e =
    let said = asks m m' s t first f a b taken number args asked used p is pauses follows in
    let reply : Reply = record { results = results; store = t } in
    (first, f, args, used ++ reply ∷ [], taken + (a - b), said.2 reply (record { results = e; back = back_self t }))

pub same_scene : (m m' : Machine) (s t : State) (a b : ℕ) (p : Pause) → Pauses m s a p m' t b → IsFine (scene_of s) → IsFine (scene_of t)
same_scene m m' s t a b p pauses fine = subst (λ x. IsFine x) pauses.scene fine
