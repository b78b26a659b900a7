-- Calls, paused and answered.
use Rattle.std.proofs.Common.{◌≡◌, ℕ, ◌+◌, ◌-◌, ◌≤◌, List, [], ◌∷◌, ◌++◌, length, subst, arith}
use Rattle.std.specs.Prelude.{slice_get}
use Rattle.core_store.specs.declared.value.CoreValue.{CoreValue}
use Rattle.core_store.specs.State.{State}
use Rattle.core_store.specs.Config.{Reply}
use Rattle.core_store.proofs.Stores.{back_self}
use Rattle.core_interp.specs.declared.machine.Machine.{Machine}
use Rattle.core_interp.specs.declared.machine.Pause.{Pause}
use Rattle.core_interp.specs.declared.machine.Pause.TheVariants.{AtHost}
use Rattle.core_interp.specs.Session.{CanRun, IsCallable, Follows, Says, Pauses, IsAwaited, awaited, resumed}

pub can_begin : (m : Machine) (s : State) (at count : ℕ) (args : List CoreValue) → ((t : State) → IsCallable (slice_get t.functions at) (length args) → Follows t at args [] 0 m t) → IsCallable (slice_get s.functions at) count → count ≡ length args → CanRun m s
can_begin m s at count args starts h e = (starts s (subst (IsCallable (slice_get s.functions at)) e h)).can

-- what the first pause says, where it asks
asks : (m m' : Machine) (s t : State) (at a b number : ℕ) (args asked : List CoreValue) (p : Pause) → p ≡ AtHost number asked → Pauses m s a p m' t b → Follows s at args [] 0 m s → Says s at args [] (0 + (a - b)) b (AtHost number asked) m' t
asks m m' s t at a b number args asked p is pauses follows = subst (λ (q : Pause). Says s at args [] (0 + (a - b)) b q m' t) is (pauses.says s at args [] 0 follows)

pub can_resume : (m m' : Machine) (s t : State) (at a b number count : ℕ) (args asked results : List CoreValue) (p : Pause) → p ≡ AtHost number asked → Pauses m s a p m' t b → ((t : State) → IsCallable (slice_get t.functions at) (length args) → Follows t at args [] 0 m t) → IsCallable (slice_get s.functions at) count → count ≡ length args → length results ≡ awaited m' → IsAwaited m' (length results)
can_resume m m' s t at a b number count args asked results p is pauses starts h e n =
    let said = asks m m' s t at a b number args asked p is pauses (starts s (subst (IsCallable (slice_get s.functions at)) e h)) in
    record { due = n; room = room said.1.awaited.due said.1.awaited.room n }
  where
    room : {k j l w : ℕ} → k ≡ w → k ≤ l → j ≡ w → j ≤ l
    room e le f = omega (arith, e, le, f)

pub can_go_on : (m m' : Machine) (s t : State) (at a b number count : ℕ) (args asked results : List CoreValue) (p : Pause) → p ≡ AtHost number asked → Pauses m s a p m' t b → ((t : State) → IsCallable (slice_get t.functions at) (length args) → Follows t at args [] 0 m t) → IsCallable (slice_get s.functions at) count → count ≡ length args → length results ≡ awaited m' → CanRun (resumed m' results) t
can_go_on m m' s t at a b number count args asked results p is pauses starts h e n =
    let said = asks m m' s t at a b number args asked p is pauses (starts s (subst (IsCallable (slice_get s.functions at)) e h)) in
    let reply : Reply = record { results = results; store = t } in
    (said.2 reply (record { results = n; back = back_self t })).can
