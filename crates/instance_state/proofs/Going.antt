-- After a pause all calls are ready again.
use Rattle.std.proofs.Common.{◌≡◌, ◌∙◌, ◌≤◌, ◌+◌, ◌-◌, ℕ, List, [], ◌∷◌, ◌++◌, Bool, true, false, refl, sym, ap, subst, length}
use Rattle.core_store.specs.State.{State}
use Rattle.core_store.specs.declared.value.CoreValue.{CoreValue}
use Rattle.core_store.specs.Config.{Reply}
use Rattle.core_store.proofs.Stores.{grew_same}
use Rattle.core_interp.specs.declared.machine.Machine.{Machine}
use Rattle.core_interp.specs.declared.machine.Pause.{Pause}
use Rattle.core_interp.specs.declared.machine.Pause.TheVariants as pauses
use Rattle.core_interp.specs.Session.{Follows, Says, IsAwaited, resumed}
use Rattle.instance_state.specs.declared.calls.CoreCall.{CoreCall}
use Rattle.instance_state.specs.Ready.{IsAt, Awaits, IsReady, AreReady}
use Rattle.instance_state.specs.Done.{Ran, left_if, stays_by, goes_by}
use Rattle.instance_state.proofs.Readying.{differ, ready_on, ready_and, ready_outer, inner_ready}

module _ (m : Machine) (s : State) (before : ℕ) (n : Machine) (t : State) (after : ℕ) (at : IsAt m s) where
  taken : ℕ
  taken = at.taken + (before - after)

  -- a machine that asked goes on with each answer
  asked : (number : ℕ) (args : List CoreValue) → Says at.first at.function at.args at.used taken after (pauses.AtHost number args) n t →
      Awaits (record { machine = n; nesting = t.nesting }) t
  asked number args says rs u len grew nesting =
      let answer : Reply = record { results = rs; store = u } in
      let due : IsAwaited n (length rs) = record { due = len; room = subst (λ z. z ≤ length n.running.slots.operands) (says.1.awaited.due ∙ sym len) says.1.awaited.room } in
      let on : Follows at.first at.function at.args (at.used ++ answer ∷ []) taken (resumed n rs) u = says.2 answer (record { results = len; back = record { grew = grew; nesting = sym nesting } }) in
      (due, record { first = at.first; function = at.function; args = at.args; used = at.used ++ answer ∷ []; taken = taken; follows = on })

  -- one that is spent goes on by itself
  waits : Says at.first at.function at.args at.used taken after pauses.Spent n t → IsAt n t
  waits says = record { first = at.first; function = at.function; args = at.args; used = at.used; taken = taken; follows = says.2 }

  paused : (pause : Pause) → Says at.first at.function at.args at.used taken after pause n t →
      stays_by pause ≡ true → IsReady (goes_by pause) (record { machine = n; nesting = t.nesting }) t
  paused (pauses.AtHost number args) says stays = asked number args says
  paused pauses.Spent says stays = waits says
  paused (pauses.Done values) says stays = absurd (differ stays)
  paused pauses.Trapped says stays = absurd (differ stays)
  paused pauses.TooDeep says stays = absurd (differ stays)

idle : (pause : Pause) → stays_by pause ≡ false → goes_by pause ≡ false
idle (pauses.Done values) e = refl
idle pauses.Trapped e = refl
idle pauses.TooDeep e = refl
idle (pauses.AtHost number args) e = absurd (differ (sym e))
idle pauses.Spent e = absurd (differ (sym e))

pub ran_ready : (outer : List CoreCall) (c : CoreCall) (s : State) (before : ℕ) (pause : Pause) (left : List CoreCall) (t : State) (after : ℕ) →
    AreReady (outer ++ c ∷ []) true s → Ran outer c s before pause left t after → AreReady left (goes_by pause) t
unfolding taken
ran_ready outer c s before pause left t after ready ran = by (stays_by pause) refl
  where
    rest : AreReady outer false t
    rest = ready_on outer s t (grew_same s t ran.pauses.scene) (ready_outer outer c true s ready)

    inner : IsAt c.machine s
    inner = (inner_ready outer c true s ready).1

    by : (b : Bool) → stays_by pause ≡ b → AreReady left (goes_by pause) t
    by true e = subst (λ z. AreReady z (goes_by pause) t) (sym (ran.calls ∙ ap (λ b. left_if b outer ran.machine t.nesting) e))
        (ready_and outer (record { machine = ran.machine; nesting = t.nesting }) (goes_by pause) t rest (ran.few e)
        (paused c.machine s before ran.machine t after inner pause (ran.pauses.says inner.first inner.function inner.args inner.used inner.taken inner.follows) e))
    by false e = subst (λ z. AreReady left z t) (sym (idle pause e)) (subst (λ z. AreReady z false t) (sym (ran.calls ∙ ap (λ b. left_if b outer ran.machine t.nesting) e)) rest)
