use Rattle.std.proofs.Common.{◌≡◌, ◌++◌, ◌∷◌, ◌∙◌, List, Bool, [], true, false, refl, sym, ap, subst, length}
use Rattle.core_store.specs.State.{State}
use Rattle.core_store.specs.declared.value.CoreValue.{CoreValue}
use Rattle.core_store.specs.Scene.{scene_of, Grew}
use Rattle.core_store.specs.Fine.{IsFine}
use Rattle.core_store.proofs.Stores.{grew_same}
use Rattle.core_interp.specs.Session.{awaited, IsAwaited, resumed}
use Rattle.instance_state.specs.declared.calls.CoreCall.{CoreCall}
use Rattle.instance_state.specs.Ready.{IsAt, AreReady}
use Rattle.instance_state.proofs.Readying.{counts_on, ready_on, ready_and, ready_outer, inner_ready}
use Rattle.instance_state.proofs.runs.CoreRuns.resume.Goals as goal

-- the calls before, as those outside the innermost and it, which awaits results
before : (cs outer : List CoreCall) (call : CoreCall) (going : Bool) (s : State) → AreReady cs going s → cs ≡ outer ++ call ∷ [] → going ≡ false → AreReady (outer ++ call ∷ []) false s
before cs outer call going s ready split idle = subst (λ g. AreReady (outer ++ call ∷ []) g s) idle (subst (λ z. AreReady z going s) split ready)

grown : (s t : State) (n : _) → t ≡ record s { nesting = n } → Grew s t
grown s t n e = grew_same s t (sym (ap scene_of e))

with_results : (outer : List CoreCall) (call : CoreCall) (s t : State) (rs : List CoreValue) → AreReady (outer ++ call ∷ []) false s → t ≡ record s { nesting = call.nesting } →
    length rs ≡ awaited call.machine → IsAwaited call.machine (length rs) × IsAt (resumed call.machine rs) t
with_results outer call s t rs ready e len = (inner_ready outer call false s ready).1 rs t len (grown s t call.nesting e) (ap (λ z. z.nesting) e)

pub resume-requires : goal.resume-requires
resume-requires c =
    (with_results c.pop.new.self.items c.in-Some.call c.self.inside.store (record c.self.inside.store { nesting = c.in-Some.call.nesting }) c.args.results.now
    (before c.self.inside.calls.items c.pop.new.self.items c.in-Some.call c.self.inside.going c.self.inside.store c.self.invariant.1 c.in-Some.ensures.items c.if-self.false)
    refl (sym c.len.ensures ∙ (sym c.if-awaits-len.false ∙ c.awaits.ensures))).0

pub set_nesting-requires : goal.set_nesting-requires
set_nesting-requires c =
    (inner_ready c.pop.new.self.items c.in-Some.call false c.self.inside.store
    (before c.self.inside.calls.items c.pop.new.self.items c.in-Some.call c.self.inside.going c.self.inside.store c.self.invariant.1 c.in-Some.ensures.items c.if-self.false)).0

pub invariant_of-self-2 : goal.invariant_of-self-2
invariant_of-self-2 c =
    let ready = before c.self.inside.calls.items c.pop.new.self.items c.in-Some.call c.self.inside.going c.self.inside.store c.self.invariant.1 c.in-Some.ensures.items c.if-self.false in
    let grew = grown c.self.inside.store c.set_nesting.new.self c.in-Some.call.nesting c.set_nesting.ensures in (
      subst IsFine (sym (ap scene_of c.set_nesting.ensures)) c.self.invariant.0,
      subst (λ cs. AreReady cs true c.set_nesting.new.self) (sym c.push_reserved-2.ensures.items)
          (ready_and c.pop.new.self.items (record { machine = c.resume.new.self; nesting = c.in-Some.call.nesting }) true c.set_nesting.new.self
          (ready_on c.pop.new.self.items c.self.inside.store c.set_nesting.new.self grew (ready_outer c.pop.new.self.items c.in-Some.call false c.self.inside.store ready))
          ((inner_ready c.pop.new.self.items c.in-Some.call false c.self.inside.store ready).0)
          (subst (λ m. IsAt m c.set_nesting.new.self) (sym c.resume.ensures)
          ((with_results c.pop.new.self.items c.in-Some.call c.self.inside.store c.set_nesting.new.self c.args.results.now ready c.set_nesting.ensures
          (sym c.len.ensures ∙ (sym c.if-awaits-len.false ∙ c.awaits.ensures))).1))),
      counts_on c.self.inside.store c.set_nesting.new.self c.self.inside.counts (sym (ap scene_of c.set_nesting.ensures)) c.self.invariant.2,
    )
