use Rattle.std.proofs.Common.{◌≡◌, ◌++◌, ◌∷◌, ◌∙◌, [], true, false, refl, sym, ap, subst, slice_get, length}
use Rattle.core_store.specs.Scene.{scene_of}
use Rattle.core_store.specs.Fine.{IsFine}
use Rattle.core_store.proofs.Stores.{grew_same}
use Rattle.core_interp.specs.Session.{IsCallable, Follows}
use Rattle.instance_state.specs.Ready.{AreReady}
use Rattle.instance_state.proofs.Readying.{counts_on, ready_on, ready_and}
use Rattle.instance_state.proofs.runs.CoreRuns.begin.Goals as goal

follows : (c : goal.After-self-1) → Follows c.set_nesting.new.self c.args.function c.args.args.now [] 0 c.in_ok-machine.machine c.set_nesting.new.self
follows c =
    c.in_ok-machine.ensures c.set_nesting.new.self
    (subst (λ fs. IsCallable (slice_get fs c.args.function) (length c.args.args.now)) (sym (ap (λ s. s.functions) c.set_nesting.ensures))
    (subst (λ n. IsCallable (slice_get c.self.inside.store.functions c.args.function) n) c.len.ensures (c.is_callable.ensures.0 c.if-not-is_callable.false)))

pub invariant_of-self-2 : goal.invariant_of-self-2
invariant_of-self-2 c =
    let scene : scene_of c.self.inside.store ≡ scene_of c.set_nesting.new.self = sym (ap scene_of c.set_nesting.ensures) in
    let idle : AreReady c.self.inside.calls.items false c.self.inside.store = subst (λ g. AreReady c.self.inside.calls.items g c.self.inside.store) c.if-self.false c.self.invariant.1 in (
      subst IsFine scene c.self.invariant.0,
      subst (λ cs. AreReady cs true c.set_nesting.new.self) (sym c.in_ok-push.ensures.items)
          (ready_and c.self.inside.calls.items (record { machine = c.in_ok-machine.machine; nesting = c.args.nesting }) true c.set_nesting.new.self
          (ready_on c.self.inside.calls.items c.self.inside.store c.set_nesting.new.self (grew_same c.self.inside.store c.set_nesting.new.self scene) idle) c.requires
          (record { first = c.set_nesting.new.self; function = c.args.function; args = c.args.args.now; used = []; taken = 0; follows = follows c })),
      counts_on c.self.inside.store c.set_nesting.new.self c.self.inside.counts scene c.self.invariant.2,
    )

pub returns : goal.returns
returns c = record {
  machine = c.in_ok-machine.machine;
  store = c.set_nesting.ensures ∙ ap (λ v. record v.store { nesting = c.args.nesting }) c.self.view_is;
  calls = c.in_ok-push.ensures.items ∙ ap (λ v. v.calls ++ record { machine = c.in_ok-machine.machine; nesting = c.args.nesting } ∷ []) c.self.view_is;
  going = refl;
  follows = follows c;
}
