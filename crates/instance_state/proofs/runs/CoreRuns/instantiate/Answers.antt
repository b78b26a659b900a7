use Rattle.std.proofs.Common.{◌≡◌, ◌∙◌, true, sym, ap, subst, Err}
use Rattle.core_instance.specs.Instantiation.{Answers}
use Rattle.instance_state.specs.Done.{AreThere}
use Rattle.instance_state.proofs.Readying.{idle_on, differ}
use Rattle.instance_state.proofs.Making.{counted, failed}
use Rattle.instance_state.proofs.runs.CoreRuns.instantiate.Goals as goal
use Rattle.instance_state.proofs.runs.CoreRuns.instantiate.Goals.{then-self-via-then-self, then-self-via-else-self+then-not-are_there}

pub returns-then-self : goal.returns-then-self
returns-then-self c = λ going there match.
    elim c.then-self.branch [
      | then-self-via-then-self w ↦ absurd (differ (sym (ap (λ v. v.going) c.self.view_is ∙ going) ∙ w.if-self.true))
      | then-self-via-else-self+then-not-are_there w ↦
          let is : w.are_there.result ≡ true = w.are_there.ensures.1 (subst (AreThere c.args.self.now.store) (sym w.as_slice.ensures) there) in
          absurd (differ (sym w.if-not-are_there.true ∙ is))
    ]

pub invariant_of-self : goal.invariant_of-self
invariant_of-self c = (
  c.in-Ok.ensures.fine c.requires.counts (c.imports_match.ensures.0 c.if-not-imports_match.false) c.self.invariant.0,
  idle_on c.self.inside.calls.items c.self.inside.going c.self.inside.store c.instantiate.new.store c.if-self.false c.in-Ok.ensures.grew.grew c.self.invariant.1,
  counted c.self.inside.store c.args.core_module.now c.args.imports.now c.instantiate.new.store c.self.inside.counts c.in-Some.counts c.self.invariant.2 c.in-Some.ensures c.in-Ok.ensures.answers.0,
)

pub returns-in-Err : goal.returns-in-Err
returns-in-Err c =
    failed c.args.self.now c.args.core_module.now c.args.imports.now c.instantiate.new.store (record { store = c.drop.inside.store; calls = c.drop.inside.calls.items; going = c.drop.inside.going }) c.in-Err.fault
    (subst (λ s. Answers s c.args.core_module.now c.args.imports.now c.instantiate.new.store (Err c.in-Err.fault)) (ap (λ v. v.store) c.self.view_is) c.in-Err.ensures.answers)
