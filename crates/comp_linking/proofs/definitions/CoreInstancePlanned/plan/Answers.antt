use Rattle.std.proofs.Common.{refl, ◌++◌}
use Rattle.comp_types.specs.Definitions.{ACoreInstance}
use Rattle.comp_linking.specs.Walks.{spaces, made}
use Rattle.comp_linking.proofs.StepLemmas.{behind_judged}
use Rattle.comp_linking.proofs.definitions.CoreInstancePlanned.plan.Goals as goal

pub returns : goal.returns
returns c = λ ms todo outer a valid h.
    let x = c.args.planner.now in
    behind_judged ms todo outer a (ACoreInstance c.args.self.now) x c.define_core_instance.new.scope c.in_ok-define_core_instance.field-0 c.add.new.self c.in_ok-item.item h tt
    (c.in_ok-define_core_instance.ensures (spaces outer) a.space h.scopes.inner) (λ r b. b.0 (valid r)) refl refl
    c.in_ok-add.ensures.modules c.in_ok-add.ensures.components c.in_ok-add.ensures.items
    (λ more. c.in_ok-item.ensures ms (made ms x.components.items ++ more) a.scope h.inner.modules)
