use Rattle.std.proofs.Common.{refl, ◌++◌}
use Rattle.comp_types.specs.Definitions.{AnInstance}
use Rattle.comp_linking.specs.Walks.{spaces, made}
use Rattle.comp_linking.proofs.StayLemmas.{instance_stays}
use Rattle.comp_linking.proofs.StepLemmas.{behind_made}
use Rattle.comp_linking.proofs.definitions.InstancePlanned.plan.Goals as goal

pub returns : goal.returns
returns c = λ ms todo outer a valid h.
    let x = c.args.planner.now in
    let both = c.in_ok-define_instance.ensures (spaces outer) a.space h.scopes.inner h.scopes.covered.0 in
    behind_made ms todo outer a (AnInstance c.args.self.now) x c.define_instance.new.scope c.define_instance.new.types c.in_ok-define_instance.field-0 c.add.new.self c.in_ok-item.item h
    both.1 both.0 (λ r b. b.0 (valid r)) refl (instance_stays (spaces outer) a.space c.args.self.now)
    c.in_ok-add.ensures.modules c.in_ok-add.ensures.components c.in_ok-add.ensures.items
    (λ more. c.in_ok-item.ensures ms (made ms x.components.items ++ more) a.scope a.space h.scopes.inner (h.inner.components more))
