use Rattle.std.proofs.Common.{subst, Option, ℕ, slice_get}
use Rattle.std.specs.Option.{option_map}
use Rattle.comp_link.specs.Linking.{GivenInstance}
use Rattle.instance_making.specs.declared.given.Given.TheVariants.{Instance}
use Rattle.instance_making.specs.Made.{IsSame}
use Rattle.instance_making.proofs.FoundLemmas.{instances_at, got_at}
use Rattle.instance_making.proofs.making.Making.instance_at.Goals as goal

pub returns-in-None : goal.returns-in-None
returns-in-None c = λ made g h.
    subst (λ (o : Option ℕ). IsSame made (option_map Instance o) (option_map GivenInstance (slice_get g.instances c.args.index)))
    (got_at c.get.result _ c.deref.result.now c.args.self.now.instances.items c.args.index c.get.ensures.lookup.0 c.get.ensures.lookup.1 c.deref.ensures.value c.in-None.is)
    (instances_at made c.args.self.now.instances.items g.instances c.args.index h.instances)

pub returns-in-Some : goal.returns-in-Some
returns-in-Some c = λ made g h.
    subst (λ (o : Option ℕ). IsSame made (option_map Instance o) (option_map GivenInstance (slice_get g.instances c.args.index)))
    (got_at c.get.result _ c.deref.result.now c.args.self.now.instances.items c.args.index c.get.ensures.lookup.0 c.get.ensures.lookup.1 c.deref.ensures.value c.in-Some.is)
    (instances_at made c.args.self.now.instances.items g.instances c.args.index h.instances)
