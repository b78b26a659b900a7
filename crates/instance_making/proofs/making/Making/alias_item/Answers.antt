use Rattle.std.proofs.Common.{sym, subst}
use Rattle.comp_link.specs.Linking.{find, item_in, and_item}
use Rattle.instance_making.specs.Shown.{Stands}
use Rattle.instance_making.proofs.FoundLemmas.{instance_none, instance_some, got_at}
use Rattle.instance_making.proofs.making.Making.alias_item.Goals as goal

pub returns-in-None : goal.returns-in-None
returns-in-None c = λ before g k h.
    let at = got_at c.get.result _ c.deref.result.now c.args.self.now.instances.items c.args.instance c.get.ensures.lookup.0 c.get.ensures.lookup.1 c.deref.ensures.value c.in-None.is in
    subst (λ o. Stands before c.args.self.now (and_item g (item_in o c.args.name.now))) (sym (instance_none before c.args.self.now.instances.items g.instances c.args.instance h.instances at)) h

pub returns-in_ok-keep_some-in-Some : goal.returns-in_ok-keep_some-in-Some
returns-in_ok-keep_some-in-Some c = λ before g k h.
    let at = got_at c.get.result _ c.deref.result.now c.args.self.now.instances.items c.args.instance c.get.ensures.lookup.0 c.get.ensures.lookup.1 c.deref.ensures.value c.in-Some.is in
    let x = instance_some before c.args.self.now.instances.items g.instances c.args.instance _ h.instances at in
    subst (λ o. Stands before c.keep_some.new.self (and_item g (item_in o c.args.name.now))) (sym x.1) (c.in_ok-keep_some-in-Some.ensures before g (find c.args.name.now x.0) (c.in_ok-item-in-Some.ensures before x.0 k x.2) h)
