use Rattle.comp_link.specs.Linking.{givens_of}
use Rattle.comp_link.specs.Planned.{args_named}
use Rattle.instance_making.proofs.making.Making.name_items.Goals as goal

pub returns : goal.returns
returns c = λ before g k h. c.in_ok-keep_instance.ensures before g (givens_of g (args_named c.args.args.now)) k h (c.in_ok-items.ensures before g h)
