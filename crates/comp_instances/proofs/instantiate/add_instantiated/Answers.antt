use Rattle.std.proofs.Common.{slice_get}
use Rattle.comp_instances.proofs.InstanceLemmas.{stands_made, has_made}
use Rattle.comp_instances.proofs.instantiate.add_instantiated.Goals as goal

pub returns : goal.returns
returns c = λ s h covers.
    let component = slice_get s.components c.args.component in
    let made = c.in_ok-made.made in
    let is = c.in_ok-made.ensures s h covers in
    (stands_made s c.add_instance.new.self component c.args.args.now made is.0 (c.in_ok-add_instance.ensures s h), is.1.grew, has_made c.instance_of.new.types s component c.args.args.now made is.0 is.1.has)
