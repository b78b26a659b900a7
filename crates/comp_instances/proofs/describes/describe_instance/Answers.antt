use Rattle.std.proofs.Common.{refl, sym, Some, None}
use Rattle.comp_types.specs.Views.{kind_of}
use Rattle.comp_instances.proofs.MakesLemmas.{makes_nothing, describes_instance}
use Rattle.comp_instances.proofs.describes.describe_instance.Goals as goal

pub returns-in_ok-made-in-None : goal.returns-in_ok-made-in-None
returns-in_ok-made-in-None c = λ s h covers.
    let types = c.args.types.now in
    let made = c.in_ok-made-in-None.made in
    let next = c.args.scope.now.next in
    describes_instance types types s c.args.index next None made covers (c.in-None.ensures s h) h.rest.next (λ has. makes_nothing types next made c.in_ok-made-in-None.ensures)

pub returns-in_ok-made-in-Some : goal.returns-in_ok-made-in-Some
returns-in_ok-made-in-Some c = λ s h covers.
    describes_instance c.args.types.now c.describe_kind.new.types s c.args.index c.args.scope.now.next (Some (kind_of c.in-Some.kind.now)) c.in_ok-made-in-Some.made covers
    (c.in-Some.ensures s h) h.rest.next c.in_ok-made-in-Some.ensures
