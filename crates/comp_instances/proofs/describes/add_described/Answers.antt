use Rattle.std.proofs.Common.{◌+◌, length}
use Rattle.comp_types.specs.Added.{and_index, brought}
use Rattle.comp_instances.proofs.StandLemmas.{stands-next}
use Rattle.comp_instances.proofs.describes.add_described.Goals as goal

pub returns : goal.returns
returns c = λ s h k.
    stands-next (and_index s c.args.desc) c.add_index.new.scope (s.next + length (brought s c.args.desc)) c.args.d.now.next (c.in_ok-add_index.ensures s h k.item) k.next
