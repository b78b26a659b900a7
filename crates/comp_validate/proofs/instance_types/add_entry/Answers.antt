use Rattle.std.proofs.Common.{refl}
use Rattle.comp_validate.proofs.ClosingLemmas.{numbered}
use Rattle.comp_validate.proofs.instance_types.add_entry.Goals as goal

pub returns : goal.returns
returns c = λ t e h k. numbered t e c.add_entry.new.self c.args.next c.args.next c.max-scope.result c.args.entry.depth (c.in_ok-add_entry.ensures t e h k) k.depth refl c.max-scope.ensures
