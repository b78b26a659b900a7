use Rattle.core_body.proofs.PartLemmas.{next-level}
use Rattle.core_body.proofs.parts.next_names.Goals as goal

pub returns : goal.returns
returns c =
    λ text level.
    next-level text c.args.size c.args.names.now c.behind-second.result.now c.behind-third.result.now c.behind-fourth.result.now c.in_ok-new.new.items
    level c.behind-second.ensures c.behind-third.ensures c.behind-fourth.ensures c.in_ok-new.ensures
