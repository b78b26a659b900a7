use Rattle.std.proofs.Common.{List, sym, subst}
use Rattle.core_body.specs.declared.parts.Level.{Level}
use Rattle.core_body.specs.Parts.{AreLevels}
use Rattle.core_body.proofs.PartLemmas.{levels-more}
use Rattle.core_body.proofs.parts.keep.Goals as goal

pub returns : goal.returns
returns c =
    λ text before here.
    subst (λ (ls : List Level). AreLevels text ls) (sym c.in_ok-push.ensures.items)
    (levels-more text c.args.levels.now.items (record { size = c.args.size; names = c.args.names }) before here)
