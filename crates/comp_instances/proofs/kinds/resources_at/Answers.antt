use Rattle.std.proofs.Common.{◌∙◌, ap}
use Rattle.comp_types.specs.GivenResources.{distinct}
use Rattle.comp_types.specs.Rules.{named_at}
use Rattle.comp_instances.proofs.TableLemmas.{kind_given}
use Rattle.comp_instances.proofs.kinds.resources_at.Goals as goal

pub returns-in_ok-found-in-Some : goal.returns-in_ok-found-in-Some
returns-in_ok-found-in-Some c = λ s h t.
    let there = c.in-Some.ensures s h in
    c.in_ok-found-in-Some.ensures (kind_given c.args.types.now s c.args.index _ t there) ∙ ap (λ o. distinct (named_at o)) there
