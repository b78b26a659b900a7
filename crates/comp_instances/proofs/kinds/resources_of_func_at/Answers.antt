use Rattle.std.proofs.Common.{◌∙◌, ap}
use Rattle.comp_types.specs.GivenResources.{distinct, named_in_func}
use Rattle.comp_types.specs.Types.{func_in}
use Rattle.comp_instances.proofs.TableLemmas.{kind_given}
use Rattle.comp_instances.proofs.kinds.resources_of_func_at.Goals as goal

pub returns-in_ok-found-in-Some : goal.returns-in_ok-found-in-Some
returns-in_ok-found-in-Some c = λ s h t.
    let there = c.in-Some.ensures s h in
    c.in_ok-found-in-Some.ensures (kind_given c.args.types.now s c.args.index _ t there) ∙ ap (λ o. distinct (named_in_func (func_in o))) there
