use Rattle.std.proofs.Common.{nat_eq, ◌∙◌}
use Rattle.indexmap.proofs.CallerLemmas.{insert_entry-new}
use Rattle.comp_types.proofs.substitution.append.Goals as goal

pub returns-clause-ok : goal.returns-clause-ok
returns-clause-ok c = λ none. c.in_ok-insert.ensures.entries ∙ insert_entry-new nat_eq c.args.pairs.now c.args.resource c.args.partner none
