use Rattle.std.proofs.Common.{◌∙◌}
use Rattle.comp_types.proofs.EqualLaws.{arguments_answer}
use Rattle.type_relations.proofs.SameTables.{entries_kept}
use Rattle.type_relations.proofs.relations.is_given.Goals as goal

pub returns : goal.returns
returns c =
    entries_kept _ _ c.new-walk.ensures.types c.args.args.now c.args.imports.now _ _ c.as_slice.ensures
    (λ h k. arguments_answer c.args.args.now c.args.imports.now _ _ _ _ (c.new-walk.ensures.by ∙ c.empty.ensures) c.as_slice.ensures (c.in_ok-fits.ensures.met h k))
