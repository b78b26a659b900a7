use Rattle.std.proofs.Common.{◌∙◌}
use Rattle.comp_types.proofs.EqualLaws.{subtype_answer}
use Rattle.type_relations.proofs.SameTables.{entries_kept}
use Rattle.type_relations.proofs.relations.subtype.Goals as goal

pub returns : goal.returns
returns c =
    entries_kept _ _ c.new-walk.ensures.types c.args.a.now.entries c.args.b.now.entries _ _ c.as_slice.ensures
    (λ h k. subtype_answer c.args.a.now.entries c.args.b.now.entries _ c.args.matched.now _ _ _ c.len-distinct.ensures.distinct (c.new-walk.ensures.by ∙ c.in_ok-by.ensures) c.as_slice.ensures (c.in_ok-fits.ensures.met h k))
