use Rattle.std.proofs.Common.{◌∙◌}
use Rattle.comp_types.specs.Views.{item_of}
use Rattle.comp_types.proofs.EqualLaws.{not_equal, are_equal}
use Rattle.type_relations.proofs.SameTables.{item_kept}
use Rattle.type_relations.proofs.relations.equal.Goals as goal

pub returns-then-not-branch : goal.returns-then-not-branch
returns-then-not-branch c =
    item_kept _ _ c.new-walk.ensures.types (item_of c.args.a.now) (item_of c.args.b.now) _
    (λ h k. not_equal _ _ (item_of c.args.a.now) (item_of c.args.b.now) _ (c.new-walk.ensures.by ∙ c.empty.ensures) (c.in_ok-match_item.ensures.met h k) c.if-not-branch.true)

pub returns : goal.returns
returns c =
    item_kept _ _ c.new-walk.ensures.types (item_of c.args.a.now) (item_of c.args.b.now) _
    (λ h k. are_equal _ c.pairs.result.now (item_of c.args.a.now) (item_of c.args.b.now) _ _ (c.new-walk.ensures.by ∙ c.empty.ensures) (rw (c.pairs.ensures) (c.in_ok-match_item.ensures.met h k)) c.if-not-branch.false c.are_same.ensures)
