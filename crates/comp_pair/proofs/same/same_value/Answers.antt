use Rattle.wit_types.specs.Plain.{plain}
use Rattle.comp_types.proofs.SameValues.{values_same}
use Rattle.comp_pair.proofs.SameLaws.{from_on}
use Rattle.comp_pair.proofs.same.same_value.Goals as goal

pub returns : goal.returns
returns c = from_on _ (values_same _ _ (plain c.args.a.now) (plain c.args.b.now) _ _ c.empty-by.ensures c.in_ok-match_value.ensures c.if-not-branch.false c.are_same.ensures)
