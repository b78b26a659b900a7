use Rattle.comp_link.proofs.Numbers.{own_are_new}
use Rattle.comp_link.proofs.laws.own_resources_are_new.Goals as goal

pub returns : goal.returns
returns c = own_are_new
