use Rattle.std.proofs.Common.{◌∙◌, ap}
use Rattle.comp_scopes.specs.Found.{found}
use Rattle.comp_scopes.proofs.by_name.CoreMap.get.Goals as goal

pub returns : goal.returns
unfolding found
returns c = c.get.ensures.value ∙ ap (found c.args.self.now) c.as_str.ensures
