use Rattle.std.proofs.Common.{Some}
use Rattle.std.proofs.lemmas.Map.Text.{btree_map_updates_str}
use Rattle.comp_scopes.specs.Arguments.{given}
use Rattle.comp_scopes.proofs.arguments.Arguments.put.Goals as goal

pub returns : goal.returns
unfolding given
returns c = λ q. btree_map_updates_str c.args.name.now c.args.self.now.instances c.insert.new.self (Some c.args.instance) c.in_ok-insert.ensures.updates q
