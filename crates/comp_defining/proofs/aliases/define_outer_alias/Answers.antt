use Rattle.std.proofs.lemmas.Result.{IfOk-weaker}
use Rattle.comp_defining.proofs.OuterLemmas.{judged_alias}
use Rattle.comp_defining.proofs.aliases.define_outer_alias.Goals as goal

pub returns : goal.returns
returns c = IfOk-weaker c.outer_item.result _ _ (λ rule h around s k. judged_alias around s c.args.sort c.args.count c.args.index c.outer_item.new.scopes rule (h around s k)) c.outer_item.ensures
