use Rattle.std.proofs.lemmas.Result.{IfOk-weaker}
use Rattle.comp_defining.proofs.OuterLemmas.{judged_type}
use Rattle.comp_defining.proofs.aliases.define_outer_type.Goals as goal

pub returns : goal.returns
returns c = IfOk-weaker c.outer_type.result _ _ (λ rule h around s k. judged_type around s c.args.count c.args.index c.outer_type.new.scopes rule (h around s k)) c.outer_type.ensures
