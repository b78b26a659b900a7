use Rattle.std.proofs.Common.{◌∙◌, sym}
use Rattle.std.proofs.lemmas.Bool.{OnTrue_from}
use Rattle.type_table.proofs.WalkParts.{pair-met}
use Rattle.type_table.proofs.walk.Walked.has_met.Goals as goal

pub returns : goal.returns
returns c = OnTrue_from c.contains.result _ (λ on. pair-met c.args.self.now.met.keys c.args.at c.args.other (sym c.contains.ensures ∙ on))
