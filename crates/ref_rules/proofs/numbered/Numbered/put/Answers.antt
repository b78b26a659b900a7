use Rattle.ref_rules.proofs.KeptLemmas.{replaced}
use Rattle.ref_rules.proofs.numbered.Numbered.put.Goals as goal

pub invariant_of-self : goal.invariant_of-self
invariant_of-self c = replaced _ _ _ _ _ c.self.invariant c.args.number c.args.handle (rw (← c.self.view_is) at c.requires)
