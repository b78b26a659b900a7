use Rattle.comp_types.specs.Substitution.{partner_in}
use Rattle.type_table.proofs.AddLemmas.{all_made-stay}
use Rattle.type_table.proofs.making.Making.add.Goals as goal

pub invariant_of-self : goal.invariant_of-self
invariant_of-self c = all_made-stay c.self.inside.table c.add.new.self (partner_in c.self.inside.by.now) c.self.inside.made.items c.add.ensures.longer c.self.invariant

pub invariant_of-self-2 : goal.invariant_of-self-2
invariant_of-self-2 c = all_made-stay c.self.inside.table c.add.new.self (partner_in c.self.inside.by.now) c.self.inside.made.items c.add.ensures.longer c.self.invariant
