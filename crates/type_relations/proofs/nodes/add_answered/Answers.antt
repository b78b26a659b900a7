use Rattle.std.proofs.Common.{subst, Some}
use Rattle.wit_types.specs.Plain.{plain}
use Rattle.comp_facts.specs.Facts.{IsAnswerOf}
use Rattle.type_relations.proofs.nodes.add_answered.Goals as goal

pub returns-in-None : goal.returns-in-None
returns-in-None c = λ has. absurd (subst (IsAnswerOf (Some (plain c.args.ty.now))) c.in-None.is c.requires)

pub add_keyed-requires : goal.add_keyed-requires
add_keyed-requires c = (subst (IsAnswerOf (Some (plain c.args.ty.now))) c.in-Some.is c.requires).key
