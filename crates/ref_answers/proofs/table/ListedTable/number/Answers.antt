use Rattle.std.proofs.Common.{Some, None}
use Rattle.ref_answers.proofs.NumberLaws.{number_found}
use Rattle.ref_answers.proofs.table.ListedTable.number.Goals as goal

pub returns-in-Some-clause-value : goal.returns-in-Some-clause-value
returns-in-Some-clause-value c = number_found c.self.inside.interfaces.items c.self.invariant.described c.args.name.now c.deref.result.now c.place_named.result (Some c.in-Some.place) c.deref.ensures.value c.place_named.ensures.value c.in-Some.is

pub returns-in-None-clause-value : goal.returns-in-None-clause-value
returns-in-None-clause-value c = number_found c.self.inside.interfaces.items c.self.invariant.described c.args.name.now c.deref.result.now c.place_named.result None c.deref.ensures.value c.place_named.ensures.value c.in-None.is
