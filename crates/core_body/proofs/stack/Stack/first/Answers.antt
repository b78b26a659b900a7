use Rattle.core_body.specs.Views.{context_of}
use Rattle.core_body.proofs.PlaceLemmas.{rest-parted, lies-parted}
use Rattle.core_body.proofs.stack.Stack.first.Goals as goal

pub returns-in-Some-clause-found : goal.returns-in-Some-clause-found
returns-in-Some-clause-found c = rest-parted (context_of c.args.scope.now) c.args.self.now c.args.from.at c.args.from.part c.in-Some.parted c.in-Some.ensures

pub returns-in-Some-clause-lies : goal.returns-in-Some-clause-lies
returns-in-Some-clause-lies c = lies-parted (context_of c.args.scope.now) c.args.self.now c.args.from c.in-Some.parted c.requires c.in-Some.ensures
