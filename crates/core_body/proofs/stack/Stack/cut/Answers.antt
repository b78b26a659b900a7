use Rattle.std.proofs.Common.{◌∙◌, ap, drop, take, reverse}
use Rattle.core_body.specs.Pieces.{pieces_of}
use Rattle.core_body.specs.Views.{context_of}
use Rattle.core_body.proofs.PlaceLemmas.{kept-below}
use Rattle.core_body.proofs.stack.Stack.cut.Goals as goal

pub returns-clause-level : goal.returns-clause-level
returns-clause-level c = ap (λ l. pieces_of (context_of c.args.scope.now) (reverse (drop c.args.self.now.height l))) c.truncate.ensures.items

pub returns-clause-outer : goal.returns-clause-outer
returns-clause-outer c = ap (take c.args.self.now.height) c.truncate.ensures.items ∙ kept-below c.args.self.now.pieces.items c.args.self.now.height c.args.at c.requires
