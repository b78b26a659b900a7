use Rattle.std.proofs.Common.{arith}
use Rattle.comp_pieces.proofs.TypeFits.{definitions_law}
use Rattle.comp_pieces.proofs.type_items.definitions_fit.Goals as goal

pub returns : goal.returns
returns c = λ fit. definitions_law c.args.items.now (omega (arith, c.if-items-gt-MOST.false)) (c.in_ok-fit.ensures fit)
