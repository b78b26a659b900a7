use Rattle.std.proofs.Common.{arith, ◌∙◌, sym}
use Rattle.std.proofs.lemmas.List.{length-drop}
use Rattle.virt_base.specs.Place.{rest}
use Rattle.wasm_format.proofs.SectionLoop.{not_here, not_yet, here}
use Rattle.wasm_format.proofs.sections.finish.Goals as goal

pub returns-then-c-clause-ran : goal.returns-then-c-clause-ran
returns-then-c-clause-ran g c = not_yet g.B.Building.sections c.args.state c.args.good.now c.args.c.now.at (rest c.args.c.now) (cc (c.can_end.ensures)) (omega (arith, length-drop c.args.c.now.at c.args.c.now.bytes.now))

pub returns-clause-ran : goal.returns-clause-ran
returns-clause-ran g c = here g.B.Building.sections c.args.state c.args.good.now c.args.c.now.at (rest c.args.c.now) (cc (c.can_end.ensures)) (omega (arith, length-drop c.args.c.now.at c.args.c.now.bytes.now))

pub returns-then-not-can_end-clause-ran : goal.returns-then-not-can_end-clause-ran
returns-then-not-can_end-clause-ran g c = not_here g.B.Building.sections c.args.state c.args.good.now c.args.c.now.at (rest c.args.c.now) (sym c.can_end.ensures ∙ c.if-not-can_end.true)
