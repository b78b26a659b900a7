use Rattle.std.proofs.Common.{sym, ap, ◌∙◌}
use Rattle.wasm_ast.specs.Numeric.{is_numeric}
use Rattle.core_interp.proofs.Totals.{not_none}
use Rattle.core_interp.proofs.computing.compute_rare.Goals as goal

pub unreachable-requires : goal.unreachable-requires
unreachable-requires c =
    not_none c.args.op c.args.slots.now c.calculate.new.slots c.calculate.result (sym (ap is_numeric c.code-code.ensures.value) ∙ c.code-code.ensures.known) c.requires.total c.requires.operands
    c.calculate.ensures c.if-not-calculate.true
