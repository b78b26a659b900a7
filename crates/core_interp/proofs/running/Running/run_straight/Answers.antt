use Rattle.std.proofs.Common.{arith, rules}
use Rattle.wasm_ast.specs.declared.instr.Op.TheVariants as op
use Rattle.core_interp.proofs.Came.{arm_needs, arm_on}
use Rattle.core_interp.proofs.running.Running.run_straight.Goals as goal
use Rattle.core_interp.proofs.running.Running.run_straight.Goals.{in-Plain-LocalGet+in_ok-get_local-in-Plain-LocalGet, in-Plain-LocalSet, in-Plain-LocalTee, in-Plain-I32Const+in_ok-put_constant-in-Plain-I32Const, in-Plain-Numeric+else-not-never_traps}

pub get_local-requires : goal.get_local-requires
get_local-requires c = (arm_needs c.args.code.now c.args.spaces.now c.args.self.now c.args.store.now c.args.budget.now c.loop-left.self c.args.store.now c.loop-left.left c.loop-left.at c.instr_at.result.now (op.LocalGet c.in-Plain-LocalGet.index) c.requires.code c.requires.spaces c.loop-left.invariant.came c.instr_at.ensures.there c.instr_at.ensures.small (search rules)).1

pub set_local-requires-clause-there : goal.set_local-requires-clause-there
set_local-requires-clause-there c = (arm_needs c.args.code.now c.args.spaces.now c.args.self.now c.args.store.now c.args.budget.now c.loop-left.self c.args.store.now c.loop-left.left c.loop-left.at c.instr_at.result.now (op.LocalSet c.in-Plain-LocalSet.index) c.requires.code c.requires.spaces c.loop-left.invariant.came c.instr_at.ensures.there c.instr_at.ensures.small (search rules)).1

pub set_local-requires-clause-operand : goal.set_local-requires-clause-operand
set_local-requires-clause-operand c = (arm_needs c.args.code.now c.args.spaces.now c.args.self.now c.args.store.now c.args.budget.now c.loop-left.self c.args.store.now c.loop-left.left c.loop-left.at c.instr_at.result.now (op.LocalSet c.in-Plain-LocalSet.index) c.requires.code c.requires.spaces c.loop-left.invariant.came c.instr_at.ensures.there c.instr_at.ensures.small (search rules)).0

pub tee_local-requires-clause-there : goal.tee_local-requires-clause-there
tee_local-requires-clause-there c = (arm_needs c.args.code.now c.args.spaces.now c.args.self.now c.args.store.now c.args.budget.now c.loop-left.self c.args.store.now c.loop-left.left c.loop-left.at c.instr_at.result.now (op.LocalTee c.in-Plain-LocalTee.index) c.requires.code c.requires.spaces c.loop-left.invariant.came c.instr_at.ensures.there c.instr_at.ensures.small (search rules)).1

pub tee_local-requires-clause-operand : goal.tee_local-requires-clause-operand
tee_local-requires-clause-operand c = (arm_needs c.args.code.now c.args.spaces.now c.args.self.now c.args.store.now c.args.budget.now c.loop-left.self c.args.store.now c.loop-left.left c.loop-left.at c.instr_at.result.now (op.LocalTee c.in-Plain-LocalTee.index) c.requires.code c.requires.spaces c.loop-left.invariant.came c.instr_at.ensures.there c.instr_at.ensures.small (search rules)).0

pub compute-requires-clause-operands : goal.compute-requires-clause-operands
compute-requires-clause-operands c = (arm_needs c.args.code.now c.args.spaces.now c.args.self.now c.args.store.now c.args.budget.now c.loop-left.self c.args.store.now c.loop-left.left c.loop-left.at c.instr_at.result.now (op.Numeric c.in-Plain-Numeric.op) c.requires.code c.requires.spaces c.loop-left.invariant.came c.instr_at.ensures.there c.instr_at.ensures.small (search rules)).0

pub loop-left-preserved : goal.loop-left-preserved
loop-left-preserved c = record {
  came = elim c.match-instr_at-2.branch [
    | in-Plain-LocalGet+in_ok-get_local-in-Plain-LocalGet w ↦ arm_on c.args.code.now c.args.spaces.now c.args.self.now c.args.store.now c.args.budget.now c.loop-left.self c.match-instr_at-2.self c.args.store.now c.loop-left.left c.loop-left.at c.instr_at.result.now _ _ c.requires.code c.requires.spaces c.loop-left.invariant.came (omega arith) c.instr_at.ensures.there c.instr_at.ensures.small w.in_ok-get_local-in-Plain-LocalGet.ensures w.self-is (search rules)
    | in-Plain-LocalSet w ↦ arm_on c.args.code.now c.args.spaces.now c.args.self.now c.args.store.now c.args.budget.now c.loop-left.self c.match-instr_at-2.self c.args.store.now c.loop-left.left c.loop-left.at c.instr_at.result.now _ _ c.requires.code c.requires.spaces c.loop-left.invariant.came (omega arith) c.instr_at.ensures.there c.instr_at.ensures.small w.set_local.ensures w.self-is (search rules)
    | in-Plain-LocalTee w ↦ arm_on c.args.code.now c.args.spaces.now c.args.self.now c.args.store.now c.args.budget.now c.loop-left.self c.match-instr_at-2.self c.args.store.now c.loop-left.left c.loop-left.at c.instr_at.result.now _ _ c.requires.code c.requires.spaces c.loop-left.invariant.came (omega arith) c.instr_at.ensures.there c.instr_at.ensures.small w.tee_local.ensures w.self-is (search rules)
    | in-Plain-I32Const+in_ok-put_constant-in-Plain-I32Const w ↦ arm_on c.args.code.now c.args.spaces.now c.args.self.now c.args.store.now c.args.budget.now c.loop-left.self c.match-instr_at-2.self c.args.store.now c.loop-left.left c.loop-left.at c.instr_at.result.now _ _ c.requires.code c.requires.spaces c.loop-left.invariant.came (omega arith) c.instr_at.ensures.there c.instr_at.ensures.small w.in_ok-put_constant-in-Plain-I32Const.ensures w.self-is (search rules)
    | in-Plain-Numeric+else-not-never_traps w ↦ arm_on c.args.code.now c.args.spaces.now c.args.self.now c.args.store.now c.args.budget.now c.loop-left.self c.match-instr_at-2.self c.args.store.now c.loop-left.left c.loop-left.at c.instr_at.result.now _ _ c.requires.code c.requires.spaces c.loop-left.invariant.came (omega arith) c.instr_at.ensures.there c.instr_at.ensures.small w.compute.ensures w.self-is (search rules)
  ];
}
