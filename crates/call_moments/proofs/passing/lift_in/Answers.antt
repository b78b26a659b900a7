use Rattle.std.proofs.Common.{◌≡◌, true}
use Rattle.wit_types.specs.Plain.{plain}
use Rattle.abi_load.specs.Lifted.{words}
use Rattle.comp_worlds.specs.Locals.{lifts}
use Rattle.instance_state.specs.Loans.{indexes_of}
use Rattle.instance_state.specs.Shown.{config_of}
use Rattle.instance_state.specs.Passed.{options_of, needs_memory, IsInStore}
use Rattle.call_moments.proofs.Faults.{lift_fails}
use Rattle.call_moments.proofs.passing.lift_in.Goals as goal

pub returns-in_err-value-clause-lifts : goal.returns-in_err-value-clause-lifts
returns-in_err-value-clause-lifts c =
    let memory = needs_memory c.args.passed.now.most (plain c.args.passed.now.ty) ≡ true → IsInStore c.args.options.memory c.args.instance.now.code.store in
    let ty = plain c.args.passed.now.ty in
    let due = lifts c.args.passed.now.most ty (options_of c.args.options) (words c.args.flat.now) (config_of c.args.instance.now) in
    lift_fails memory ty due (config_of c.lift.new.instance) (indexes_of c.args.loans.now.items) (indexes_of c.lift.new.loans.items) c.in_err-value.field-0.0 c.from_residual.result c.from_residual.ensures.1 c.in_err-value.ensures.lifts
