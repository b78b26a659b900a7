use Rattle.std.proofs.Common.{◌≡◌, List, None, ap, ◌∙◌, subst}
use Rattle.wit_types.specs.Plain.{plain}
use Rattle.wit_types.specs.PlainValue.{plain_value}
use Rattle.comp_worlds.specs.Hosts.{passed_by}
use Rattle.comp_worlds.specs.Locals.{adds_handles, with_map}
use Rattle.comp_worlds.specs.Passing.{blank, handles_of, unlend_all}
use Rattle.instance_state.specs.declared.loan.Loan.{Loan}
use Rattle.instance_state.specs.Owning.{plain_for}
use Rattle.instance_state.specs.Loans.{indexes_of}
use Rattle.instance_state.specs.Shown.{config_of}
use Rattle.instance_state.specs.Passed.{IsLoweredAs, result_plan}
use Rattle.call_moments.proofs.passing.begin_result.Goals as goal

pub returns-clause-lowers : goal.returns-clause-lowers
returns-clause-lowers c =
    let ended : c.end_loans.new.self ≡ unlend_all (indexes_of c.args.call.now.loans.items) c.args.caller.now.handles =
    c.in_ok-end_loans.ensures.ends ∙ ap (λ (ls : List Loan). unlend_all (indexes_of ls) c.args.caller.now.handles) c.deref.ensures.value in
    let ty = plain c.args.passed.now.result.ty in (
      config_of c.lower_result.new.instance,
      subst (λ m. IsLoweredAs ty (blank ty (plain_value c.args.value)) (result_plan ty c.args.call.now.place)
          (adds_handles (plain_for c.args.owners.now None) (handles_of ty (passed_by ty (plain_value c.args.value))) (with_map (config_of c.args.caller.now) m))
          (config_of c.lower_result.new.instance) c.in_ok-plan.plan) ended c.in_ok-plan.ensures.lowers,
      c.close.ensures.done,
    )
