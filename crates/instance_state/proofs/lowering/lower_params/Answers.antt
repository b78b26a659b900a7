use Rattle.std.proofs.Common.{◌≡◌, ℕ, Some, ap, sym, ◌∙◌}
use Rattle.wit_types.specs.Plain.{plain}
use Rattle.wit_types.specs.PlainValue.{PlainValue, plain_value}
use Rattle.abi_store.specs.declared.target.Target.{Target}
use Rattle.abi_store.specs.Targets.{plan_for}
use Rattle.comp_worlds.specs.Passing.{blank, handles_of, spills_over}
use Rattle.comp_worlds.specs.Hosts.{passed_by}
use Rattle.comp_worlds.specs.Locals.{adds_handles}
use Rattle.instance_state.specs.Owning.{plain_for}
use Rattle.instance_state.specs.Shown.{config_of}
use Rattle.instance_state.specs.Passed.{params_plan}
use Rattle.instance_state.proofs.Lifted.{planned_as, params_spill, params_flat}
use Rattle.instance_state.proofs.lowering.lower_params.Goals as goal
use Rattle.instance_state.proofs.lowering.lower_params.Goals.{then-passed, else-passed}

pub returns-clause-lowers : goal.returns-clause-lowers
returns-clause-lowers c =
    let spilled = ap (λ (n : ℕ). spills_over n (plain c.args.passed.now.ty)) (sym c.requires.most) ∙ c.args.passed.now.spilled in
    let same : (x : PlainValue) → plan_for c.if-passed.target (plain c.args.passed.now.ty) x ≡ params_plan (plain c.args.passed.now.ty) x =
    λ x.
    elim c.if-passed.branch [
      | then-passed w ↦ ap (λ (t : Target). plan_for t (plain c.args.passed.now.ty) x) w.target-is ∙ params_spill (plain c.args.passed.now.ty) x (spilled ∙ w.if-passed.true)
      | else-passed w ↦ ap (λ (t : Target). plan_for t (plain c.args.passed.now.ty) x) w.target-is ∙ params_flat (plain c.args.passed.now.ty) x (spilled ∙ w.if-passed.false)
    ] in
    planned_as (plain c.args.passed.now.ty) (blank (plain c.args.passed.now.ty) (plain_value c.args.value)) (plan_for c.if-passed.target (plain c.args.passed.now.ty)) (params_plan (plain c.args.passed.now.ty))
    (adds_handles (plain_for c.args.owners.now (Some c.args.into)) (handles_of (plain c.args.passed.now.ty) (passed_by (plain c.args.passed.now.ty) (plain_value c.args.value))) (config_of c.args.instance.now)) (config_of c.lower.new.instance) c.lower.result same
    c.lower.ensures.lowers
