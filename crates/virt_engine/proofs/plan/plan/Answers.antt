use Rattle.std.proofs.Common.{rules}
use Rattle.virt_engine.proofs.Planning.{plans_no_policy, plans_no_app, plans_no_trees, plans_ready, leaves}
use Rattle.virt_engine.proofs.plan.plan.Goals as goal

pub returns-in_err-policy : goal.returns-in_err-policy
returns-in_err-policy g c =
    leaves _ _ _ c.from_residual.result c.in_err-policy.field-0.0 (search (rules, c.from_residual.ensures)) (plans_no_policy _ _ _ _ c.in_err-policy.ensures)

pub returns-in_err-app : goal.returns-in_err-app
returns-in_err-app g c =
    leaves _ _ _ c.from_residual-in_err-app.result c.in_err-app.field-0.0 (search (rules, c.from_residual-in_err-app.ensures))
    (plans_no_app _ _ _ _ c.in_ok-policy.ensures _ _ c.in_err-app.ensures)

pub returns-in_err-trees : goal.returns-in_err-trees
returns-in_err-trees g c =
    leaves _ _ _ c.from_residual-in_err-trees.result c.in_err-trees.field-0.0 (search (rules, c.from_residual-in_err-trees.ensures))
    (plans_no_trees _ _ _ _ c.in_ok-policy.ensures _ _ c.in_ok-app.ensures _ _ c.in_err-trees.ensures)

pub returns-in-Ok : goal.returns-in-Ok
returns-in-Ok g c = plans_ready _ _ _ _ c.in_ok-policy.ensures _ _ c.in_ok-app.ensures _ _ c.in_ok-trees.ensures _ c.in-Ok.ensures

pub make_trees-requires : goal.make_trees-requires
make_trees-requires g c = c.in_ok-policy.ensures.policy.limits

pub ready_for-requires : goal.ready_for-requires
ready_for-requires g c = c.in_ok-trees.ensures.built.sound
