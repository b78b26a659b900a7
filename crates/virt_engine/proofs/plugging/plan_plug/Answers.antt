use Rattle.std.proofs.Common.{rules}
use Rattle.virt_engine.proofs.PairPlanning.{plug_no_policy, plug_no_pair, plug_no_trees, plug_no_memory, plug_ready}
use Rattle.virt_engine.proofs.plugging.plan_plug.Goals as goal

pub returns-in_err-policy : goal.returns-in_err-policy
returns-in_err-policy g c = plug_no_policy _ _ _ c.in_err-policy.field-0.0 c.from_residual.result (search (rules, c.from_residual.ensures)) c.in_err-policy.ensures

pub returns-in_err-whole : goal.returns-in_err-whole
returns-in_err-whole g c =
    plug_no_pair _ _ _ _ c.in_ok-policy.ensures _ c.in_err-whole.field-0.0 c.from_residual-in_err-whole.result (search (rules, c.from_residual-in_err-whole.ensures)) c.in_err-whole.ensures

pub returns-in_err-trees : goal.returns-in_err-trees
returns-in_err-trees g c =
    plug_no_trees _ _ _ _ c.in_ok-policy.ensures _ _ c.in_ok-whole.ensures _ c.in_err-trees.field-0.0 c.from_residual-in_err-trees.result (search (rules, c.from_residual-in_err-trees.ensures)) c.in_err-trees.ensures

pub returns-in-Ok : goal.returns-in-Ok
returns-in-Ok g c = plug_ready _ _ _ _ c.in_ok-policy.ensures _ _ c.in_ok-whole.ensures _ _ c.in_ok-trees.ensures _ c.in-Ok.ensures

pub returns : goal.returns
returns g c = plug_no_memory _ _ _ _ c.in_ok-policy.ensures _ _ c.in_ok-whole.ensures _ _ c.in_ok-trees.ensures

pub make_trees-requires : goal.make_trees-requires
make_trees-requires g c = c.in_ok-policy.ensures.policy.limits

pub ready_for-requires : goal.ready_for-requires
ready_for-requires g c = c.in_ok-trees.ensures.built.sound
