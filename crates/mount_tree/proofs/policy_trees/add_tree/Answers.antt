use Rattle.std.proofs.Common.{arith}
use Rattle.std.proofs.lemmas.Result.{err_from_is_err_and}
use Rattle.mount_tree.proofs.StepLemmas.{tree_stopped}
use Rattle.mount_tree.proofs.TargetLemmas.{root_targets, tree_targets}
use Rattle.mount_tree.proofs.policy_trees.add_tree.Goals as goal

pub returns-in_err-making-2-clause-gives : goal.returns-in_err-making-2-clause-gives
returns-in_err-making-2-clause-gives g c =
    let p = err_from_is_err_and c.from_residual-in_err-making-2.result c.from_residual-in_err-making-2.ensures.1 in
    rw (p.1, p.2) (tree_stopped (g.F.Files.state c.args.files.now) (g.F.Files.state c.add_content.new.files) c.args.forest c.args.source.now c.in_ok-making.making c.in_err-making-2.field-0.0 c.in_ok-making.ensures c.in_err-making-2.ensures.gives)

pub returns-clause-targets : goal.returns-clause-targets
returns-clause-targets g c =
    let made = tree_targets c.in_ok-making-2.making c.in_ok-name.name c.in_ok-into_forest.field-0 c.in_ok-into_forest.ensures.value in
    let root = root_targets c.args.forest c.in_ok-making.making c.in_ok-making.ensures in
    omega (arith, made, root, c.in_ok-making-2.ensures.targets)
