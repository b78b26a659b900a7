use Rattle.std.proofs.Common.{arith}
use Rattle.std.proofs.lemmas.List.Elements.{All-rest}
use Rattle.std.proofs.lemmas.Result.{err_from_is_err_and}
use Rattle.mount_tree.specs.Building.{tree_step, trees_due}
use Rattle.mount_tree.specs.Legal.{IsSource}
use Rattle.mount_tree.proofs.Follows.{each_on, each_stop}
use Rattle.mount_tree.proofs.TargetLemmas.{sources_left}
use Rattle.mount_tree.proofs.policy_trees.make_trees.Goals as goal

pub returns-in_err-forest-clause-gives : goal.returns-in_err-forest-clause-gives
returns-in_err-forest-clause-gives g c =
    let p = err_from_is_err_and c.from_residual.result c.from_residual.ensures.1 in
    rw (p.1, p.2) (each_stop (trees_due (g.F.Files.state c.args.files.now).held c.args.policy.now) tree_step c.loop-source.forest c.loop-source.rest.now c.in-Some.more.now c.in-Some.source.now c.in_err-forest.field-0.0
    (g.F.Files.state c.args.files.now) (g.F.Files.state c.loop-source.files) (g.F.Files.state c.add_tree.new.files)
    c.loop-source.invariant.due c.in-Some.ensures.cases.0 c.in_err-forest.ensures.gives)

pub loop-source-preserved : goal.loop-source-preserved
loop-source-preserved g c = record {
  due = each_on (trees_due (g.F.Files.state c.args.files.now).held c.args.policy.now) tree_step c.loop-source.forest c.in_ok-forest.forest c.loop-source.rest.now c.in-Some.more.now c.in-Some.source.now
      (g.F.Files.state c.args.files.now) (g.F.Files.state c.loop-source.files) (g.F.Files.state c.add_tree.new.files)
      c.loop-source.invariant.due c.in-Some.ensures.cases.0 c.in_ok-forest.ensures.gives;
  wood = c.in_ok-forest.ensures.wood;
  sources = All-rest IsSource c.in-Some.source.now c.in-Some.more.now c.loop-source.rest.now c.in-Some.ensures.cases.0 c.loop-source.invariant.sources;
  targets = omega (arith, c.in_ok-forest.ensures.targets, sources_left c.in-Some.source.now c.in-Some.more.now c.loop-source.rest.now c.in-Some.ensures.cases.0, c.loop-source.invariant.targets);
}
