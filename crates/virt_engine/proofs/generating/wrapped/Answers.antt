use Rattle.std.proofs.Common.{subst, sym, ℕ, List, Ok}
use Rattle.tree_table.specs.Trees.{AreTrees}
use Rattle.component_judge.specs.Applications.{JudgesApplication}
use Rattle.component_judge.specs.declared.limits.Purpose.TheVariants.{Virt}
use Rattle.virt_engine.proofs.GenLaws.{is_wrapped, no_trees}
use Rattle.virt_engine.proofs.generating.wrapped.Goals as goal

pub ready_for-requires : goal.ready_for-requires
ready_for-requires c = subst AreTrees (sym c.empty-trees.ensures) no_trees

pub returns : goal.returns
returns c =
    let application = c.in_ok-application.application in
    is_wrapped c.args.functions _ c.in_ok-policy.policy (record { bytes = c.in_ok-bytes.bytes; application = application }) c.in_ok-ready.ready c.in_ok-policy.ensures.well_formed c.in_ok-bytes.ensures
    (subst (λ (z : List ℕ). JudgesApplication Virt z (Ok application)) c.as_slice.ensures.value c.in_ok-application.ensures.listed) c.in_ok-ready.ensures
