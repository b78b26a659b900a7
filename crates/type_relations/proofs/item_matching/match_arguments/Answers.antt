use Rattle.std.proofs.Common.{refl, ◌∙◌}
use Rattle.comp_types.specs.Matching.{matched_argument, matched_arguments}
use Rattle.type_relations.proofs.EntrySteps.{walk_goes, walk_stops}
use Rattle.type_relations.proofs.item_matching.match_arguments.Goals as goal

pub loop-i-preserved : goal.loop-i-preserved
loop-i-preserved c = record {
  met = walk_goes c.args.walk.now.types c.args.args.now matched_argument (λ by. matched_arguments by c.args.args.now) (λ by n i r. refl) c.args.imports.now c.loop-i.i c.index-imports-i.result c.index-imports-i-in-loop-i.result c.loop-i-test.true _ _
      c.loop-i.invariant.met _ c.loop-i.invariant.kept _ c.in-Some.ensures _ _ c.in_ok-match_argument.ensures.met c.if-not-branch.false;
  kept = c.in_ok-match_argument.ensures.kept ∙ c.loop-i.invariant.kept;
}

pub returns-then-not-branch : goal.returns-then-not-branch
returns-then-not-branch c = record {
  met = walk_stops c.args.walk.now.types c.args.args.now matched_argument (λ by. matched_arguments by c.args.args.now) (λ by n i r. refl) c.args.imports.now c.loop-i.i c.index-imports-i.result c.index-imports-i-in-loop-i.result c.loop-i-test.true _ _
      c.loop-i.invariant.met _ c.loop-i.invariant.kept _ c.in-Some.ensures _ _ c.in_ok-match_argument.ensures.met c.if-not-branch.true;
  kept = c.in_ok-match_argument.ensures.kept ∙ c.loop-i.invariant.kept;
}
