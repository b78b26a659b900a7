use Rattle.std.proofs.Common.{ap, arith, refl, ◌∙◌}
use Rattle.comp_types.specs.Matching.{matched_item, matched_entries}
use Rattle.comp_types.specs.Sizes.{item_size}
use Rattle.comp_types.specs.Views.{item_of}
use Rattle.comp_types.specs.declared.types.InstanceEntry.{InstanceEntry}
use Rattle.comp_types.proofs.UnpackLemmas.{item_in}
use Rattle.type_relations.proofs.EntrySteps.{walk_goes, walk_stops}
use Rattle.type_relations.proofs.item_matching.+match_item.Goals as goal

pub match_entries-match_item-requires : goal.match_entries-match_item-requires
match_entries-match_item-requires t c =
    let e = c.index-entries-i-in-loop-i in
    let same = ap (λ (x : InstanceEntry). item_size (item_of x.ty)) e.is in
    (omega (arith, c.decreases, same, item_in c.args.entries.now c.loop-i.i e.result c.loop-i-test.true), tt)

pub match_entries-loop-i-preserved : goal.match_entries-loop-i-preserved
match_entries-loop-i-preserved t c = record {
  met = walk_goes c.args.walk.now.types c.args.these.now matched_item (λ by. matched_entries by c.args.these.now) (λ by n i r. refl) c.args.entries.now c.loop-i.i c.index-entries-i.result c.index-entries-i-in-loop-i.result c.loop-i-test.true _ _
      c.loop-i.invariant.met _ c.loop-i.invariant.kept _ c.in-Some.ensures _ _ c.in_ok-match_item.ensures.met c.if-not-branch.false;
  kept = c.in_ok-match_item.ensures.kept ∙ c.loop-i.invariant.kept;
}

pub match_entries-returns-then-not-branch : goal.match_entries-returns-then-not-branch
match_entries-returns-then-not-branch t c = record {
  met = walk_stops c.args.walk.now.types c.args.these.now matched_item (λ by. matched_entries by c.args.these.now) (λ by n i r. refl) c.args.entries.now c.loop-i.i c.index-entries-i.result c.index-entries-i-in-loop-i.result c.loop-i-test.true _ _
      c.loop-i.invariant.met _ c.loop-i.invariant.kept _ c.in-Some.ensures _ _ c.in_ok-match_item.ensures.met c.if-not-branch.true;
  kept = c.in_ok-match_item.ensures.kept ∙ c.loop-i.invariant.kept;
}
