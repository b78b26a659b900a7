use Rattle.std.proofs.Common.{ap, arith}
use Rattle.comp_types.specs.Sizes.{item_size}
use Rattle.comp_types.specs.Views.{item_of}
use Rattle.comp_types.specs.declared.types.InstanceEntry.{InstanceEntry}
use Rattle.comp_types.proofs.UnpackLemmas.{item_in}
use Rattle.plug_match.proofs.EntrySteps.{walk_goes, walk_stops}
use Rattle.plug_match.proofs.matching.+match_item.Goals as goal

pub match_entries-match_item-requires : goal.match_entries-match_item-requires
match_entries-match_item-requires t c =
    let e = c.index-entries-i-in-loop-i in
    let same = ap (λ (x : InstanceEntry). item_size (item_of x.ty)) e.is in
    (omega (arith, c.decreases, same, item_in c.args.entries.now c.loop-i.i e.result c.loop-i-test.true), tt)

pub match_entries-loop-i-preserved : goal.match_entries-loop-i-preserved
match_entries-loop-i-preserved t c =
    walk_goes c.args.these.now c.args.entries.now c.loop-i.i c.index-entries-i.result c.index-entries-i-in-loop-i.result c.loop-i-test.true _ _
    c.loop-i.invariant _ c.in-Some.ensures _ _ c.in_ok-match_item.ensures c.if-not-branch.false

pub match_entries-returns-then-not-branch : goal.match_entries-returns-then-not-branch
match_entries-returns-then-not-branch t c =
    walk_stops c.args.these.now c.args.entries.now c.loop-i.i c.index-entries-i.result c.index-entries-i-in-loop-i.result c.loop-i-test.true _ _
    c.loop-i.invariant _ c.in-Some.ensures _ _ c.in_ok-match_item.ensures c.if-not-branch.true
