use Rattle.std.proofs.Common.{◌∙◌, ◌<◌, ◌≤◌, arith, sym, length}
use Rattle.std.proofs.lemmas.List.{take_all}
use Rattle.std.proofs.lemmas.Bool.{OnTrue_at}
use Rattle.wit_types.specs.Plain.{plain}
use Rattle.type_table.specs.Slots.{slots_of}
use Rattle.type_table.proofs.NodeLemmas.{take-same}
use Rattle.type_table.proofs.table.TypeTable.are_same_slots.Goals as goal

pub loop-index-preserved : goal.loop-index-preserved
loop-index-preserved c =
    let ps = slots_of (plain c.args.a.now) in
    let qs = slots_of (plain c.args.b.now) in
    let lt : c.loop-index.index < length ps = omega arith in
    record {
      as_many = c.loop-index.invariant.as_many;
      same = λ a b. take-same ps qs c.loop-index.index lt (OnTrue_at c.if-not-branch.false (c.in_ok-is_same_slot.ensures a b)) (c.loop-index.invariant.same a b);
    }

pub returns : goal.returns
returns c = λ a b.
    let ps = slots_of (plain c.args.a.now) in
    let qs = slots_of (plain c.args.b.now) in
    let all : length ps ≤ c.loop-index.index = omega arith in
    let others : length qs ≤ c.loop-index.index = omega (arith, c.loop-index.invariant.as_many) in
    sym (take_all c.loop-index.index ps all) ∙ (c.loop-index.invariant.same a b ∙ take_all c.loop-index.index qs others)
