use Rattle.std.proofs.Common.{◌≡◌, ◌+◌, ◌-◌, ◌<◌, get_or, arith, length, length-set, ◌∙◌}
use Rattle.std.proofs.lemmas.List.{get_or_read}
use Rattle.core_slots.proofs.WordLaws.{lower_step}
use Rattle.core_slots.proofs.slots.lower.Goals as goal

pub loop-i-preserved : goal.loop-i-preserved
loop-i-preserved c =
    let xs = c.loop-i.words.items in
    let from = c.len.result - c.args.count in
    let lt : from + c.loop-i.i < length xs = omega arith in
    let e : c.index.result.now ≡ get_or xs (from + c.loop-i.i) 0 = get_or_read xs (from + c.loop-i.i) c.index.result.now lt c.index.ensures 0 in
    let s = lower_step c.args.words.now.items xs c.args.to from c.loop-i.i (omega arith) (omega arith) c.loop-i.invariant.long c.loop-i.invariant.front c.loop-i.invariant.back in
    record {
      long = length-set xs (c.args.to + c.loop-i.i) c.index.result.now ∙ c.loop-i.invariant.long;
      front = rw e s.0;
      back = rw e s.1;
    }
