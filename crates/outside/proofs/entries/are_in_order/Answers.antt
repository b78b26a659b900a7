use Rattle.std.proofs.Common.{◌-◌, sym, ◌∙◌, drop, arith}
use Rattle.std.proofs.lemmas.List.{length-drop}
use Rattle.outside.proofs.EntryLaws.{short_in_order}
use Rattle.outside.proofs.entries.are_in_order.Goals as goal

pub returns : goal.returns
returns c =
    let es = c.args.entries.now in
    sym (c.loop-at.invariant.1 ∙ short_in_order (drop (c.loop-at.at - 1) es) (omega (arith, length-drop (c.loop-at.at - 1) es)))
