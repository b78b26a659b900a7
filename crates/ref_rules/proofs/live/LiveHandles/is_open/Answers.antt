use Rattle.std.proofs.Common.{◌∙◌, sym, ap, nat_lt}
use Rattle.std.proofs.lemmas.List.{get_or_read}
use Rattle.ref_rules.specs.Lives.{opens}
use Rattle.ref_rules.proofs.CountLemmas.{count_any}
use Rattle.ref_rules.proofs.live.LiveHandles.is_open.Goals as goal

pub returns : goal.returns
returns c =
    let held = c.self.inside.held.items in
    let within = rw (← c.self.view_is) at c.requires in
    let read = get_or_read held c.args.file c.index.result.now within c.index.ensures 0 in
    rw (← c.self.view_is) (ap (λ n. nat_lt 0 n) (read ∙ c.self.invariant.held_counts c.args.file within) ∙ sym (count_any (opens c.args.file) c.self.inside.numbers.handles))
