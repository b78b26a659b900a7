use Rattle.std.proofs.Common.{rules, ◌-◌}
use Rattle.std.proofs.lemmas.List.{get_or_read_under}
use Rattle.core_slots.proofs.WordLaws.{some_words, first_at}
use Rattle.core_slots.proofs.slots.Slots.top.Goals as goal

pub returns : goal.returns
returns c =
    let some = some_words _ _ _ _ _ c.self.view_is c.requires in
    first_at _ _ _ (c.len.result - 1) _ _ _ c.self.invariant c.self.view_is c.requires (search rules) (search (rules, get_or_read_under, some))
