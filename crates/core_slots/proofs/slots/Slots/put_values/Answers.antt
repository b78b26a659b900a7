use Rattle.std.proofs.Common.{◌≡◌, ◌-◌, length, ◌∙◌, ap, arith}
use Rattle.std.specs.Prelude.{ℕ, List, reverse}
use Rattle.core_slots.specs.Layout.{stacked}
use Rattle.core_slots.proofs.WordLaws.{put_at}
use Rattle.core_slots.proofs.slots.Slots.put_values.Goals as goal

pub returns : goal.returns
returns c =
    let n : c.len.result - length c.args.values.now ≡ length c.self.inside.words.items - length c.args.values.now = omega arith in
    ap (λ (xs : List ℕ). stacked xs c.self.inside.locals c.self.inside.operands (reverse c.self.inside.callers.items)) c.put_words.ensures
    ∙ put_at _ _ _ _ _ _ _ _ c.self.invariant c.self.view_is c.requires n
