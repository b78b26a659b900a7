use Rattle.std.proofs.Common.{◌≡◌, ◌-◌, ◌∙◌, ap, arith, length, take}
use Rattle.std.specs.Prelude.{ℕ, List, reverse}
use Rattle.core_slots.specs.Layout.{stacked}
use Rattle.core_slots.proofs.WordLaws.{drop_top_at}
use Rattle.core_slots.proofs.slots.Slots.drop_top.Goals as goal

pub returns : goal.returns
returns c =
    let n : c.len.result - c.args.count ≡ length c.self.inside.words.items - c.args.count = omega arith in
    ap (λ (xs : List ℕ). stacked xs c.self.inside.locals c.self.inside.operands (reverse c.self.inside.callers.items)) (c.truncate.ensures.items ∙ ap (λ k. take k c.self.inside.words.items) n)
    ∙ drop_top_at _ _ _ _ _ _ c.self.invariant c.self.view_is c.requires
