use Rattle.std.proofs.Common.{◌∙◌, ap}
use Rattle.std.specs.Prelude.{ℕ, List, reverse}
use Rattle.core_slots.specs.Layout.{stacked}
use Rattle.core_slots.proofs.WordLaws.{keep_at}
use Rattle.core_slots.proofs.slots.Slots.keep.Goals as goal

pub returns : goal.returns
returns c =
    ap (λ (xs : List ℕ). stacked xs c.self.inside.locals c.self.inside.operands (reverse c.self.inside.callers.items)) c.lower.ensures
    ∙ keep_at _ _ _ _ _ _ _ c.self.invariant c.self.view_is c.requires
