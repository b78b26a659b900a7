-- Instances that are being made, each by its plan, and the work that is left.
use Rattle.std.specs.Prelude.{◌≡◌, ℕ, zero, suc, ◌+◌, ◌<◌, List, [], ◌∷◌, drop, sum_by, Option, Some, None}
use Rattle.comp_link.specs.declared.items.PlanItem.{PlanItem}
use Rattle.comp_link.specs.declared.items.PlanItem.TheVariants.{OfComponent}
use Rattle.comp_link.specs.declared.linked.Linked.{Linked}
use Rattle.comp_interp.specs.declared.part.Part.TheVariants.{Held}
use Rattle.comp_interp.specs.declared.level.Level.{Level}
use Rattle.comp_interp.specs.Parts.{part_items, part_limit, IsSoundPart}

abbrev pub AreSound : Linked → List Level → Type 0
AreSound linked [] = Unit {0}
AreSound linked (l ∷ levels) = IsSoundPart linked l.part × AreSound linked levels

-- how much is left of an item that names components below a limit: a component is entered, and left
abbrev pub item_work : ℕ → Linked → PlanItem → ℕ
item_work zero linked item = 1
item_work (suc limit) linked (OfComponent number first args) = 2 + sum_by (item_work limit linked) (part_items linked (Held number))
item_work (suc limit) linked _ = 1

abbrev pub level_work : Linked → Level → ℕ
level_work linked l = 1 + sum_by (item_work (part_limit linked l.part) linked) (drop l.at (part_items linked l.part))

abbrev pub work : Linked → List Level → ℕ
work linked levels = sum_by (level_work linked) levels

-- a component begins to be made where a plan names one
abbrev pub Begun : Linked → ℕ → PlanItem → Level → Type 0
Begun linked limit (OfComponent number first args) inner = (number < limit) × (inner.part ≡ Held number) × (inner.at ≡ 0)
Begun linked limit _ inner = ⊥

abbrev pub BegunIf : Linked → ℕ → PlanItem → Option Level → Type 0
BegunIf linked limit item None = Unit {0}
BegunIf linked limit item (Some inner) = Begun linked limit item inner

-- an item was made
pub record Follows (linked : Linked) (old : Level) (item : PlanItem) (new : Level) (inner : Option Level) : Type 0 where
  pub part : new.part ≡ old.part
  pub at : new.at ≡ old.at
  pub first : new.first ≡ old.first
  pub begun : BegunIf linked (part_limit linked old.part) item inner
