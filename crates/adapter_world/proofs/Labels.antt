-- Types whose cases are labels alone.
use Rattle.std.proofs.Common.{◌≡◌, List, [], ◌∷◌, false, refl}
use Rattle.policy_data.specs.declared.policy.Policy.{Policy}
use Rattle.wit_types.specs.Plain.{Name, bare}
use Rattle.wit_types.proofs.PlainLemmas.{plains}
use Rattle.adapter_world.specs.Borrows.{parts_borrow_own}

pub no_label_borrows : (p : Policy) (labels : List Name) → parts_borrow_own p (bare labels) ≡ false
no_label_borrows p [] = refl
no_label_borrows p (l ∷ ls) = no_label_borrows p ls

pub ruleset borrows_of = (plains, no_label_borrows)
