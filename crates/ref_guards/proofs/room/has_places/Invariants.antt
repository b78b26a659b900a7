use Rattle.std.proofs.Common.{◌≡◌, ◌||◌, ◌==◌, Option, map, drop}
use Rattle.std.specs.List.{list_all}
use Rattle.wit_types.specs.Plain.{Plain}
use Rattle.policy_data.specs.declared.policy.Policy.{Policy}
use Rattle.tree_table.specs.Tables.{Forest}
use Rattle.reference_step.specs.Rules.{owns_of, kinds, fit, has_places}
use Rattle.ref_answers.specs.Seen.{live_in}
use Rattle.ref_guards.specs.Owned.{owned_at_most}
use Rattle.ref_guards.proofs.room.has_places.Given as goal

abbrev pub invariant-loop-kind : goal.invariant-loop-kind
invariant-loop-kind l = (p : Policy) (f : Forest) (ty : Option Plain) → p.slots ≡ l.live.slots → l.owned ≡ map (owned_at_most ty) kinds → list_all (λ kind. owns_of kind ty == 0 || fit p (live_in f l.live.handles) kind (owns_of kind ty)) (drop l.kind kinds) ≡ has_places p (live_in f l.live.handles) ty
