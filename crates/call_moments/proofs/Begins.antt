-- How a canonical call begins.
use Rattle.std.proofs.Common.{◌≡◌, ◌≤◌, ◌<◌, ℕ, zero, suc, Bool, true, false, Ok, Err, nat_lt, refl, sym, ap, ◌∙◌, arith, add-one}
use Rattle.std.specs.Prelude.{[], Result}
use Rattle.std.proofs.lemmas.Bool.Decides.{nat_tests}
use Rattle.comp_worlds.specs.Acts.{TooDeep, Next, Over, Spent, seen_before, ◌>>◌, takes_step}
use Rattle.comp_worlds.specs.Groups.{Nesting, Nested, has_room, World}
use Rattle.comp_worlds.specs.Calls.{if_room, finds_room, begins_call}
use Rattle.call_moments.specs.declared.end.Stop.{Stop}
use Rattle.call_moments.specs.declared.end.Stop.TheVariants as stops
use Rattle.call_moments.specs.declared.depth.Depth.{Depth}
use Rattle.call_moments.specs.Steps.{BeginsCall}
use Rattle.call_moments.specs.Laws.{nested, IsBegun}

module _ {W : Type 0} (w : W) (d : Nesting) where
  none_left : begins_call d w 0 ≡ Spent []
  unfolding ◌>>◌ takes_step
  none_left = refl

  enters : (n : ℕ) → has_room d ≡ true → begins_call d w (suc n) ≡ Next [] n w tt
  unfolding ◌>>◌ takes_step finds_room
  enters n is = ap (λ r. seen_before [] (if_room r w n)) is

  one_left : has_room d ≡ false → begins_call d w 1 ≡ Spent []
  unfolding ◌>>◌ takes_step finds_room
  one_left is = ap (λ r. seen_before [] (if_room r w 0)) is

  too_many : (n : ℕ) → has_room d ≡ false → begins_call d w (suc (suc n)) ≡ Over [] TooDeep
  unfolding ◌>>◌ takes_step finds_room
  too_many n is = ap (λ r. seen_before [] (if_room r w (suc n))) is

room : (calls : ℕ) → calls < 65536 → nat_lt calls 65536 ≡ true
room calls h = grind (arith, nat_tests)

no_room : (calls : ℕ) → 65536 ≤ calls → nat_lt calls 65536 ≡ false
no_room calls h = grind (arith, nat_tests)

-- with one step, where a call would be one too many
last_step : {W : Type 0} (w : W) (calls : ℕ) (b : Bool) → nat_lt calls 65536 ≡ b → (calls < 65536 → ⊥) → begins_call (nested calls) w 1 ≡ Spent []
last_step w calls false e h = one_left w (nested calls) e
last_step w calls true e h = let below : calls < 65536 = grind (arith, nat_tests) in absurd (h below)

spent_at : {W : Type 0} (w : W) (old calls : ℕ) → old ≤ 1 → (calls < 65536 → old ≡ 0) → begins_call (nested calls) w old ≡ Spent []
spent_at w zero calls few h = none_left w (nested calls)
spent_at w (suc zero) calls few h = last_step w calls (nat_lt calls 65536) refl (λ (lt : calls < 65536). let none = h lt in omega arith)
spent_at w (suc (suc n)) calls few h = absurd (omega arith)

deep_at : {W : Type 0} (w : W) (old calls : ℕ) → 2 ≤ old → 65536 ≤ calls → begins_call (nested calls) w old ≡ Over [] TooDeep
deep_at w zero calls h many = absurd (omega arith)
deep_at w (suc zero) calls h many = absurd (omega arith)
deep_at w (suc (suc n)) calls h many = too_many w (nested calls) n (no_room calls many)

pub begun : {S : Type 0} (w : World S) (old calls new : ℕ) (result : Result Depth Stop) → BeginsCall old calls new result → IsBegun w old calls new result
begun w old calls new (Ok depth) h =
    (ap (begins_call (nested calls) w) (h.0 ∙ add-one new) ∙ enters w (nested calls) new (room calls h.1), ap (λ k. Nested 65536 k) (sym h.2))
begun w old calls new (Err stops.Spent) h = spent_at w old calls h.0 h.1
begun w old calls new (Err stops.TooDeep) h = deep_at w old calls h.0 h.1
begun w old calls new (Err stops.Trapped) h = h
begun w old calls new (Err stops.ScriptEnded) h = h
begun w old calls new (Err stops.BadAnswer) h = h
begun w old calls new (Err stops.NoMemory) h = h
