-- What is counted of one thing that is seen.
use Rattle.std.proofs.Common.{◌≡◌, ◌∙◌, refl, sym, ap, ℕ, ℤ, ◌+◌, ◌<◌, ◌≤◌, List, ◌∷◌, length, drop, get_or, map}
use Rattle.std.proofs.lemmas.List.{drop_more, drop_all}
use Rattle.wit_types.specs.declared.value.Value.{Value}
use Rattle.wit_types.specs.declared.value.Value.TheVariants.{Int}
use Rattle.wit_types.specs.PlainValue.{plain_value}
use Rattle.host_port.specs.declared.answer.Observation.{Observation}
use Rattle.host_port.specs.Calls.{plain_observation}
use Rattle.virt_engine.specs.declared.tally.Tally.{Tally}
use Rattle.virt_engine.specs.Tallies.{all_seen, and_number, and_seen, and_value}

pub of_number : (t : Tally) (v : Value) (n : ℤ) → v ≡ Int n → and_value t (plain_value v) ≡ and_number t n
unfolding plain_value
of_number t v n is = ap (λ (x : Value). and_value t (plain_value x)) is

pub of_another : (t : Tally) (v : Value) → ((n : ℤ) → v ≡ Int n → ⊥) → and_value t (plain_value v) ≡ t
unfolding plain_value
of_another t (Int n) h = absurd (h n refl)
of_another t _ h = refl

-- one more of what was seen
pub counted_next : (old new whole : Tally) (seen : List Observation) (i : ℕ) (o : Observation) → i < length seen → o ≡ get_or seen i o
    → all_seen old (map plain_observation (drop i seen)) ≡ whole → new ≡ and_seen old (plain_observation o) → all_seen new (map plain_observation (drop (i + 1) seen)) ≡ whole
counted_next old new whole seen i o lt is so_far counted =
    ap (λ (t : Tally). all_seen t (map plain_observation (drop (i + 1) seen))) counted
    ∙ ap (λ (xs : List Observation). all_seen old (map plain_observation xs)) (sym (drop_more seen i o lt ∙ ap (λ y. y ∷ drop (i + 1) seen) (sym is)))
    ∙ so_far

pub counted_all : (old whole : Tally) (seen : List Observation) (i : ℕ) → length seen ≤ i → all_seen old (map plain_observation (drop i seen)) ≡ whole → old ≡ whole
counted_all old whole seen i le so_far = ap (λ (xs : List Observation). all_seen old (map plain_observation xs)) (sym (drop_all i seen le)) ∙ so_far
