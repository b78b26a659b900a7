-- What stands under names, with one more.
use Rattle.std.proofs.Common.{◌≡◌, ◌∙◌, ap, sym, refl, Bool, true, false, Option, Some, None, cond}
use Rattle.std.specs.Prelude.{is_some}
use Rattle.std.specs.Option.{option_or}
use Rattle.std.proofs.lemmas.Bool.{false≢true}
use Rattle.wit_types.specs.Plain.{Name}
use Rattle.comp_types.specs.Items.{same_name}
use Rattle.comp_types.proofs.ValueLaws.{name-sound}

or_none : {T : Type 0} (o : Option T) → o ≡ option_or o None
or_none None = refl
or_none (Some x) = refl

or_some : {T : Type 0} (o : Option T) (item : T) → is_some o ≡ true → o ≡ option_or o (Some item)
or_some None item h = absurd (false≢true h)
or_some (Some x) item h = refl

not_some : {T : Type 0} (o : Option T) → is_some o ≡ false → o ≡ None
not_some None h = refl
not_some (Some x) h = absurd (false≢true (sym h))

known : {T : Type 0} (at : Name → Option T) (n q : Name) (item : T) (same : Bool) → same_name n q ≡ same → is_some (at n) ≡ true → at q ≡ option_or (at q) (cond same (Some item) None)
known at n q item true e h = or_some (at q) item (ap (λ m. is_some (at m)) (sym (name-sound n q e)) ∙ h)
known at n q item false e h = or_none (at q)

-- what stands under a name stays
pub known-name : {T : Type 0} (at : Name → Option T) (n q : Name) (item : T) → is_some (at n) ≡ true → at q ≡ option_or (at q) (cond (same_name n q) (Some item) None)
known-name at n q item h = known at n q item (same_name n q) refl h

new_at : {T : Type 0} (at : Name → Option T) (n q : Name) (item : T) (same : Bool) → same_name n q ≡ same → is_some (at n) ≡ false → cond same (Some item) (at q) ≡ option_or (at q) (cond same (Some item) None)
new_at at n q item true e h = sym (ap (λ o. option_or o (Some item)) (ap at (sym (name-sound n q e)) ∙ not_some (at n) h))
new_at at n q item false e h = or_none (at q)

-- a name that has nothing gets this
pub new-name : {T : Type 0} (at : Name → Option T) (n q : Name) (item : T) → is_some (at n) ≡ false → cond (same_name n q) (Some item) (at q) ≡ option_or (at q) (cond (same_name n q) (Some item) None)
new-name at n q item h = new_at at n q item (same_name n q) refl h
