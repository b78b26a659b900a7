-- What is found in the lists of two makings, one after the other.
use Rattle.std.proofs.Common.{◌≡◌, ℕ, ◌&&◌, nat_eq, cond, List, [], ◌∷◌, ◌++◌, map, Option, Some, None, Bool, true, false, refl, ◌∙◌, ap}
use Rattle.std.specs.Option.{option_map}
use Rattle.std.proofs.lemmas.Bool.{eqb-true, eqb-false}
use Rattle.wit_types.specs.Plain.{Name}
use Rattle.comp_link.specs.Linking.{Given, Givens, GivenFunc, GivenInstance, GivenResource, GivenType, Nothing, Giving, find, Placed, Owned, canon_in, owner_in, target_in as target_of, instance_in, exported}
use Rattle.comp_types.specs.Items.{same_name}
use Rattle.comp_joins.specs.Joining.{or_else}
use Rattle.comp_inside.specs.Linked.{Standing, target_in, canon_in as canon_at, given_in, givens_in, placed_in}

pub or_none : {A : Type 0} → (x : Option A) → or_else x None ≡ x
or_none None = refl
or_none (Some x) = refl

pub cond_else : {A : Type 0} → (b : Bool) (a : A) (x z : Option A) (y : Option A) → x ≡ or_else z y → cond b (Some a) x ≡ or_else (cond b (Some a) z) y
cond_else true a x z y e = refl
cond_else false a x z y e = e

pub cond_some : {A B : Type 0} → (f : A → B) (b : Bool) (a : A) (x : Option B) (y : Option A) → x ≡ option_map f y → cond b (Some (f a)) x ≡ option_map f (cond b (Some a) y)
cond_some f true a x y e = refl
cond_some f false a x y e = e

pub canon_append : (xs ys : List Placed) (k n : ℕ) → canon_in (xs ++ ys) k n ≡ or_else (canon_in xs k n) (canon_in ys k n)
canon_append [] ys k n = refl
canon_append (x ∷ xs) ys k n = cond_else (nat_eq x.instance k && nat_eq x.number n) x.canon (canon_in (xs ++ ys) k n) (canon_in xs k n) (canon_in ys k n) (canon_append xs ys k n)

pub owner_append : (xs ys : List Owned) (r : ℕ) → owner_in (xs ++ ys) r ≡ or_else (owner_in xs r) (owner_in ys r)
owner_append [] ys r = refl
owner_append (x ∷ xs) ys r = cond_else (nat_eq x.resource r) x.owner (owner_in (xs ++ ys) r) (owner_in xs r) (owner_in ys r) (owner_append xs ys r)

pub alike : (f : ℕ → ℕ) → ((j k : ℕ) → f j ≡ f k → j ≡ k) → (j k : ℕ) → nat_eq (f j) (f k) ≡ nat_eq j k
alike f once j k = go (nat_eq j k) refl (nat_eq (f j) (f k)) refl
  where
    go : (a : Bool) → nat_eq j k ≡ a → (b : Bool) → nat_eq (f j) (f k) ≡ b → b ≡ a
    go true is true is' = refl
    go false is false is' = refl
    go true is false is' = absurd (eqb-false (f j) (f k) is' (ap f (eqb-true j k is)))
    go false is true is' = absurd (eqb-false j k is (once j k (eqb-true (f j) (f k) is')))

pub unlike : (j k : ℕ) → (j ≡ k → ⊥) → nat_eq j k ≡ false
unlike j k not = go (nat_eq j k) refl
  where
    go : (a : Bool) → nat_eq j k ≡ a → a ≡ false
    go true is = absurd (not (eqb-true j k is))
    go false is = refl

module _ (at : Standing) where
  pub canons_mapped : ((j k : ℕ) → at.place j ≡ at.place k → j ≡ k) → (ps : List Placed) (k n : ℕ) → canon_in (map (placed_in at) ps) (at.place k) n ≡ option_map (canon_at at) (canon_in ps k n)
  canons_mapped once [] k n = refl
  canons_mapped once (p ∷ ps) k n =
      ap (λ b. cond (b && nat_eq p.number n) (Some (canon_at at p.canon)) (canon_in (map (placed_in at) ps) (at.place k) n)) (alike at.place once p.instance k)
      ∙ cond_some (canon_at at) (nat_eq p.instance k && nat_eq p.number n) p.canon (canon_in (map (placed_in at) ps) (at.place k) n) (canon_in ps k n) (canons_mapped once ps k n)

  pub canons_elsewhere : (k : ℕ) → ((i : ℕ) → at.place i ≡ k → ⊥) → (ps : List Placed) (n : ℕ) → canon_in (map (placed_in at) ps) k n ≡ None
  canons_elsewhere k never [] n = refl
  canons_elsewhere k never (p ∷ ps) n =
      ap (λ b. cond (b && nat_eq p.number n) (Some (canon_at at p.canon)) (canon_in (map (placed_in at) ps) k n)) (unlike (at.place p.instance) k (never p.instance)) ∙ canons_elsewhere k never ps n

  find_in : (name : Name) (gs : Givens) → find name (givens_in at gs) ≡ option_map (given_in at) (find name gs)
  find_in name Nothing = refl
  find_in name (Giving n item rest) = cond_some (given_in at) (same_name n name) item (find name (givens_in at rest)) (find name rest) (find_in name rest)

  target_given : (o : Option Given) → target_of (option_map (given_in at) o) ≡ option_map (target_in at) (target_of o)
  target_given None = refl
  target_given (Some (GivenFunc t)) = refl
  target_given (Some (GivenInstance items)) = refl
  target_given (Some (GivenResource r)) = refl
  target_given (Some GivenType) = refl

  instance_given : (o : Option Given) → instance_in (option_map (given_in at) o) ≡ givens_in at (instance_in o)
  instance_given None = refl
  instance_given (Some (GivenFunc t)) = refl
  instance_given (Some (GivenInstance items)) = refl
  instance_given (Some (GivenResource r)) = refl
  instance_given (Some GivenType) = refl

  pub targets_in : (gs : Givens) (interface name : Name) → target_of (exported (givens_in at gs) interface name) ≡ option_map (target_in at) (target_of (exported gs interface name))
  targets_in gs [] name = ap target_of (find_in name gs) ∙ target_given (find name gs)
  targets_in gs (n ∷ ns) name =
      ap (λ z. target_of (find name (instance_in z))) (find_in (n ∷ ns) gs)
      ∙ ap (λ z. target_of (find name z)) (instance_given (find (n ∷ ns) gs))
      ∙ ap target_of (find_in name (instance_in (find (n ∷ ns) gs)))
      ∙ target_given (find name (instance_in (find (n ∷ ns) gs)))
