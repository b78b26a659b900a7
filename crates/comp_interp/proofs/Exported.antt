-- What code finds under the names of an exported function is what the definition finds.
use Rattle.std.proofs.Common.{◌≡◌, ◌∙◌, ap, sym, refl, subst, ℕ, ◌<◌, ◌≤◌, ◌==◌, nat_lt, cond, List, [], ◌∷◌, length, Option, Some, None, Bool, true, false, MatchOption, arith}
use Rattle.std.specs.Borrow.{Bor}
use Rattle.std.specs.Option.{option_map, option_and_then}
use Rattle.std.specs.List.{position_or_len, before_first, after_first}
use Rattle.std.proofs.lemmas.Bool.{ltb-true, ltb-false, false≢true}
use Rattle.wit_types.specs.Plain.{Name}
use Rattle.comp_link.specs.Linking.{Given as GroupGiven, Givens as GroupGivens, GivenFunc, GivenInstance, GivenResource, GivenType, find, target_in, instance_in as items_in, exported}
use Rattle.instance_state.specs.declared.target.Target.{Target}
use Rattle.instance_state.specs.Targets.{target_of}
use Rattle.instance_making.specs.declared.named.Named.{Named}
use Rattle.instance_making.specs.declared.given.Given.{Given}
use Rattle.instance_making.specs.declared.given.Given.TheVariants.{Func, Instance, Resource, «Type»}
use Rattle.instance_making.specs.Named.{found}
use Rattle.instance_making.specs.Made.{IsSame, Holds, AreMade}
use Rattle.instance_making.proofs.FoundLemmas.{made_at}
use Rattle.comp_interp.specs.Names.{is_hash, cut, function_in, instance_in}

-- ---- the names

is_below : (a b : ℕ) → a < b → nat_lt a b ≡ true
is_below a b lt = go (nat_lt a b) refl
  where
    go : (t : Bool) → nat_lt a b ≡ t → t ≡ true
    go true e = refl
    go false e = absurd (let le : b ≤ a = ltb-false a b e in omega (arith, lt, le))

not_below : (a b : ℕ) → a ≡ b → nat_lt a b ≡ false
not_below a b same = go (nat_lt a b) refl
  where
    go : (t : Bool) → nat_lt a b ≡ t → t ≡ false
    go true e = absurd (let lt : a < b = ltb-true a b e in omega (arith, lt, same))
    go false e = refl

abbrev Parts : Name → Option (Bor (List ℕ) × Bor (List ℕ)) → Type 0
Parts name r =
    MatchOption r (position_or_len is_hash name ≡ length name) (λ x. (x.0.now ≡ before_first is_hash name) × (x.1.now ≡ after_first is_hash name) × (position_or_len is_hash name < length name))

abbrev cut_by : Name → Bool → Name × Name
cut_by name b = cond b (before_first is_hash name, after_first is_hash name) ([], name)

pub no_hash : (name : Name) (r : Option (Bor (List ℕ) × Bor (List ℕ))) → Parts name r → r ≡ None → ([], name) ≡ cut name
no_hash name r h is = let none : position_or_len is_hash name ≡ length name = subst (Parts name) is h in sym (ap (cut_by name) (not_below (position_or_len is_hash name) (length name) none))

pub some_hash : (name : Name) (r : Option (Bor (List ℕ) × Bor (List ℕ))) (x : Bor (List ℕ) × Bor (List ℕ)) → Parts name r → r ≡ Some x → (x.0.now, x.1.now) ≡ cut name
some_hash name r x h is =
    let p = subst (Parts name) is h in
    ap (λ a. (a, x.1.now)) p.0 ∙ ap (λ b. (before_first is_hash name, b)) p.1 ∙ sym (ap (cut_by name) (is_below (position_or_len is_hash name) (length name) p.2))

-- ---- what stands under them

module _ (before : List GroupGivens) where
  pub function_same : (o : Option Given) (p : Option GroupGiven) → IsSame before o p → option_map target_of (function_in o) ≡ target_in p
  function_same None None h = refl
  function_same (Some (Func target)) (Some (GivenFunc t)) h = let same : target_of target ≡ t = cc in ap Some same
  function_same (Some (Instance number)) (Some (GivenInstance items)) h = refl
  function_same (Some (Resource r)) (Some (GivenResource g)) h = refl
  function_same (Some «Type») (Some GivenType) h = refl
  function_same None (Some g) h = absurd h
  function_same (Some item) None h = absurd h
  function_same (Some (Func target)) (Some (GivenInstance items)) h = absurd (cc)
  function_same (Some (Func target)) (Some (GivenResource g)) h = absurd (cc)
  function_same (Some (Func target)) (Some GivenType) h = absurd (cc)
  function_same (Some (Instance number)) (Some (GivenFunc t)) h = absurd (let e : GivenInstance h.0 ≡ GivenFunc t = h.2 in cc)
  function_same (Some (Instance number)) (Some (GivenResource g)) h = refl
  function_same (Some (Instance number)) (Some GivenType) h = refl
  function_same (Some (Resource r)) (Some (GivenFunc t)) h = absurd (cc)
  function_same (Some (Resource r)) (Some (GivenInstance items)) h = refl
  function_same (Some (Resource r)) (Some GivenType) h = refl
  function_same (Some «Type») (Some (GivenFunc t)) h = absurd (cc)
  function_same (Some «Type») (Some (GivenInstance items)) h = refl
  function_same (Some «Type») (Some (GivenResource g)) h = refl

  abbrev there : Option (Named Given) → Name → Option Target
  there o name = option_and_then (λ (items : Named Given). function_in (found items name)) o

  inside_same : (made : List (Named Given)) → AreMade made before → (o : Option Given) (p : Option GroupGiven) → IsSame before o p → (name : Name) → option_map target_of (there (instance_in made o) name) ≡ target_in (find name (items_in p))
  inside_same made are None None h name = refl
  inside_same made are None (Some g) h name = absurd h
  inside_same made are (Some item) None h name = absurd h
  inside_same made are (Some (Instance number)) (Some (GivenInstance items)) h name =
      let same : h.0 ≡ items = (let e : GivenInstance h.0 ≡ GivenInstance items = h.2 in cc) in
      let at = made_at before made number items are (h.1 ∙ ap Some same) in
      ap (λ o. option_map target_of (there o name)) at.1 ∙ function_same (found at.0 name) (find name items) (at.2 name)
  inside_same made are (Some (Func target)) (Some (GivenFunc t)) h name = refl
  inside_same made are (Some (Func target)) (Some (GivenInstance items)) h name = absurd (cc)
  inside_same made are (Some (Func target)) (Some (GivenResource g)) h name = refl
  inside_same made are (Some (Func target)) (Some GivenType) h name = refl
  inside_same made are (Some (Instance number)) (Some (GivenFunc t)) h name = absurd (let e : GivenInstance h.0 ≡ GivenFunc t = h.2 in cc)
  inside_same made are (Some (Instance number)) (Some (GivenResource g)) h name = absurd (let e : GivenInstance h.0 ≡ GivenResource g = h.2 in cc)
  inside_same made are (Some (Instance number)) (Some GivenType) h name = absurd (let e : GivenInstance h.0 ≡ GivenType = h.2 in cc)
  inside_same made are (Some (Resource r)) (Some (GivenFunc t)) h name = refl
  inside_same made are (Some (Resource r)) (Some (GivenInstance items)) h name = absurd (cc)
  inside_same made are (Some (Resource r)) (Some (GivenResource g)) h name = refl
  inside_same made are (Some (Resource r)) (Some GivenType) h name = refl
  inside_same made are (Some «Type») (Some (GivenFunc t)) h name = refl
  inside_same made are (Some «Type») (Some (GivenInstance items)) h name = absurd (cc)
  inside_same made are (Some «Type») (Some (GivenResource g)) h name = refl
  inside_same made are (Some «Type») (Some GivenType) h name = refl

  pub own_found : (exports : Named Given) (givens : GroupGivens) → Holds before exports givens → (interface name : Name) → interface ≡ [] → option_map target_of (function_in (found exports name)) ≡ target_in (exported givens interface name)
  own_found exports givens h interface name none = function_same (found exports name) (find name givens) (h name) ∙ sym (ap (λ i. target_in (exported givens i name)) none)

  pub inside_found : (made : List (Named Given)) (exports : Named Given) (givens : GroupGivens) → AreMade made before → Holds before exports givens → (interface name : Name) → (interface ≡ [] → ⊥) →
      option_map target_of (there (instance_in made (found exports interface)) name) ≡ target_in (exported givens interface name)
  inside_found made exports givens are h [] name some = absurd (some refl)
  inside_found made exports givens are h (c ∷ cs) name some = inside_same made are (found exports (c ∷ cs)) (find (c ∷ cs) givens) (h (c ∷ cs)) name

pub mapped : (r : Option (Bor Target)) → option_map (λ t. target_of t.now) r ≡ option_map target_of (option_map (λ t. t.now) r)
mapped None = refl
mapped (Some t) = refl

-- of what was found a function, or an instance and a function in it
pub own_answer : (before : List GroupGivens) (exports : Named Given) (givens : GroupGivens) (interface name : Name) (item : Option (Bor Given)) (r : Option (Bor Target)) → Holds before exports givens → interface ≡ [] → option_map (λ i. i.now) item ≡ found exports name →
    option_map (λ t. t.now) r ≡ function_in (option_map (λ i. i.now) item) → option_map (λ t. target_of t.now) r ≡ target_in (exported givens interface name)
own_answer before exports givens interface name item r h none is was = mapped r ∙ ap (option_map target_of) (was ∙ ap function_in is) ∙ own_found before exports givens h interface name none

pub inside_answer : (before : List GroupGivens) (made : List (Named Given)) (exports items : Named Given) (givens : GroupGivens) (interface name : Name) (instance item : Option (Bor Given)) (r : Option (Bor Target)) → AreMade made before → Holds before exports givens → (interface ≡ [] → ⊥) →
    option_map (λ i. i.now) instance ≡ found exports interface → Some items ≡ instance_in made (option_map (λ i. i.now) instance) → option_map (λ i. i.now) item ≡ found items name → option_map (λ t. t.now) r ≡ function_in (option_map (λ i. i.now) item) →
    option_map (λ t. target_of t.now) r ≡ target_in (exported givens interface name)
inside_answer before made exports items givens interface name instance item r are h some is there_is item_is was =
    mapped r
    ∙ ap (option_map target_of) (was ∙ ap function_in item_is)
    ∙ ap (λ o. option_map target_of (option_and_then (λ (x : Named Given). function_in (found x name)) o)) (there_is ∙ ap (instance_in made) is)
    ∙ inside_found before made exports givens are h interface name some

pub nothing_answer : (before : List GroupGivens) (made : List (Named Given)) (exports : Named Given) (givens : GroupGivens) (interface name : Name) (instance : Option (Bor Given)) → AreMade made before → Holds before exports givens → (interface ≡ [] → ⊥) →
    option_map (λ i. i.now) instance ≡ found exports interface → None ≡ instance_in made (option_map (λ i. i.now) instance) → None ≡ target_in (exported givens interface name)
nothing_answer before made exports givens interface name instance are h some is none =
    ap (λ o. option_map target_of (option_and_then (λ (x : Named Given). function_in (found x name)) o)) (none ∙ ap (instance_in made) is) ∙ inside_found before made exports givens are h interface name some

pub not_empty : (xs ys : List ℕ) (b : Bool) → b ≡ false → b ≡ (length xs == 0) → xs ≡ ys → ys ≡ [] → ⊥
not_empty xs ys b isnt is same none =
    let zero : length xs ≡ 0 = ap length (same ∙ none) in
    false≢true (sym isnt ∙ is ∙ ap (λ n. n == 0) zero)
