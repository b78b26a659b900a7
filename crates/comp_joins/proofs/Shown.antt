-- A resource that stands in a type under a path of names is brought with whatever is given for that type.
use Rattle.std.proofs.Common.{◌≡◌, inl, inr, ℕ, cond, List, [], ◌∷◌, ◌++◌, Bool, true, false, Option, Some, None, refl, sym, ◌∙◌, ap, subst}
use Rattle.std.specs.Option.{option_map}
use Rattle.std.proofs.lemmas.Bool.{false≢true}
use Rattle.wit_types.specs.Plain.{Name}
use Rattle.comp_types.specs.Items.{Item, Entries, FuncItem, InstanceItem, KindItem, ResourceKind, End, More, same_name, look_up}
use Rattle.comp_types.specs.Substitution.{item_with, entries_with}
use Rattle.comp_types.proofs.ValueLaws.{name-sound}
use Rattle.comp_link.specs.Linking.{Given, Givens, GivenFunc, GivenInstance, GivenResource, GivenType, find, bound, all_bound}
use Rattle.comp_inside.specs.Linked.{IsBrought}
use Rattle.comp_link.specs.Exports.{IsOf}
use Rattle.comp_link.proofs.Shapes.{some_same, found}

-- the entry of that name, of an instance
abbrev pub entry_in : Name → Option Item → Option Item
entry_in n None = None
entry_in n (Some (FuncItem ty)) = None
entry_in n (Some (InstanceItem entries)) = look_up n entries
entry_in n (Some (KindItem kind)) = None

abbrev pub found_at : List Name → Option Item → Option Item
found_at [] o = o
found_at (n ∷ path) o = found_at path (entry_in n o)

abbrev pub Shown : Item → ℕ → Type 0
Shown item r = (path : List Name) × (found_at path (Some item) ≡ Some (KindItem (ResourceKind r)))

pub none_found : (path : List Name) (item : Item) → found_at path None ≡ Some item → ⊥
none_found [] item is = let q : None ≡ Some item = is in cc
none_found (n ∷ path) item is = none_found path item is

-- ---- with other numbers

module _ (f : ℕ → ℕ) where
  picked_with : (b : Bool) (i : Item) (x y : Option Item) → x ≡ option_map (item_with f) y → cond b (Some (item_with f i)) x ≡ option_map (item_with f) (cond b (Some i) y)
  picked_with true i x y e = refl
  picked_with false i x y e = e

  pub with_look_up : (name : Name) (es : Entries) → look_up name (entries_with f es) ≡ option_map (item_with f) (look_up name es)
  with_look_up name End = refl
  with_look_up name (More n i rest) = picked_with (same_name n name) i (look_up name (entries_with f rest)) (look_up name rest) (with_look_up name rest)

  with_entry : (n : Name) (o : Option Item) → entry_in n (option_map (item_with f) o) ≡ option_map (item_with f) (entry_in n o)
  with_entry n None = refl
  with_entry n (Some (FuncItem ty)) = refl
  with_entry n (Some (InstanceItem es)) = with_look_up n es
  with_entry n (Some (KindItem kind)) = refl

  with_found : (path : List Name) (o : Option Item) → found_at path (option_map (item_with f) o) ≡ option_map (item_with f) (found_at path o)
  with_found [] o = refl
  with_found (n ∷ path) o = ap (found_at path) (with_entry n o) ∙ with_found path (entry_in n o)

  pub shown_with : (item : Item) (r : ℕ) → Shown item r → Shown (item_with f item) (f r)
  shown_with item r (path, is) = (path, with_found path (Some item) ∙ ap (option_map (item_with f)) is)

-- ---- what is brought

pub brought_first : (xs ys : List (ℕ × ℕ)) (r : ℕ) → IsBrought xs r → IsBrought (xs ++ ys) r
brought_first [] ys r h = absurd h
brought_first (x ∷ xs) ys r (inl same) = inl same
brought_first (x ∷ xs) ys r (inr rest) = inr (brought_first xs ys r rest)

pub brought_second : (xs ys : List (ℕ × ℕ)) (r : ℕ) → IsBrought ys r → IsBrought (xs ++ ys) r
brought_second [] ys r h = h
brought_second (x ∷ xs) ys r h = inr (brought_second xs ys r h)

entry_bound : (items : Givens) (entries : Entries) (n : Name) (i : Item) (r : ℕ) → look_up n entries ≡ Some i → IsBrought (bound (find n items) i) r → IsBrought (all_bound items entries) r
entry_bound items End n i r is h = absurd (let q : None ≡ Some i = is in cc)
entry_bound items (More m j rest) n i r is h = at_test (same_name m n) refl is (entry_bound items rest n i r)
  where
    at_test : (b : Bool) → same_name m n ≡ b → cond b (Some j) (look_up n rest) ≡ Some i → (look_up n rest ≡ Some i → IsBrought (bound (find n items) i) r → IsBrought (all_bound items rest) r)
        → IsBrought (bound (find m items) j ++ all_bound items rest) r
    at_test true e is' later =
        let here : IsBrought (bound (find n items) j) r = subst (λ z. IsBrought (bound (find n items) z) r) (sym (some_same j i is')) h in
        brought_first (bound (find m items) j) (all_bound items rest) r (subst (λ z. IsBrought (bound (find z items) j) r) (sym (name-sound m n e)) here)
    at_test false e is' later = brought_second (bound (find m items) j) (all_bound items rest) r (later is' h)

resource_bound : (g : Given) (r : ℕ) → IsOf g (KindItem (ResourceKind r)) → IsBrought (bound (Some g) (KindItem (ResourceKind r))) r
resource_bound (GivenFunc target) r h = absurd h
resource_bound (GivenInstance items) r h = absurd h
resource_bound (GivenResource x) r h = inl refl
resource_bound GivenType r h = absurd (false≢true (sym h))

-- whatever is of an item brings each resource that stands in it
pub shown_bound : (path : List Name) (g : Given) (item : Item) (r : ℕ) → IsOf g item → found_at path (Some item) ≡ Some (KindItem (ResourceKind r)) → IsBrought (bound (Some g) item) r
shown_bound [] g item r h is =
    let same : item ≡ KindItem (ResourceKind r) = some_same item (KindItem (ResourceKind r)) is in
    subst (λ z. IsBrought (bound (Some g) z) r) (sym same) (resource_bound g r (subst (IsOf g) same h))
shown_bound (n ∷ path) g (FuncItem ty) r h is = absurd (none_found path (KindItem (ResourceKind r)) is)
shown_bound (n ∷ path) g (KindItem kind) r h is = absurd (none_found path (KindItem (ResourceKind r)) is)
shown_bound (n ∷ path) (GivenFunc target) (InstanceItem entries) r h is = absurd h
shown_bound (n ∷ path) (GivenResource x) (InstanceItem entries) r h is = absurd h
shown_bound (n ∷ path) GivenType (InstanceItem entries) r h is = absurd h
shown_bound (n ∷ path) (GivenInstance items) (InstanceItem entries) r h is = go (look_up n entries) refl is (shown_bound path)
  where
    go : (o : Option Item) → look_up n entries ≡ o → found_at path o ≡ Some (KindItem (ResourceKind r))
        → ((g' : Given) (item : Item) (r' : ℕ) → IsOf g' item → found_at path (Some item) ≡ Some (KindItem (ResourceKind r')) → IsBrought (bound (Some g') item) r') → IsBrought (all_bound items entries) r
    go None e is' later = absurd (none_found path (KindItem (ResourceKind r)) is')
    go (Some i) e is' later =
        let f = found items n i (h n i e) in
        let inner : IsBrought (bound (Some f.given) i) r = later f.given i r f.fits is' in
        entry_bound items entries n i r e (subst (λ z. IsBrought (bound z i) r) (sym f.there) inner)
