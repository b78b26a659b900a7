-- What the exports of a component name, its imports bring or are its own.
use Rattle.std.proofs.Common.{◌≡◌, ◌⊎◌, inl, inr, ℕ, ◌||◌, not, nat_eq, cond, List, [], ◌∷◌, ◌++◌, Bool, true, false, Option, Some, None, refl, sym, ◌∙◌, subst}
use Rattle.std.specs.List.{filter}
use Rattle.std.proofs.lemmas.Bool.{false≢true, eqb-true, eqb-false}
use Rattle.wit_types.specs.Plain.{Name}
use Rattle.comp_types.specs.Items.{Item, Entries, FuncItem, InstanceItem, KindItem, ResourceKind, ValueKind, FuncKind, InstanceKind, End, More, same_name, look_up}
use Rattle.comp_types.specs.GivenResources.{is_among, distinct, named_in, named_in_item, given_by, given_for}
use Rattle.comp_types.specs.Spaces.{Space, NestedComponent}
use Rattle.comp_types.specs.Added.{nested_of}
use Rattle.comp_inside.specs.Linked.{Each, IsBrought}
use Rattle.comp_link.proofs.Shapes.{some_same}
use Rattle.comp_joins.proofs.Shown.{found_at, Shown, none_found}
use Rattle.comp_joins.proofs.Names.{each_first, each_second, each_then, each_among, among_each}
use Rattle.comp_joins.proofs.Arguments.{EachGives, func_gives, value_gives, func_kind_gives, instance_kind_gives, nothing_gives}
use Rattle.comp_joins.proofs.Described.{Brings, IsOwn}

-- ---- what is left of a list

among_filter : (p : ℕ → Bool) (rs : List ℕ) (r : ℕ) → p r ≡ true → is_among rs r ≡ true → is_among (filter p rs) r ≡ true
among_filter p [] r keep is = is
among_filter p (x ∷ rs) r keep is = go (p x) refl (nat_eq x r) refl is (among_filter p rs r keep)
  where
    go : (b : Bool) → p x ≡ b → (c : Bool) → nat_eq x r ≡ c → (c || is_among rs r) ≡ true → (is_among rs r ≡ true → is_among (filter p rs) r ≡ true) → is_among (cond b (x ∷ filter p rs) (filter p rs)) r ≡ true
    go true e true y is' later = here (nat_eq x r) y
      where
        here : (d : Bool) → d ≡ true → (d || is_among (filter p rs) r) ≡ true
        here true z = refl
        here false z = absurd (false≢true z)
    go true e false y is' later = there (nat_eq x r) (later is')
      where
        there : (d : Bool) → is_among (filter p rs) r ≡ true → (d || is_among (filter p rs) r) ≡ true
        there true z = refl
        there false z = z
    go false e true y is' later = absurd (false≢true (sym e ∙ subst (λ z. p z ≡ true) (sym (eqb-true x r y)) keep))
    go false e false y is' later = later is'

among_distinct : (rs : List ℕ) (r : ℕ) → is_among rs r ≡ true → is_among (distinct rs) r ≡ true
among_distinct [] r is = is
among_distinct (x ∷ rs) r is = go (nat_eq x r) refl is (λ rest. among_filter (λ z. not (nat_eq z x)) (distinct rs) r) (among_distinct rs r)
  where
    differs : (b : Bool) → nat_eq r x ≡ b → nat_eq x r ≡ false → not b ≡ true
    differs true e y = absurd (eqb-false x r y (sym (eqb-true r x e)))
    differs false e y = refl

    go : (b : Bool) → nat_eq x r ≡ b → (b || is_among rs r) ≡ true → (is_among rs r ≡ true → not (nat_eq r x) ≡ true → is_among (distinct rs) r ≡ true → is_among (filter (λ z. not (nat_eq z x)) (distinct rs)) r ≡ true)
        → (is_among rs r ≡ true → is_among (distinct rs) r ≡ true) → (b || is_among (filter (λ z. not (nat_eq z x)) (distinct rs)) r) ≡ true
    go true e is' kept later = refl
    go false e is' kept later = kept is' (differs (nat_eq r x) refl e) (later is')

-- By what its imports brought stands in them; the rest is its own.
pub nested_brings : (inner : Space) → Each (Shown (InstanceItem inner.imports)) inner.imported → Each (Brings (nested_of inner)) (named_in inner.exports)
nested_brings inner shown = each_then (λ r. is_among (named_in inner.exports) r ≡ true) (Brings (nested_of inner)) (λ r is. at r is (is_among inner.imported r) refl) (named_in inner.exports) (each_among (named_in inner.exports))
  where
    kept : (b : Bool) → b ≡ false → not b ≡ true
    kept true e = absurd (false≢true (sym e))
    kept false e = refl

    at : (r : ℕ) → is_among (named_in inner.exports) r ≡ true → (b : Bool) → is_among inner.imported r ≡ b → Brings (nested_of inner) r
    at r is true e = inr (among_each (Shown (InstanceItem inner.imports)) inner.imported r e shown)
    at r is false e = inl (among_filter (λ z. not (is_among inner.imported z)) (distinct (named_in inner.exports)) r (kept (is_among inner.imported r) e) (among_distinct (named_in inner.exports) r is))

-- ---- what stands in a type it names

entry_named : (P : ℕ → Type 0) (entries : Entries) (n : Name) (i : Item) → look_up n entries ≡ Some i → Each P (named_in entries) → Each P (named_in_item i)
entry_named P End n i is h = absurd (let q : None ≡ Some i = is in cc)
entry_named P (More m j rest) n i is h = go (same_name m n) is (λ later. entry_named P rest n i later (each_second P (named_in_item j) (named_in rest) h))
  where
    go : (b : Bool) → cond b (Some j) (look_up n rest) ≡ Some i → (look_up n rest ≡ Some i → Each P (named_in_item i)) → Each P (named_in_item i)
    go true is' later = subst (λ z. Each P (named_in_item z)) (some_same j i is') (each_first P (named_in_item j) (named_in rest) h)
    go false is' later = later is'

path_named : (P : ℕ → Type 0) (path : List Name) (item : Item) (r : ℕ) → found_at path (Some item) ≡ Some (KindItem (ResourceKind r)) → Each P (named_in_item item) → P r
path_named P [] item r is h = let e : Each P (named_in_item (KindItem (ResourceKind r))) = subst (λ z. Each P (named_in_item z)) (some_same item (KindItem (ResourceKind r)) is) h in e.0
path_named P (n ∷ path) (FuncItem ty) r is h = absurd (none_found path (KindItem (ResourceKind r)) is)
path_named P (n ∷ path) (KindItem kind) r is h = absurd (none_found path (KindItem (ResourceKind r)) is)
path_named P (n ∷ path) (InstanceItem entries) r is h = go (look_up n entries) refl is (λ i. path_named P path i r)
  where
    go : (o : Option Item) → look_up n entries ≡ o → found_at path o ≡ Some (KindItem (ResourceKind r)) → ((i : Item) → found_at path (Some i) ≡ Some (KindItem (ResourceKind r)) → Each P (named_in_item i) → P r) → P r
    go None e is' later = absurd (none_found path (KindItem (ResourceKind r)) is')
    go (Some i) e is' later = later i is' (entry_named P entries n i e h)

pub brings_own : (c : NestedComponent) (r : ℕ) → Brings c r → IsOwn c r
brings_own c r (inl own) = inl own
brings_own c r (inr shown) = inr (path_named (λ x. is_among (named_in c.signature.imports) x ≡ true) shown.0 (InstanceItem c.signature.imports) r shown.1 (each_among (named_in c.signature.imports)))

each_filter : (P : ℕ → Type 0) (p : ℕ → Bool) (rs : List ℕ) → Each P rs → Each P (filter p rs)
each_filter P p [] h = tt
each_filter P p (x ∷ rs) h = go (p x) (each_filter P p rs h.1)
  where
    go : (b : Bool) → Each P (filter p rs) → Each P (cond b (x ∷ filter p rs) (filter p rs))
    go true later = (h.0, later)
    go false later = later

each_distinct : (P : ℕ → Type 0) (rs : List ℕ) → Each P rs → Each P (distinct rs)
each_distinct P [] h = tt
each_distinct P (x ∷ rs) h = (h.0, each_filter P (λ z. not (nat_eq z x)) (distinct rs) (each_distinct P rs h.1))

-- what is its own its exports name
pub nested_own : (P : ℕ → Type 0) (inner : Space) → Each P (named_in inner.exports) → Each P (nested_of inner).own
nested_own P inner h = each_filter P (λ z. not (is_among inner.imported z)) (distinct (named_in inner.exports)) (each_distinct P (named_in inner.exports) h)

-- ---- arguments are given for what imports name

no_keys : (A : Type 0) (xs : List (ℕ × ℕ)) (r : ℕ) → EachGives (λ z. ⊥) xs → IsBrought xs r → A
no_keys A [] r h b = absurd b
no_keys A (x ∷ xs) r h b = absurd h.0

resource_key : (P : ℕ → Type 0) (x : ℕ) (item : Item) (r : ℕ) → Each P (named_in_item item) → IsBrought (given_for (Some (KindItem (ResourceKind x))) item) r → P r
resource_key P x (FuncItem ty) r h b = absurd b
resource_key P x (InstanceItem entries) r h b = absurd b
resource_key P x (KindItem (ResourceKind y)) r h (inl same) = subst P same h.0
resource_key P x (KindItem (ResourceKind y)) r h (inr rest) = absurd rest
resource_key P x (KindItem (ValueKind ty)) r h b = absurd b
resource_key P x (KindItem (FuncKind ty)) r h b = absurd b
resource_key P x (KindItem (InstanceKind own entries)) r h b = absurd b

pub brought_either : (xs ys : List (ℕ × ℕ)) (r : ℕ) → IsBrought (xs ++ ys) r → IsBrought xs r ⊎ IsBrought ys r
brought_either [] ys r h = inr h
brought_either (x ∷ xs) ys r (inl same) = inl (inl same)
brought_either (x ∷ xs) ys r (inr rest) = go (brought_either xs ys r rest)
  where
    go : IsBrought xs r ⊎ IsBrought ys r → IsBrought (x ∷ xs) r ⊎ IsBrought ys r
    go (inl a) = inl (inr a)
    go (inr b) = inr b

pub either_way : (A B C : Type 0) → (A → C) → (B → C) → A ⊎ B → C
either_way A B C f g (inl a) = f a
either_way A B C f g (inr b) = g b

mutual
  pub key_named : (P : ℕ → Type 0) (args imports : Entries) (r : ℕ) → Each P (named_in imports) → IsBrought (given_by args imports) r → P r
  key_named P args End r h b = absurd b
  key_named P args (More name item rest) r h b =
      either_way (IsBrought (given_for (look_up name args) item) r) (IsBrought (given_by args rest) r) (P r)
      (λ x. item_key P (look_up name args) item r (each_first P (named_in_item item) (named_in rest) h) x) (λ x. key_named P args rest r (each_second P (named_in_item item) (named_in rest) h) x)
      (brought_either (given_for (look_up name args) item) (given_by args rest) r b)

  item_key : (P : ℕ → Type 0) (o : Option Item) (item : Item) (r : ℕ) → Each P (named_in_item item) → IsBrought (given_for o item) r → P r
  item_key P None item r h b = no_keys (P r) (given_for None item) r (nothing_gives (λ z. ⊥) item) b
  item_key P (Some (FuncItem ty)) item r h b = no_keys (P r) (given_for (Some (FuncItem ty)) item) r (func_gives (λ z. ⊥) ty item) b
  item_key P (Some (KindItem (ResourceKind x))) item r h b = resource_key P x item r h b
  item_key P (Some (KindItem (ValueKind ty))) item r h b = no_keys (P r) (given_for (Some (KindItem (ValueKind ty))) item) r (value_gives (λ z. ⊥) ty item) b
  item_key P (Some (KindItem (FuncKind ty))) item r h b = no_keys (P r) (given_for (Some (KindItem (FuncKind ty))) item) r (func_kind_gives (λ z. ⊥) ty item) b
  item_key P (Some (KindItem (InstanceKind own es))) item r h b = no_keys (P r) (given_for (Some (KindItem (InstanceKind own es))) item) r (instance_kind_gives (λ z. ⊥) own es item) b
  item_key P (Some (InstanceItem those)) (InstanceItem entries) r h b = key_named P those entries r h b
  item_key P (Some (InstanceItem those)) (FuncItem ty) r h b = absurd b
  item_key P (Some (InstanceItem those)) (KindItem (ResourceKind y)) r h b = absurd b
  item_key P (Some (InstanceItem those)) (KindItem (ValueKind ty)) r h b = absurd b
  item_key P (Some (InstanceItem those)) (KindItem (FuncKind ty)) r h b = absurd b
  item_key P (Some (InstanceItem those)) (KindItem (InstanceKind own entries)) r h b = absurd b
