-- What an instantiated component exports names what is known: what arguments give for its imports, and its own resources by new numbers.
use Rattle.std.proofs.Common.{◌≡◌, ◌⊎◌, inl, inr, ℕ, nat_eq, cond, List, [], ◌∷◌, ◌++◌, Bool, true, false, Option, Some, None, refl, sym, ◌∙◌, ap, subst}
use Rattle.std.proofs.lemmas.Bool.{eqb-true, eqb-false}
use Rattle.wit_types.specs.Plain.{Name, Plain, PlainFunc}
use Rattle.comp_types.specs.Items.{Item, Entries, FuncItem, InstanceItem, KindItem, ResourceKind, ValueKind, FuncKind, InstanceKind, End, More, same_name, look_up}
use Rattle.comp_types.specs.Substitution.{partner_in}
use Rattle.comp_types.specs.Equality.{IsSameItem, HasEach}
use Rattle.comp_types.specs.Subtyping.{IsArgument, AreGiven}
use Rattle.comp_types.proofs.ValueLaws.{name-sound}
use Rattle.comp_types.specs.GivenResources.{given_by, given_for}
use Rattle.comp_inside.specs.Linked.{IsBrought}
use Rattle.comp_link.proofs.Shapes.{some_same}
use Rattle.comp_joins.proofs.Shown.{found_at, Shown, none_found, brought_first, brought_second}
use Rattle.comp_joins.proofs.Names.{ItemNames, AllName}
use Rattle.comp_joins.proofs.Described.{IfSome}

-- P holds of the second of each pair
abbrev pub EachGives : (ℕ → Type 0) → List (ℕ × ℕ) → Type 0
EachGives P [] = Unit {0}
EachGives P (p ∷ pairs) = P p.1 × EachGives P pairs

pub gives_both : (P : ℕ → Type 0) (xs ys : List (ℕ × ℕ)) → EachGives P xs → EachGives P ys → EachGives P (xs ++ ys)
gives_both P [] ys h k = k
gives_both P (x ∷ xs) ys h k = (h.0, gives_both P xs ys h.1 k)

-- of what has a partner the partner is one of these
pub partner_gives : (P : ℕ → Type 0) (xs ys : List (ℕ × ℕ)) (r : ℕ) → IsBrought xs r → EachGives P xs → P (partner_in (xs ++ ys) r)
partner_gives P [] ys r h k = absurd h
partner_gives P (x ∷ xs) ys r h k = go (nat_eq x.0 r) refl h (λ rest. partner_gives P xs ys r rest k.1)
  where
    go : (b : Bool) → nat_eq x.0 r ≡ b → (x.0 ≡ r) ⊎ IsBrought xs r → (IsBrought xs r → P (partner_in (xs ++ ys) r)) → P (cond b x.1 (partner_in (xs ++ ys) r))
    go true e either later = k.0
    go false e (inl same) later = absurd (eqb-false x.0 r e same)
    go false e (inr rest) later = later rest

-- and of what has none, it is the one in the pairs after
pub partner_or : (P : ℕ → Type 0) (xs ys : List (ℕ × ℕ)) (r : ℕ) → EachGives P xs → P (partner_in ys r) → P (partner_in (xs ++ ys) r)
partner_or P [] ys r k h = h
partner_or P (x ∷ xs) ys r k h = go (nat_eq x.0 r) (partner_or P xs ys r k.1 h)
  where
    go : (b : Bool) → P (partner_in (xs ++ ys) r) → P (cond b x.1 (partner_in (xs ++ ys) r))
    go true later = k.0
    go false later = later

pub partner_apart : (xs ys : List (ℕ × ℕ)) (r : ℕ) → (IsBrought xs r → ⊥) → partner_in ys r ≡ r → partner_in (xs ++ ys) r ≡ r
partner_apart [] ys r none same = same
partner_apart (x ∷ xs) ys r none same = go (nat_eq x.0 r) refl (partner_apart xs ys r (λ b. none (inr b)) same)
  where
    go : (b : Bool) → nat_eq x.0 r ≡ b → partner_in (xs ++ ys) r ≡ r → cond b x.1 (partner_in (xs ++ ys) r) ≡ r
    go true e later = absurd (none (inl (eqb-true x.0 r e)))
    go false e later = later

-- ---- what arguments give

pub found_names : (P : ℕ → Type 0) (n : ℕ) (args : Entries) (name : Name) → AllName P n args → IfSome (ItemNames P n) (look_up name args)
found_names P n End name h = tt
found_names P n (More m i rest) name h = go (same_name m name) (found_names P n rest name h.1)
  where
    go : (b : Bool) → IfSome (ItemNames P n) (look_up name rest) → IfSome (ItemNames P n) (cond b (Some i) (look_up name rest))
    go true later = h.0
    go false later = later

resource_gives : (P : ℕ → Type 0) (x : ℕ) (item : Item) → P x → EachGives P (given_for (Some (KindItem (ResourceKind x))) item)
resource_gives P x (FuncItem ty) h = tt
resource_gives P x (InstanceItem entries) h = tt
resource_gives P x (KindItem (ResourceKind y)) h = (h, tt)
resource_gives P x (KindItem (ValueKind ty)) h = tt
resource_gives P x (KindItem (FuncKind ty)) h = tt
resource_gives P x (KindItem (InstanceKind own entries)) h = tt

pub func_gives : (P : ℕ → Type 0) (ty : PlainFunc) (item : Item) → EachGives P (given_for (Some (FuncItem ty)) item)
func_gives P ty (FuncItem ty') = tt
func_gives P ty (InstanceItem entries) = tt
func_gives P ty (KindItem (ResourceKind y)) = tt
func_gives P ty (KindItem (ValueKind ty')) = tt
func_gives P ty (KindItem (FuncKind ty')) = tt
func_gives P ty (KindItem (InstanceKind own entries)) = tt

pub value_gives : (P : ℕ → Type 0) (ty : Plain) (item : Item) → EachGives P (given_for (Some (KindItem (ValueKind ty))) item)
value_gives P ty (FuncItem ty') = tt
value_gives P ty (InstanceItem entries) = tt
value_gives P ty (KindItem (ResourceKind y)) = tt
value_gives P ty (KindItem (ValueKind ty')) = tt
value_gives P ty (KindItem (FuncKind ty')) = tt
value_gives P ty (KindItem (InstanceKind own entries)) = tt

pub func_kind_gives : (P : ℕ → Type 0) (ty : PlainFunc) (item : Item) → EachGives P (given_for (Some (KindItem (FuncKind ty))) item)
func_kind_gives P ty (FuncItem ty') = tt
func_kind_gives P ty (InstanceItem entries) = tt
func_kind_gives P ty (KindItem (ResourceKind y)) = tt
func_kind_gives P ty (KindItem (ValueKind ty')) = tt
func_kind_gives P ty (KindItem (FuncKind ty')) = tt
func_kind_gives P ty (KindItem (InstanceKind own entries)) = tt

pub instance_kind_gives : (P : ℕ → Type 0) (own : List ℕ) (es : Entries) (item : Item) → EachGives P (given_for (Some (KindItem (InstanceKind own es))) item)
instance_kind_gives P own es (FuncItem ty') = tt
instance_kind_gives P own es (InstanceItem entries) = tt
instance_kind_gives P own es (KindItem (ResourceKind y)) = tt
instance_kind_gives P own es (KindItem (ValueKind ty')) = tt
instance_kind_gives P own es (KindItem (FuncKind ty')) = tt
instance_kind_gives P own es (KindItem (InstanceKind own' entries)) = tt

pub nothing_gives : (P : ℕ → Type 0) (item : Item) → EachGives P (given_for None item)
nothing_gives P (FuncItem ty') = tt
nothing_gives P (InstanceItem entries) = tt
nothing_gives P (KindItem (ResourceKind y)) = tt
nothing_gives P (KindItem (ValueKind ty')) = tt
nothing_gives P (KindItem (FuncKind ty')) = tt
nothing_gives P (KindItem (InstanceKind own entries)) = tt

mutual
  -- what is given is named by the arguments
  pub args_give : (P : ℕ → Type 0) (n : ℕ) (args imports : Entries) → AllName P n args → EachGives P (given_by args imports)
  args_give P n args End h = tt
  args_give P n args (More name item rest) h =
      gives_both P (given_for (look_up name args) item) (given_by args rest) (arg_gives P n (look_up name args) item (found_names P n args name h)) (args_give P n args rest h)

  arg_gives : (P : ℕ → Type 0) (n : ℕ) (o : Option Item) (item : Item) → IfSome (ItemNames P n) o → EachGives P (given_for o item)
  arg_gives P n None item h = nothing_gives P item
  arg_gives P n (Some (FuncItem ty)) item h = func_gives P ty item
  arg_gives P n (Some (KindItem (ResourceKind x))) item h = resource_gives P x item h
  arg_gives P n (Some (KindItem (ValueKind ty))) item h = value_gives P ty item
  arg_gives P n (Some (KindItem (FuncKind ty))) item h = func_kind_gives P ty item
  arg_gives P n (Some (KindItem (InstanceKind own es))) item h = instance_kind_gives P own es item
  arg_gives P n (Some (InstanceItem those)) (InstanceItem entries) h = args_give P n those entries h
  arg_gives P n (Some (InstanceItem those)) (FuncItem ty) h = tt
  arg_gives P n (Some (InstanceItem those)) (KindItem (ResourceKind y)) h = tt
  arg_gives P n (Some (InstanceItem those)) (KindItem (ValueKind ty)) h = tt
  arg_gives P n (Some (InstanceItem those)) (KindItem (FuncKind ty)) h = tt
  arg_gives P n (Some (InstanceItem those)) (KindItem (InstanceKind own entries)) h = tt

-- ---- each resource that stands in the imports is given

module _ (Meets : ℕ → ℕ → Type 0) where
  entry_gives : (args entries : Entries) (n : Name) (i : Item) (r : ℕ) → look_up n entries ≡ Some i → IsBrought (given_for (look_up n args) i) r → IsBrought (given_by args entries) r
  entry_gives args End n i r is h = absurd (let q : None ≡ Some i = is in cc)
  entry_gives args (More m j rest) n i r is h = at_test (same_name m n) refl is (entry_gives args rest n i r)
    where
      at_test : (b : Bool) → same_name m n ≡ b → cond b (Some j) (look_up n rest) ≡ Some i → (look_up n rest ≡ Some i → IsBrought (given_for (look_up n args) i) r → IsBrought (given_by args rest) r)
          → IsBrought (given_for (look_up m args) j ++ given_by args rest) r
      at_test true e is' later =
          let here : IsBrought (given_for (look_up n args) j) r = subst (λ z. IsBrought (given_for (look_up n args) z) r) (sym (some_same j i is')) h in
          brought_first (given_for (look_up m args) j) (given_by args rest) r (subst (λ z. IsBrought (given_for (look_up z args) j) r) (sym (name-sound m n e)) here)
      at_test false e is' later = brought_second (given_for (look_up m args) j) (given_by args rest) r (later is' h)

  -- an equal entry of the second
  abbrev Same : Entries → Name → Item → Type 0
  Same those name item = (other : Item) × (look_up name those ≡ Some other) × IsSameItem Meets other item

  each_same : (those entries : Entries) → HasEach Meets those entries → (name : Name) (item : Item) → look_up name entries ≡ Some item → Same those name item
  each_same those End h name item is = absurd (let q : None ≡ Some item = is in cc)
  each_same those (More n i rest) h name item is = at_test (same_name n name) refl is (each_same those rest h.3 name item)
    where
      at_test : (b : Bool) → same_name n name ≡ b → cond b (Some i) (look_up name rest) ≡ Some item → (look_up name rest ≡ Some item → Same those name item) → Same those name item
      at_test true e is' later = (h.0, subst (λ z. look_up z those ≡ Some h.0) (name-sound n name e) h.1, subst (λ z. IsSameItem Meets h.0 z) (some_same i item is') h.2)
      at_test false e is' later = later is'

  each_gives : (n : Name) (path : List Name) (those entries : Entries) (r : ℕ) → HasEach Meets those entries → found_at path (look_up n entries) ≡ Some (KindItem (ResourceKind r))
      → ((other item : Item) (r' : ℕ) → IsSameItem Meets other item → found_at path (Some item) ≡ Some (KindItem (ResourceKind r')) → IsBrought (given_for (Some other) item) r') → IsBrought (given_by those entries) r
  each_gives n path those entries r h is later = go (look_up n entries) refl is
    where
      go : (o : Option Item) → look_up n entries ≡ o → found_at path o ≡ Some (KindItem (ResourceKind r)) → IsBrought (given_by those entries) r
      go None e is' = absurd (none_found path (KindItem (ResourceKind r)) is')
      go (Some i) e is' =
          let other = each_same those entries h n i e in
          entry_gives those entries n i r e (subst (λ z. IsBrought (given_for z i) r) (sym other.1) (later other.0 i r other.2 is'))

  -- what stands in an item stands in one that is equal, at the same path
  same_gives : (path : List Name) (other item : Item) (r : ℕ) → IsSameItem Meets other item → found_at path (Some item) ≡ Some (KindItem (ResourceKind r)) → IsBrought (given_for (Some other) item) r
  same_gives [] other item r h is =
      let same : item ≡ KindItem (ResourceKind r) = some_same item (KindItem (ResourceKind r)) is in
      let at : IsSameItem Meets other (KindItem (ResourceKind r)) = subst (IsSameItem Meets other) same h in
      let kind : other ≡ KindItem (ResourceKind at.2.0) = at.1 ∙ ap KindItem at.2.1 in
      subst (λ z. IsBrought (given_for (Some other) z) r) (sym same) (subst (λ z. IsBrought (given_for (Some z) (KindItem (ResourceKind r))) r) (sym kind) (inl refl))
  same_gives (n ∷ path) other (FuncItem ty) r h is = absurd (none_found path (KindItem (ResourceKind r)) is)
  same_gives (n ∷ path) other (KindItem kind) r h is = absurd (none_found path (KindItem (ResourceKind r)) is)
  same_gives (n ∷ path) other (InstanceItem entries) r h is =
      subst (λ z. IsBrought (given_for (Some z) (InstanceItem entries)) r) (sym h.1) (each_gives n path h.0 entries r h.2 is (same_gives path))

  arg_given : (path : List Name) (other item : Item) (r : ℕ) → IsArgument Meets other item → found_at path (Some item) ≡ Some (KindItem (ResourceKind r)) → IsBrought (given_for (Some other) item) r
  arg_given path other (FuncItem ty) r h is = same_gives path other (FuncItem ty) r h is
  arg_given path other (KindItem kind) r h is = same_gives path other (KindItem kind) r h is
  arg_given [] other (InstanceItem entries) r h is = absurd (let q : Some (InstanceItem entries) ≡ Some (KindItem (ResourceKind r)) = is in cc)
  arg_given (n ∷ path) other (InstanceItem entries) r h is = subst (λ z. IsBrought (given_for (Some z) (InstanceItem entries)) r) (sym h.1) (each_gives n path h.0 entries r h.2 is (same_gives path))

  -- an argument for an import
  abbrev Argument : Entries → Name → Item → Type 0
  Argument args name item = (other : Item) × (look_up name args ≡ Some other) × IsArgument Meets other item

  each_argument : (args imports : Entries) → AreGiven Meets args imports → (name : Name) (item : Item) → look_up name imports ≡ Some item → Argument args name item
  each_argument args End h name item is = absurd (let q : None ≡ Some item = is in cc)
  each_argument args (More n i rest) h name item is = at_test (same_name n name) refl is (each_argument args rest h.3 name item)
    where
      at_test : (b : Bool) → same_name n name ≡ b → cond b (Some i) (look_up name rest) ≡ Some item → (look_up name rest ≡ Some item → Argument args name item) → Argument args name item
      at_test true e is' later = (h.0, subst (λ z. look_up z args ≡ Some h.0) (name-sound n name e) h.1, subst (λ z. IsArgument Meets h.0 z) (some_same i item is') h.2)
      at_test false e is' later = later is'

  pub imports_given : (args imports : Entries) (r : ℕ) → AreGiven Meets args imports → Shown (InstanceItem imports) r → IsBrought (given_by args imports) r
  imports_given args imports r h ([], is) = absurd (let q : Some (InstanceItem imports) ≡ Some (KindItem (ResourceKind r)) = is in cc)
  imports_given args imports r h ((n ∷ path), is) = go (look_up n imports) refl is
    where
      go : (o : Option Item) → look_up n imports ≡ o → found_at path o ≡ Some (KindItem (ResourceKind r)) → IsBrought (given_by args imports) r
      go None e is' = absurd (none_found path (KindItem (ResourceKind r)) is')
      go (Some i) e is' =
          let other = each_argument args imports h n i e in
          entry_gives args imports n i r e (subst (λ z. IsBrought (given_for z i) r) (sym other.1) (arg_given path other.0 i r other.2 is'))
