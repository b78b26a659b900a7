-- What is of an item's sort and type is of those of each item that is equal, asked for in its place, or the same with other resources.
use Rattle.std.proofs.Common.{◌≡◌, ℕ, cond, Bool, true, false, Some, None, refl, sym, ◌∙◌, ap, subst}
use Rattle.wit_types.specs.Plain.{Name}
use Rattle.comp_types.specs.Items.{Item, Kind, Entries, FuncItem, InstanceItem, KindItem, ResourceKind, ValueKind, FuncKind, InstanceKind, End, More, same_name, look_up, and_entry}
use Rattle.comp_types.specs.Substitution.{item_with, kind_with, entries_with}
use Rattle.comp_types.specs.Equality.{IsSameItem, IsSameKind, HasEach}
use Rattle.comp_types.specs.Subtyping.{IsArgument, AreGiven}
use Rattle.comp_types.proofs.ValueLaws.{name-sound}
use Rattle.comp_types.specs.Rules.{is_resource}
use Rattle.comp_link.specs.Linking.{Given, Givens, GivenFunc, GivenInstance, GivenResource, GivenType, Nothing, Giving, find, and_given}
use Rattle.comp_link.specs.Exports.{Either, IsOf, Finds, AreExportsOf}
use Rattle.comp_link.proofs.Passing.{passing_same, passing_with}

pub some_same : {A : Type 0} → (x y : A) → Some x ≡ Some y → x ≡ y
some_same x y e = let q : x ≡ y = cc in q

-- each entry is found
abbrev pub Has : Givens → Entries → Type 0
Has items entries = (name : Name) (item : Item) → look_up name entries ≡ Some item → Finds items name item

-- ---- what is found

pub record Found (items : Givens) (name : Name) (item : Item) : Type 0 where
  pub given : Given
  pub there : find name items ≡ Some given
  pub fits : IsOf given item

found_or : (b : Bool) (given : Given) (rest : Givens) (name : Name) (item : Item) → Either b (IsOf given item) (Finds rest name item) → (Finds rest name item → Found rest name item)
    → (g : Given) × (cond b (Some given) (find name rest) ≡ Some g) × IsOf g item
found_or true given rest name item h later = (given, refl, h)
found_or false given rest name item h later = let f = later h in (f.given, f.there, f.fits)

pub found : (items : Givens) (name : Name) (item : Item) → Finds items name item → Found items name item
found Nothing name item h = absurd h
found (Giving n given rest) name item h =
    let f = found_or (same_name n name) given rest name item h (found rest name item) in
    record { given = f.0; there = f.1; fits = f.2 }

finds_or : (b : Bool) (given g : Given) (rest : Givens) (name : Name) (item : Item) → cond b (Some given) (find name rest) ≡ Some g → IsOf g item → (find name rest ≡ Some g → Finds rest name item)
    → Either b (IsOf given item) (Finds rest name item)
finds_or true given g rest name item is h later = subst (λ z. IsOf z item) (sym (some_same given g is)) h
finds_or false given g rest name item is h later = later is

pub finds : (items : Givens) (name : Name) (item : Item) (g : Given) → find name items ≡ Some g → IsOf g item → Finds items name item
finds Nothing name item g is h = absurd (let q : None ≡ Some g = is in cc)
finds (Giving n given rest) name item g is h = finds_or (same_name n name) given g rest name item is h (λ is'. finds rest name item g is' h)

either_then : (b : Bool) (A B C D : Type 0) → (A → C) → (B → D) → Either b A B → Either b C D
either_then true A B C D f g h = f h
either_then false A B C D f g h = g h

-- ---- items that are equal

module _ (Meets : ℕ → ℕ → Type 0) where
  pub same_resource : (other kind : Kind) → IsSameKind Meets other kind → is_resource other ≡ is_resource kind
  same_resource other (ResourceKind y) s = ap is_resource s.1
  same_resource other (ValueKind ty) s = ap is_resource s.1
  same_resource other (FuncKind ty) s = ap is_resource s.1
  same_resource other (InstanceKind own entries) s = ap is_resource s.2

  -- the partner of an entry
  abbrev Partner : Entries → Name → Item → Type 0
  Partner those name item = (other : Item) × (look_up name those ≡ Some other) × IsSameItem Meets other item

  each_found : (those entries : Entries) → HasEach Meets those entries → (name : Name) (item : Item) → look_up name entries ≡ Some item → Partner those name item
  each_found those End h name item is = absurd (let q : None ≡ Some item = is in cc)
  each_found those (More n i rest) h name item is = at_test (same_name n name) refl is (each_found those rest h.3 name item)
    where
      at_test : (b : Bool) → same_name n name ≡ b → cond b (Some i) (look_up name rest) ≡ Some item → (look_up name rest ≡ Some item → Partner those name item) → Partner those name item
      at_test true e is' later =
          let same : i ≡ item = some_same i item is' in
          (h.0, subst (λ z. look_up z those ≡ Some h.0) (name-sound n name e) h.1, subst (λ z. IsSameItem Meets h.0 z) same h.2)
      at_test false e is' later = later is'

  mutual
    pub is_of_same : (g : Given) (a b : Item) → IsOf g a → IsSameItem Meets a b → IsOf g b
    is_of_same (GivenFunc t) a (FuncItem ty) h s = subst (IsOf (GivenFunc t)) s.1 h ∙ passing_same Meets s.0 ty s.2
    is_of_same (GivenFunc t) a (InstanceItem entries) h s = subst (IsOf (GivenFunc t)) s.1 h
    is_of_same (GivenFunc t) a (KindItem kind) h s = subst (IsOf (GivenFunc t)) s.1 h
    is_of_same (GivenInstance items) a (FuncItem ty) h s = subst (IsOf (GivenInstance items)) s.1 h
    is_of_same (GivenInstance items) a (InstanceItem entries) h s =
        let has : Has items s.0 = subst (IsOf (GivenInstance items)) s.1 h in
        λ name item is. let p = each_found s.0 entries s.2 name item is in finds_same items name p.0 item (has name p.0 p.1) p.2
    is_of_same (GivenInstance items) a (KindItem kind) h s = subst (IsOf (GivenInstance items)) s.1 h
    is_of_same (GivenResource r) a (FuncItem ty) h s = subst (IsOf (GivenResource r)) s.1 h
    is_of_same (GivenResource r) a (InstanceItem entries) h s = subst (IsOf (GivenResource r)) s.1 h
    is_of_same (GivenResource r) a (KindItem kind) h s = sym (same_resource s.0 kind s.2) ∙ subst (IsOf (GivenResource r)) s.1 h
    is_of_same GivenType a (FuncItem ty) h s = subst (IsOf GivenType) s.1 h
    is_of_same GivenType a (InstanceItem entries) h s = subst (IsOf GivenType) s.1 h
    is_of_same GivenType a (KindItem kind) h s = sym (same_resource s.0 kind s.2) ∙ subst (IsOf GivenType) s.1 h

    finds_same : (items : Givens) (name : Name) (a b : Item) → Finds items name a → IsSameItem Meets a b → Finds items name b
    finds_same Nothing name a b h s = h
    finds_same (Giving n g rest) name a b h s =
        either_then (same_name n name) (IsOf g a) (Finds rest name a) (IsOf g b) (Finds rest name b) (λ x. is_of_same g a b x s) (λ x. finds_same rest name a b x s) h

  pub has_each : (items : Givens) (those entries : Entries) → HasEach Meets those entries → Has items those → Has items entries
  has_each items those entries s h name item is = let p = each_found those entries s name item is in finds_same items name p.0 item (h name p.0 p.1) p.2

  -- ---- arguments

  argument_of : (g : Given) (a b : Item) → IsOf g a → IsArgument Meets a b → IsOf g b
  argument_of g a (FuncItem ty) h s = is_of_same g a (FuncItem ty) h s
  argument_of (GivenInstance items) a (InstanceItem entries) h s = has_each items s.0 entries s.2 (subst (IsOf (GivenInstance items)) s.1 h)
  argument_of (GivenFunc t) a (InstanceItem entries) h s = subst (IsOf (GivenFunc t)) s.1 h
  argument_of (GivenResource r) a (InstanceItem entries) h s = subst (IsOf (GivenResource r)) s.1 h
  argument_of GivenType a (InstanceItem entries) h s = subst (IsOf GivenType) s.1 h
  argument_of g a (KindItem kind) h s = is_of_same g a (KindItem kind) h s

  -- where arguments are given for the imports, each import is found among them
  pub has_given : (items : Givens) (args imports : Entries) → AreGiven Meets args imports → Has items args → Has items imports
  has_given items args End s h name item is = absurd (let q : None ≡ Some item = is in cc)
  has_given items args (More n i rest) s h name item is = at_test (same_name n name) refl is (has_given items args rest s.3 h name item)
    where
      at_test : (b : Bool) → same_name n name ≡ b → cond b (Some i) (look_up name rest) ≡ Some item → (look_up name rest ≡ Some item → Finds items name item) → Finds items name item
      at_test true e is' later =
          let same : i ≡ item = some_same i item is' in
          let f = found items n s.0 (h n s.0 s.1) in
          let there : find name items ≡ Some f.given = subst (λ z. find z items ≡ Some f.given) (name-sound n name e) f.there in
          finds items name item f.given there (subst (IsOf f.given) same (argument_of f.given s.0 i f.fits s.2))
      at_test false e is' later = later is'

-- ---- other numbers of resources

module _ (f : ℕ → ℕ) where
  with_resource : (kind : Kind) → is_resource (kind_with f kind) ≡ is_resource kind
  with_resource (ResourceKind r) = refl
  with_resource (ValueKind ty) = refl
  with_resource (FuncKind ty) = refl
  with_resource (InstanceKind own entries) = refl

  abbrev Before : Entries → Name → Item → Type 0
  Before entries name item = (old : Item) × (look_up name entries ≡ Some old) × (item_with f old ≡ item)

  was_there : (entries : Entries) (name : Name) (item : Item) → look_up name (entries_with f entries) ≡ Some item → Before entries name item
  was_there End name item is = absurd (let q : None ≡ Some item = is in cc)
  was_there (More n i rest) name item is = at_test (same_name n name) is (was_there rest name item)
    where
      at_test : (b : Bool) → cond b (Some (item_with f i)) (look_up name (entries_with f rest)) ≡ Some item → (look_up name (entries_with f rest) ≡ Some item → Before rest name item)
          → (old : Item) × (cond b (Some i) (look_up name rest) ≡ Some old) × (item_with f old ≡ item)
      at_test true is' later = (i, refl, some_same (item_with f i) item is')
      at_test false is' later = later is'

  mutual
    pub is_of_with : (g : Given) (item : Item) → IsOf g item → IsOf g (item_with f item)
    is_of_with (GivenFunc t) (FuncItem ty) h = h ∙ sym (passing_with f ty)
    is_of_with (GivenFunc t) (InstanceItem entries) h = h
    is_of_with (GivenFunc t) (KindItem kind) h = h
    is_of_with (GivenInstance items) (FuncItem ty) h = h
    is_of_with (GivenInstance items) (InstanceItem entries) h = λ name item is. let b = was_there entries name item is in subst (Finds items name) b.2 (finds_with items name b.0 (h name b.0 b.1))
    is_of_with (GivenInstance items) (KindItem kind) h = h
    is_of_with (GivenResource r) (FuncItem ty) h = h
    is_of_with (GivenResource r) (InstanceItem entries) h = h
    is_of_with (GivenResource r) (KindItem kind) h = with_resource kind ∙ h
    is_of_with GivenType (FuncItem ty) h = h
    is_of_with GivenType (InstanceItem entries) h = h
    is_of_with GivenType (KindItem kind) h = with_resource kind ∙ h

    finds_with : (items : Givens) (name : Name) (item : Item) → Finds items name item → Finds items name (item_with f item)
    finds_with Nothing name item h = h
    finds_with (Giving n g rest) name item h =
        either_then (same_name n name) (IsOf g item) (Finds rest name item) (IsOf g (item_with f item)) (Finds rest name (item_with f item)) (is_of_with g item) (finds_with rest name item) h

  pub has_with : (items : Givens) (entries : Entries) → Has items entries → Has items (entries_with f entries)
  has_with items entries h = is_of_with (GivenInstance items) (InstanceItem entries) h

-- ---- exports name by name

pub has_exports : (items : Givens) (entries : Entries) → AreExportsOf entries items → Has items entries
has_exports Nothing End h name item is = absurd (let q : None ≡ Some item = is in cc)
has_exports (Giving n g rest) End h name item is = absurd h
has_exports Nothing (More m i entries) h name item is = absurd h
has_exports (Giving n g rest) (More m i entries) h name item is = at_test (same_name n name) (subst (λ z. cond (same_name z name) (Some i) (look_up name entries) ≡ Some item) (sym h.0) is) (has_exports rest entries h.2 name item)
  where
    at_test : (b : Bool) → cond b (Some i) (look_up name entries) ≡ Some item → (look_up name entries ≡ Some item → Finds rest name item) → Either b (IsOf g item) (Finds rest name item)
    at_test true is' later = subst (IsOf g) (some_same i item is') h.1
    at_test false is' later = later is'

-- one more
pub exports_and : (items : Givens) (entries : Entries) (name : Name) (g : Given) (item : Item) → AreExportsOf entries items → IsOf g item → AreExportsOf (and_entry entries name item) (and_given items name g)
exports_and Nothing End name g item h fits = (refl, fits, tt)
exports_and (Giving n i rest) End name g item h fits = absurd h
exports_and Nothing (More m j entries) name g item h fits = absurd h
exports_and (Giving n i rest) (More m j entries) name g item h fits = (h.0, h.1, exports_and rest entries name g item h.2 fits)
