-- Aliases of an instance's exports, and exports of these under the same names.
use Rattle.std.proofs.Common.{◌≡◌, ◌⊎◌, inl, inr, ℕ, zero, suc, ◌+◌, cond, List, [], ◌∷◌, ◌++◌, length, map, Option, Some, None, Bool, true, false, refl, sym, ◌∙◌, ap, subst, arith, append_assoc, append-nil}
use Rattle.std.specs.Prelude.{slice_get}
use Rattle.std.specs.Option.{option_map, option_and_then}
use Rattle.wasm_ast.specs.declared.component.Sort.{Sort}
use Rattle.wasm_ast.specs.declared.component.Sort.TheVariants as sorts
use Rattle.wit_types.specs.Plain.{Name}
use Rattle.comp_types.specs.Items.{same_name}
use Rattle.comp_types.specs.Substitution.{partner_in}
use Rattle.comp_types.proofs.ValueLaws.{name-sound, name-same}
use Rattle.comp_types.specs.Definitions.{AnAlias, AnExport}
use Rattle.comp_types.specs.Spaces.{Space, kind_at}
use Rattle.comp_types.specs.Types.{resource_in}
use Rattle.comp_types.specs.Added.{after}
use Rattle.comp_worlds.specs.Groups.{Target}
use Rattle.comp_link.specs.Plans.{Named, AFunc, AnInstanceAt, Scope, Plan, End, Then, ItemOf, Exports, named_by, resource_or_type, plan_all}
use Rattle.comp_link.specs.Linking.{Given, Givens, GivenFunc, GivenInstance, GivenResource, GivenType, Nothing, Giving, find, and_given, Making, given_at, and_item, item_in, and_export, link_item, link, target_in, instance_in, exported}
use Rattle.comp_inside.specs.Wrapping.{Handed, alias_at, exports_from, is_of_sort, AreThere, IsNamed, AreExports}

-- ---- what can be called: functions, and instances with them

abbrev pub callable : Given → Option Given
callable (GivenFunc target) = Some (GivenFunc target)
callable (GivenInstance items) = Some (GivenInstance items)
callable (GivenResource r) = None
callable GivenType = None

abbrev pub can_call : Option Given → Option Given
can_call o = option_and_then callable o

-- ---- lists of what is given

abbrev pub appended : Givens → Givens → Givens
appended Nothing gs = gs
appended (Giving name item rest) gs = Giving name item (appended rest gs)

appended_twice : (es : Givens) (name : Name) (item : Given) (gs : Givens) → appended (and_given es name item) gs ≡ appended es (Giving name item gs)
appended_twice Nothing name item gs = refl
appended_twice (Giving n i rest) name item gs = ap (Giving n i) (appended_twice rest name item gs)

-- ---- lists with more after

slice_within : {A : Type 0} → (xs ys : List A) (k : ℕ) (x : A) → slice_get xs k ≡ Some x → slice_get (xs ++ ys) k ≡ Some x
slice_within [] ys k x is = absurd (let q : None ≡ Some x = is in cc)
slice_within (y ∷ xs) ys zero x is = is
slice_within (y ∷ xs) ys (suc k) x is = slice_within xs ys k x is

slice_seam : {A : Type 0} → (xs : List A) (x : A) (ys : List A) → slice_get (xs ++ x ∷ ys) (length xs) ≡ Some x
slice_seam [] x ys = refl
slice_seam (y ∷ xs) x ys = slice_seam xs x ys

length_more : {A : Type 0} → (xs : List A) (x : A) → length (xs ++ x ∷ []) ≡ length xs + 1
length_more [] x = refl
length_more (y ∷ xs) x = let e : length (xs ++ x ∷ []) ≡ length xs + 1 = length_more xs x in omega (arith, e)

-- ---- the plans

-- aliases of the instance at this index
abbrev pub items_at : ℕ → List Handed → Plan
items_at k [] = End
items_at k (e ∷ es) = Then (ItemOf e.sort k e.name) (items_at k es)

pub aliases_plan : (k : ℕ) (s : Space) (scope : Scope) (es : List Handed) → (plan_all [] [] s scope (map AnAlias (map (alias_at k) es))).plan ≡ items_at k es
aliases_plan k s scope [] = refl
aliases_plan k s scope (e ∷ es) = ap (Then (ItemOf e.sort k e.name)) (aliases_plan k (after [] s (AnAlias (alias_at k e))) scope es)

pub aliases_scope : (k : ℕ) (s : Space) (scope : Scope) (es : List Handed) → (plan_all [] [] s scope (map AnAlias (map (alias_at k) es))).scope ≡ scope
aliases_scope k s scope [] = refl
aliases_scope k s scope (e ∷ es) = aliases_scope k (after [] s (AnAlias (alias_at k e))) scope es

-- each item of the one list is there in the other
abbrev Keeps : {A : Type 0} → List A → List A → Type 0
Keeps {A} xs ys = (k : ℕ) (x : A) → slice_get xs k ≡ Some x → slice_get ys k ≡ Some x

keeps_all : {A : Type 0} → (xs : List A) → Keeps xs xs
keeps_all xs k x is = is

keeps_more : {A : Type 0} → (xs ys : List A) → Keeps xs (xs ++ ys)
keeps_more xs ys k x is = slice_within xs ys k x is

-- X: what the first instance exports. The alias stands at its index, and the rest after it.
abbrev pub AtSort : Givens → List (Option Target) → List Givens → (ℕ → ℕ → Type 0) → ℕ → ℕ → Name → Sort → Type 0
AtSort X fs is rest f i name sorts.Func = ((t : Target) × (find name X ≡ Some (GivenFunc t)) × (slice_get fs f ≡ Some (Some t))) × rest (f + 1) i
AtSort X fs is rest f i name sorts.Instance = ((items : Givens) × (find name X ≡ Some (GivenInstance items)) × (slice_get is i ≡ Some items)) × rest f (i + 1)
AtSort X fs is rest f i name sorts.Type = (can_call (find name X) ≡ None) × rest f i

-- these aliases stand at these indexes
abbrev pub At : Givens → List (Option Target) → List Givens → List Handed → ℕ → ℕ → Type 0
At X fs is [] f i = Unit {0}
At X fs is (e ∷ es) f i = AtSort X fs is (λ f' i'. At X fs is es f' i') f i e.name e.sort

-- the aliases, as they are made
pub record Aliased (X : Givens) (m m' : Making) : Type 0 where
  pub whole : m'.whole ≡ m.whole
  pub exports : m'.exports ≡ m.exports
  pub functions : (fs : List (Option Target)) × (m'.functions ≡ m.functions ++ fs)
  pub instances : (is : List Givens) × (m'.instances ≡ m.instances ++ is)

-- these exports have the names of those of X, and can be called alike
abbrev pub Shows : Givens → List Handed → Givens → Type 0
Shows X [] Nothing = Unit {0}
Shows X [] (Giving n item rest) = ⊥
Shows X (e ∷ es) Nothing = ⊥
Shows X (e ∷ es) (Giving n item rest) = (n ≡ e.name) × (callable item ≡ can_call (find e.name X)) × Shows X es rest

pub record Exported (m m' : Making) (gs : Givens) : Type 0 where
  pub whole : m'.whole ≡ m.whole
  pub exports : m'.exports ≡ appended m.exports gs

module _ (X : Givens) where
  at_sort : (fs fs' : List (Option Target)) (is is' : List Givens) (rest rest' : ℕ → ℕ → Type 0) → Keeps fs fs' → Keeps is is' → ((f i : ℕ) → rest f i → rest' f i) → (f i : ℕ) (name : Name) (sort : Sort) → AtSort X fs is rest f i name sort → AtSort X fs' is' rest' f i name sort
  at_sort fs fs' is is' rest rest' kf ki more f i name sorts.Func k = ((k.0.0, k.0.1, kf f (Some k.0.0) k.0.2), more (f + 1) i k.1)
  at_sort fs fs' is is' rest rest' kf ki more f i name sorts.Instance k = ((k.0.0, k.0.1, ki i k.0.0 k.0.2), more f (i + 1) k.1)
  at_sort fs fs' is is' rest rest' kf ki more f i name sorts.Type k = (k.0, more f i k.1)

  at_more : (fs fs' : List (Option Target)) (is is' : List Givens) → Keeps fs fs' → Keeps is is' → (es : List Handed) (f i : ℕ) → At X fs is es f i → At X fs' is' es f i
  at_more fs fs' is is' kf ki [] f i h = tt
  at_more fs fs' is is' kf ki (e ∷ es) f i h = at_sort fs fs' is is' (λ f' i'. At X fs is es f' i') (λ f' i'. At X fs' is' es f' i') kf ki (λ f' i' k. at_more fs fs' is is' kf ki es f' i' k) f i e.name e.sort h

  one_alias : (k : ℕ) (m : Making) (name : Name) (sort : Sort) → slice_get m.instances k ≡ Some X → (item : Given) → find name X ≡ Some item → link_item (ItemOf sort k name) m ≡ and_item m (Some item)
  one_alias k m name sort first item is = ap (λ z. and_item m (item_in z name)) first ∙ ap (and_item m) is

  abbrev pub All : List Handed → Making → Making → Type 0
  All es m m' = Aliased X m m' × At X m'.functions m'.instances es (length m.functions) (length m.instances)

  func_then : (k : ℕ) (name : Name) (es : List Handed) (t : Target) (m : Making) → find name X ≡ Some (GivenFunc t) → All es (and_item m (Some (GivenFunc t))) (link (items_at k es) (and_item m (Some (GivenFunc t)))) → All (record { name = name; sort = sorts.Func } ∷ es) m (link (items_at k es) (and_item m (Some (GivenFunc t))))
  func_then k name es t m is r =
      let m' : Making = link (items_at k es) (and_item m (Some (GivenFunc t))) in
      let end : m'.functions ≡ m.functions ++ (Some t ∷ r.0.functions.0) = r.0.functions.1 ∙ append_assoc m.functions (Some t ∷ []) r.0.functions.0 in (
        record { whole = r.0.whole; exports = r.0.exports; functions = (Some t ∷ r.0.functions.0, end); instances = r.0.instances },
        (
          (t, is, subst (λ z. slice_get z (length m.functions) ≡ Some (Some t)) (sym end) (slice_seam m.functions (Some t) r.0.functions.0)),
          subst (λ z. At X m'.functions m'.instances es z (length m.instances)) (length_more m.functions (Some t)) r.1,
        ),
      )

  instance_then : (k : ℕ) (name : Name) (es : List Handed) (items : Givens) (m : Making) → find name X ≡ Some (GivenInstance items) → All es (and_item m (Some (GivenInstance items))) (link (items_at k es) (and_item m (Some (GivenInstance items)))) → All (record { name = name; sort = sorts.Instance } ∷ es) m (link (items_at k es) (and_item m (Some (GivenInstance items))))
  instance_then k name es items m is r =
      let m' : Making = link (items_at k es) (and_item m (Some (GivenInstance items))) in
      let end : m'.instances ≡ m.instances ++ (items ∷ r.0.instances.0) = r.0.instances.1 ∙ append_assoc m.instances (items ∷ []) r.0.instances.0 in (
        record { whole = r.0.whole; exports = r.0.exports; functions = r.0.functions; instances = (items ∷ r.0.instances.0, end) },
        (
          (items, is, subst (λ z. slice_get z (length m.instances) ≡ Some items) (sym end) (slice_seam m.instances items r.0.instances.0)),
          subst (λ z. At X m'.functions m'.instances es (length m.functions) z) (length_more m.instances items) r.1,
        ),
      )

  -- what is to come is aliased after whatever is there
  abbrev Later : ℕ → List Handed → Type 0
  Later k es = (m : Making) → slice_get m.instances k ≡ Some X → All es m (link (items_at k es) m)

  alias_sort : (k : ℕ) (name : Name) (sort : Sort) (es : List Handed) (item : Given) (m : Making) → slice_get m.instances k ≡ Some X → find name X ≡ Some item → is_of_sort sort item ≡ true → Later k es → All (record { name = name; sort = sort } ∷ es) m (link (items_at k es) (and_item m (Some item)))
  alias_sort k name sorts.Func es (GivenFunc t) m first is test later = func_then k name es t m is (later (and_item m (Some (GivenFunc t))) first)
  alias_sort k name sorts.Instance es (GivenInstance items) m first is test later = instance_then k name es items m is (later (and_item m (Some (GivenInstance items))) (slice_within m.instances (items ∷ []) k X first))
  alias_sort k name sorts.Type es (GivenResource r) m first is test later = let all : All es m (link (items_at k es) m) = later m first in (all.0, (ap can_call is, all.1))
  alias_sort k name sorts.Type es GivenType m first is test later = let all : All es m (link (items_at k es) m) = later m first in (all.0, (ap can_call is, all.1))
  alias_sort k name sorts.Func es (GivenInstance items) m first is test later = absurd (let q : false ≡ true = test in cc)
  alias_sort k name sorts.Func es (GivenResource r) m first is test later = absurd (let q : false ≡ true = test in cc)
  alias_sort k name sorts.Func es GivenType m first is test later = absurd (let q : false ≡ true = test in cc)
  alias_sort k name sorts.Instance es (GivenFunc t) m first is test later = absurd (let q : false ≡ true = test in cc)
  alias_sort k name sorts.Instance es (GivenResource r) m first is test later = absurd (let q : false ≡ true = test in cc)
  alias_sort k name sorts.Instance es GivenType m first is test later = absurd (let q : false ≡ true = test in cc)
  alias_sort k name sorts.Type es (GivenFunc t) m first is test later = absurd (let q : false ≡ true = test in cc)
  alias_sort k name sorts.Type es (GivenInstance items) m first is test later = absurd (let q : false ≡ true = test in cc)

  pub aliased : (k : ℕ) (es : List Handed) (m : Making) → slice_get m.instances k ≡ Some X → AreThere X es → All es m (link (items_at k es) m)
  aliased k [] m first there = (record { whole = refl; exports = refl; functions = ([], sym (append-nil m.functions)); instances = ([], sym (append-nil m.instances)) }, tt)
  aliased k (e ∷ es) m first there =
      subst (λ z. All (e ∷ es) m (link (items_at k es) z)) (sym (one_alias k m e.name e.sort first there.0.0 there.0.1))
      (alias_sort k e.name e.sort es there.0.0 m first there.0.1 there.0.2 (λ m' first'. aliased k es m' first' there.1))

  -- ---- the exports

  abbrev pub exports_plan : Space → Scope → ℕ → ℕ → ℕ → List Handed → Plan
  exports_plan s scope f i t es = (plan_all [] [] s scope (map AnExport (exports_from f i t es))).plan

  abbrev pub after_export : Space → Name → Sort → ℕ → Space
  after_export s name sort k = after [] s (AnExport (record { name = name; sort = sort; index = k; desc = None }))

  abbrev pub made : Making → Name → Given → Making
  made m name item = and_export m name (Some item) None

  made_whole : (m : Making) (name : Name) (item : Given) → (made m name item).whole ≡ m.whole
  made_whole m name (GivenFunc t) = refl
  made_whole m name (GivenInstance items) = refl
  made_whole m name (GivenResource r) = refl
  made_whole m name GivenType = refl

  made_functions : (m : Making) (name : Name) (item : Given) → Keeps m.functions (made m name item).functions
  made_functions m name (GivenFunc t) = keeps_more m.functions (Some t ∷ [])
  made_functions m name (GivenInstance items) = keeps_all m.functions
  made_functions m name (GivenResource r) = keeps_all m.functions
  made_functions m name GivenType = keeps_all m.functions

  made_instances : (m : Making) (name : Name) (item : Given) → Keeps m.instances (made m name item).instances
  made_instances m name (GivenFunc t) = keeps_all m.instances
  made_instances m name (GivenInstance items) = keeps_more m.instances (items ∷ [])
  made_instances m name (GivenResource r) = keeps_all m.instances
  made_instances m name GivenType = keeps_all m.instances

  at_made : (m : Making) (name : Name) (item : Given) (f i : ℕ) (es : List Handed) → At X m.functions m.instances es f i → At X (made m name item).functions (made m name item).instances es f i
  at_made m name item f i es h = at_more m.functions (made m name item).functions m.instances (made m name item).instances (made_functions m name item) (made_instances m name item) es f i h

  abbrev pub AllMade : List Handed → Making → Making → Type 0
  AllMade es m m' = (gs : Givens) × Shows X es gs × Exported m m' gs

  one_then : (m : Making) (name : Name) (sort : Sort) (named : Named) (item : Given) (rest : Plan) (es : List Handed) → given_at m named ≡ Some item → callable item ≡ can_call (find name X) → AllMade es (made m name item) (link rest (made m name item)) → AllMade (record { name = name; sort = sort } ∷ es) m (link (Then (Exports name named None) rest) m)
  one_then m name sort named item rest es is alike r =
      subst (λ z. AllMade (record { name = name; sort = sort } ∷ es) m (link rest (and_export m name z None))) (sym is) (
        Giving name item r.0,
        (refl, alike, r.1),
        record {
          whole = r.2.whole ∙ made_whole m name item;
          exports = r.2.exports ∙ appended_twice m.exports name item r.0;
        },
      )

  type_item : (m : Making) (o : Option ℕ) → (item : Given) × (given_at m (resource_or_type o) ≡ Some item) × (callable item ≡ None)
  type_item m None = (GivenType, refl, refl)
  type_item m (Some r) = (GivenResource (partner_in m.resources r), refl, refl)

  nothing_more : (es : Givens) → es ≡ appended es Nothing
  nothing_more Nothing = refl
  nothing_more (Giving name item rest) = ap (Giving name item) (nothing_more rest)

  -- what is to come is exported after whatever is there
  abbrev Later_made : Scope → List Handed → Type 0
  Later_made scope es = (s : Space) (f i t : ℕ) (m : Making) → At X m.functions m.instances es f i → AllMade es m (link (exports_plan s scope f i t es) m)

  export_sort : (s : Space) (scope : Scope) (f i t : ℕ) (name : Name) (sort : Sort) (es : List Handed) (m : Making) → AtSort X m.functions m.instances (λ f' i'. At X m.functions m.instances es f' i') f i name sort → Later_made scope es → AllMade (record { name = name; sort = sort } ∷ es) m (link (exports_plan s scope f i t (record { name = name; sort = sort } ∷ es)) m)
  export_sort s scope f i t name sorts.Func es m k later =
      let item : Given = GivenFunc k.0.0 in
      one_then m name sorts.Func (AFunc f) item (exports_plan (after_export s name sorts.Func f) scope (f + 1) i t es) es
      (ap (option_and_then (option_map GivenFunc)) k.0.2) (sym (ap can_call k.0.1))
      (later (after_export s name sorts.Func f) (f + 1) i t (made m name item) (at_made m name item (f + 1) i es k.1))
  export_sort s scope f i t name sorts.Instance es m k later =
      let item : Given = GivenInstance k.0.0 in
      one_then m name sorts.Instance (AnInstanceAt i) item (exports_plan (after_export s name sorts.Instance i) scope f (i + 1) t es) es
      (ap (option_map GivenInstance) k.0.2) (sym (ap can_call k.0.1))
      (later (after_export s name sorts.Instance i) f (i + 1) t (made m name item) (at_made m name item f (i + 1) es k.1))
  export_sort s scope f i t name sorts.Type es m k later =
      let it : (item : Given) × (given_at m (named_by s sorts.Type t) ≡ Some item) × (callable item ≡ None) = type_item m (resource_in (kind_at s t)) in
      one_then m name sorts.Type (named_by s sorts.Type t) it.0 (exports_plan (after_export s name sorts.Type t) scope f i (t + 1) es) es
      it.1 (it.2 ∙ sym k.0)
      (later (after_export s name sorts.Type t) f i (t + 1) (made m name it.0) (at_made m name it.0 f i es k.1))

  pub exports_made : (s : Space) (scope : Scope) (f i t : ℕ) (es : List Handed) (m : Making) → At X m.functions m.instances es f i → AllMade es m (link (exports_plan s scope f i t es) m)
  exports_made s scope f i t [] m h = (Nothing, tt, record { whole = refl; exports = nothing_more m.exports })
  exports_made s scope f i t (e ∷ es) m h = export_sort s scope f i t e.name e.sort es m h (λ s' f' i' t' m' h'. exports_made s' scope f' i' t' es m' h')

  -- ---- what is found

  none_else : (name : Name) (es : List Handed) → ((n : Name) (item : Given) → find n X ≡ Some item → IsNamed n es) → (IsNamed name es → ⊥) → can_call (find name X) ≡ None
  none_else name es all not = go (find name X) refl
    where
      go : (o : Option Given) → find name X ≡ o → can_call o ≡ None
      go None is = refl
      go (Some item) is = absurd (not (all name item is))

  found_in : (name : Name) (es : List Handed) (gs : Givens) → Shows X es gs → ((IsNamed name es → ⊥) → can_call (find name X) ≡ None) → can_call (find name gs) ≡ can_call (find name X)
  found_in name [] Nothing h none = sym (none (λ b. b))
  found_in name [] (Giving n item rest) h none = absurd h
  found_in name (e ∷ es) Nothing h none = absurd h
  found_in name (e ∷ es) (Giving n item rest) h none = at_test (same_name n name) refl (λ not. found_in name es rest h.2 (λ f. none (λ either. split either not f)))
    where
      split : (e.name ≡ name) ⊎ IsNamed name es → same_name n name ≡ false → (IsNamed name es → ⊥) → ⊥
      split (inl same) not f = let q : same_name n name ≡ true = subst (λ z. same_name n z ≡ true) (h.0 ∙ same) (name-same n) in absurd (let z : true ≡ false = sym q ∙ not in cc)
      split (inr later) not f = f later

      at_test : (b : Bool) → same_name n name ≡ b → (same_name n name ≡ false → can_call (find name rest) ≡ can_call (find name X)) → can_call (cond b (Some item) (find name rest)) ≡ can_call (find name X)
      at_test true is later = h.1 ∙ ap (λ z. can_call (find z X)) (sym h.0 ∙ name-sound n name is)
      at_test false is later = later is

  target_called : (o : Option Given) → target_in o ≡ target_in (can_call o)
  target_called None = refl
  target_called (Some (GivenFunc t)) = refl
  target_called (Some (GivenInstance items)) = refl
  target_called (Some (GivenResource r)) = refl
  target_called (Some GivenType) = refl

  instance_called : (o : Option Given) → instance_in o ≡ instance_in (can_call o)
  instance_called None = refl
  instance_called (Some (GivenFunc t)) = refl
  instance_called (Some (GivenInstance items)) = refl
  instance_called (Some (GivenResource r)) = refl
  instance_called (Some GivenType) = refl

  -- each function is exported as it was
  pub same_targets : (es : List Handed) (gs : Givens) → Shows X es gs → AreExports X es → (interface name : Name) → target_in (exported gs interface name) ≡ target_in (exported X interface name)
  same_targets es gs h are [] name =
      target_called (find name gs) ∙ ap target_in (found_in name es gs h (none_else name es are.all)) ∙ sym (target_called (find name X))
  same_targets es gs h are (c ∷ cs) name =
      ap (λ items. target_in (find name items))
      (instance_called (find (c ∷ cs) gs) ∙ ap instance_in (found_in (c ∷ cs) es gs h (none_else (c ∷ cs) es are.all)) ∙ sym (instance_called (find (c ∷ cs) X)))
