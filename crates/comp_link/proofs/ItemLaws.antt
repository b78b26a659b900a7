-- What stands at each index of a component as it is made is of the type that stands there: one definition.
use Rattle.std.proofs.Common.{◌≡◌, ℕ, zero, suc, nat_lt, List, [], ◌∷◌, ◌++◌, length, Option, Some, None, true, refl, sym, ◌∙◌, ap, subst}
use Rattle.std.specs.Prelude.{slice_get}
use Rattle.std.specs.Option.{option_map, option_and_then}
use Rattle.std.specs.List.{list_all}
use Rattle.std.proofs.lemmas.Bool.{ltb-true, and_parts}
use Rattle.wasm_ast.specs.declared.module.CoreFunc.{CoreFunc}
use Rattle.wasm_ast.specs.declared.component.Sort.{Sort}
use Rattle.wasm_ast.specs.declared.component.Sort.TheVariants as sorts
use Rattle.wasm_ast.specs.declared.component.NamedItem.{NamedItem}
use Rattle.wasm_ast.specs.declared.component.CanonOption.{CanonOption}
use Rattle.wasm_ast.specs.declared.component.ExternDesc.{ExternDesc}
use Rattle.wasm_ast.specs.declared.component.ExternDesc.TheVariants as descs
use Rattle.core_store.proofs.Growing.{get_within}
use Rattle.core_instance.specs.declared.external.Extern.{Extern}
use Rattle.core_instance.specs.declared.external.Extern.TheVariants.{Func, Table, Memory, Global}
use Rattle.wit_types.specs.Plain.{PlainFunc}
use Rattle.comp_types.specs.Items.{Item, Kind, Entries, FuncItem, InstanceItem, KindItem, ResourceKind, ValueKind, FuncKind, InstanceKind, More}
use Rattle.comp_types.specs.Equality.{IsEqualType}
use Rattle.comp_types.specs.Substitution.{partner_in}
use Rattle.comp_types.specs.Spaces.{Space, TypeEntry, and_item, kind_at, item_at}
use Rattle.comp_types.specs.Types.{func_in, instance_in, resource_in}
use Rattle.comp_types.specs.GivenResources.{renamed}
use Rattle.comp_types.specs.Added.{named_items, and_named, and_some_type, kind_item, and_index, brought, described}
use Rattle.comp_types.specs.Rules.{lengths_of, item_stands, desc_stands, IsKind, IsStated}
use Rattle.comp_worlds.specs.Groups.{Target, type_of}
use Rattle.comp_link.specs.Plans.{Named, named_by, resource_or_type, named_args}
use Rattle.comp_link.specs.Linking.{Given, Givens, GivenFunc, GivenInstance, GivenResource, GivenType, Making, given_at, and_some_given, givens_of, and_item as and_made, and_core_item, with_lowered}
use Rattle.comp_link.specs.Exports.{passing, IsOf, AreExportsOf}
use Rattle.comp_link.proofs.Shapes.{some_same, Has, is_of_same, has_each, has_with}

-- ---- two lists, item by item

abbrev pub Both : {A B : Type 0} → (A → B → Type 0) → List A → List B → Type 0
Both R [] [] = Unit {0}
Both R (x ∷ xs) (y ∷ ys) = R x y × Both R xs ys
Both R _ _ = ⊥

module _ {A B : Type 0} (R : A → B → Type 0) where
  pub both_and : (xs : List A) (ys : List B) (x : A) (y : B) → Both R xs ys → R x y → Both R (xs ++ x ∷ []) (ys ++ y ∷ [])
  both_and [] [] x y h r = (r, tt)
  both_and (a ∷ xs) (b ∷ ys) x y h r = (h.0, both_and xs ys x y h.1 r)
  both_and [] (b ∷ ys) x y h r = absurd h
  both_and (a ∷ xs) [] x y h r = absurd h

  pub both_get : (xs : List A) (ys : List B) (i : ℕ) (y : B) → Both R xs ys → slice_get ys i ≡ Some y → (x : A) × (slice_get xs i ≡ Some x) × R x y
  both_get [] [] i y h is = absurd (let q : None ≡ Some y = is in cc)
  both_get (a ∷ xs) (b ∷ ys) zero y h is = (a, refl, subst (R a) (some_same b y is) h.0)
  both_get (a ∷ xs) (b ∷ ys) (suc i) y h is = both_get xs ys i y h.1 is
  both_get [] (b ∷ ys) i y h is = absurd h
  both_get (a ∷ xs) [] i y h is = absurd h

  pub both_none : (xs : List A) (ys : List B) (i : ℕ) → Both R xs ys → slice_get ys i ≡ None → slice_get xs i ≡ None
  both_none [] [] i h is = refl
  both_none (a ∷ xs) (b ∷ ys) zero h is = absurd (let q : Some b ≡ None = is in cc)
  both_none (a ∷ xs) (b ∷ ys) (suc i) h is = both_none xs ys i h.1 is
  both_none [] (b ∷ ys) i h is = absurd h
  both_none (a ∷ xs) [] i h is = absurd h

pub get_there : {A : Type 0} → (xs : List A) (i : ℕ) → nat_lt i (length xs) ≡ true → (x : A) × (slice_get xs i ≡ Some x)
get_there xs i h = get_within xs i (ltb-true i (length xs) h)

-- ---- what a component has as it is made

abbrev pub IsFunc : Option Target → PlainFunc → Type 0
IsFunc o ty = (t : Target) × (o ≡ Some t) × (passing (type_of t) ≡ passing ty)

-- it is given these imports, and has what the index spaces say
pub record Fitting (imports : Entries) (these : Givens) (fs : List (Option Target)) (is : List Givens) (shown : Givens) (tys : List PlainFunc) (entries : List Entries) (out : Entries) : Type 0 where
  pub given : Has these imports
  pub functions : Both IsFunc fs tys
  pub instances : Both Has is entries
  pub exports : AreExportsOf out shown

abbrev pub Fits : Entries → Making → Space → Type 0
Fits imports m s = Fitting imports m.given m.functions m.instances m.exports s.functions s.instances s.exports

-- ---- what is named and stated

pub item_there : (s : Space) (sort : Sort) (i : ℕ) → item_stands (lengths_of s) sort i ≡ true → (item : Item) × (item_at s sort i ≡ Some item)
item_there s sorts.Func i h = let x = get_there s.functions i h in (FuncItem x.0, ap (option_map FuncItem) x.1)
item_there s sorts.Type i h = let x = get_there s.types i h in (KindItem x.0.kind, ap (λ o. option_map KindItem (option_map (λ (e : TypeEntry). e.kind) o)) x.1)
item_there s sorts.Instance i h = let x = get_there s.instances i h in (InstanceItem x.0, ap (option_map InstanceItem) x.1)

-- what is of an item is of the type that is stated for it
pub stated_fits : (s : Space) (g : Given) (item : Item) (desc : ExternDesc) → desc_stands (lengths_of s) desc ≡ true → IsOf g item → IsStated s (Some item) desc → IsOf g (described s desc)
stated_fits s g item (descs.Func i) stands fits h = is_of_same (λ x y. x ≡ y) g item (described s (descs.Func i)) fits (subst (λ z. IsEqualType z (FuncItem (func_in (kind_at s i)))) (sym (some_same item h.0 h.1)) h.2)
stated_fits s g item (descs.TypeEq i) stands fits h =
    let x = get_there s.types i stands in
    let at : kind_at s i ≡ Some x.0.kind = ap (option_map (λ (e : TypeEntry). e.kind)) x.1 in
    let k : IsKind (Some item) (Some x.0.kind) = subst (IsKind (Some item)) at h in
    subst (λ z. IsOf g (kind_item z)) (sym at) (is_of_same (λ x y. x ≡ y) g item (KindItem x.0.kind) fits (subst (λ z. IsEqualType z (KindItem x.0.kind)) (sym (some_same item k.0 k.1)) k.2))
stated_fits s g item descs.Resource stands fits h = resource_fits g (subst (IsOf g) (some_same item (KindItem (ResourceKind h.0)) h.1) fits)
  where
    resource_fits : (g : Given) → IsOf g (KindItem (ResourceKind h.0)) → IsOf g (KindItem (ResourceKind s.next))
    resource_fits (GivenFunc t) fits' = fits'
    resource_fits (GivenInstance items) fits' = fits'
    resource_fits (GivenResource r) fits' = fits'
    resource_fits GivenType fits' = fits'
stated_fits s g item (descs.Instance i) stands fits h = instance_fits g (subst (IsOf g) (some_same item (InstanceItem h.0) h.1) fits)
  where
    instance_fits : (g : Given) → IsOf g (InstanceItem h.0) → IsOf g (InstanceItem (renamed (brought s (descs.Instance i)) (instance_in (kind_at s i)).1))
    instance_fits (GivenFunc t) fits' = fits'
    instance_fits (GivenInstance items) fits' = has_with (partner_in (brought s (descs.Instance i))) items (instance_in (kind_at s i)).1 (has_each (λ x y. x ≡ h.2.0 y) items h.0 (instance_in (kind_at s i)).1 h.2.2 fits')
    instance_fits (GivenResource r) fits' = fits'
    instance_fits GivenType fits' = fits'

module _ (imports : Entries) where
  -- one item more
  pub item_fits : (m : Making) (s : Space) (g : Given) (item : Item) → Fits imports m s → IsOf g item → Fits imports (and_made m (Some g)) (and_item s item)
  item_fits m s (GivenFunc t) (FuncItem ty) h fits = record { given = h.given; functions = both_and IsFunc m.functions s.functions (Some t) ty h.functions (t, refl, fits); instances = h.instances; exports = h.exports }
  item_fits m s (GivenInstance items) (InstanceItem entries) h fits = record { given = h.given; functions = h.functions; instances = both_and Has m.instances s.instances items entries h.instances fits; exports = h.exports }
  item_fits m s (GivenResource r) (KindItem kind) h fits = h
  item_fits m s GivenType (KindItem kind) h fits = h
  item_fits m s (GivenFunc t) (InstanceItem entries) h fits = absurd fits
  item_fits m s (GivenFunc t) (KindItem kind) h fits = absurd fits
  item_fits m s (GivenInstance items) (FuncItem ty) h fits = absurd fits
  item_fits m s (GivenInstance items) (KindItem kind) h fits = absurd fits
  item_fits m s (GivenResource r) (FuncItem ty) h fits = absurd fits
  item_fits m s (GivenResource r) (InstanceItem entries) h fits = absurd fits
  item_fits m s GivenType (FuncItem ty) h fits = absurd fits
  item_fits m s GivenType (InstanceItem entries) h fits = absurd fits

  pub core_fits : (m : Making) (s : Space) (o : Option Extern) → Fits imports m s → Fits imports (and_core_item m o) s
  core_fits m s None h = h
  core_fits m s (Some (Func at)) h = h
  core_fits m s (Some (Table at)) h = h
  core_fits m s (Some (Memory at)) h = h
  core_fits m s (Some (Global at)) h = h

  pub lowered_fits : (m : Making) (s : Space) (ty : CoreFunc) (os : List CanonOption) (o : Option Target) → Fits imports m s → Fits imports (with_lowered m ty os o) s
  lowered_fits m s ty os None h = h
  lowered_fits m s ty os (Some target) h = h

  -- ---- what is named

  abbrev Stands : Making → Named → Item → Type 0
  Stands m named item = (g : Given) × (given_at m named ≡ Some g) × IsOf g item

  pub given_there : (m : Making) (s : Space) (sort : Sort) (i : ℕ) (item : Item) → Fits imports m s → item_at s sort i ≡ Some item → Stands m (named_by s sort i) item
  given_there m s sorts.Func i item h is = go (slice_get s.functions i) refl is
    where
      go : (o : Option PlainFunc) → slice_get s.functions i ≡ o → option_map FuncItem o ≡ Some item → Stands m (named_by s sorts.Func i) item
      go None e is' = absurd (let q : None ≡ Some item = is' in cc)
      go (Some ty) e is' =
          let x = both_get IsFunc m.functions s.functions i ty h.functions e in
          let there : slice_get m.functions i ≡ Some (Some x.2.0) = x.1 ∙ ap Some x.2.1 in
          (GivenFunc x.2.0, ap (option_and_then (option_map GivenFunc)) there, subst (IsOf (GivenFunc x.2.0)) (some_same (FuncItem ty) item is') x.2.2)
  given_there m s sorts.Instance i item h is = go (slice_get s.instances i) refl is
    where
      go : (o : Option Entries) → slice_get s.instances i ≡ o → option_map InstanceItem o ≡ Some item → Stands m (named_by s sorts.Instance i) item
      go None e is' = absurd (let q : None ≡ Some item = is' in cc)
      go (Some entries) e is' =
          let x = both_get Has m.instances s.instances i entries h.instances e in
          (GivenInstance x.0, ap (option_map GivenInstance) x.1, subst (IsOf (GivenInstance x.0)) (some_same (InstanceItem entries) item is') x.2)
  given_there m s sorts.Type i item h is = go (kind_at s i) is
    where
      plain : (kind : Kind) → IsOf GivenType (KindItem kind) → Some (KindItem kind) ≡ Some item → Stands m (resource_or_type None) item
      plain kind fits is' = (GivenType, refl, subst (IsOf GivenType) (some_same (KindItem kind) item is') fits)

      go : (o : Option Kind) → option_map KindItem o ≡ Some item → Stands m (resource_or_type (resource_in o)) item
      go None is' = absurd (let q : None ≡ Some item = is' in cc)
      go (Some (ResourceKind r)) is' =
          let g : Given = GivenResource (partner_in m.resources r) in
          (g, refl, subst (IsOf g) (some_same (KindItem (ResourceKind r)) item is') refl)
      go (Some (ValueKind ty)) is' = plain (ValueKind ty) refl is'
      go (Some (FuncKind ty)) is' = plain (FuncKind ty) refl is'
      go (Some (InstanceKind own entries)) is' = plain (InstanceKind own entries) refl is'

  pub named_fit : (m : Making) (s : Space) (es : List NamedItem) → Fits imports m s → list_all (λ e. item_stands (lengths_of s) e.sort e.index) es ≡ true → AreExportsOf (named_items s es) (givens_of m (named_args s es))
  named_fit m s [] h stand = tt
  named_fit m s (e ∷ es) h stand =
      let p = and_parts (item_stands (lengths_of s) e.sort e.index) (list_all (λ x. item_stands (lengths_of s) x.sort x.index) es) stand in
      let item = item_there s e.sort e.index p.0 in
      let g = given_there m s e.sort e.index item.0 h item.1 in
      subst (λ z. AreExportsOf (and_named z e.name (named_items s es)) (and_some_given (given_at m (named_by s e.sort e.index)) e.name (givens_of m (named_args s es)))) (sym item.1)
      (subst (λ z. AreExportsOf (More e.name item.0 (named_items s es)) (and_some_given z e.name (givens_of m (named_args s es)))) (sym g.1)
      (refl, g.2, named_fit m s es h p.1))

  -- ---- what is described

  pub index_fits : (m : Making) (s : Space) (g : Given) (desc : ExternDesc) → Fits imports m s → desc_stands (lengths_of s) desc ≡ true → IsOf g (described s desc) → Fits imports (and_made m (Some g)) (and_index s desc)
  index_fits m s g (descs.Func i) h stands fits = item_fits m s g (described s (descs.Func i)) h fits
  index_fits m s g (descs.TypeEq i) h stands fits =
      let x = get_there s.types i stands in
      let kind : IsOf g (KindItem x.0.kind) = subst (λ z. IsOf g z) (ap (λ o. kind_item (option_map (λ (e : TypeEntry). e.kind) o)) x.1) fits in
      subst (λ z. Fits imports (and_made m (Some g)) (and_some_type s z)) (sym x.1) (item_fits m s g (KindItem x.0.kind) h kind)
  index_fits m s g descs.Resource h stands fits = item_fits m s g (described s descs.Resource) h fits
  index_fits m s g (descs.Instance i) h stands fits = item_fits m s g (described s (descs.Instance i)) h fits
