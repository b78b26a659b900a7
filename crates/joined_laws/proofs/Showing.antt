-- What the first's type exports, its instance exports; so the second's imports are met by it.
use Rattle.std.proofs.Common.{◌≡◌, ◌∙◌, inl, inr, ℕ, ◌<◌, nat_eq, cond, List, [], ◌∷◌, ◌++◌, Bool, true, false, Option, Some, None, refl, sym, ap, subst, arith}
use Rattle.std.proofs.lemmas.Bool.{eqb-true, eqb-false, false≢true}
use Rattle.wit_types.specs.Plain.{Name, PlainFunc}
use Rattle.host_port.specs.Hosts.{HostStep}
use Rattle.host_port.specs.declared.call.Resource.{Resource}
use Rattle.comp_grammar.specs.Trees.{Tree}
use Rattle.comp_types.specs.Items.{Item, Entries, FuncItem, InstanceItem, KindItem, ResourceKind, ValueKind, FuncKind, InstanceKind, End, More, look_up}
use Rattle.comp_types.specs.Substitution.{partner_of}
use Rattle.comp_types.specs.Added.{type_of}
use Rattle.comp_worlds.specs.Groups.{Import, Target}
use Rattle.comp_worlds.specs.Parts.{IsImportOf}
use Rattle.comp_link.specs.Plans.{plan_of}
use Rattle.comp_link.specs.Linking.{Given, Givens, GivenFunc, GivenInstance, GivenResource, GivenType, find, Known, known, all_known, known_in, target_in, resource_of, instance_in, exported, linked, group_of}
use Rattle.comp_link.specs.Exports.{IsOf}
use Rattle.comp_link.proofs.Shapes.{Has, found, has_exports}
use Rattle.comp_link.proofs.Made.{exports_linked}
use Rattle.comp_inside.specs.Linked.{unmade}
use Rattle.comp_joins.specs.Holding.{AllHold, SomeHolds}
use Rattle.comp_joins.specs.Settled.{TargetNames}
use Rattle.comp_joins.specs.Imported.{IsFunction, IsEntry}
use Rattle.comp_joins.specs.Joining.{imports_of, first_own, behind_own, IsKnown, known_by, Meets}
use Rattle.comp_joins.specs.Numbers.{ArePartners}
use Rattle.comp_joins.proofs.Held.{found_held}
use Rattle.comp_joins.proofs.Known.{names_known}
use Rattle.comp_joins.proofs.Below.{stay_below}
use Rattle.comp_joins.proofs.Imported.{ask_entries}
use Rattle.comp_joins.proofs.AgreesNumbers.{paired}
use Rattle.joined_laws.specs.Behaves.{IsValidSpelled}
use Rattle.joined_laws.specs.PluggedIn.{after_first, IsPluggedIn}
use Rattle.joined_laws.specs.Shown.{entries_in, shown, IsShown, AreShown, and_partner, partners_by, partners_in, IsShownTo, ShownIsPluggedIn, ShownDoesSame}
use Rattle.joined_laws.proofs.PluggingIn.{known_below, own_first, plugged_in_does_same}

-- ---- the partners

module _ (given : Resource → Option ℕ) where
  -- each resource has one
  abbrev AllGiven : List Known → Type 0
  AllGiven [] = Unit {0}
  AllGiven (k ∷ ks) = ((g : ℕ) × (given k.resource ≡ Some g)) × AllGiven ks

  given_append : (ks more : List Known) → AllGiven ks → AllGiven more → AllGiven (ks ++ more)
  given_append [] more h h' = h'
  given_append (k ∷ ks) more h h' = (h.0, given_append ks more h.1 h')

  -- that of the first of its number
  partner_is : (ks : List Known) → AllGiven ks → (r : ℕ) → IsKnown ks r → partner_of (partners_by given ks) r ≡ given (known_in ks r)
  partner_is [] h r is = absurd is
  partner_is (k ∷ ks) h r is = subst (λ o. partner_of (and_partner k.number o (partners_by given ks)) r ≡ given (known_in (k ∷ ks) r)) (sym h.0.1) (go (nat_eq r k.number) refl (nat_eq k.number r) refl is (partner_is ks h.1 r))
    where
      go : (b : Bool) → nat_eq r k.number ≡ b → (c : Bool) → nat_eq k.number r ≡ c → IsKnown (k ∷ ks) r → (IsKnown ks r → partner_of (partners_by given ks) r ≡ given (known_in ks r)) → cond b (Some h.0.0) (partner_of (partners_by given ks) r) ≡ given (cond c k.resource (known_in ks r))
      go true e true e' is' later = sym h.0.1
      go true e false e' is' later = absurd (eqb-false k.number r e' (sym (eqb-true r k.number e)))
      go false e true e' is' later = absurd (eqb-false r k.number e (sym (eqb-true k.number r e')))
      go false e false e' (inl same) later = absurd (eqb-false k.number r e' same)
      go false e false e' (inr is') later = later is'

  known_given : (ks : List Known) → AllGiven ks → (r : ℕ) → IsKnown ks r → (g : ℕ) × (given (known_in ks r) ≡ Some g)
  known_given [] h r is = absurd is
  known_given (k ∷ ks) h r is = go (nat_eq k.number r) refl is (known_given ks h.1 r)
    where
      go : (c : Bool) → nat_eq k.number r ≡ c → IsKnown (k ∷ ks) r → (IsKnown ks r → (g : ℕ) × (given (known_in ks r) ≡ Some g)) → (g : ℕ) × (given (cond c k.resource (known_in ks r)) ≡ Some g)
      go true e is' later = h.0
      go false e (inl same) later = absurd (eqb-false k.number r e same)
      go false e (inr is') later = later is'

  -- it is given under some name
  pair_from : (ks : List Known) (r g : ℕ) → partner_of (partners_by given ks) r ≡ Some g → IsKnown ks r × ((n : Resource) × (given n ≡ Some g))
  pair_from [] r g is = absurd (let q : None ≡ Some g = is in cc)
  pair_from (k ∷ ks) r g is = at (given k.resource) refl is (λ is'. let p = pair_from ks r g is' in (inr p.0, p.1))
    where
      Is : Type 0
      Is = IsKnown (k ∷ ks) r × ((n : Resource) × (given n ≡ Some g))

      test : (x : ℕ) → given k.resource ≡ Some x → (b : Bool) → nat_eq r k.number ≡ b → cond b (Some x) (partner_of (partners_by given ks) r) ≡ Some g → (partner_of (partners_by given ks) r ≡ Some g → Is) → Is
      test x e true e' is' later = (inl (sym (eqb-true r k.number e')), (k.resource, e ∙ is'))
      test x e false e' is' later = later is'

      at : (o : Option ℕ) → given k.resource ≡ o → partner_of (and_partner k.number o (partners_by given ks)) r ≡ Some g → (partner_of (partners_by given ks) r ≡ Some g → Is) → Is
      at None e is' later = later is'
      at (Some x) e is' later = test x e (nat_eq r k.number) refl is' later

-- ---- what the type exports is exported

abbrev IsExported : Givens → Name → Name → Item → Type 0
IsExported items interface name item = (g : Given) × (exported items interface name ≡ Some g) × IsOf g item

exported_shown : (items : Givens) (entries : Entries) → Has items entries → (interface name : Name) (item : Item) → shown entries interface name ≡ Some item → IsExported items interface name item
exported_shown items entries has [] name item is = let f = found items name item (has name item is) in (f.given, f.there, f.fits)
exported_shown items entries has (c ∷ cs) name item is = within (look_up (c ∷ cs) entries) refl is
  where
    inside : (es : Entries) → look_up name es ≡ Some item → (g : Given) → find (c ∷ cs) items ≡ Some g → IsOf g (InstanceItem es) → IsExported items (c ∷ cs) name item
    inside es is' (GivenInstance inner) there fits =
        let f = found inner name item (fits name item is') in
        subst (λ o. (g : Given) × (find name (instance_in o) ≡ Some g) × IsOf g item) (sym there) (f.given, f.there, f.fits)
    inside es is' (GivenFunc target) there fits = absurd fits
    inside es is' (GivenResource r) there fits = absurd fits
    inside es is' GivenType there fits = absurd fits

    within : (o : Option Item) → look_up (c ∷ cs) entries ≡ o → look_up name (entries_in o) ≡ Some item → IsExported items (c ∷ cs) name item
    within None e is' = absurd (let q : None ≡ Some item = is' in cc)
    within (Some (FuncItem ty)) e is' = absurd (let q : None ≡ Some item = is' in cc)
    within (Some (KindItem kind)) e is' = absurd (let q : None ≡ Some item = is' in cc)
    within (Some (InstanceItem es)) e is' = let f = found items (c ∷ cs) (InstanceItem es) (has (c ∷ cs) (InstanceItem es) e) in inside es is' f.given f.there f.fits

target_shown : (o : Option Given) (g : Given) (ty : PlainFunc) → o ≡ Some g → IsOf g (FuncItem ty) → (t : Target) × (target_in o ≡ Some t)
target_shown o (GivenFunc t) ty is fits = (t, ap target_in is)
target_shown o (GivenInstance items) ty is fits = absurd fits
target_shown o (GivenResource r) ty is fits = absurd fits
target_shown o GivenType ty is fits = absurd fits

resource_shown : (o : Option Given) (g : Given) (r : ℕ) → o ≡ Some g → IsOf g (KindItem (ResourceKind r)) → (n : ℕ) × (resource_of o ≡ Some n)
resource_shown o (GivenResource n) r is fits = (n, ap resource_of is)
resource_shown o (GivenFunc t) r is fits = absurd fits
resource_shown o (GivenInstance items) r is fits = absurd fits
resource_shown o GivenType r is fits = absurd (false≢true (sym fits))

-- ---- each import is shown

module _ (exports : Entries) where
  abbrev ShowsFunction : Import → Type 0
  ShowsFunction f = (ty : PlainFunc) × (shown exports f.interface f.function ≡ Some (FuncItem ty))

  mutual
    function_shown : (interface name : Name) (item : Item) → IsShown exports interface name item → (f : Import) → IsFunction interface name item f → ShowsFunction f
    function_shown interface name (FuncItem ty) h f is = subst ShowsFunction is h
    function_shown interface name (InstanceItem entries) h f is = entry_shown name entries h f is
    function_shown interface name (KindItem kind) h f is = absurd is

    entry_shown : (interface : Name) (entries : Entries) → AreShown exports interface entries → (f : Import) → IsEntry interface entries f → ShowsFunction f
    entry_shown interface End h f is = absurd is
    entry_shown interface (More name item rest) h f (inl is) = function_shown interface name item h.0 f is
    entry_shown interface (More name item rest) h f (inr is) = entry_shown interface rest h.1 f is

  module _ (given : Resource → Option ℕ) (gives : (interface name : Name) (r : ℕ) → shown exports interface name ≡ Some (KindItem (ResourceKind r)) → (g : ℕ) × (given (record { interface = interface; name = name }) ≡ Some g)) where
    mutual
      known_shown : (interface name : Name) (item : Item) → IsShown exports interface name item → AllGiven given (known interface name item)
      known_shown interface name (FuncItem ty) h = tt
      known_shown interface name (InstanceItem entries) h = all_shown name entries h
      known_shown interface name (KindItem (ResourceKind r)) h = (gives interface name h.0 h.1, tt)
      known_shown interface name (KindItem (ValueKind ty)) h = tt
      known_shown interface name (KindItem (FuncKind ty)) h = tt
      known_shown interface name (KindItem (InstanceKind own entries)) h = tt

      all_shown : (interface : Name) (entries : Entries) → AreShown exports interface entries → AllGiven given (all_known interface entries)
      all_shown interface End h = tt
      all_shown interface (More name item rest) h = given_append given (known interface name item) (all_known interface rest) (known_shown interface name item h.0) (all_shown interface rest h.1)

-- ---- the two components

module _ (first second : Tree) (one : IsValidSpelled first) (other : IsValidSpelled second) where
  abbrev pairs : List (ℕ × ℕ)
  pairs = partners_in first second

  abbrev Before : ℕ → Type 0
  Before r = r < behind_own first

  has : Has (linked first).exports (type_of first).exports
  has = has_exports (linked first).exports (type_of first).exports (exports_linked first one.valid one.defines)

  held : AllHold Before (TargetNames Before) (linked first).exports
  held = (stay_below.plan (plan_of first) (unmade first) (names_known first one.valid one.defines) (stay_below.first (imports_of first)) (behind_own first) (omega arith)).2

  -- a resource that it exports has a number before the last
  found_before : (gs : Givens) → AllHold Before (TargetNames Before) gs → (name : Name) (g : ℕ) → resource_of (find name gs) ≡ Some g → Before g
  found_before gs h name g is = at (find name gs) (found_held Before (TargetNames Before) name gs h) is
    where
      number : Option ℕ → Type 0
      number None = Unit {0}
      number (Some n) = Before n

      at : (o : Option Given) → SomeHolds Before (TargetNames Before) o → resource_of o ≡ Some g → Before g
      at (Some (GivenResource n)) k is' = subst number is' k
      at None k is' = absurd (let q : None ≡ Some g = is' in cc)
      at (Some (GivenFunc target)) k is' = absurd (let q : None ≡ Some g = is' in cc)
      at (Some (GivenInstance items)) k is' = absurd (let q : None ≡ Some g = is' in cc)
      at (Some GivenType) k is' = absurd (let q : None ≡ Some g = is' in cc)

  given_before : (interface name : Name) (g : ℕ) → resource_of (exported (linked first).exports interface name) ≡ Some g → Before g
  given_before [] name g is = found_before (linked first).exports held name g is
  given_before (c ∷ cs) name g is = within (find (c ∷ cs) (linked first).exports) (found_held Before (TargetNames Before) (c ∷ cs) (linked first).exports held) is
    where
      within : (o : Option Given) → SomeHolds Before (TargetNames Before) o → resource_of (find name (instance_in o)) ≡ Some g → Before g
      within (Some (GivenInstance items)) k is' = found_before items k name g is'
      within None k is' = absurd (let q : None ≡ Some g = is' in cc)
      within (Some (GivenFunc target)) k is' = absurd (let q : None ≡ Some g = is' in cc)
      within (Some (GivenResource r)) k is' = absurd (let q : None ≡ Some g = is' in cc)
      within (Some GivenType) k is' = absurd (let q : None ≡ Some g = is' in cc)

  gives : (interface name : Name) (r : ℕ) → shown (type_of first).exports interface name ≡ Some (KindItem (ResourceKind r)) → (g : ℕ) × ((group_of first).given (record { interface = interface; name = name }) ≡ Some g)
  gives interface name r is =
      let e = exported_shown (linked first).exports (type_of first).exports has interface name (KindItem (ResourceKind r)) is in
      resource_shown (exported (linked first).exports interface name) e.0 r e.1 e.2

  module _ (whole : Tree) (p : IsShownTo whole first second) where
    all_given : AllGiven (group_of first).given (known_by second)
    all_given = all_shown (type_of first).exports (group_of first).given gives [] (imports_of second) p.shows

    partners : ArePartners pairs (first_own second) (behind_own first)
    partners = record {
      imported = λ r g is. known_below (known_by second) r (pair_from (group_of first).given (known_by second) r g is).0;
      before = λ r g is. let x = (pair_from (group_of first).given (known_by second) r g is).1 in given_before x.0.interface x.0.name g x.1;
      once = p.once;
    }

    resources : (r : ℕ) → IsKnown (known_by second) r → (group_of first).given ((group_of second).imported r) ≡ Some (after_first first second pairs r)
    resources r known =
        let x = known_given (group_of first).given (known_by second) all_given r known in
        let is : partner_of pairs r ≡ Some x.0 = partner_is (group_of first).given (known_by second) all_given r known ∙ x.1 in
        x.1 ∙ ap Some (sym (paired pairs (first_own second) (behind_own second) (behind_own first) (own_first second) r x.0 is partners))

    functions : (f : Import) → IsImportOf (group_of second) f → Meets (group_of first) (after_first first second pairs) f
    functions f is =
        let entry : IsEntry [] (imports_of second) f = ask_entries second other.valid other.defines f is in
        let ty = entry_shown (type_of first).exports [] (imports_of second) p.shows f entry in
        let e = exported_shown (linked first).exports (type_of first).exports has f.interface f.function (FuncItem ty.0) ty.1 in
        let t = target_shown (exported (linked first).exports f.interface f.function) e.0 ty.0 e.1 e.2 in
        (t.0, t.1, p.types f t.0 entry t.1)

    is_plugged_in : IsPluggedIn whole first second pairs
    is_plugged_in = record { imports = p.imports; partners = partners; functions = functions; resources = resources }

pub shown_is_plugged_in : ShownIsPluggedIn
shown_is_plugged_in whole first second one other p = is_plugged_in first second one other whole p

pub shown_does_same : {S : Type 0} → (h : HostStep S) → ShownDoesSame h
shown_does_same h whole first second is one other p gives s calls =
    plugged_in_does_same h whole first second is one other (partners_in first second) (shown_is_plugged_in whole first second one other p) gives s calls
