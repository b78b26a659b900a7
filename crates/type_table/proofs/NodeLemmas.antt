-- Tables of value types: what stands at places, and what keeps it.
use mathlib.Core.Logic.{inl, inr, ⊎_elim}
use Rattle.std.proofs.Common.{◌≡◌, ◌<◌, ◌≤◌, ◌+◌, ℕ, zero, suc, refl, ap, sym, subst, ◌∙◌, arith, Bool, true, false, Option, Some, None, List, [], ◌∷◌, ◌++◌, length, get_or, take, drop, slice_get}
use Rattle.std.specs.Prelude.{Contains, IfSome, option_map, slice_index, ◌⊎◌}
use Rattle.std.specs.BTreeMap.{BTreeMap, get, is_at, Updates}
use Rattle.std.specs.Ordering.{nat_cmp}
use Rattle.std.proofs.lemmas.Bool.{cases_eq}
use Rattle.std.proofs.lemmas.Option.{slice_get-get_or, slice_get_within, get_or_from_slice_get}
use Rattle.std.proofs.Math.Seq.{drop-nil}
use Rattle.std.proofs.lemmas.List.{take_more, length-append}
use Rattle.std.proofs.lemmas.List.Elements.{Contains-get_or}
use Rattle.std.proofs.lemmas.Option.{slice_get-map}
use Rattle.std.proofs.lemmas.Bool.{OnTrue_at, OnTrue_from}
use Rattle.std.specs.Bool.{OnTrue}
use Rattle.std.specs.Borrow.{Bor}
use Rattle.std.proofs.lemmas.Grind.{common_steps}
use Rattle.wit_types.specs.Plain.{Name, Plain, Parts, End, More, Bare, BoolType, SignedType, UnsignedType, CharType, StringType, ListType, RecordType, VariantType, FlagsType, OwnType, BorrowType}
use Rattle.comp_facts.specs.Keys.{key_of}
use Rattle.type_table.specs.Tables.{Placed, Types, trees, Leads, AreLinks, HasParts, HasOwnParts, HasAnswer}
use Rattle.type_table.specs.Slots.{Part, slots_in, slots_of}
use Rattle.type_table.specs.Nodes.{IsBelow, AreBelow, link_at, type_at, count_types, IsKeyOf, part_keys, slot_keys, HasSlots, IsAt, IsPlaceOf, placed, types_in, AreNodes}
use Rattle.type_table.specs.declared.table.Node.{Node}
use Rattle.type_table.proofs.HasLaws.{trees-append}

-- ---- lists

pub get-pushed : {A : Type 0} (xs : List A) (y : A) (i : ℕ) (x : A) → slice_get (xs ++ y ∷ []) i ≡ Some x → (slice_get xs i ≡ Some x) ⊎ ((i ≡ length xs) × (y ≡ x))
get-pushed [] y zero x e = inr (refl, cc)
get-pushed [] y (suc i) x e = absurd cc
get-pushed (z ∷ xs) y zero x e = inl e
get-pushed (z ∷ xs) y (suc i) x e = ⊎_elim (λ h. inl h) (λ h. inr (ap suc h.0, h.1)) (get-pushed xs y i x e)

pub contained : {A : Type 0} (xs : List A) (x : A) → Contains xs x → (i : ℕ) × (slice_get xs i ≡ Some x)
contained xs x h = (h.0, slice_get-get_or xs h.0 x h.1 ∙ ap Some h.2)

pub trees-length : (types : Types) → length (trees types) ≡ length types
trees-length [] = refl
trees-length (p ∷ types) = ap suc (trees-length types)

pub links-push : (tys : List Plain) (links : List (Option ℕ)) (parts : List Part) (link : Option ℕ) (part : Part) → AreLinks tys links parts → Leads tys link part.1 → AreLinks tys (links ++ link ∷ []) (parts ++ part ∷ [])
links-push tys [] [] link part h l = (l, tt)
links-push tys [] (p ∷ parts) link part h l = absurd h
links-push tys (k ∷ links) [] link part h l = absurd h
links-push tys (k ∷ links) (p ∷ parts) link part h l = (h.0, links-push tys links parts link part h.1 l)

pub below-push : (at : ℕ) (links : List (Option ℕ)) (link : Option ℕ) → AreBelow at links → IsBelow at link → AreBelow at (links ++ link ∷ [])
below-push at [] link h l = (l, tt)
below-push at (k ∷ links) link h l = (h.0, below-push at links link h.1 l)

pub links-length : (tys : List Plain) (links : List (Option ℕ)) (parts : List Part) → AreLinks tys links parts → length links ≡ length parts
links-length tys [] [] h = refl
links-length tys [] (p ∷ parts) h = absurd h
links-length tys (k ∷ links) [] h = absurd h
links-length tys (k ∷ links) (p ∷ parts) h = ap suc (links-length tys links parts h.1)

pub leads-at : (tys : List Plain) (links : List (Option ℕ)) (parts : List Part) (i : ℕ) (part : Part) → AreLinks tys links parts → slice_get parts i ≡ Some part → Leads tys (link_at links i) part.1
leads-at tys [] [] i part h e = absurd cc
leads-at tys [] (p ∷ parts) i part h e = absurd h
leads-at tys (k ∷ links) [] i part h e = absurd h
leads-at tys (k ∷ links) (p ∷ parts) zero part h e = let is : p ≡ part = cc in subst (λ q. Leads tys k q.1) is h.0
leads-at tys (k ∷ links) (p ∷ parts) (suc i) part h e = leads-at tys links parts i part h.1 e

pub below-at : (at : ℕ) (links : List (Option ℕ)) (i : ℕ) → AreBelow at links → IsBelow at (link_at links i)
below-at at [] i h = tt
below-at at (k ∷ links) zero h = h.0
below-at at (k ∷ links) (suc i) h = below-at at links i h.1

-- ---- walking along parts

pub take-get : {A : Type 0} (xs : List A) (i : ℕ) (x : A) → slice_get xs i ≡ Some x → take (i + 1) xs ≡ take i xs ++ x ∷ []
take-get xs i x e = take_more xs i x (slice_get_within xs i x e) ∙ ap (λ y. take i xs ++ y ∷ []) (get_or_from_slice_get xs i x x e)

pub front-drop : (xs : List ℕ) (i x : ℕ) (rest : List ℕ) → drop i xs ≡ x ∷ rest → (i < length xs) × (get_or xs i 0 ≡ x) × (drop (i + 1) xs ≡ rest)
front-drop [] zero x rest e = absurd cc
front-drop [] (suc i) x rest e = absurd cc
front-drop (y ∷ xs) zero x rest e = (omega arith, cc, cc)
front-drop (y ∷ xs) (suc i) x rest e =
    let next : suc i + 1 ≡ suc (i + 1) = omega arith in
    let h = front-drop xs i x rest e in
    (omega (arith, h.0), h.1, ap (λ j. drop j (y ∷ xs)) next ∙ h.2)

key-of-first : (o : Option Plain) (rest keys : List ℕ) (at : ℕ) → drop at keys ≡ part_keys o rest → IsKeyOf o (slice_index keys at) × (drop (at + count_types o) keys ≡ rest)
key-of-first None rest keys at e = let none : at + 0 ≡ at = omega arith in (tt, ap (λ n. drop n keys) none ∙ e)
key-of-first (Some ty) rest keys at e = let h = front-drop keys at (key_of ty) rest e in (h.1, h.2)

-- the key of the part at an index, and those after it
pub keys-front : (parts : List Part) (i : ℕ) (keys : List ℕ) (at : ℕ) → drop at keys ≡ slot_keys (drop i parts) → IsKeyOf (type_at parts i) (slice_index keys at) × (drop (at + count_types (type_at parts i)) keys ≡ slot_keys (drop (i + 1) parts))
keys-front [] i keys at e =
    let none : at + 0 ≡ at = omega arith in
    (tt, ap (λ n. drop n keys) none ∙ (e ∙ (ap slot_keys (drop-nil i) ∙ sym (ap slot_keys (drop-nil (i + 1))))))
keys-front (p ∷ parts) zero keys at e = key-of-first p.1 (slot_keys parts) keys at e
keys-front (p ∷ parts) (suc i) keys at e =
    let next : suc i + 1 ≡ suc (i + 1) = omega arith in
    let h = keys-front parts i keys at e in
    (h.0, h.1 ∙ ap (λ n. slot_keys (drop n (p ∷ parts))) (sym next))

pub part-at : (parts : List Part) (i : ℕ) → i < length parts → (part : Part) × (slice_get parts i ≡ Some part) × (type_at parts i ≡ part.1)
part-at [] i h = absurd (omega (arith, h))
part-at (p ∷ parts) zero h = (p, refl, refl)
part-at (p ∷ parts) (suc i) h = part-at parts i (omega (arith, h))

pub part-count : (o : Option Plain) → count_types o ≤ 1
part-count None = omega arith
part-count (Some ty) = omega arith

-- ---- what a look-up gives

pub leads-placed : (tys : List Plain) (o : Option ℕ) (ty : Plain) → IsPlaceOf tys ty o → Leads tys o (Some ty)
leads-placed tys None ty h = h
leads-placed tys (Some at) ty h = h

pub placed-at : (tys : List Plain) (o : Option ℕ) (ty : Plain) → IsAt tys ty o → IsPlaceOf tys ty o
placed-at tys None ty h = absurd h
placed-at tys (Some at) ty h = h

pub below-some : (n : ℕ) (o : Option ℕ) → IfSome o (λ at. at < n) → IsBelow n o
below-some n None h = tt
below-some n (Some at) h = h

-- ---- two types with the same parts

pub slot-same : (tys : List Plain) (links others : List (Option ℕ)) (ps qs : List Part) (i : ℕ) (m n : Name) (s t : Plain) (l k : Option ℕ) (same : Bool)
    → slice_get ps i ≡ Some (m, Some s) → slice_get qs i ≡ Some (n, Some t) → m ≡ n → l ≡ link_at links i → k ≡ link_at others i
    → (Leads tys l (Some s) → Leads tys k (Some t) → OnTrue same (s ≡ t))
    → AreLinks tys links ps → AreLinks tys others qs → OnTrue same (slice_get ps i ≡ slice_get qs i)
slot-same tys links others ps qs i m n s t l k same e f names l_is k_is h a b =
    let first : Leads tys l (Some s) = subst (λ o. Leads tys o (Some s)) (sym l_is) (leads-at tys links ps i (m, Some s) a e) in
    let second : Leads tys k (Some t) = subst (λ o. Leads tys o (Some t)) (sym k_is) (leads-at tys others qs i (n, Some t) b f) in
    OnTrue_from same (slice_get ps i ≡ slice_get qs i)
    (λ on. let types : s ≡ t = OnTrue_at on (h first second) in e ∙ (ap (λ (x : Name). Some (x, Some s)) names ∙ (ap (λ (x : Plain). Some (n, Some x)) types ∙ sym f)))

pub take-same : (ps qs : List Part) (i : ℕ) → i < length ps → slice_get ps i ≡ slice_get qs i → take i ps ≡ take i qs → take (i + 1) ps ≡ take (i + 1) qs
take-same ps qs i lt e same =
    let p = part-at ps i lt in
    take-get ps i p.0 p.1 ∙ (ap (λ xs. xs ++ p.0 ∷ []) same ∙ sym (take-get qs i p.0 (sym e ∙ p.1)))

-- ---- what a table has

has-slots : (types : Types) (ps : Parts) → HasParts types ps → HasSlots types (slots_in ps)
has-slots types End h = tt
has-slots types (More name ty rest) h = (h.0, has-slots types rest h.1)
has-slots types (Bare name rest) h = (tt, has-slots types rest h)

pub own-slots : (types : Types) (p : Plain) → HasOwnParts types p → HasSlots types (slots_of p)
own-slots types (ListType item) h = (h, tt)
own-slots types (RecordType form fields) h = has-slots types fields h.1
own-slots types (VariantType form cases) h = has-slots types cases h.1
own-slots types BoolType h = tt
own-slots types (SignedType w) h = tt
own-slots types (UnsignedType w) h = tt
own-slots types CharType h = tt
own-slots types StringType h = tt
own-slots types (FlagsType labels) h = tt
own-slots types (OwnType r) h = tt
own-slots types (BorrowType r) h = tt

pub slot-has : (types : Types) (parts : List Part) (i : ℕ) (part : Part) → HasSlots types parts → slice_get parts i ≡ Some part → HasAnswer types part.1
slot-has types [] i part h e = absurd cc
slot-has types (p ∷ parts) zero part h e = let is : p ≡ part = cc in subst (λ q. HasAnswer types q.1) is h.0
slot-has types (p ∷ parts) (suc i) part h e = slot-has types parts i part h.1 e

-- one link more, with what it leads to
module _ (types : Types) (p : Plain) (i : ℕ) (links : List (Option ℕ)) (lt : i < length (slots_of p)) (so_far : HasOwnParts types p → AreLinks (trees types) links (take i (slots_of p))) where
  here : (part : Part) × (slice_get (slots_of p) i ≡ Some part) × (type_at (slots_of p) i ≡ part.1)
  here = part-at (slots_of p) i lt

  pub linked : (link : Option ℕ) (o : Option Plain) → type_at (slots_of p) i ≡ o → (HasAnswer types o → Leads (trees types) link o) → HasOwnParts types p
      → AreLinks (trees types) (links ++ link ∷ []) (take (i + 1) (slots_of p))
  linked link o e leads h =
      let is : o ≡ (here.0).1 = sym e ∙ here.2 in
      let has : HasAnswer types o = subst (HasAnswer types) (sym is) (slot-has types (slots_of p) i here.0 (own-slots types p h) here.1) in
      subst (AreLinks (trees types) (links ++ link ∷ [])) (sym (take-get (slots_of p) i here.0 here.1))
      (links-push (trees types) links (take i (slots_of p)) link here.0 (so_far h) (subst (λ x. Leads (trees types) link x) is (leads has)))

-- ---- keys

at-key : (k q : ℕ) → is_at (nat_cmp k) q ≡ true → k ≡ q
at-key k q h = grind (arith, common_steps)

apart-by : (k q : ℕ) (b : Bool) → is_at (nat_cmp k) q ≡ b → (k ≡ q → ⊥) → is_at (nat_cmp k) q ≡ false
apart-by k q true e h = absurd (h (at-key k q e))
apart-by k q false e h = e

apart : (k q : ℕ) → (k ≡ q → ⊥) → is_at (nat_cmp k) q ≡ false
apart k q h = apart-by k q _ refl h

pub found : (types : Types) (places : BTreeMap ℕ ℕ) (key : ℕ) (o : Option ℕ) (ty : Plain) → AreNodes types places → get nat_cmp places key ≡ o → key ≡ key_of ty → Contains (trees types) ty → IsAt (trees types) ty o
found types places key None ty ok e is h = let p = contained (trees types) ty h in ok.new key p.0 ty e p.1 (sym is)
found types places key (Some at) ty ok e is h =
    let p = contained (trees types) ty h in
    subst (λ i. slice_get (trees types) i ≡ Some ty) (ok.one key at p.0 ty e p.1 (sym is)) p.1

pub found-within : (types : Types) (places : BTreeMap ℕ ℕ) (key : ℕ) (o : Option ℕ) → AreNodes types places → get nat_cmp places key ≡ o → IfSome o (λ at. at < length types)
found-within types places key None ok e = tt
found-within types places key (Some at) ok e = ok.within key at e

module _ (types : Types) (places : BTreeMap ℕ ℕ) (ok : AreNodes types places) (at other : ℕ) (ty : Plain) (e : slice_get (trees types) at ≡ Some ty) (f : slice_get (trees types) other ≡ Some ty) where
  same-by : (o : Option ℕ) → get nat_cmp places (key_of ty) ≡ o → at ≡ other
  same-by None g = absurd (ok.new (key_of ty) at ty g e refl)
  same-by (Some p) g = ok.one (key_of ty) p at ty g e refl ∙ sym (ok.one (key_of ty) p other ty g f refl)

  pub once : at ≡ other
  once = same-by _ refl

pub node-below : (nodes : List Node) (places : BTreeMap ℕ ℕ) (at : ℕ) (r : Option (Bor Node)) → AreNodes (types_in nodes) places → option_map (λ x. x.now) r ≡ slice_get nodes at → IfSome r (λ n. AreBelow at n.now.links)
node-below nodes places at None ok e = tt
node-below nodes places at (Some x) ok e = ok.below at (placed x.now) (slice_get-map placed nodes at ∙ ap (option_map placed) (sym e))

pub no_nodes : (places : BTreeMap ℕ ℕ) → (updates : (key : ℕ) → get nat_cmp places key ≡ None) → AreNodes [] places
no_nodes places empty = record { below = λ at p e. absurd cc; within = λ key at e. let f = empty key in absurd cc; new = λ key at ty e h k. absurd cc; one = λ key at other ty e h k. absurd cc }

pub contains-got : {A : Type 0} (xs : List A) (i : ℕ) (x : A) → slice_get xs i ≡ Some x → Contains xs x
contains-got xs i x e = subst (Contains xs) (get_or_from_slice_get xs i x x e) (Contains-get_or xs i x (slice_get_within xs i x e))

-- one type more, of a new key
module _ (types : Types) (old new : BTreeMap ℕ ℕ) (ok : AreNodes types old) (key : ℕ) (p : Placed) (is : key ≡ key_of p.tree)
    (updates : Updates nat_cmp old new key (Some (length types))) (fresh : (t : Plain) → key_of p.tree ≡ key_of t → Contains (trees types) t → ⊥) (under : AreBelow (length types) p.links) where
  more : trees (types ++ p ∷ []) ≡ trees types ++ p.tree ∷ []
  more = trees-append types (p ∷ [])

  all-under : (at : ℕ) (q : Placed) → slice_get (types ++ p ∷ []) at ≡ Some q → AreBelow at q.links
  all-under at q e =
      ⊎_elim (λ h. ok.below at q h)
      (λ h. subst (λ (m : Placed). AreBelow at m.links) h.1 (subst (λ i. AreBelow i p.links) (sym h.0) under))
      (get-pushed types p at q e)

  its-place : (q at : ℕ) → key ≡ q → get nat_cmp new q ≡ Some at → at ≡ length types
  its-place q at same e = let g = updates.1 in let f = ap (get nat_cmp new) same in cc

  elsewhere : (q : ℕ) → (key ≡ q → ⊥) → get nat_cmp old q ≡ get nat_cmp new q
  elsewhere q ne = sym (updates.2 q (apart key q ne))

  all-within : (q at : ℕ) → get nat_cmp new q ≡ Some at → at < length (types ++ p ∷ [])
  all-within q at e =
      let longer = length-append types (p ∷ []) in
      ⊎_elim (λ same. let here = its-place q at same e in omega (arith, longer, here))
      (λ ne. let there = ok.within q at (elsewhere q ne ∙ e) in omega (arith, longer, there))
      (cases_eq key q)

  all-new : (q at : ℕ) (t : Plain) → get nat_cmp new q ≡ None → slice_get (trees (types ++ p ∷ [])) at ≡ Some t → key_of t ≡ q → ⊥
  all-new q at t e h k =
      ⊎_elim (λ same. absurd (let g = updates.1 in let f = ap (get nat_cmp new) same in cc))
      (λ ne. ⊎_elim (λ here. ok.new q at t (elsewhere q ne ∙ e) here k) (λ here. ne (is ∙ (ap key_of here.1 ∙ k))) (get-pushed (trees types) p.tree at t (sym (ap (λ tys. slice_get tys at) more) ∙ h)))
      (cases_eq key q)

  all-one : (q at other : ℕ) (t : Plain) → get nat_cmp new q ≡ Some at → slice_get (trees (types ++ p ∷ [])) other ≡ Some t → key_of t ≡ q → other ≡ at
  all-one q at other t e h k =
      ⊎_elim
      (λ here.
      ⊎_elim (λ same. absurd (fresh t (sym is ∙ (same ∙ sym k)) (contains-got (trees types) other t here)))
      (λ ne. ok.one q at other t (elsewhere q ne ∙ e) here k)
      (cases_eq key q))
      (λ here. here.0 ∙ (trees-length types ∙ sym (its-place q at (is ∙ (ap key_of here.1 ∙ k)) e)))
      (get-pushed (trees types) p.tree other t (sym (ap (λ tys. slice_get tys other) more) ∙ h))

  pub pushed : AreNodes (types ++ p ∷ []) new
  pushed = record { below = all-under; within = all-within; new = all-new; one = all-one }
