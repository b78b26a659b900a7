-- What a table has it still has when it grew, and what is found in entries that it has.
use Rattle.std.proofs.Common.{◌≡◌, ◌∙◌, ap, refl, sym, subst, append_assoc, ℕ, zero, suc, List, [], ◌∷◌, ◌++◌, Bool, true, false, Option, Some, None, cond, slice_get}
use Rattle.std.specs.Prelude.{Contains, ◌⊎◌}
use Rattle.std.specs.Option.{option_map}
use Rattle.std.proofs.lemmas.Bool.{false≢true}
use Rattle.std.proofs.lemmas.List.{append-nil, map-append}
use Rattle.std.proofs.lemmas.List.Elements.{Contains-append_left, Contains-push}
use Rattle.std.proofs.lemmas.Option.{same_Some}
use mathlib.Core.Logic.{inl, inr, ⊎_elim}
use Rattle.wit_types.specs.Plain.{Name, Plain, Parts, PlainFunc, ListType, RecordType, VariantType, End as NoParts, More as Some_part, Bare, case_part}
use Rattle.comp_facts.specs.Handles.{has_handle, func_has_handle}
use Rattle.comp_types.specs.Items.{Item, Kind, Entries, FuncItem, InstanceItem, KindItem, ResourceKind, ValueKind, FuncKind, InstanceKind, End, More, same_name, look_up, and_entry}
use Rattle.comp_types.specs.Substitution.{value_with, func_with}
use Rattle.comp_types.proofs.FactsWith.{value-stays, func-stays}
use Rattle.type_table.specs.Slots.{Part, slots_of}
use Rattle.type_table.specs.Tables.{Placed, Types, trees, Leads, AreLinks, IsSound, needs_place, Has, HasParts, HasOwnParts, HasAnswer, HasFunc, HasItem, HasKind, HasEntries, Grew}

-- no value is none
pub some_none : {A : Type 0} {x : A} {B : Type 0} → Some x ≡ None → B
some_none e = cc

-- ---- lists

pub get-append : {A : Type 0} (xs ys : List A) (at : ℕ) (x : A) → slice_get xs at ≡ Some x → slice_get (xs ++ ys) at ≡ Some x
get-append [] ys at x e = cc
get-append (z ∷ xs) ys zero x e = e
get-append (z ∷ xs) ys (suc at) x e = get-append xs ys at x e

-- what stands in a list with one more stood there before, or is that one
pub get-pushed : {A : Type 0} (xs : List A) (y : A) (at : ℕ) (x : A) → slice_get (xs ++ y ∷ []) at ≡ Some x → (slice_get xs at ≡ Some x) ⊎ (y ≡ x)
get-pushed [] y zero x e = inr (same_Some y x e)
get-pushed [] y (suc at) x e = cc
get-pushed (z ∷ xs) y zero x e = inl e
get-pushed (z ∷ xs) y (suc at) x e = get-pushed xs y at x e

pub trees-append : (xs ys : Types) → trees (xs ++ ys) ≡ trees xs ++ trees ys
trees-append xs ys = map-append (λ (p : Placed). p.tree) xs ys

pub tree_at : (types : Types) (at : ℕ) (p : Placed) → slice_get types at ≡ Some p → slice_get (trees types) at ≡ Some p.tree
tree_at [] at p e = cc
tree_at (q ∷ types) zero p e = ap (λ (o : Option Placed). option_map (λ (x : Placed). x.tree) o) e
tree_at (q ∷ types) (suc at) p e = tree_at types at p e

-- ---- places of parts

lead-append : (tys more : List Plain) (link : Option ℕ) (o : Option Plain) → Leads tys link o → Leads (tys ++ more) link o
lead-append tys more None None h = tt
lead-append tys more None (Some ty) h = h
lead-append tys more (Some at) None h = h
lead-append tys more (Some at) (Some ty) h = get-append tys more at ty h

pub links-append : (tys more : List Plain) (links : List (Option ℕ)) (parts : List Part) → AreLinks tys links parts → AreLinks (tys ++ more) links parts
links-append tys more [] [] h = h
links-append tys more (link ∷ links) (part ∷ parts) h = (lead-append tys more link part.1 h.0, links-append tys more links parts h.1)
links-append tys more [] (part ∷ parts) h = h
links-append tys more (link ∷ links) [] h = h

pub links-grew : (old new : Types) (links : List (Option ℕ)) (parts : List Part) → Grew old new → AreLinks (trees old) links parts → AreLinks (trees new) links parts
links-grew old new links parts g h =
    subst (λ ts. AreLinks (trees ts) links parts) (sym g.is)
    (subst (λ tys. AreLinks tys links parts) (sym (trees-append old g.more)) (links-append (trees old) (trees g.more) links parts h))

-- ---- sound tables

pub sound_none : IsSound []
sound_none = record { linked = λ at p e. cc }

-- with one more, whose parts stand in the table
pub sound-push : (types : Types) (p : Placed) → IsSound types → AreLinks (trees types) p.links (slots_of p.tree) → IsSound (types ++ p ∷ [])
sound-push types p s h = record { linked = λ at q e. ⊎_elim (kept at q) (added q) (get-pushed types p at q e) }
  where
    longer : (q : Placed) → AreLinks (trees types) q.links (slots_of q.tree) → AreLinks (trees (types ++ p ∷ [])) q.links (slots_of q.tree)
    longer q k = subst (λ tys. AreLinks tys q.links (slots_of q.tree)) (sym (trees-append types (p ∷ []))) (links-append (trees types) (p.tree ∷ []) q.links (slots_of q.tree) k)

    kept : (at : ℕ) (q : Placed) → slice_get types at ≡ Some q → AreLinks (trees (types ++ p ∷ [])) q.links (slots_of q.tree)
    kept at q e = longer q (s.linked at q e)

    added : (q : Placed) → p ≡ q → AreLinks (trees (types ++ p ∷ [])) q.links (slots_of q.tree)
    added q e = subst (λ (x : Placed). AreLinks (trees (types ++ p ∷ [])) x.links (slots_of x.tree)) e (longer p h)

-- primitives and handles need no place
pub has_leaf : (types : Types) (ty : Plain) → IsSound types → needs_place ty ≡ false → Has types ty
has_leaf types ty s e = (s, λ needs. absurd (false≢true (sym e ∙ needs)))

-- ---- it only grew

pub grew_same : (types : Types) → Grew types types
grew_same types = record { sound = λ s. s; more = []; is = sym (append-nil types) }

pub grew_is : (old new : Types) → new ≡ old → Grew old new
grew_is old new e = subst (Grew old) (sym e) (grew_same old)

pub grew_then : (old mid new : Types) → Grew old mid → Grew mid new → Grew old new
grew_then old mid new g h = record {
  sound = λ s. h.sound (g.sound s);
  more = g.more ++ h.more;
  is = h.is ∙ (ap (λ ts. ts ++ h.more) g.is ∙ append_assoc old g.more h.more);
}

pub grew_push : (types : Types) (p : Placed) → (IsSound types → AreLinks (trees types) p.links (slots_of p.tree)) → Grew types (types ++ p ∷ [])
grew_push types p h = record { sound = λ s. sound-push types p s (h s); more = p ∷ []; is = refl }

-- ---- so it has what it had

pub contains-grew : (old new : Types) (ty : Plain) → Grew old new → Contains (trees old) ty → Contains (trees new) ty
contains-grew old new ty g h =
    subst (λ ts. Contains (trees ts) ty) (sym g.is) (subst (λ tys. Contains tys ty) (sym (trees-append old g.more)) (Contains-append_left (trees old) (trees g.more) ty h))

pub has-grew : (old new : Types) (ty : Plain) → Grew old new → Has old ty → Has new ty
has-grew old new ty g h = (g.sound h.0, λ needs. contains-grew old new ty g (h.1 needs))

pub has-push : (types : Types) (p : Placed) → IsSound types → AreLinks (trees types) p.links (slots_of p.tree) → Has (types ++ p ∷ []) p.tree
has-push types p s h = (sound-push types p s h, λ needs. subst (λ tys. Contains tys p.tree) (sym (trees-append types (p ∷ []))) (Contains-push (trees types) p.tree))

pub parts-grew : (old new : Types) (ps : Parts) → Grew old new → HasParts old ps → HasParts new ps
parts-grew old new NoParts g h = h
parts-grew old new (Some_part n ty rest) g h = (has-grew old new ty g h.0, parts-grew old new rest g h.1)
parts-grew old new (Bare n rest) g h = parts-grew old new rest g h

pub own_parts-grew : (old new : Types) (ty : Plain) → Grew old new → HasOwnParts old ty → HasOwnParts new ty
own_parts-grew old new (ListType item) g h = has-grew old new item g h
own_parts-grew old new (RecordType form fields) g h = (g.sound h.0, parts-grew old new fields g h.1)
own_parts-grew old new (VariantType form cases) g h = (g.sound h.0, parts-grew old new cases g h.1)
own_parts-grew old new _ g h = g.sound h

pub answer-grew : (old new : Types) (o : Option Plain) → Grew old new → HasAnswer old o → HasAnswer new o
answer-grew old new None g h = h
answer-grew old new (Some ty) g h = has-grew old new ty g h

pub func-grew : (old new : Types) (ty : PlainFunc) → Grew old new → HasFunc old ty → HasFunc new ty
func-grew old new ty g h = (parts-grew old new ty.params g h.0, answer-grew old new ty.answer g h.1)

mutual
  pub item-grew : (old new : Types) (i : Item) → Grew old new → HasItem old i → HasItem new i
  item-grew old new (FuncItem ty) g h = func-grew old new ty g h
  item-grew old new (InstanceItem entries) g h = entries-grew old new entries g h
  item-grew old new (KindItem kind) g h = kind-grew old new kind g h

  pub kind-grew : (old new : Types) (k : Kind) → Grew old new → HasKind old k → HasKind new k
  kind-grew old new (ResourceKind r) g h = h
  kind-grew old new (ValueKind ty) g h = has-grew old new ty g h
  kind-grew old new (FuncKind ty) g h = func-grew old new ty g h
  kind-grew old new (InstanceKind own entries) g h = entries-grew old new entries g h

  pub entries-grew : (old new : Types) (es : Entries) → Grew old new → HasEntries old es → HasEntries new es
  entries-grew old new End g h = h
  entries-grew old new (More n i rest) g h = (item-grew old new i g h.0, entries-grew old new rest g h.1)

-- ---- entries

module _ (types : Types) where
  found_first : (b : Bool) (i item : Item) (o : Option Item) → HasItem types i → (o ≡ Some item → HasItem types item) → cond b (Some i) o ≡ Some item → HasItem types item
  found_first true i item o h rest e = let same : i ≡ item = cc in subst (HasItem types) same h
  found_first false i item o h rest e = rest e

  pub found-has : (name : Name) (es : Entries) (item : Item) → look_up name es ≡ Some item → HasEntries types es → HasItem types item
  found-has name End item e h = cc
  found-has name (More n i rest) item e h =
      found_first (same_name n name) i item (look_up name rest) h.0 (λ later. found-has name rest item later h.1) e

  pub and_entry-has : (es : Entries) (name : Name) (item : Item) → HasEntries types es → HasItem types item → HasEntries types (and_entry es name item)
  and_entry-has End name item h k = (k, h)
  and_entry-has (More n i rest) name item h k = (h.0, and_entry-has rest name item h.1 k)

  -- ---- parts

  pub case_part-has : (name : Name) (o : Option Plain) (rest : Parts) → HasAnswer types o → HasParts types rest → HasParts types (case_part name o rest)
  case_part-has name None rest h k = k
  case_part-has name (Some ty) rest h k = (h, k)

  -- ---- types without handles, with other resources

  pub value-stays_had : (f : ℕ → ℕ) (ty : Plain) → has_handle ty ≡ false → Has types ty → Has types (value_with f ty)
  value-stays_had f ty bare h = subst (Has types) (sym (value-stays f ty bare)) h

  pub func-stays_had : (f : ℕ → ℕ) (ty : PlainFunc) → func_has_handle ty ≡ false → HasFunc types ty → HasFunc types (func_with f ty)
  func-stays_had f ty bare h = subst (HasFunc types) (sym (func-stays f ty bare)) h
