-- What becomes of a table to which a type is added, or is not since it stands there.
use Rattle.std.proofs.Common.{◌≡◌, ◌∙◌, ◌<◌, ◌≤◌, ℕ, zero, suc, arith, ap, refl, sym, subst, false, Option, Some, None, List, [], ◌∷◌, ◌++◌, length, slice_get}
use Rattle.std.specs.Prelude.{All}
use Rattle.std.proofs.lemmas.List.{append-nil}
use Rattle.std.proofs.Common.{append_assoc}
use Rattle.std.proofs.lemmas.List.Elements.{All-weaker}
use Rattle.wit_types.specs.Plain.{Plain, ListType, RecordType, VariantType, FlagsType, BoolType, SignedType, UnsignedType, CharType, StringType, OwnType, BorrowType}
use Rattle.type_table.specs.Slots.{Part, slots_of}
use Rattle.type_table.specs.Tables.{Placed, Types, trees, Leads, AreLinks, IsSound, needs_place, Has, HasOwnParts, Grew}
use Rattle.type_table.specs.Nodes.{IsBelow, AreBelow, IsLonger, IsThere}
use Rattle.type_table.specs.Made.{MadeOf, IsMadeAt}
use Rattle.type_table.specs.declared.making.Made.{Made}
use Rattle.type_table.proofs.HasLaws.{get-append, trees-append, has_leaf, has-push, has-grew, grew_same, grew_push}
use Rattle.type_table.proofs.MetLaws.{tree-grew}
use Rattle.type_table.proofs.NodeLemmas.{trees-length}

-- ---- what add answers

pub own-sound : (types : Types) (p : Plain) → HasOwnParts types p → IsSound types
own-sound types (ListType item) h = h.0
own-sound types (RecordType form fields) h = h.0
own-sound types (VariantType form cases) h = h.0
own-sound types BoolType h = h
own-sound types (SignedType w) h = h
own-sound types (UnsignedType w) h = h
own-sound types CharType h = h
own-sound types StringType h = h
own-sound types (FlagsType labels) h = h
own-sound types (OwnType r) h = h
own-sound types (BorrowType r) h = h

module _ (types : Types) (p : Plain) where
  -- primitives and handles need no place
  pub adds-leaf : needs_place p ≡ false → HasOwnParts types p → Grew types types × Has types p
  adds-leaf e h = (grew_same types, has_leaf types p (own-sound types p h) e)

  -- it is there
  pub adds-there : (same : Plain) (links : List (Option ℕ)) → (HasOwnParts types p → AreLinks (trees types) links (slots_of p))
      → (IsSound types → AreLinks (trees types) links (slots_of p) → IsThere types p same) → HasOwnParts types p → Grew types types × Has types p
  adds-there same links linked is h =
      let sound = own-sound types p h in
      (grew_same types, (sound, λ needs. (is sound (linked h)).1))

  -- it goes after the others
  pub adds-pushed : (new : Types) (t : Plain) (links : List (Option ℕ)) → new ≡ types ++ record { tree = t; links = links } ∷ [] → t ≡ p → (HasOwnParts types p → AreLinks (trees types) links (slots_of p))
      → HasOwnParts types p → Grew types new × Has new p
  adds-pushed new t links is same linked h =
      let q : Placed = record { tree = p; links = links } in
      let sound = own-sound types p h in
      let all : new ≡ types ++ q ∷ [] = is ∙ ap (λ (x : Plain). types ++ record { tree = x; links = links } ∷ []) same in
      subst (λ ts. Grew types ts × Has ts p) (sym all) (grew_push types q (λ s. linked h), has-push types q sound (linked h))

-- ---- longer tables

get-back : {A : Type 0} (xs ys : List A) (at : ℕ) (x : A) → at < length xs → slice_get (xs ++ ys) at ≡ Some x → slice_get xs at ≡ Some x
get-back [] ys at x lt e = absurd (omega (arith, lt))
get-back (z ∷ xs) ys zero x lt e = e
get-back (z ∷ xs) ys (suc at) x lt e = get-back xs ys at x (omega (arith, lt)) e

get-within : {A : Type 0} (xs : List A) (at : ℕ) (x : A) → slice_get xs at ≡ Some x → at < length xs
get-within [] at x e = absurd cc
get-within (z ∷ xs) zero x e = omega arith
get-within (z ∷ xs) (suc at) x e = let h = get-within xs at x e in omega arith

lead-back : (tys more : List Plain) (at : ℕ) (link : Option ℕ) (o : Option Plain) → at ≤ length tys → IsBelow at link → Leads (tys ++ more) link o → Leads tys link o
lead-back tys more at None None le b h = tt
lead-back tys more at None (Some ty) le b h = h
lead-back tys more at (Some other) None le b h = h
lead-back tys more at (Some other) (Some ty) le b h = get-back tys more other ty (omega (arith, le, b)) h

links-back : (tys more : List Plain) (at : ℕ) (links : List (Option ℕ)) (parts : List Part) → at ≤ length tys → AreBelow at links → AreLinks (tys ++ more) links parts → AreLinks tys links parts
links-back tys more at [] [] le b h = tt
links-back tys more at [] (p ∷ parts) le b h = h
links-back tys more at (k ∷ links) [] le b h = h
links-back tys more at (k ∷ links) (p ∷ parts) le b h = (lead-back tys more at k p.1 le b.0 h.0, links-back tys more at links parts le b.1 h.1)

-- places that lie below the types that they are places of lead to the same types
pub sound-back : (types more : Types) → ((at : ℕ) (p : Placed) → slice_get types at ≡ Some p → AreBelow at p.links) → IsSound (types ++ more) → IsSound types
sound-back types more below s = record {
  linked = λ at p e.
      let lt = get-within types at p e in
      let few = trees-length types in
      links-back (trees types) (trees more) at p.links (slots_of p.tree) (omega arith) (below at p e)
      (subst (λ tys. AreLinks tys p.links (slots_of p.tree)) (trees-append types more) (s.linked at p (get-append types more at p e)));
}

pub longer_same : (old new : Types) → new ≡ old → IsLonger old new
longer_same old new e = subst (IsLonger old) (sym e) (record { more = []; is = sym (append-nil old); back = λ s. s })

pub longer_push : (types : Types) (p : Placed) → ((at : ℕ) (q : Placed) → slice_get types at ≡ Some q → AreBelow at q.links) → IsLonger types (types ++ p ∷ [])
longer_push types p below = record { more = p ∷ []; is = refl; back = sound-back types (p ∷ []) below }

pub longer_then : (old mid new : Types) → IsLonger old mid → IsLonger mid new → IsLonger old new
longer_then old mid new g h = record {
  more = g.more ++ h.more;
  is = h.is ∙ (ap (λ ts. ts ++ h.more) g.is ∙ append_assoc old g.more h.more);
  back = λ s. g.back (h.back s);
}

-- ---- what was made of a table's types

grows : (old new : Types) → IsLonger old new → IsSound new → Grew old new
grows old new g s = record { sound = λ _. s; more = g.more; is = g.is }

pub made-stays : (old new : Types) (f : ℕ → ℕ) (at : ℕ) (ty : Plain) → IsLonger old new → IsSound new → MadeOf old f at ty → MadeOf new f at ty
made-stays old new f at ty g s m =
    let grew = grows old new g s in
    (m.0, tree-grew old new at m.0 grew m.1, m.2, has-grew old new ty grew m.3)

pub all_made-stay : (old new : Types) (f : ℕ → ℕ) (ms : List Made) → IsLonger old new → (IsSound old → All (IsMadeAt old f) ms) → IsSound new → All (IsMadeAt new f) ms
all_made-stay old new f ms g h s = All-weaker (IsMadeAt old f) (IsMadeAt new f) (λ m. made-stays old new f m.at m.new.value g s) ms (h (g.back s))
