-- What is made of types of a table with other resources, by places and by parts.
use mathlib.Core.Logic.{inl, inr, ⊎_elim}
use Rattle.std.proofs.Common.{◌≡◌, ◌∙◌, ◌+◌, ◌<◌, ℕ, arith, ap, refl, sym, subst, Bool, true, false, Option, Some, None, List, [], ◌∷◌, ◌++◌, length, get_or, take, map, slice_get}
use Rattle.std.specs.Prelude.{All, Contains, IfSome, is_some, nat_lt, ◌||◌, ◌⊎◌}
use Rattle.std.specs.Borrow.{Bor}
use Rattle.std.proofs.lemmas.Bool.{false≢true}
use Rattle.std.proofs.lemmas.Bool.Decides.{nat_tests}
use Rattle.std.proofs.lemmas.List.{take_more}
use Rattle.std.proofs.lemmas.List.Elements.{All-push, All-same}
use Rattle.std.proofs.lemmas.Option.{same_Some, slice_get_within, get_or_from_slice_get}
use Rattle.wit_types.specs.declared.types.Field.{Field, out-Field}
use Rattle.wit_types.specs.Plain.{Name, Plain, Parts, PlainFunc, OwnType, BorrowType, End, More, Bare, plain, fields_of}
use Rattle.comp_facts.specs.Facts.{and_part}
use Rattle.comp_facts.specs.Handles.{has_handle, has_handle_in, answer_has_handle, func_has_handle}
use Rattle.comp_types.specs.Substitution.{value_with, parts_with, answer_with, func_with}
use Rattle.comp_types.proofs.FactsWith.{value-stays, func-stays as stays}
use Rattle.type_table.specs.Slots.{Part, slots_of, form_number}
use Rattle.type_table.specs.Tables.{Types, trees, Leads, AreLinks, IsSound, Has, HasParts, HasOwnParts, HasAnswer, HasFunc, Grew}
use Rattle.type_table.specs.Nodes.{placed, link_at, type_at, HasEach, IsLonger}
use Rattle.type_table.specs.Retyped.{Fits, retyped}
use Rattle.type_table.specs.Made.{MadeOf, IsMadeAt}
use Rattle.type_table.specs.declared.table.Node.{Node}
use Rattle.type_table.specs.declared.making.Made.{Made}
use Rattle.type_table.proofs.HasLaws.{tree_at, links-grew, parts-grew, answer-grew, grew_then}
use Rattle.type_table.proofs.MetLaws.{tree-grew}
use Rattle.type_table.proofs.NodeLemmas.{part-at, take-get, leads-at}
use Rattle.type_table.proofs.RetypedLemmas.{IsNoHandle, retyped-with, has-retyped}

-- ---- what was made of the type at a place

module _ (types : Types) (f : ℕ → ℕ) where
  pub found-made : (ms : List Made) (r : Option (Bor Made)) (i at : ℕ) (m : Bor Made) (new : Plain)
      → is_some r ≡ nat_lt i (length ms) → IfSome r (λ x. x.now ≡ get_or ms i x.now) → r ≡ Some m → m.now.at ≡ at → new ≡ m.now.new.value
      → (IsSound types → All (IsMadeAt types f) ms) → IsSound types → MadeOf types f at new
  found-made ms None i at m new some is e place same h s = cc
  found-made ms (Some x) i at m new some is e place same h s =
      let inside : i < length ms = grind (arith, nat_tests) in
      let one : x ≡ m = same_Some x m e in
      let made : IsMadeAt types f x.now = subst (IsMadeAt types f) (sym is) (h s i x.now inside) in
      let there : x.now.at ≡ at = ap (λ (b : Bor Made). b.now.at) one ∙ place in
      let as_new : x.now.new.value ≡ new = ap (λ (b : Bor Made). b.now.new.value) one ∙ sym same in
      subst (λ a. MadeOf types f a new) there (subst (MadeOf types f x.now.at) as_new made)

  pub kept-made : (old new : List Made) (m : Made) → new ≡ old ++ m ∷ [] → (IsSound types → All (IsMadeAt types f) old) → (IsSound types → MadeOf types f m.at m.new.value) → IsSound types → All (IsMadeAt types f) new
  kept-made old new m e h k s = All-same (IsMadeAt types f) new (old ++ m ∷ []) e (All-push (IsMadeAt types f) old m (h s) (k s))

  pub made-same : (old new : List Made) → new ≡ old → (IsSound types → All (IsMadeAt types f) old) → IsSound types → All (IsMadeAt types f) new
  made-same old new e h s = All-same (IsMadeAt types f) new old e (h s)

  pub made-is : (at : ℕ) (ty new : Plain) → MadeOf types f at new → slice_get (trees types) at ≡ Some ty → new ≡ value_with f ty
  made-is at ty new m e = m.2 ∙ ap (value_with f) (same_Some m.0 ty (sym m.1 ∙ e))

at-contains : {A : Type 0} (xs : List A) (i : ℕ) (x : A) → slice_get xs i ≡ Some x → Contains xs x
at-contains xs i x e = (i, slice_get_within xs i x e, get_or_from_slice_get xs i x x e)

-- ---- the type at a place

module _ (types : Types) (at : ℕ) (node : Node) (is : slice_get types at ≡ Some (placed node)) where
  pub node-tree : slice_get (trees types) at ≡ Some node.known.value
  node-tree = tree_at types at (placed node) is

  pub node-contains : Contains (trees types) node.known.value
  node-contains = at-contains (trees types) at node.known.value node-tree

  pub node-links : IsSound types → AreLinks (trees types) node.links (slots_of node.known.value)
  node-links s = s.linked at (placed node) is

  pub node-is : (ty : Plain) → slice_get (trees types) at ≡ Some ty → node.known.value ≡ ty
  node-is ty e = same_Some node.known.value ty (sym node-tree ∙ e)

  -- what was made of it stands in the table, which is longer then
  pub node-made : (mid : Types) (f : ℕ → ℕ) (new : Plain) → IsLonger types mid → (IsSound types → Grew types mid) → (IsSound types → new ≡ value_with f node.known.value) → (IsSound types → Has mid new)
      → IsSound mid → MadeOf mid f at new
  node-made mid f new longer grew made has s =
      let sound = longer.back s in
      (node.known.value, tree-grew types mid at node.known.value (grew sound) node-tree, made sound, has sound)

-- ---- types without handles

pub stays-made : (f : ℕ → ℕ) (ty new : Plain) → has_handle ty ≡ false → new ≡ ty → new ≡ value_with f ty
stays-made f ty new bare e = e ∙ sym (value-stays f ty bare)

-- ---- types made of their parts

formed : (ty : Plain) → (form_number ty ≡ 0 → ⊥) → IsNoHandle ty
formed (OwnType r) h = h refl
formed (BorrowType r) h = h refl
formed _ h = tt

pub rebuilt-made : (f : ℕ → ℕ) (ty new : Plain) (tys : List (Option Plain)) → (form_number ty ≡ 0 → ⊥) → tys ≡ map (λ (p : Part). answer_with f p.1) (slots_of ty) → new ≡ retyped ty tys → new ≡ value_with f ty
rebuilt-made f ty new tys some e is = is ∙ (ap (retyped ty) e ∙ retyped-with f ty (formed ty some))

pub rebuilt-has : (types : Types) (ty new : Plain) (tys : List (Option Plain)) → Fits (slots_of ty) tys → HasEach types tys → IsSound types → new ≡ retyped ty tys → HasOwnParts types new
rebuilt-has types ty new tys fits has s is = subst (HasOwnParts types) (sym is) (has-retyped types ty tys s fits has)

-- ---- one part more

fits-push : (ps : List Part) (tys : List (Option Plain)) (p : Part) (ty : Option Plain) → Fits ps tys → is_some p.1 ≡ is_some ty → Fits (ps ++ p ∷ []) (tys ++ ty ∷ [])
fits-push [] [] p ty h e = (e, tt)
fits-push [] (t ∷ tys) p ty h e = absurd h
fits-push (q ∷ ps) [] p ty h e = absurd h
fits-push (q ∷ ps) (t ∷ tys) p ty h e = (h.0, fits-push ps tys p ty h.1 e)

module _ (ps : List Part) (i : ℕ) (lt : i < length ps) (o : Option Plain) (is : type_at ps i ≡ o) where
  pub fits-more : (tys : List (Option Plain)) (ty : Option Plain) → is_some o ≡ is_some ty → Fits (take i ps) tys → Fits (take (i + 1) ps) (tys ++ ty ∷ [])
  fits-more tys ty e h =
      let p = part-at ps i lt in
      subst (λ qs. Fits qs (tys ++ ty ∷ [])) (sym (take-get ps i p.0 p.1)) (fits-push (take i ps) tys p.0 ty h (ap is_some (sym p.2 ∙ is) ∙ e))

  pub part-leads : (old mid : Types) (links : List (Option ℕ)) → Grew old mid → AreLinks (trees old) links ps → Leads (trees mid) (link_at links i) o
  part-leads old mid links g h =
      let p = part-at ps i lt in
      subst (Leads (trees mid) (link_at links i)) (sym p.2 ∙ is) (leads-at (trees mid) links ps i p.0 (links-grew old mid links ps g h) p.1)

-- ---- parameters

and_part-has : (types : Types) (ps : Parts) (name : Name) (ty : Plain) → HasParts types ps → Has types ty → HasParts types (and_part ps name ty)
and_part-has types End name ty h k = (k, tt)
and_part-has types (More n t rest) name ty h k = (h.0, and_part-has types rest name ty h.1 k)
and_part-has types (Bare n rest) name ty h k = and_part-has types rest name ty h k

fields_with-and : (f : ℕ → ℕ) (xs : List Field) (x : Field) → parts_with f (fields_of (xs ++ x ∷ [])) ≡ and_part (parts_with f (fields_of xs)) (out-Field x).name (value_with f (plain (out-Field x).ty))
fields_with-and f [] x = refl
fields_with-and f (y ∷ xs) x = ap (More (out-Field y).name (value_with f (plain (out-Field y).ty))) (fields_with-and f xs x)

module _ (xs : List Field) (i : ℕ) (x : Field) (lt : i < length xs) (is : x ≡ get_or xs i x) (old new : Parts) (value : Plain) (more : new ≡ and_part old (out-Field x).name value) where
  pub param-made : (f : ℕ → ℕ) → value ≡ value_with f (plain (out-Field x).ty) → old ≡ parts_with f (fields_of (take i xs)) → new ≡ parts_with f (fields_of (take (i + 1) xs))
  param-made f v e =
      let longer : take (i + 1) xs ≡ take i xs ++ x ∷ [] = take_more xs i x lt ∙ ap (λ (y : Field). take i xs ++ y ∷ []) (sym is) in
      more ∙ (ap (λ ps. and_part ps (out-Field x).name value) e ∙ (ap (and_part (parts_with f (fields_of (take i xs))) (out-Field x).name) v ∙ (sym (fields_with-and f (take i xs) x) ∙ ap (λ ys. parts_with f (fields_of ys)) (sym longer))))

  pub param-has : (types : Types) → HasParts types old → Has types value → HasParts types new
  param-has types h k = subst (HasParts types) (sym more) (and_part-has types old (out-Field x).name value h k)

-- ---- answers of functions

pub answered : (old new : Types) (f : ℕ → ℕ) (asked : Option Plain) (ty made : Plain) (new_answer : Option Plain) → asked ≡ Some ty → new_answer ≡ Some made → (Has old ty → (made ≡ value_with f ty) × Has new made)
    → HasAnswer old asked → (new_answer ≡ answer_with f asked) × HasAnswer new new_answer
answered old new f asked ty made new_answer e g h has =
    let k = h (subst (HasAnswer old) e has) in
    (g ∙ (ap Some k.0 ∙ ap (answer_with f) (sym e)), subst (HasAnswer new) (sym g) k.1)

-- ---- types of functions

module _ (types : Types) where
  parts-sound : (ps : Parts) → HasParts types ps → has_handle_in ps ≡ true → IsSound types
  parts-sound End h e = absurd (false≢true e)
  parts-sound (More n t rest) h e = h.0.0
  parts-sound (Bare n rest) h e = parts-sound rest h e

  answer-sound : (o : Option Plain) → HasAnswer types o → answer_has_handle o ≡ true → IsSound types
  answer-sound None h e = absurd (false≢true e)
  answer-sound (Some ty) h e = h.0

  either : (a b : Bool) → (a || b) ≡ true → (a ≡ true) ⊎ (b ≡ true)
  either true b e = inl refl
  either false b e = inr e

  -- where a function has a handle, a table that has its types is sound
  pub func-sound : (ty : PlainFunc) → func_has_handle ty ≡ true → HasFunc types ty → IsSound types
  func-sound ty e h = ⊎_elim (parts-sound ty.params h.0) (answer-sound ty.answer h.1) (either (has_handle_in ty.params) (answer_has_handle ty.answer) e)

pub func-stays : (types : Types) (f : ℕ → ℕ) (ty made : PlainFunc) → func_has_handle ty ≡ false → made ≡ ty → HasFunc types ty → (made ≡ func_with f ty) × HasFunc types made
func-stays types f ty made bare e h = (e ∙ sym (stays f ty bare), subst (HasFunc types) (sym e) h)

-- its parameters are made first, and then its answer
module _ (old mid : Types) (ty : PlainFunc) (some : func_has_handle ty ≡ true) (first : IsSound old → Grew old mid) where
  pub func-grew_first : HasFunc old ty → Grew old mid
  func-grew_first has = first (func-sound old ty some has)

  module _ (new : Types) (second : IsSound mid → Grew mid new) where
    pub func-grew_both : HasFunc old ty → Grew old new
    func-grew_both has = let g = func-grew_first has in grew_then old mid new g (second (g.sound (func-sound old ty some has)))

    pub func-made : (f : ℕ → ℕ) (xs ps : Parts) (o a : Option Plain) (made : PlainFunc) → xs ≡ ty.params → o ≡ ty.answer → made ≡ record { params = ps; answer = a }
        → (IsSound old → HasParts old xs → (ps ≡ parts_with f xs) × HasParts mid ps) → (IsSound mid → HasAnswer mid o → (a ≡ answer_with f o) × HasAnswer new a)
        → HasFunc old ty → (made ≡ func_with f ty) × HasFunc new made
    func-made f xs ps o a made e g is params answer has =
        let sound = func-sound old ty some has in
        let grew = first sound in
        let later = grew.sound sound in
        let p = params sound (subst (HasParts old) (sym e) has.0) in
        let q = answer later (answer-grew old mid o grew (subst (HasAnswer old) (sym g) has.1)) in
        let first_as : ps ≡ parts_with f ty.params = p.0 ∙ ap (parts_with f) e in
        let last_as : a ≡ answer_with f ty.answer = q.0 ∙ ap (answer_with f) g in
        (is ∙ (λ i. record { params = first_as i; answer = last_as i }), subst (HasFunc new) (sym is) (parts-grew mid new ps (second later) p.1, q.1))
