-- Types whose parts have other types: what is made of all parts, what a table has then, and how large a part is.
use Rattle.std.proofs.Common.{◌≡◌, ◌∙◌, ◌+◌, ◌*◌, ◌<◌, ◌≤◌, ℕ, zero, suc, arith, ap, refl, sym, Option, Some, None, List, [], ◌∷◌, ◌++◌, length, map, take}
use Rattle.std.specs.Prelude.{IfOk, Result, Ok, Err, option_map, is_some, ⊤}
use Rattle.std.specs.Borrow.{Bor}
use Rattle.std.proofs.lemmas.List.{map-append}
use Rattle.wit_types.specs.declared.types.WitType.{WitType}
use Rattle.wit_types.specs.declared.types.WitType.TheVariants.{Record', Variant', Own, Borrow}
use Rattle.wit_types.specs.declared.types.Fields.{Fields'}
use Rattle.wit_types.specs.declared.types.Cases.{Cases'}
use Rattle.wit_types.specs.Plain.{Plain, Parts, ListType, RecordType, VariantType, OwnType, BorrowType, End, More, Bare, plain}
use Rattle.wit_types.specs.Limits.{parts, all_parts}
use Rattle.comp_types.specs.Substitution.{partner_in, value_with, parts_with, answer_with}
use Rattle.type_table.specs.Slots.{Part, slots_in, slots_of}
use Rattle.type_table.specs.Tables.{Types, IsSound, HasParts, HasOwnParts, HasAnswer, Grew}
use Rattle.type_table.specs.Nodes.{HasEach, type_at}
use Rattle.type_table.specs.Retyped.{Fits, retyped_parts, retyped}
use Rattle.type_table.proofs.HasLaws.{answer-grew, case_part-has}
use Rattle.type_table.proofs.NodeLemmas.{take-get, part-at}

-- ---- the types of all parts with other resources

pub values-more : (ps : List Part) (i : ℕ) → i < length ps → (tys : List (Option Plain)) (o : Option Plain) (f : ℕ → ℕ) → tys ≡ map (λ (p : Part). answer_with f p.1) (take i ps) → o ≡ answer_with f (type_at ps i) → tys ++ o ∷ [] ≡ map (λ (p : Part). answer_with f p.1) (take (i + 1) ps)
values-more ps i lt tys o f e is =
    let here = part-at ps i lt in
    let made : Part → Option Plain = λ p. answer_with f p.1 in
    let last : o ≡ answer_with f (here.0).1 = is ∙ ap (answer_with f) here.2 in
    ap (λ xs. xs ++ o ∷ []) e ∙ (ap (λ x. map made (take i ps) ++ x ∷ []) last ∙ (sym (map-append made (take i ps) (here.0 ∷ [])) ∙ ap (map made) (sym (take-get ps i here.0 here.1))))

some-with : (f : ℕ → ℕ) (o : Option Plain) → is_some o ≡ is_some (answer_with f o)
some-with f None = refl
some-with f (Some ty) = refl

pub fits-with : (f : ℕ → ℕ) (ps : List Part) → Fits ps (map (λ (p : Part). answer_with f p.1) ps)
fits-with f [] = tt
fits-with f (p ∷ ps) = (some-with f p.1, fits-with f ps)

-- ---- the type made of them

-- handles are made anew by their resources, and all other types by their parts
abbrev pub IsNoHandle : Plain → Type 0
IsNoHandle (OwnType resource) = ⊥
IsNoHandle (BorrowType resource) = ⊥
IsNoHandle _ = ⊤

pub no-handle : (t : WitType) → ((x : ℕ) → t ≡ Own x → ⊥) → ((x : ℕ) → t ≡ Borrow x → ⊥) → IsNoHandle (plain t)
unfolding plain
no-handle (Own x) a b = a x refl
no-handle (Borrow x) a b = b x refl
no-handle (Record' p (Fields' s y)) a b = tt
no-handle (Variant' p (Cases' s y)) a b = tt
no-handle _ a b = tt

parts-retyped : (f : ℕ → ℕ) (ps : Parts) → retyped_parts ps (map (λ (p : Part). answer_with f p.1) (slots_in ps)) ≡ parts_with f ps
parts-retyped f End = refl
parts-retyped f (More name ty rest) = ap (More name (value_with f ty)) (parts-retyped f rest)
parts-retyped f (Bare name rest) = ap (Bare name) (parts-retyped f rest)

pub retyped-with : (f : ℕ → ℕ) (ty : Plain) → IsNoHandle ty → retyped ty (map (λ (p : Part). answer_with f p.1) (slots_of ty)) ≡ value_with f ty
retyped-with f (ListType item) h = refl
retyped-with f (RecordType form fields) h = ap (RecordType form) (parts-retyped f fields)
retyped-with f (VariantType form cases) h = ap (VariantType form) (parts-retyped f cases)
retyped-with f (OwnType resource) h = absurd h
retyped-with f (BorrowType resource) h = absurd h
retyped-with f _ h = refl

mutual
  pub value-unpaired : (ty : Plain) → value_with (partner_in []) ty ≡ ty
  value-unpaired (ListType item) = ap ListType (value-unpaired item)
  value-unpaired (RecordType form fields) = ap (RecordType form) (parts-unpaired fields)
  value-unpaired (VariantType form cases) = ap (VariantType form) (parts-unpaired cases)
  value-unpaired _ = refl

  pub parts-unpaired : (ps : Parts) → parts_with (partner_in []) ps ≡ ps
  parts-unpaired End = refl
  parts-unpaired (More name ty rest) = ap (λ t. More name t (parts_with (partner_in []) rest)) (value-unpaired ty) ∙ ap (More name ty) (parts-unpaired rest)
  parts-unpaired (Bare name rest) = ap (Bare name) (parts-unpaired rest)

-- ---- what a table has

pub each-push : (types : Types) (tys : List (Option Plain)) (o : Option Plain) → HasEach types tys → HasAnswer types o → HasEach types (tys ++ o ∷ [])
each-push types [] o h k = (k, tt)
each-push types (ty ∷ tys) o h k = (h.0, each-push types tys o h.1 k)

pub each-grew : (old new : Types) (tys : List (Option Plain)) → Grew old new → HasEach old tys → HasEach new tys
each-grew old new [] g h = tt
each-grew old new (ty ∷ tys) g h = (answer-grew old new ty g h.0, each-grew old new tys g h.1)

retyped-parts-has : (types : Types) (ps : Parts) (tys : List (Option Plain)) → Fits (slots_in ps) tys → HasEach types tys → HasParts types (retyped_parts ps tys)
retyped-parts-has types End tys fits h = tt
retyped-parts-has types (More name ty rest) [] fits h = absurd fits
retyped-parts-has types (Bare name rest) [] fits h = absurd fits
retyped-parts-has types (More name ty rest) (o ∷ tys) fits h = case_part-has types name o (retyped_parts rest tys) h.0 (retyped-parts-has types rest tys fits.1 h.1)
retyped-parts-has types (Bare name rest) (o ∷ tys) fits h = case_part-has types name o (retyped_parts rest tys) h.0 (retyped-parts-has types rest tys fits.1 h.1)

pub has-retyped : (types : Types) (ty : Plain) (tys : List (Option Plain)) → IsSound types → Fits (slots_of ty) tys → HasEach types tys → HasOwnParts types (retyped ty tys)
has-retyped types (ListType item) [] s fits h = absurd fits
has-retyped types (ListType item) (None ∷ tys) s fits h = let e = fits.0 in absurd cc
has-retyped types (ListType item) (Some ty ∷ tys) s fits h = h.0
has-retyped types (RecordType form fields) tys s fits h = (s, retyped-parts-has types fields tys fits h)
has-retyped types (VariantType form cases) tys s fits h = (s, retyped-parts-has types cases tys fits h)
has-retyped types _ tys s fits h = s

-- what holds anyway holds where something is made
pub always : {A E P : Type 0} (r : Result A E) → P → IfOk r (λ _. P)
always (Ok x) p = p
always (Err e) p = tt

-- what is made is the same where a condition holds
pub made-with : {E : Type 0} (r : Result Plain E) (was is : Plain) (C : Type 0) → (C → was ≡ is) → IfOk r (λ new. new ≡ was) → IfOk r (λ new. C → new ≡ is)
made-with (Ok new) was is C h e = λ c. e ∙ h c
made-with (Err x) was is C h e = tt

-- ---- how large a part is

abbrev pub part_size : Option (Bor WitType) → ℕ
part_size None = 0
part_size (Some ty) = 4 * parts (plain ty.now) + 4

part-within : (ps : Parts) (i : ℕ) (ty : Plain) → type_at (slots_in ps) i ≡ Some ty → parts ty ≤ all_parts ps
part-within End i ty e = absurd cc
part-within (More name t rest) zero ty e = let is : t ≡ ty = cc in omega (arith, ap parts is)
part-within (More name t rest) (suc i) ty e = omega (arith, part-within rest i ty e)
part-within (Bare name rest) zero ty e = absurd cc
part-within (Bare name rest) (suc i) ty e = part-within rest i ty e

type-within : (p : Plain) (i : ℕ) (ty : Plain) → type_at (slots_of p) i ≡ Some ty → parts ty + 1 ≤ parts p
type-within (ListType item) zero ty e = let is : item ≡ ty = cc in omega (arith, ap parts is)
type-within (ListType item) (suc i) ty e = absurd cc
type-within (RecordType form fields) i ty e = omega (arith, part-within fields i ty e)
type-within (VariantType form cases) i ty e = omega (arith, part-within cases i ty e)
type-within _ i ty e = absurd cc

pub part-fits : (p : Plain) (i : ℕ) (r : Option (Bor WitType)) → option_map (λ (t : Bor WitType). plain t.now) r ≡ type_at (slots_of p) i → part_size r < 4 * parts p + 1
part-fits p i None e = omega arith
part-fits p i (Some t) e = let h = type-within p i (plain t.now) (sym e) in omega (arith, h)
