-- Parts made anew, one after another, from the types that they are to have.
use Rattle.std.proofs.Common.{◌≡◌, ◌∙◌, ◌+◌, ℕ, zero, suc, arith, ap, refl, sym, subst, Option, Some, None, List, [], ◌∷◌, ◌++◌, drop}
use Rattle.wit_types.specs.declared.types.Field.{Field, out-Field}
use Rattle.wit_types.specs.declared.types.Case.{Case, out-Case}
use Rattle.wit_types.specs.declared.types.WitType.{WitType}
use Rattle.wit_types.specs.Plain.{Name, Plain, Parts, VariantType, AsEnum, End, More, Bare, bare, plain, payload_of, fields_of, types_of, cases_of, case_part}
use Rattle.comp_facts.specs.Facts.{and_part, and_bare}
use Rattle.type_table.specs.Slots.{Part, slots_in, slots_of}
use Rattle.type_table.specs.Retyped.{Fits, retyped_parts, retyped, part_value, and_slot}
use Rattle.type_table.proofs.SlotLemmas.{slots-case}

-- ---- one more at the end of a list

pub fields-and : (xs : List Field) (x : Field) → fields_of (xs ++ x ∷ []) ≡ and_part (fields_of xs) (out-Field x).name (plain (out-Field x).ty)
fields-and [] x = refl
fields-and (y ∷ xs) x = ap (More (out-Field y).name (plain (out-Field y).ty)) (fields-and xs x)

pub types-and : (xs : List WitType) (x : WitType) → types_of (xs ++ x ∷ []) ≡ and_part (types_of xs) [] (plain x)
types-and [] x = refl
types-and (y ∷ xs) x = ap (More [] (plain y)) (types-and xs x)

case-alone : (n : Name) (o : Option Plain) → case_part n o End ≡ and_slot End n o
case-alone n None = refl
case-alone n (Some ty) = refl

case-before : (m : Name) (p : Option Plain) (ps : Parts) (n : Name) (o : Option Plain) → case_part m p (and_slot ps n o) ≡ and_slot (case_part m p ps) n o
case-before m None ps n None = refl
case-before m None ps n (Some ty) = refl
case-before m (Some t) ps n None = refl
case-before m (Some t) ps n (Some ty) = refl

pub cases-and : (xs : List Case) (x : Case) → cases_of (xs ++ x ∷ []) ≡ and_slot (cases_of xs) (out-Case x).name (payload_of (out-Case x).ty)
cases-and [] x = case-alone (out-Case x).name (payload_of (out-Case x).ty)
cases-and (y ∷ xs) x =
    ap (case_part (out-Case y).name (payload_of (out-Case y).ty)) (cases-and xs x) ∙ case-before (out-Case y).name (payload_of (out-Case y).ty) (cases_of xs) (out-Case x).name (payload_of (out-Case x).ty)

pub labels-and : (xs : List Name) (x : Name) → bare (xs ++ x ∷ []) ≡ and_bare (bare xs) x
labels-and [] x = refl
labels-and (y ∷ xs) x = ap (Bare y) (labels-and xs x)

-- the same where only the name and the type of what is new are known
pub field-more : (xs : List Field) (x : Field) (n : Name) (t : Plain) → (out-Field x).name ≡ n → plain (out-Field x).ty ≡ t → fields_of (xs ++ x ∷ []) ≡ and_part (fields_of xs) n t
field-more xs x n t e h = fields-and xs x ∙ (ap (λ m. and_part (fields_of xs) m (plain (out-Field x).ty)) e ∙ ap (and_part (fields_of xs) n) h)

pub case-more : (xs : List Case) (x : Case) (n : Name) (o : Option Plain) → (out-Case x).name ≡ n → payload_of (out-Case x).ty ≡ o → cases_of (xs ++ x ∷ []) ≡ and_slot (cases_of xs) n o
case-more xs x n o e h = cases-and xs x ∙ (ap (λ m. and_slot (cases_of xs) m (payload_of (out-Case x).ty)) e ∙ ap (and_slot (cases_of xs) n) h)

pub two-slots : (p q : Option Plain) → and_slot (and_slot End [] p) [] q ≡ case_part [] p (case_part [] q End)
two-slots None None = refl
two-slots None (Some t) = refl
two-slots (Some s) None = refl
two-slots (Some s) (Some t) = refl

-- ---- parts with others after them

abbrev pub and_all : Parts → Parts → Parts
and_all End qs = qs
and_all (More name ty rest) qs = More name ty (and_all rest qs)
and_all (Bare name rest) qs = Bare name (and_all rest qs)

all-part : (ps : Parts) (n : Name) (t : Plain) (qs : Parts) → and_all (and_part ps n t) qs ≡ and_all ps (More n t qs)
all-part End n t qs = refl
all-part (More name ty rest) n t qs = ap (More name ty) (all-part rest n t qs)
all-part (Bare name rest) n t qs = ap (Bare name) (all-part rest n t qs)

all-bare : (ps : Parts) (n : Name) (qs : Parts) → and_all (and_bare ps n) qs ≡ and_all ps (Bare n qs)
all-bare End n qs = refl
all-bare (More name ty rest) n qs = ap (More name ty) (all-bare rest n qs)
all-bare (Bare name rest) n qs = ap (Bare name) (all-bare rest n qs)

all-slot : (ps : Parts) (n : Name) (o : Option Plain) (qs : Parts) → and_all (and_slot ps n o) qs ≡ and_all ps (case_part n o qs)
all-slot ps n None qs = all-bare ps n qs
all-slot ps n (Some t) qs = all-part ps n t qs

all-none : (ps : Parts) → and_all ps End ≡ ps
all-none End = refl
all-none (More name ty rest) = ap (More name ty) (all-none rest)
all-none (Bare name rest) = ap (Bare name) (all-none rest)

-- ---- the types to come

front : (part : Part) (parts : List Part) (tys : List (Option Plain)) (at : ℕ) → Fits (part ∷ parts) (drop at tys) → drop at tys ≡ part_value tys at ∷ drop (at + 1) tys
front part parts [] zero fits = absurd fits
front part parts [] (suc at) fits = absurd fits
front part parts (ty ∷ tys) zero fits = refl
front part parts (ty ∷ tys) (suc at) fits =
    let next : suc at + 1 ≡ suc (at + 1) = omega arith in
    front part parts tys at fits ∙ ap (λ n. part_value tys at ∷ drop n (ty ∷ tys)) (sym next)

retyped-case : (n : Name) (o ty : Option Plain) (rest : Parts) (tys : List (Option Plain)) → retyped_parts (case_part n o rest) (ty ∷ tys) ≡ case_part n ty (retyped_parts rest tys)
retyped-case n None ty rest tys = refl
retyped-case n (Some t) ty rest tys = refl

-- what is made of the parts in front, with what will be made of the rest by the types from an index on
pub record AreRetyped (whole : Parts) (tys : List (Option Plain)) (made rest : Parts) (at : ℕ) : Type 0 where
  pub fits : Fits (slots_in rest) (drop at tys)
  pub is : and_all made (retyped_parts rest (drop at tys)) ≡ retyped_parts whole tys

pub retyped-none : (whole : Parts) (tys : List (Option Plain)) → Fits (slots_in whole) tys → AreRetyped whole tys End whole 0
retyped-none whole tys fits = record { fits = fits; is = refl }

module _ (whole : Parts) (tys : List (Option Plain)) (made : Parts) where
  pub retyped-all : (at : ℕ) → AreRetyped whole tys made End at → made ≡ retyped_parts whole tys
  retyped-all at r = sym (all-none made) ∙ r.is

  -- a part that has a type gets one
  pub retyped-some : (n : Name) (t : Plain) (rest : Parts) (at : ℕ) → AreRetyped whole tys made (More n t rest) at → None ≡ part_value tys at → ⊥
  retyped-some n t rest at r e =
      let is = front (n, Some t) (slots_in rest) tys at r.fits in
      let fits : Fits ((n, Some t) ∷ slots_in rest) (part_value tys at ∷ drop (at + 1) tys) = subst (Fits ((n, Some t) ∷ slots_in rest)) is r.fits in
      let same = fits.0 in
      cc

  pub retyped-next : (n : Name) (o : Option Plain) (rest : Parts) (at : ℕ) → AreRetyped whole tys made (case_part n o rest) at → AreRetyped whole tys (and_slot made n (part_value tys at)) rest (at + 1)
  retyped-next n o rest at r =
      let ps = slots_in rest in
      let fits : Fits ((n, o) ∷ ps) (drop at tys) = subst (λ qs. Fits qs (drop at tys)) (slots-case n o rest) r.fits in
      let is = front (n, o) ps tys at fits in
      let ty = part_value tys at in
      let more : Fits ((n, o) ∷ ps) (ty ∷ drop (at + 1) tys) = subst (Fits ((n, o) ∷ ps)) is fits in
      record {
        fits = more.1;
        is =
            all-slot made n ty (retyped_parts rest (drop (at + 1) tys))
            ∙ (ap (and_all made) (sym (retyped-case n o ty rest (drop (at + 1) tys)) ∙ ap (retyped_parts (case_part n o rest)) (sym is)) ∙ r.is);
      }

  pub retyped-part : (n : Name) (old new : Plain) (rest : Parts) (at : ℕ) → Some new ≡ part_value tys at → AreRetyped whole tys made (More n old rest) at → AreRetyped whole tys (and_part made n new) rest (at + 1)
  retyped-part n old new rest at e r = subst (λ o. AreRetyped whole tys (and_slot made n o) rest (at + 1)) (sym e) (retyped-next n (Some old) rest at r)

-- ---- parts without types

bare-retyped : (labels : List Name) (tys : List (Option Plain)) → Fits (slots_in (bare labels)) tys → retyped_parts (bare labels) tys ≡ bare labels
bare-retyped [] tys fits = refl
bare-retyped (l ∷ labels) [] fits = absurd fits
bare-retyped (l ∷ labels) (None ∷ tys) fits = ap (Bare l) (bare-retyped labels tys fits.1)
bare-retyped (l ∷ labels) (Some ty ∷ tys) fits = let e = fits.0 in absurd cc

pub enum-retyped : (p : Plain) (labels : List Name) (tys : List (Option Plain)) → p ≡ VariantType AsEnum (bare labels) → Fits (slots_of p) tys → retyped p tys ≡ p
enum-retyped p labels tys e fits =
    let known : Fits (slots_in (bare labels)) tys = subst (λ (q : Plain). Fits (slots_of q) tys) e fits in
    ap (λ (q : Plain). retyped q tys) e ∙ (ap (VariantType AsEnum) (bare-retyped labels tys known) ∙ sym e)
