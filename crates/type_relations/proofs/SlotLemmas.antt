-- What the parts of types in a table name, and where they lead to.
use Rattle.std.proofs.Common.{◌≡◌, ◌≢◌, ◌<◌, ◌+◌, ◌∙◌, ap, refl, sym, subst, ℕ, zero, suc, List as Lst, [], ◌∷◌, ◌++◌, Option as Opt, Some, None, length, drop, slice_get, arith}
use Rattle.wit_types.specs.Plain.{Plain, Parts, ListType, RecordType, VariantType, End, More, Bare}
use Rattle.comp_types.specs.GivenResources.{named_in_value, named_in_parts, named_in_answer}
use Rattle.type_table.specs.Tables.{Leads, AreLinks}
use Rattle.type_table.specs.Nodes.{link_at, type_in, type_at}
use Rattle.type_table.specs.Slots.{Part, slots_in, slots_of, form_number}
use Rattle.type_relations.specs.Searches.{Finds, named_in_slots}
use Rattle.type_relations.specs.declared.search.Search.{Search}
use Rattle.type_table.proofs.NodeLemmas.{leads-at}
use Rattle.type_relations.proofs.ValueLemmas.{append-nothing}
use Rattle.type_relations.proofs.SearchLemmas.{Going, going-on, going-all}

-- ---- what parts name

named-slots : (ps : Parts) → named_in_parts ps ≡ named_in_slots (slots_in ps)
named-slots End = refl
named-slots (More name ty rest) = ap (λ rs. named_in_value ty ++ rs) (named-slots rest)
named-slots (Bare name rest) = named-slots rest

pub named-own : (p : Plain) → form_number p ≢ 0 → named_in_slots (slots_of p) ≡ named_in_value p
named-own (ListType item) h = append-nothing (named_in_value item)
named-own (RecordType form fields) h = sym (named-slots fields)
named-own (VariantType form cases) h = sym (named-slots cases)
named-own _ h = absurd (h refl)

-- ---- where parts lead to

pub finds-led : (tys : Lst Plain) (old new : Search) (at : ℕ) (ty : Opt Plain) → Leads tys (Some at) ty
    → ((p : Plain) → slice_get tys at ≡ Some p → Finds tys old new (named_in_value p)) → Finds tys old new (named_in_answer ty)
finds-led tys old new at None h f = absurd h
finds-led tys old new at (Some ty) h f = f ty h

-- the part at an index, before the others
pub record NextPart (parts : Lst Part) (i : ℕ) : Type 0 where
  pub part : Part
  pub is : slice_get parts i ≡ Some part
  pub next : drop i parts ≡ part ∷ drop (i + 1) parts

pub next_part : (parts : Lst Part) (i : ℕ) → i < length parts → NextPart parts i
next_part [] i h = absurd (omega (arith, h))
next_part (p ∷ parts) zero h = record { part = p; is = refl; next = refl }
next_part (p ∷ parts) (suc i) h =
    let n = next_part parts i (omega (arith, h)) in
    let on : suc i + 1 ≡ suc (i + 1) = omega arith in
    record { part = n.part; is = n.is; next = rw on n.next }

pub drop-all : {A : Type 0} (xs : Lst A) → drop (length xs) xs ≡ []
drop-all [] = refl
drop-all (x ∷ xs) = drop-all xs

-- a walk goes on with the part at an index
pub going-part : (tys : Lst Plain) (start now new : Search) (links : Lst (Opt ℕ)) (parts : Lst Part) (i : ℕ) → i < length parts → (link : Opt ℕ) → link ≡ link_at links i
    → (ty : Opt Plain) → ty ≡ type_at parts i → AreLinks tys links parts → (Leads tys link ty → Finds tys now new (named_in_answer ty))
    → Going tys start now (named_in_slots parts) (named_in_slots (drop i parts)) → Going tys start new (named_in_slots parts) (named_in_slots (drop (i + 1) parts))
going-part tys start now new links parts i lt link l ty e h f going =
    let n = next_part parts i lt in
    let is : ty ≡ n.part.1 = e ∙ ap type_in n.is in
    let leads : Leads tys link ty = subst (λ o. Leads tys o ty) (sym l) (subst (Leads tys (link_at links i)) (sym is) (leads-at tys links parts i n.part h n.is)) in
    let next : named_in_slots (drop i parts) ≡ named_in_answer ty ++ named_in_slots (drop (i + 1) parts) =
    ap named_in_slots n.next ∙ ap (λ o. named_in_answer o ++ named_in_slots (drop (i + 1) parts)) (sym is) in
    going-on tys start now new (named_in_slots parts) (named_in_slots (drop i parts)) (named_in_answer ty) (named_in_slots (drop (i + 1) parts)) going next (f leads)

-- and ends after the last part
pub going-parts : (tys : Lst Plain) (start now : Search) (parts : Lst Part) (i : ℕ) → i ≡ length parts → Going tys start now (named_in_slots parts) (named_in_slots (drop i parts)) → Finds tys start now (named_in_slots parts)
going-parts tys start now parts i e going =
    going-all tys start now (named_in_slots parts) (named_in_slots (drop i parts)) going (ap (λ n. named_in_slots (drop n parts)) e ∙ ap named_in_slots (drop-all parts))

-- a type with parts, as it is kept elsewhere
pub finds-parts : (tys : Lst Plain) (old new : Search) (a p : Plain) → p ≡ a → form_number p ≢ 0 → Finds tys old new (named_in_slots (slots_of p)) → Finds tys old new (named_in_value a)
finds-parts tys old new a p e form f = subst (λ v. Finds tys old new (named_in_value v)) e (subst (Finds tys old new) (named-own p form) f)
