-- Equality, subtyping and arguments are decided by matching.
use Rattle.std.proofs.Common.{◌≡◌, ◌∙◌, ap, sym, subst, refl, ℕ, [], ◌∷◌, Bool, true, false, Option, Some, None, cond, nat_eq, slice_get, get_or, drop, ◌+◌}
use Rattle.std.specs.Prelude.{◌&&◌}
use Rattle.std.specs.Bool.{Decides}
use Rattle.std.specs.List.{IsDistinct}
use Rattle.std.specs.Map.{keys_of}
use Rattle.std.specs.Cmp.{nat_eq_equiv}
use Rattle.std.proofs.lemmas.Bool.{false≢true}
use Rattle.std.proofs.lemmas.Map.Entries.{lookup_from_place}
use Rattle.std.proofs.lemmas.List.Elements.{All-head, All-tail, All-from_get_or}
use Rattle.std.proofs.lemmas.Option.{slice_get-get_or}
use Rattle.comp_types.specs.Items.{Item, Entries}
use Rattle.comp_types.specs.Equality.{IsEqualType}
use Rattle.comp_types.specs.Subtyping.{Takes, IsSubtype, MeetsImports}
use Rattle.comp_types.specs.Substitution.{partner_in, partner_of}
use Rattle.comp_types.specs.Matching.{Pairs, GoesOn, all_same, matched_item, matched_entries, matched_arguments}
use Rattle.comp_types.proofs.PairLemmas.{partner-or, partner_or}
use Rattle.comp_types.proofs.MeetLaws.{Grows, Agrees, AllMeet, equal_number, same_number}
use Rattle.comp_types.proofs.ValueLemmas.{was_true, was_false}
use Rattle.comp_types.proofs.UnpackLemmas.{at_front}
use Rattle.comp_types.proofs.ItemLaws.{item-sound, item-complete, entries-sound, entries-complete, arguments-sound, arguments-complete}

both : (a b : Bool) → (a && b) ≡ true → (a ≡ true) × (b ≡ true)
both true true h = (refl, refl)
both true false h = absurd (false≢true h)
both false b h = absurd (false≢true h)

and : (a b : Bool) → a ≡ true → b ≡ true → (a && b) ≡ true
and true true h g = refl
and true false h g = g
and false b h g = h

-- ---- equality

abbrev Same : ℕ → ℕ → Type 0
Same x y = x ≡ y

same_first : (y v w x : ℕ) (b : Bool) (o : Option ℕ) → nat_eq y w ≡ b → w ≡ v → (o ≡ Some x → x ≡ y) → cond b (Some v) o ≡ Some x → x ≡ y
same_first y v w x true o is m h e =
    let same : y ≡ w = equal_number y w is in
    let value : v ≡ x = cc in
    cc
same_first y v w x false o is m h e = h e

pub same-agrees : (by : Pairs) → all_same by ≡ true → Agrees Same by
same-agrees [] h = λ y x e. cc
same-agrees (p ∷ by) h =
    let each = both (nat_eq p.0 p.1) (all_same by) h in
    λ y x e. same_first y p.1 p.0 x (nat_eq y p.0) (partner_of by y) refl (equal_number p.0 p.1 each.0) (same-agrees by each.1 y x) e

all-same : (by : Pairs) → AllMeet Same by → all_same by ≡ true
all-same [] m = refl
all-same (p ∷ by) m = and (nat_eq p.0 p.1) (all_same by) (rw (m.0) (same_number p.0)) (all-same by m.1)

pub equal_none : (a b : Item) → matched_item [] a b ≡ None → Decides false (IsEqualType a b)
equal_none a b e = (
  λ h. absurd (false≢true h),
  λ p. let c = item-complete Same (λ x z y h g. h ∙ sym g) [] a b tt p in let is = c.1 in absurd (cc),
)

pub equal_some : (a b : Item) (more : Pairs) → matched_item [] a b ≡ Some more → Decides (all_same more) (IsEqualType a b)
equal_some a b more e = (
  λ h. (item-sound Same [] more a b e).1 (same-agrees more h),
  λ p. let c = item-complete Same (λ x z y h g. h ∙ sym g) [] a b tt p in
      let is : c.0 ≡ more = cc in
      rw (← is) (all-same c.0 c.2),
)

pub not_equal : (old more : Pairs) (a b : Item) (went : Bool) → old ≡ [] → GoesOn went more (matched_item old a b) → went ≡ false → Decides false (IsEqualType a b)
not_equal old more a b went is h e = equal_none a b (ap (λ by. matched_item by a b) (sym is) ∙ was_false went more (matched_item old a b) h e)

pub are_equal : (old more : Pairs) (a b : Item) (went same : Bool) → old ≡ [] → GoesOn went more (matched_item old a b) → went ≡ true → same ≡ all_same more → Decides same (IsEqualType a b)
are_equal old more a b went same is h e answer = rw answer (equal_some a b more (ap (λ by. matched_item by a b) (sym is) ∙ was_true went more (matched_item old a b) h e))

same_head : (a b : ℕ) (t : Bool) → nat_eq a b ≡ t → (a ≡ b → ⊥) → nat_eq a b ≡ false
same_head a b true e h = absurd (h (equal_number a b e))
same_head a b false e h = e

pub same_goes : (by : Pairs) (i : ℕ) (p : ℕ × ℕ) → all_same by ≡ all_same (drop i by) → slice_get by i ≡ Some p → p.0 ≡ p.1 → all_same by ≡ all_same (drop (i + 1) by)
same_goes by i p so_far here e = so_far ∙ (ap all_same (at_front by i p here) ∙ ap (λ b. b && all_same (drop (i + 1) by)) (ap (nat_eq p.0) (sym e) ∙ same_number p.0))

pub same_stops : (by : Pairs) (i : ℕ) (p : ℕ × ℕ) → all_same by ≡ all_same (drop i by) → slice_get by i ≡ Some p → (p.0 ≡ p.1 → ⊥) → false ≡ all_same by
same_stops by i p so_far here h = sym (so_far ∙ (ap all_same (at_front by i p here) ∙ ap (λ b. b && all_same (drop (i + 1) by)) (same_head p.0 p.1 (nat_eq p.0 p.1) refl h)))

-- ---- one partner for each

abbrev Met : (ℕ → ℕ) → ℕ → ℕ → Type 0
Met partner x y = x ≡ partner y

finds : (by : Pairs) → Agrees (Met (partner_in by)) by
finds by = λ y x e. sym (partner-or by y ∙ ap (partner_or y) e)

takes_all : (partner : ℕ → ℕ) (by : Pairs) → Takes partner by → AllMeet (Met partner) by
takes_all partner [] t = tt
takes_all partner (p ∷ by) t = (sym (All-head (λ (q : ℕ × ℕ). partner q.0 ≡ q.1) p by t), takes_all partner by (All-tail (λ (q : ℕ × ℕ). partner q.0 ≡ q.1) p by t))

takes-grown : (by more : Pairs) → IsDistinct nat_eq (keys_of by) → Grows by more → Takes (partner_in more) by
takes-grown by more d g = All-from_get_or (λ (q : ℕ × ℕ). partner_in more q.0 ≡ q.1) by (0, 0) (λ i lt.
    let p = get_or by i (0, 0) in
    sym (finds more p.0 p.1 (g p.0 p.1 (lookup_from_place nat_eq_equiv by i p.0 p.1 d (slice_get-get_or by i (0, 0) lt)))))

pub subtype_decided : (a b : Entries) (matched more : Pairs) (same : Bool) → IsDistinct nat_eq (keys_of matched) → GoesOn same more (matched_entries matched a b) → Decides same (IsSubtype a b matched)
subtype_decided a b matched more true d e = (
  λ h. let r = entries-sound (Met (partner_in more)) matched more a b e in (partner_in more, takes-grown matched more d r.0, r.1 (finds more)),
  λ p. refl,
)
subtype_decided a b matched more false d e = (
  λ h. absurd (false≢true h),
  λ p. let c = entries-complete (Met p.0) (λ x z y h g. h ∙ sym g) matched a b (takes_all p.0 matched p.1) p.2 in let is = c.1 in absurd (cc),
)

pub arguments_decided : (args imports : Entries) (more : Pairs) (same : Bool) → GoesOn same more (matched_arguments [] args imports) → Decides same (MeetsImports args imports)
arguments_decided args imports more true e = (
  λ h. let r = arguments-sound (Met (partner_in more)) [] more args imports e in (partner_in more, r.1 (finds more)),
  λ p. refl,
)
arguments_decided args imports more false e = (
  λ h. absurd (false≢true h),
  λ p. let c = arguments-complete (Met p.0) (λ x z y h g. h ∙ sym g) [] args imports tt p.1 in let is = c.1 in absurd (cc),
)

pub subtype_answer : (a b es : Entries) (matched start more : Pairs) (same : Bool) → IsDistinct nat_eq (keys_of matched) → start ≡ matched → es ≡ b → GoesOn same more (matched_entries start a es) → Decides same (IsSubtype a b matched)
subtype_answer a b es matched start more same d s e h =
    subtype_decided a b matched more same d (subst (GoesOn same more) (ap (λ by. matched_entries by a es) s ∙ ap (matched_entries matched a) e) h)

pub arguments_answer : (args imports es : Entries) (start more : Pairs) (same : Bool) → start ≡ [] → es ≡ imports → GoesOn same more (matched_arguments start args es) → Decides same (MeetsImports args imports)
arguments_answer args imports es start more same s e h =
    arguments_decided args imports more same (subst (GoesOn same more) (ap (λ by. matched_arguments by args es) s ∙ ap (matched_arguments [] args) e) h)
