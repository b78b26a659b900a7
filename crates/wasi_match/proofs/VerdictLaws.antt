-- A component has one verdict.
use Rattle.std.proofs.Common.{◌≡◌, ◌∙◌, ◌⊎◌, inl, inr, ap, refl, sym, subst, ℕ, List, [], ◌∷◌, ◌++◌, Bool, true, false, nat_eq}
use Rattle.std.specs.Prelude.{Contains, ◌||◌}
use Rattle.std.specs.Cmp.{nat_eq_equiv}
use Rattle.std.specs.List.{IsDistinct, AllByRecursion, list_any}
use Rattle.std.proofs.lemmas.Bool.{false≢true}
use Rattle.std.proofs.lemmas.List.{map-append}
use Rattle.std.proofs.lemmas.Map.Views.{list_any-from_Contains}
use Rattle.wit_types.specs.Plain.{Name}
use Rattle.comp_types.specs.Items.{Item, Entries, Signature, and_entry}
use Rattle.comp_types.specs.Resources.{entries_have_resource}
use Rattle.comp_types.proofs.MeetLaws.{equal_number, same_number}
use Rattle.wasi_match.specs.declared.listed.ListedUse.{ListedUse}
use Rattle.wasi_match.specs.declared.fault.Cause.{Cause}
use Rattle.wasi_match.specs.declared.fault.Cause.TheVariants.{Unlisted, TwoVersions, WrongType, HandleExport}
use Rattle.wasi_match.specs.Listed.{AreListed, interfaces}
use Rattle.wasi_match.specs.Verdicts.{Verdict, Accepted, Refused, joined, IsTwice, IsAtFault, HasImportAtFault, HasHandle, IsVerdict}
use Rattle.wasi_match.proofs.UseLaws.{one_name, uses-last, uses-same}
use Rattle.wasi_match.proofs.SplitLaws.{joined-entry, IsEarlier, two_places, has_resource-there, uses-front}

-- ---- what stands in front of listed imports is listed

all-front : (P : ℕ → Type 0) (xs ys : List ℕ) → AllByRecursion P (xs ++ ys) → AllByRecursion P xs
all-front P [] ys h = tt
all-front P (x ∷ xs) ys h = (h.0, all-front P xs ys h.1)

all-last : (P : ℕ → Type 0) (xs : List ℕ) (y : ℕ) → AllByRecursion P (xs ++ y ∷ []) → P y
all-last P [] y h = h.0
all-last P (x ∷ xs) y h = all-last P xs y h.1

distinct-front : (xs ys : List ℕ) → IsDistinct nat_eq (xs ++ ys) → IsDistinct nat_eq xs
unfolding IsDistinct
distinct-front [] ys h = tt
distinct-front (x ∷ xs) ys h = (all-front (λ y. nat_eq x y ≡ false) xs ys h.0, distinct-front xs ys h.1)

either-one : (b c : Bool) → (b || c) ≡ true → (b ≡ true) ⊎ (c ≡ true)
either-one true c h = inl refl
either-one false c h = inr h

-- no interface is that of an import after
distinct-last : (xs : List ℕ) (y : ℕ) → IsDistinct nat_eq (xs ++ y ∷ []) → list_any (nat_eq y) xs ≡ true → ⊥
unfolding IsDistinct
distinct-last [] y h e = false≢true e
distinct-last (x ∷ xs) y h e =
    let other = all-last (λ z. nat_eq x z ≡ false) xs y h.0 in
    elim (either-one (nat_eq y x) (list_any (nat_eq y) xs) e) [
      | inl same ↦ let is = equal_number y x same in false≢true (sym other ∙ ap (nat_eq x) is ∙ same_number x)
      | inr rest ↦ distinct-last xs y h.1 rest
    ]

front_listed : (front back : Entries) (uses : List ListedUse) → AreListed (joined front back) uses → (us : List ListedUse) × AreListed front us
front_listed front back uses l =
    let f = uses-front _ front back uses l.each in (
      f.0,
      record {
        kinds = l.kinds;
        one = l.one;
        each = f.3;
        once = distinct-front (interfaces f.0) (interfaces f.1) (subst (IsDistinct nat_eq) (ap interfaces f.2 ∙ map-append (λ (u : ListedUse). u.interface) f.0 f.1) l.once);
      },
    )

-- ---- an import at fault is not listed after those before it

not_twice : (before : Entries) (name : Name) (item : Item) (uses : List ListedUse) → AreListed before uses → IsTwice name item uses → (us : List ListedUse) → AreListed (and_entry before name item) us → ⊥
not_twice before name item uses b h us l =
    let r = uses-last _ before name item us l.each in
    let last = r.1 in
    let same = uses-same _ _ before r.0 uses r.3 b.each in
    let o = one_name name item _ _ r.4.entries h.1 r.4.named h.2 in
    let number : last.interface ≡ h.0.interface = ap (λ v. v.interface) o.0 in
    let d = subst (IsDistinct nat_eq) (ap interfaces r.2 ∙ map-append (λ (u : ListedUse). u.interface) r.0 (last ∷ [])) l.once in
    let there = list_any-from_Contains nat_eq_equiv h.0.interface (interfaces uses) h.3 in
    distinct-last (interfaces r.0) last.interface d (ap (λ n. list_any (nat_eq n) (interfaces r.0)) number ∙ ap (λ xs. list_any (nat_eq h.0.interface) (interfaces xs)) same ∙ there)

not_listed : (cause : Cause) (before : Entries) (name : Name) (item : Item) (uses : List ListedUse) → AreListed before uses → IsAtFault cause before name item uses → (us : List ListedUse)
    → AreListed (and_entry before name item) us → ⊥
not_listed Unlisted before name item uses b h us l = let r = uses-last _ before name item us l.each in h _ r.4.entries r.4.named
not_listed TwoVersions before name item uses b h us l = not_twice before name item uses b h us l
not_listed WrongType before name item uses b h us l = h.4 us l
not_listed HandleExport before name item uses b h us l = h

-- nor are the imports listed, whatever stands after it
never_listed : (cause : Cause) (imports : Entries) (name : Name) → HasImportAtFault cause imports name → (us : List ListedUse) → AreListed imports us → ⊥
never_listed cause imports name h us l =
    let f = front_listed (and_entry h.before name h.item) h.behind us (subst (λ i. AreListed i us) (h.there ∙ joined-entry h.before name h.item h.behind) l) in
    not_listed cause h.before name h.item h.uses h.listed h.fault f.0 f.1

-- ---- two faults of imports

same_cause : (c d : Cause) (before : Entries) (name : Name) (item : Item) (uses : List ListedUse) → IsAtFault c before name item uses → IsAtFault d before name item uses → c ≡ d
same_cause Unlisted Unlisted before name item uses h g = refl
same_cause Unlisted TwoVersions before name item uses h g = absurd (h g.0 g.1 g.2)
same_cause Unlisted WrongType before name item uses h g = absurd (h g.0 g.1 g.2)
same_cause TwoVersions Unlisted before name item uses h g = absurd (g h.0 h.1 h.2)
same_cause TwoVersions TwoVersions before name item uses h g = refl
same_cause TwoVersions WrongType before name item uses h g =
    let o = one_name name item h.0 g.0 h.1 g.1 h.2 g.2 in
    absurd (g.3 (subst (Contains (interfaces uses)) (ap (λ v. v.interface) o.0) h.3))
same_cause WrongType Unlisted before name item uses h g = absurd (g h.0 h.1 h.2)
same_cause WrongType TwoVersions before name item uses h g =
    let o = one_name name item g.0 h.0 g.1 h.1 g.2 h.2 in
    absurd (h.3 (subst (Contains (interfaces uses)) (ap (λ v. v.interface) o.0) g.3))
same_cause WrongType WrongType before name item uses h g = refl
same_cause HandleExport d before name item uses h g = absurd h
same_cause c HandleExport before name item uses h g = absurd g

not_earlier : (c d : Cause) (imports : Entries) (m n : Name) (h : HasImportAtFault c imports m) (g : HasImportAtFault d imports n) → IsEarlier h.before m h.item g.before → ⊥
not_earlier c d imports m n h g e =
    let f = front_listed (and_entry h.before m h.item) e.0 g.uses (subst (λ i. AreListed i g.uses) e.1 g.listed) in
    not_listed c h.before m h.item h.uses h.listed h.fault f.0 f.1

one_fault : (c d : Cause) (imports : Entries) (m n : Name) → HasImportAtFault c imports m → HasImportAtFault d imports n → (c ≡ d) × (m ≡ n)
one_fault c d imports m n h g = elim (two_places h.before m h.item h.behind g.before n g.item g.behind (sym h.there ∙ g.there)) [
  | inl s ↦
      let listed = subst (λ b. AreListed b g.uses) (sym s.0) g.listed in
      let uses = uses-same _ _ h.before h.uses g.uses h.listed.each listed.each in
      let fault = subst (λ b. IsAtFault d b n g.item g.uses) (sym s.0) g.fault in
      let fault = subst (λ k. IsAtFault d h.before k g.item g.uses) (sym s.1) fault in
      let fault = subst (λ i. IsAtFault d h.before m i g.uses) (sym s.2) fault in
      let fault = subst (IsAtFault d h.before m h.item) (sym uses) fault in
      (same_cause c d h.before m h.item h.uses h.fault fault, s.1)
  | inr p ↦ elim p [ inl e ↦ absurd (not_earlier c d imports m n h g e) | inr e ↦ absurd (not_earlier d c imports n m g h e) ]
]

-- ---- exports

some_handle : (exports : Entries) (name : Name) → HasHandle exports name → entries_have_resource exports ≡ true
some_handle exports name h = ap entries_have_resource h.there ∙ has_resource-there h.before name h.item h.behind h.some

no_earlier : (exports : Entries) (m n : Name) (h : HasHandle exports m) (g : HasHandle exports n) → IsEarlier h.before m h.item g.before → ⊥
no_earlier exports m n h g e =
    let there = ap entries_have_resource (e.1 ∙ sym (joined-entry h.before m h.item e.0)) ∙ has_resource-there h.before m h.item e.0 h.some in
    false≢true (sym g.none ∙ there)

one_export : (exports : Entries) (m n : Name) → HasHandle exports m → HasHandle exports n → m ≡ n
one_export exports m n h g = elim (two_places h.before m h.item h.behind g.before n g.item g.behind (sym h.there ∙ g.there)) [
  | inl s ↦ s.1
  | inr p ↦ elim p [ inl e ↦ absurd (no_earlier exports m n h g e) | inr e ↦ absurd (no_earlier exports n m g h e) ]
]

-- ---- all together

abbrev refused : Cause × Name → Verdict
refused p = Refused p.0 p.1

pair-same : (c d : Cause) (m n : Name) → (c ≡ d) × (m ≡ n) → Refused c m ≡ Refused d n
pair-same c d m n h = ap (λ x. Refused x m) h.0 ∙ ap (λ x. Refused d x) h.1

pub one_verdict : (ty : Signature) (v w : Verdict) → IsVerdict ty v → IsVerdict ty w → v ≡ w
one_verdict ty (Accepted us) (Accepted vs) h g = ap Accepted (uses-same _ _ ty.imports us vs h.imports.each g.imports.each)
one_verdict ty (Accepted us) (Refused Unlisted n) h g = absurd (never_listed Unlisted ty.imports n g us h.imports)
one_verdict ty (Accepted us) (Refused TwoVersions n) h g = absurd (never_listed TwoVersions ty.imports n g us h.imports)
one_verdict ty (Accepted us) (Refused WrongType n) h g = absurd (never_listed WrongType ty.imports n g us h.imports)
one_verdict ty (Accepted us) (Refused HandleExport n) h g = absurd (false≢true (sym h.exports ∙ some_handle ty.exports n g.2))
one_verdict ty (Refused Unlisted m) (Accepted vs) h g = absurd (never_listed Unlisted ty.imports m h vs g.imports)
one_verdict ty (Refused TwoVersions m) (Accepted vs) h g = absurd (never_listed TwoVersions ty.imports m h vs g.imports)
one_verdict ty (Refused WrongType m) (Accepted vs) h g = absurd (never_listed WrongType ty.imports m h vs g.imports)
one_verdict ty (Refused HandleExport m) (Accepted vs) h g = absurd (false≢true (sym g.exports ∙ some_handle ty.exports m h.2))
one_verdict ty (Refused Unlisted m) (Refused Unlisted n) h g = pair-same _ _ m n (one_fault Unlisted Unlisted ty.imports m n h g)
one_verdict ty (Refused Unlisted m) (Refused TwoVersions n) h g = pair-same _ _ m n (one_fault Unlisted TwoVersions ty.imports m n h g)
one_verdict ty (Refused Unlisted m) (Refused WrongType n) h g = pair-same _ _ m n (one_fault Unlisted WrongType ty.imports m n h g)
one_verdict ty (Refused Unlisted m) (Refused HandleExport n) h g = absurd (never_listed Unlisted ty.imports m h g.0 g.1)
one_verdict ty (Refused TwoVersions m) (Refused Unlisted n) h g = pair-same _ _ m n (one_fault TwoVersions Unlisted ty.imports m n h g)
one_verdict ty (Refused TwoVersions m) (Refused TwoVersions n) h g = pair-same _ _ m n (one_fault TwoVersions TwoVersions ty.imports m n h g)
one_verdict ty (Refused TwoVersions m) (Refused WrongType n) h g = pair-same _ _ m n (one_fault TwoVersions WrongType ty.imports m n h g)
one_verdict ty (Refused TwoVersions m) (Refused HandleExport n) h g = absurd (never_listed TwoVersions ty.imports m h g.0 g.1)
one_verdict ty (Refused WrongType m) (Refused Unlisted n) h g = pair-same _ _ m n (one_fault WrongType Unlisted ty.imports m n h g)
one_verdict ty (Refused WrongType m) (Refused TwoVersions n) h g = pair-same _ _ m n (one_fault WrongType TwoVersions ty.imports m n h g)
one_verdict ty (Refused WrongType m) (Refused WrongType n) h g = pair-same _ _ m n (one_fault WrongType WrongType ty.imports m n h g)
one_verdict ty (Refused WrongType m) (Refused HandleExport n) h g = absurd (never_listed WrongType ty.imports m h g.0 g.1)
one_verdict ty (Refused HandleExport m) (Refused Unlisted n) h g = absurd (never_listed Unlisted ty.imports n g h.0 h.1)
one_verdict ty (Refused HandleExport m) (Refused TwoVersions n) h g = absurd (never_listed TwoVersions ty.imports n g h.0 h.1)
one_verdict ty (Refused HandleExport m) (Refused WrongType n) h g = absurd (never_listed WrongType ty.imports n g h.0 h.1)
one_verdict ty (Refused HandleExport m) (Refused HandleExport n) h g = ap (Refused HandleExport) (one_export ty.exports m n h.2 g.2)
