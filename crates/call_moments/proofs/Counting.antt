-- How many loans are of one handle, and freed indexes as they are known to the laws of handle maps.
use Rattle.std.proofs.Common.{◌≡◌, ℕ, zero, suc, ◌+◌, ◌<◌, ◌≤◌, ◌==◌, ◌⊎◌, inl, inr, Bool, true, false, cond, List, [], ◌∷◌, ◌++◌, length, get_or, slice_get, Contains, Option, Some, None, IsSomeAnd, refl, sym, ap, ◌∙◌, subst, arith}
use Rattle.std.specs.Option.{option_and_then}
use Rattle.std.proofs.lemmas.Bool.{eqb-true, eq-eqb}
use Rattle.std.proofs.lemmas.List.Sums.{sum_by-cons, sum_by-append}
use Rattle.handle_space.specs.HandleMap.{Entry, HandleMap, entry_at, entry_of}
use Rattle.handle_space.proofs.MapLaws.{entry_of_is}
use Rattle.comp_worlds.proofs.Maps.{one_if, one_true, one_false, hit_yes, some_is, Vacant, Member, AllVacant, Sound}
use Rattle.comp_worlds.proofs.Loans.{count}
use Rattle.instance_state.specs.declared.loan.Loan.{Loan}
use Rattle.instance_state.specs.Loans.{indexes_of}
use Rattle.call_moments.specs.Lending.{AreFree, loans_at, IsLentFor, IsLending}

one_is : (b : Bool) → cond b 1 0 ≡ one_if b
one_is true = sym one_true
one_is false = sym one_false

pub at_first : (i : ℕ) (l : Loan) (held : List Loan) → loans_at i (l ∷ held) ≡ one_if (l.index == i) + loans_at i held
at_first i l held = sum_by-cons (λ (x : Loan). cond (x.index == i) 1 0) l held ∙ ap (λ n. n + loans_at i held) (one_is (l.index == i))

pub at_both : (i : ℕ) (loans held : List Loan) → loans_at i (loans ++ held) ≡ loans_at i loans + loans_at i held
at_both i loans held = sum_by-append (λ (x : Loan). cond (x.index == i) 1 0) loans held

pub counted : (i : ℕ) (loans : List Loan) → loans_at i loans ≡ count i (indexes_of loans)
counted i [] = refl
counted i (l ∷ ls) = at_first i l ls ∙ ap (λ n. one_if (l.index == i) + n) (counted i ls)

-- a loan is one of those of its handle
pub at_least : (held : List Loan) (k : ℕ) (d : Loan) → k < length held → 0 < loans_at (get_or held k d).index held
at_least [] k d lt = absurd (omega arith)
at_least (l ∷ held) zero d lt = let first = at_first l.index l held in let one = hit_yes l.index l.index refl in omega arith
at_least (l ∷ held) (suc k) d lt =
    let first = at_first (get_or held k d).index l held in let rest = at_least held k d (omega arith) in omega arith

-- where a handle has loans, one of them is there
pub one_of : (held : List Loan) (i : ℕ) → (loans_at i held ≡ 0) ⊎ ((l : Loan) × Contains held l × (l.index ≡ i))
one_of [] i = inl refl
one_of (l ∷ held) i = at (l.index == i) refl (one_of held i)
  where
    at : (b : Bool) → (l.index == i) ≡ b → (loans_at i held ≡ 0) ⊎ ((x : Loan) × Contains held x × (x.index ≡ i)) → (loans_at i (l ∷ held) ≡ 0) ⊎ ((x : Loan) × Contains (l ∷ held) x × (x.index ≡ i))
    at true e rest = inr (l, (0, omega arith, refl), eqb-true l.index i e)
    at false e (inl none) = let first = at_first i l held in let no = ap one_if e ∙ one_false in inl (omega arith)
    at false e (inr x) = let lt : x.1.0 < length held = x.1.1 in inr (x.0, (suc x.1.0, omega arith, x.1.2), x.2)

-- ---- entries

pub some_and : {A : Type 0} → (o : Option A) (P : A → Type 0) → IsSomeAnd o P → (a : A) × (o ≡ Some a) × P a
some_and None P h = absurd h
some_and (Some a) P h = (a, refl, h)

pub and_some : {A : Type 0} → (o : Option A) (P : A → Type 0) (a : A) → o ≡ Some a → P a → IsSomeAnd o P
and_some o P a e p = subst (λ x. IsSomeAnd x P) (sym e) p

pub of_at : (m : HandleMap ℕ) (i r : ℕ) (e : Entry ℕ) → entry_at m i ≡ Some e → e.resource ≡ r → entry_of m i r ≡ Some e
of_at m i r e at same = ap (λ (o : Option (Entry ℕ)). option_and_then (λ (x : Entry ℕ). cond (x.resource == r) (Some x) None) o) at ∙ ap (λ b. cond b (Some e) None) (eq-eqb e.resource r same)

-- the entry of a loan, which is lent for each loan of it
pub record LentEntry (m : HandleMap ℕ) (held : List Loan) (l : Loan) : Type 0 where
  pub entry : Entry ℕ
  pub there : entry_at m l.index ≡ Some entry
  pub resource : entry.resource ≡ l.resource
  pub few : loans_at l.index held ≤ entry.lent

pub entry_for : (m : HandleMap ℕ) (held : List Loan) (l : Loan) → IsLentFor m held l → LentEntry m held l
entry_for m held l h =
    let e = some_and (entry_of m l.index l.resource) (λ e. loans_at l.index held ≤ e.lent) h in
    let at = entry_of_is m l.index l.resource e.0 e.1 in
    record { entry = e.0; there = at.0; resource = at.1; few = e.2 }

pub lent_for : (m : HandleMap ℕ) (held : List Loan) (l : Loan) (e : Entry ℕ) → entry_at m l.index ≡ Some e → e.resource ≡ l.resource → loans_at l.index held ≤ e.lent → IsLentFor m held l
lent_for m held l e there same few = and_some (entry_of m l.index l.resource) (λ x. loans_at l.index held ≤ x.lent) e (of_at m l.index l.resource e there same) few

-- whatever entry is there is lent for each loan of it
pub held_few : (m : HandleMap ℕ) (held : List Loan) → IsLending m held → (i : ℕ) (e : Entry ℕ) → entry_at m i ≡ Some e → loans_at i held ≤ e.lent
held_few m held h i e there = elim (one_of held i) [
  | inl none ↦ omega arith
  | inr x ↦
      let l : Loan = x.0 in
      let q = entry_for m held l (subst (IsLentFor m held) x.1.2 (h.lent x.1.0 l x.1.1)) in
      let same : q.entry ≡ e = some_is q.entry e (sym q.there ∙ ap (entry_at m) x.2 ∙ there) in
      subst (λ (z : Entry ℕ). loans_at i held ≤ z.lent) same (subst (λ k. loans_at k held ≤ q.entry.lent) x.2 q.few)
]

-- ---- freed indexes

vacant : (xs : List (Option (Entry ℕ))) (i : ℕ) → slice_get xs i ≡ Some None → Vacant xs i
vacant [] i h = absurd (let q : None ≡ Some None = h in cc)
vacant (x ∷ xs) zero h = some_is x None h
vacant (x ∷ xs) (suc i) h = vacant xs i h

unused : (xs : List (Option (Entry ℕ))) (i : ℕ) → Vacant xs i → slice_get xs i ≡ Some None
unused [] i h = absurd h
unused (x ∷ xs) zero h = ap Some h
unused (x ∷ xs) (suc i) h = unused xs i h

member : (is : List ℕ) (i k : ℕ) → k < length is → get_or is k i ≡ i → Member i is
member [] i k lt e = absurd (omega arith)
member (j ∷ is) i zero lt e = inl e
member (j ∷ is) i (suc k) lt e = inr (member is i k (omega arith) e)

contained : (is : List ℕ) (i : ℕ) → Member i is → Contains is i
contained [] i h = absurd h
contained (j ∷ is) i (inl e) = (0, omega arith, e)
contained (j ∷ is) i (inr h) = let c = contained is i h in let lt : c.0 < length is = c.1 in (suc c.0, omega arith, c.2)

pub sound_by : (xs : List (Option (Entry ℕ))) (is : List ℕ) → AreFree xs is → AllVacant xs is
sound_by xs [] h = tt
sound_by xs (i ∷ is) h = (vacant xs i h.0, λ m. h.1 (contained is i m), sound_by xs is h.2)

pub free_by : (xs : List (Option (Entry ℕ))) (is : List ℕ) → AllVacant xs is → AreFree xs is
free_by xs [] h = tt
free_by xs (i ∷ is) h = (unused xs i h.0, λ c. h.1 (member is i c.0 c.1 c.2), free_by xs is h.2)

pub sound_of : (m : HandleMap ℕ) (held : List Loan) → IsLending m held → Sound m
sound_of m held h = sound_by m.entries m.freed h.free
