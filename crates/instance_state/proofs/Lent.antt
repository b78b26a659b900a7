-- What is lent stays so while other handles are taken or lent.
use Rattle.std.proofs.Common.{◌≡◌, ◌≢◌, ℕ, ◌+◌, ◌<◌, ◌==◌, Bool, true, cond, List, ◌∷◌, [], ◌++◌, All, Option, Some, None, IsSomeAnd, refl, sym, ap, ◌∙◌, subst, arith}
use Rattle.std.specs.Option.{option_and_then}
use Rattle.std.proofs.lemmas.Bool.{eq-eqb}
use Rattle.std.proofs.lemmas.List.Elements.{All-weaker, All-push}
use Rattle.handle_space.specs.HandleMap.{Entry, HandleMap, Answered, Held, answered, entry_at, entry_of, without, lend, take_own}
use Rattle.handle_space.proofs.MapLaws.{entry_of_is, take_own_is, entry_at-without_other}
use Rattle.comp_worlds.proofs.Maps.{some_is, one_if, hit_yes, made_of, relent, lend_from}
use Rattle.instance_state.specs.declared.loan.Loan.{Loan}
use Rattle.instance_state.specs.Loans.{IsLentAs}

-- the entry of a loan
record LentEntry (m : HandleMap ℕ) (l : Loan) : Type 0 where
  pub entry : Entry ℕ
  pub there : entry_at m l.index ≡ Some entry
  pub resource : entry.resource ≡ l.resource
  pub lent : 0 < entry.lent

entry_in : (m : HandleMap ℕ) (l : Loan) → IsLentAs m l → LentEntry m l
entry_in m l h = at (entry_of m l.index l.resource) refl h
  where
    at : (o : Option (Entry ℕ)) → entry_of m l.index l.resource ≡ o → IsSomeAnd o (λ e. 0 < e.lent) → LentEntry m l
    at None e h' = absurd h'
    at (Some x) e h' = let f = entry_of_is m l.index l.resource x e in record { entry = x; there = f.0; resource = f.1; lent = h' }

lent_by : (m : HandleMap ℕ) (l : Loan) (e : Entry ℕ) → entry_at m l.index ≡ Some e → e.resource ≡ l.resource → 0 < e.lent → IsLentAs m l
lent_by m l e there same lent =
    let found : entry_of m l.index l.resource ≡ Some e =
    ap (λ (o : Option (Entry ℕ)). option_and_then (λ (x : Entry ℕ). cond (x.resource == l.resource) (Some x) None) o) there ∙ ap (λ b. cond b (Some e) None) (eq-eqb e.resource l.resource same) in
    subst (λ (o : Option (Entry ℕ)). IsSomeAnd o (λ x. 0 < x.lent)) (sym found) lent

-- what is taken is not lent
taken_one : (m m' : HandleMap ℕ) (i r x : ℕ) → take_own m i r ≡ Some (answered x m') → (l : Loan) → IsLentAs m l → IsLentAs m' l
taken_one m m' i r x e l h =
    let t = take_own_is m i r (answered x m') e in
    let q = entry_in m l h in
    let gone = entry_of_is m i r t.0 t.1 in
    let apart : l.index ≢ i = λ same.
    let one : q.entry ≡ t.0 = some_is q.entry t.0 (sym q.there ∙ ap (entry_at m) same ∙ gone.0) in
    let none : q.entry.lent ≡ 0 = ap (λ (z : Entry ℕ). z.lent) one ∙ t.3 in
    let some = q.lent in
    omega arith in
    let map_is : m' ≡ without m i = ap (λ (a : Answered ℕ ℕ). a.map) t.4 in
    lent_by m' l q.entry (ap (λ z. entry_at z l.index) map_is ∙ entry_at-without_other m i l.index apart ∙ q.there) q.resource q.lent

lent_one : (m m' : HandleMap ℕ) (i r : ℕ) (a : Held ℕ) → lend m i r ≡ Some (answered a m') → (l : Loan) → IsLentAs m l → IsLentAs m' l
lent_one m m' i r a e l h =
    let k = lend_from m r i (answered a m') e in
    let q = entry_in m l h in
    let some = q.lent in
    lent_by m' l (relent q.entry (q.entry.lent + cond a.owned (one_if (i == l.index)) 0)) (k.there l.index q.entry q.there) q.resource (omega arith)

lent_now : (m m' : HandleMap ℕ) (i r : ℕ) (a : Held ℕ) → lend m i r ≡ Some (answered a m') → a.owned ≡ true → IsLentAs m' (record { index = i; resource = r })
lent_now m m' i r a e owned =
    let k = lend_from m r i (answered a m') e in
    let one : cond a.owned (one_if (i == i)) 0 ≡ 1 = ap (λ b. cond b (one_if (i == i)) 0) owned ∙ hit_yes i i refl in
    lent_by m' (record { index = i; resource = r }) (made_of a.owned r a.rep (k.came.0 + cond a.owned (one_if (i == i)) 0)) (k.there i (made_of a.owned r a.rep k.came.0) k.came.1) refl (omega arith)

pub taken_lent : (m m' : HandleMap ℕ) (i r x : ℕ) (loans : List Loan) → take_own m i r ≡ Some (answered x m') → All (IsLentAs m) loans → All (IsLentAs m') loans
taken_lent m m' i r x loans e h = All-weaker (IsLentAs m) (IsLentAs m') (taken_one m m' i r x e) loans h

pub borrow_lent : (m m' : HandleMap ℕ) (i r : ℕ) (a : Held ℕ) (loans : List Loan) → lend m i r ≡ Some (answered a m') → All (IsLentAs m) loans → All (IsLentAs m') loans
borrow_lent m m' i r a loans e h = All-weaker (IsLentAs m) (IsLentAs m') (lent_one m m' i r a e) loans h

pub own_lent : (m m' : HandleMap ℕ) (i r : ℕ) (a : Held ℕ) (loans : List Loan) → lend m i r ≡ Some (answered a m') → a.owned ≡ true → All (IsLentAs m) loans → All (IsLentAs m') (loans ++ record { index = i; resource = r } ∷ [])
own_lent m m' i r a loans e owned h = All-push (IsLentAs m') loans (record { index = i; resource = r }) (borrow_lent m m' i r a loans e h) (lent_now m m' i r a e owned)
