-- Loans end last first.
use Rattle.std.proofs.Common.{◌≡◌, ◌==◌, ℕ, List, [], ◌∷◌, ◌++◌, Bool, true, false, refl, sym, ap, ◌∙◌, subst}
use Rattle.std.proofs.lemmas.Bool.{eqb-true, eq-eqb}
use Rattle.handle_space.specs.HandleMap.{HandleMap, empty}
use Rattle.comp_worlds.specs.Calls.{pick}
use Rattle.comp_worlds.specs.Passing.{unlend_all}
use Rattle.instance_state.specs.declared.loan.Loan.{Loan}
use Rattle.instance_state.specs.Loans.{indexes_of, AreLent}
use Rattle.call_moments.specs.declared.frame.Frame.{Frame}
use Rattle.call_moments.specs.Lending.{IsLending}
use Rattle.call_moments.proofs.Lending.{handles_stay}
use Rattle.call_moments.specs.Held.{loans_behind, loans_if, held, Maps, with_map, AllLend}
use Rattle.call_moments.specs.EndingLaws.{LeavesLent, LoansEndLastFirst}

no_loans : (b : Bool) (rest : List Loan) → loans_if b [] ++ rest ≡ rest
no_loans true rest = refl
no_loans false rest = refl

-- without loans in hand those of all frames are held
frame_holds : (f : Frame) (fs : List Frame) (k : ℕ) → held [] (f ∷ fs) k ≡ held (loans_behind f.purpose) fs k
frame_holds f fs k = no_loans (f.instance == k) (held (loans_behind f.purpose) fs k)

begins : (maps : Maps) (f : Frame) (fs : List Frame) → AllLend maps (loans_behind f.purpose) fs → AllLend maps [] (f ∷ fs)
begins maps f fs h k = subst (IsLending (maps k)) (sym (frame_holds f fs k)) (h k)

over : (maps : Maps) (f : Frame) (fs : List Frame) → AllLend maps [] (f ∷ fs) → AllLend maps (loans_behind f.purpose) fs
over maps f fs h k = subst (IsLending (maps k)) (frame_holds f fs k) (h k)

-- at the instance that changes, and at another
module _ (maps : Maps) (k : ℕ) (m : HandleMap ℕ) where
  picked : (lent : List Loan) (j : ℕ) (b : Bool) → (j == k) ≡ b → (j ≡ k → IsLending m lent) → (b ≡ false → IsLending (maps j) lent) → IsLending (pick b m (maps j)) lent
  picked lent j true e here there = here (eqb-true j k e)
  picked lent j false e here there = there refl

changes : (maps : Maps) (loans : List Loan) (fs : List Frame) (k : ℕ) (m : HandleMap ℕ) → LeavesLent (maps k) m → AllLend maps loans fs → AllLend (with_map maps k m) loans fs
changes maps loans fs k m leaves h j = picked maps k m (held loans fs j) j (j == k) refl (λ same. leaves (held loans fs j) (subst (λ i. IsLending (maps i) (held loans fs j)) same (h j))) (λ e. h j)

module _ (loans : List Loan) (f : Frame) (fs : List Frame) (j : ℕ) where
  -- what is held of the innermost frame's instance, and of another
  held_here : f.instance ≡ j → held loans (f ∷ fs) j ≡ loans ++ held (loans_behind f.purpose) fs j
  held_here e = ap (λ b. loans_if b loans ++ held (loans_behind f.purpose) fs j) (eq-eqb f.instance j e)

  held_there : (f.instance == j) ≡ false → held loans (f ∷ fs) j ≡ held (loans_behind f.purpose) fs j
  held_there e = ap (λ b. loans_if b loans ++ held (loans_behind f.purpose) fs j) e

apart : (i j : ℕ) → (j == i) ≡ false → (i == j) ≡ false
apart i j e = at (i == j) refl
  where
    at : (b : Bool) → (i == j) ≡ b → b ≡ false
    at true h = sym (eq-eqb j i (sym (eqb-true i j h))) ∙ e
    at false h = refl

lends : (maps : Maps) (loans : List Loan) (f : Frame) (fs : List Frame) (m : HandleMap ℕ) → ((lent : List Loan) → IsLending (maps f.instance) lent → IsLending m (loans ++ lent)) → AllLend maps [] (f ∷ fs) → AllLend (with_map maps f.instance m) loans (f ∷ fs)
lends maps loans f fs m joins h j =
    let before : IsLending (maps j) (held (loans_behind f.purpose) fs j) = over maps f fs h j in
    picked maps f.instance m (held loans (f ∷ fs) j) j (j == f.instance) refl
    (λ same. subst (IsLending m) (sym (held_here loans f fs j (sym same))) (joins (held (loans_behind f.purpose) fs j) (subst (λ i. IsLending (maps i) (held (loans_behind f.purpose) fs j)) same before)))
    (λ e. subst (IsLending (maps j)) (sym (held_there loans f fs j (apart f.instance j e))) before)

ends : (maps : Maps) (loans : List Loan) (f : Frame) (fs : List Frame) → AllLend maps loans (f ∷ fs) → AreLent loans (maps f.instance) × AllLend (with_map maps f.instance (unlend_all (indexes_of loans) (maps f.instance))) [] (f ∷ fs)
ends maps loans f fs h =
    let k = f.instance in
    let done = handles_stay.ends (maps k) loans (held (loans_behind f.purpose) fs k) (subst (IsLending (maps k)) (held_here loans f fs k refl) (h k)) in (
      done.0,
      begins (with_map maps k (unlend_all (indexes_of loans) (maps k))) f fs
          (λ j. picked maps k (unlend_all (indexes_of loans) (maps k)) (held (loans_behind f.purpose) fs j) j (j == k) refl
          (λ same. subst (λ i. IsLending (unlend_all (indexes_of loans) (maps k)) (held (loans_behind f.purpose) fs i)) (sym same) done.1)
          (λ e. subst (IsLending (maps j)) (held_there loans f fs j (apart k j e)) (h j))),
    )

pub last_first : LoansEndLastFirst
last_first = record { none = λ k. handles_stay.none; begins = begins; over = over; changes = changes; lends = lends; ends = ends }
