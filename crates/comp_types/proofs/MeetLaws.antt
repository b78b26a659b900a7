-- What one more pair does to pairs of resources.
use Rattle.std.proofs.Common.{◌≡◌, ◌∙◌, ap, refl, ℕ, [], ◌∷◌, ◌++◌, Bool, true, false, Option, Some, None, cond, nat_eq}
use Rattle.std.specs.Prelude.{⊤}
use Rattle.std.proofs.lemmas.Bool.Decides.{Decides-eqb}
use Rattle.comp_types.specs.Substitution.{partner_of}
use Rattle.comp_types.specs.Matching.{Pairs, meet_at, meet, onward, only_if}

-- ---- steps of a walk, backwards

pub came_from : (f : Pairs → Option Pairs) (o : Option Pairs) (more : Pairs) → onward f o ≡ Some more → (mid : Pairs) × (o ≡ Some mid) × (f mid ≡ Some more)
came_from f None more e = cc
came_from f (Some mid) more e = (mid, refl, e)

pub held : (b : Bool) (o : Option Pairs) (more : Pairs) → only_if b o ≡ Some more → (b ≡ true) × (o ≡ Some more)
held true o more e = (refl, e)
held false o more e = cc

pub is_same : (by more : Pairs) → Some by ≡ Some more → by ≡ more
is_same by more e = cc

-- ---- pairs that stay

abbrev pub Grows : Pairs → Pairs → Type 0
Grows by more = (y x : ℕ) → partner_of by y ≡ Some x → partner_of more y ≡ Some x

-- each of them meets its partner
abbrev pub Agrees : (Meets : ℕ → ℕ → Type 0) → Pairs → Type 0
Agrees Meets by = (y x : ℕ) → partner_of by y ≡ Some x → Meets x y

pub grows-same : (by more : Pairs) → by ≡ more → Grows by more
grows-same by more e = λ y x h. rw (← e) h

pub grows-then : (by mid more : Pairs) → Grows by mid → Grows mid more → Grows by more
grows-then by mid more g h = λ y x e. h y x (g y x e)

pub agrees-before : (Meets : ℕ → ℕ → Type 0) (by more : Pairs) → Grows by more → Agrees Meets more → Agrees Meets by
agrees-before Meets by more g a = λ y x e. a y x (g y x e)

still_found : (b : Bool) (v w : ℕ) (o p : Option ℕ) → (o ≡ Some w → p ≡ Some w) → cond b (Some v) o ≡ Some w → cond b (Some v) p ≡ Some w
still_found true v w o p h e = e
still_found false v w o p h e = h e

pub found-behind : (by ps : Pairs) (y x : ℕ) → partner_of by y ≡ Some x → partner_of (by ++ ps) y ≡ Some x
found-behind [] ps y x e = cc
found-behind (p ∷ by) ps y x e = still_found (nat_eq y p.0) p.1 x (partner_of by y) (partner_of (by ++ ps) y) (found-behind by ps y x) e

now_found : (b : Bool) (v w : ℕ) (o p : Option ℕ) → (o ≡ None → p ≡ Some w) → cond b (Some v) o ≡ None → cond b (Some v) p ≡ Some w
now_found true v w o p h e = cc
now_found false v w o p h e = h e

pub same_number : (n : ℕ) → nat_eq n n ≡ true
same_number n = (Decides-eqb n n).1 refl

pub equal_number : (m n : ℕ) → nat_eq m n ≡ true → m ≡ n
equal_number m n = (Decides-eqb m n).0

pub found-last : (by : Pairs) (y x : ℕ) → partner_of by y ≡ None → partner_of (by ++ (y, x) ∷ []) y ≡ Some x
found-last [] y x e = ap (λ b. cond b (Some x) None) (same_number y)
found-last (p ∷ by) y x e = now_found (nat_eq y p.0) p.1 x (partner_of by y) (partner_of (by ++ (y, x) ∷ []) y) (found-last by y x) e

met_at : (by more : Pairs) (y x : ℕ) (o : Option ℕ) → partner_of by y ≡ o → meet_at by y x o ≡ Some more → Grows by more × (partner_of more y ≡ Some x)
met_at by more y x None is e =
    let same = is_same (by ++ (y, x) ∷ []) more e in
    (λ z w h. rw (← same) (found-behind by ((y, x) ∷ []) z w h), rw (← same) (found-last by y x is))
met_at by more y x (Some z) is e =
    let h = held_at (nat_eq z x) e in
    (grows-same by more h.1, rw (← h.1) (is ∙ ap Some (equal_number z x h.0)))
  where
    held_at : (b : Bool) → cond b (Some by) None ≡ Some more → (b ≡ true) × (by ≡ more)
    held_at true e = (refl, cc)
    held_at false e = cc

-- after a pair its resource has this partner
pub met : (by more : Pairs) (y x : ℕ) → meet by y x ≡ Some more → Grows by more × (partner_of more y ≡ Some x)
met by more y x e = met_at by more y x (partner_of by y) refl e

-- ---- pairs that meet

abbrev pub AllMeet : (Meets : ℕ → ℕ → Type 0) → Pairs → Type 0
AllMeet Meets [] = ⊤
AllMeet Meets (p ∷ by) = Meets p.1 p.0 × AllMeet Meets by

-- no resource of the second type has two partners
abbrev pub IsFunction : (ℕ → ℕ → Type 0) → Type 0
IsFunction Meets = (x z y : ℕ) → Meets x y → Meets z y → x ≡ z

module _ (Meets : ℕ → ℕ → Type 0) where
  pub all_meet-push : (by : Pairs) (y x : ℕ) → AllMeet Meets by → Meets x y → AllMeet Meets (by ++ (y, x) ∷ [])
  all_meet-push [] y x a m = (m, tt)
  all_meet-push (p ∷ by) y x a m = (a.0, all_meet-push by y x a.1 m)

  found_first : (y v w : ℕ) (x : ℕ) (b : Bool) (o : Option ℕ) → nat_eq y w ≡ b → Meets v w → (o ≡ Some x → Meets x y) → cond b (Some v) o ≡ Some x → Meets x y
  found_first y v w x true o is m h e =
      let same : y ≡ w = equal_number y w is in
      let value : v ≡ x = cc in
      rw (same, ← value) m
  found_first y v w x false o is m h e = h e

  pub all_agree : (by : Pairs) → AllMeet Meets by → Agrees Meets by
  all_agree [] a = λ y x e. cc
  all_agree (p ∷ by) a = λ y x e. found_first y p.1 p.0 x (nat_eq y p.0) (partner_of by y) refl a.0 (all_agree by a.1 y x) e

  meets_at : IsFunction Meets → (by : Pairs) (y x : ℕ) (o : Option ℕ) → partner_of by y ≡ o → AllMeet Meets by → Meets x y → (more : Pairs) × (meet_at by y x o ≡ Some more) × AllMeet Meets more
  meets_at one by y x None is a m = (by ++ (y, x) ∷ [], refl, all_meet-push by y x a m)
  meets_at one by y x (Some z) is a m =
      let same : z ≡ x = one z x y (all_agree by a y z is) m in
      (by, rw same (ap (λ b. cond b (Some by) None) (same_number x)), a)

  pub meets : IsFunction Meets → (by : Pairs) (y x : ℕ) → AllMeet Meets by → Meets x y → (more : Pairs) × (meet by y x ≡ Some more) × AllMeet Meets more
  meets one by y x a m = meets_at one by y x (partner_of by y) refl a m
