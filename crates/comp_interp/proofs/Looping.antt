-- The loop over the levels: the innermost one is the last.
use Rattle.std.proofs.Common.{◌≡◌, ◌∙◌, ap, sym, refl, subst, List, [], ◌∷◌, ◌++◌, Option, Result, Ok, Err, IsErrAnd}
use Rattle.host_port.specs.Hosts.{HostStep}
use Rattle.comp_link.specs.declared.linked.Linked.{Linked}
use Rattle.comp_link.specs.Groups.{linked_group}
use Rattle.call_moments.specs.declared.end.Stop.{Stop}
use Rattle.call_moments.specs.Leads.{Moment, Ends}
use Rattle.instance_making.specs.declared.named.Named.{Named}
use Rattle.instance_making.specs.declared.given.Given.{Given}
use Rattle.comp_interp.specs.declared.level.Level.{Level}
use Rattle.comp_interp.specs.Between.{Stood}
use Rattle.comp_interp.specs.Going.{whole_run, LevelsStand, GoesOn, LevelGoes, MakesAll}

-- a list has one last item
last_is : {A : Type 0} → (xs ys : List A) (x y : A) → xs ++ x ∷ [] ≡ ys ++ y ∷ [] → (xs ≡ ys) × (x ≡ y)
last_is [] [] x y e = let same : x ≡ y = cc in (refl, same)
last_is [] (b ∷ []) x y e = absurd (let q : [] ≡ y ∷ [] = cc in cc)
last_is [] (b ∷ c ∷ ys) x y e = absurd (let q : [] ≡ c ∷ ys ++ y ∷ [] = cc in cc)
last_is (a ∷ []) [] x y e = absurd (let q : x ∷ [] ≡ [] = cc in cc)
last_is (a ∷ c ∷ xs) [] x y e = absurd (let q : c ∷ xs ++ x ∷ [] ≡ [] = cc in cc)
last_is (a ∷ xs) (b ∷ ys) x y e =
    let first : a ≡ b = cc in
    let rest : xs ++ x ∷ [] ≡ ys ++ y ∷ [] = cc in
    let later = last_is xs ys x y rest in (ap (λ z. z ∷ xs) first ∙ ap (λ zs. b ∷ zs) later.0, later.1)

module _ {S : Type 0} (h : HostStep S) (linked : Linked) (first : Moment S) (listed : List (Named Given)) (levels : List Level) (m : Moment S) (stand : LevelsStand h linked first listed levels m) (hs : List Level) (l : Level) (popped : levels ≡ hs ++ l ∷ []) where
  last_stood : Stood h linked first listed hs l m
  last_stood =
      let same = last_is stand.outer hs stand.inner l (sym stand.are ∙ popped) in
      subst (λ xs. Stood h linked first listed xs l m) same.0 (subst (λ x. Stood h linked first listed stand.outer x m) same.1 stand.stood)

  module _ (listed' : List (Named Given)) (levels' : List Level) (new : Moment S) where
    pub level_went : (result : Result (Option (Named Given)) Stop) → LevelGoes h linked listed hs l m result listed' levels' new → GoesOn h linked first listed' levels' result new
    level_went result goes = goes first last_stood

    -- a level ended the run
    pub level_stops : (stop : Stop) (result : Result (Named Given) Stop) → IsErrAnd result (λ s. s ≡ stop) → LevelGoes h linked listed hs l m (Err stop) listed' levels' new → MakesAll h linked first result listed' new
    level_stops stop (Ok exports) e goes = absurd e
    level_stops stop (Err s) e goes = subst (λ x. Ends h (linked_group linked) (whole_run h linked first) new x) (sym e) (level_went (Err stop) goes)
