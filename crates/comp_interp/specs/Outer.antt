-- The plans outside the innermost one wait: what each made stands, and its instance is none of those further in.
use Rattle.std.specs.Prelude.{◌≡◌, List, [], ◌∷◌, ℕ}
use Rattle.comp_link.specs.Linking.{Givens, Making}
use Rattle.call_moments.specs.Leads.{Moment}
use Rattle.instance_making.specs.Shown.{Stands}
use Rattle.comp_interp.specs.declared.level.Level.{Level}
use Rattle.comp_interp.specs.Gathered.{HasOwn}

-- levels and what they made, outermost first
abbrev pub AreOutside : {S : Type 0} → List Givens → Moment S → List Level → List Making → Type 0
AreOutside before m [] [] = Unit {0}
AreOutside before m (l ∷ hs) (g ∷ gs) = (Stands before l.making g × HasOwn m g) × AreOutside before m hs gs
AreOutside before m [] (g ∷ gs) = ⊥
AreOutside before m (l ∷ hs) [] = ⊥

abbrev pub Differs : ℕ → List Making → Type 0
Differs k [] = Unit {0}
Differs k (g ∷ gs) = (k ≡ g.instance → ⊥) × Differs k gs

-- no two of these instances are one, and none is the one of the innermost plan
abbrev pub AreApart : List Making → ℕ → Type 0
AreApart [] k = Unit {0}
AreApart (g ∷ gs) k = (g.instance ≡ k → ⊥) × Differs g.instance gs × AreApart gs k
