-- Definitions of a section one after another.
use Rattle.std.proofs.Common.{◌≡◌, sym, subst, ℕ, List, [], ◌∷◌, map, Option, Some, None, inl, inr}
use Rattle.comp_types.specs.Spaces.{Space}
use Rattle.comp_types.specs.Definitions.{Definition}
use Rattle.comp_types.specs.Added.{after}
use Rattle.comp_defining.specs.declared.scopes.Scopes.{Scopes}
use Rattle.comp_defining.specs.Around.{StandAll}
use Rattle.comp_defining.specs.Judged.{JudgedIn, JudgedEach}

pub each_valid : (around : List Space) (s : Space) (d : Definition) (ds : List Definition) (x y : Scopes) (answer : Option ℕ) → JudgedIn around s d x None → JudgedEach around (after around s d) ds y answer → JudgedEach around s (d ∷ ds) y answer
each_valid around s d ds x y None v h = ((v.0, h.0), h.1)
each_valid around s d ds x y (Some rule) v h = inr (v.0, h)

-- what is judged of the definitions that are left is judged of all of them
pub record LeadsAll (around : List Space) (s : Space) (all left : List Definition) (x : Scopes) : Type 0 where
  pub inner : Space
  pub stand : StandAll around inner x
  pub rest : (y : Scopes) (answer : Option ℕ) → JudgedEach around inner left y answer → JudgedEach around s all y answer

pub leads_all : (around : List Space) (s : Space) (all : List Definition) (x : Scopes) → StandAll around s x → LeadsAll around s all all x
leads_all around s all x h = record { inner = s; stand = h; rest = λ y answer k. k }

pub one_more : (around : List Space) (s : Space) (all : List Definition) (d : Definition) (left : List Definition) (x y : Scopes) (l : LeadsAll around s all (d ∷ left) x) → JudgedIn around l.inner d y None → LeadsAll around s all left y
one_more around s all d left x y l h = record {
  inner = after around l.inner d;
  stand = h.1;
  rest = λ z answer k. l.rest z answer (each_valid around l.inner d left y z answer h k);
}

pub one_breaks : (around : List Space) (s : Space) (all : List Definition) (d : Definition) (left : List Definition) (x y : Scopes) (rule : ℕ) (l : LeadsAll around s all (d ∷ left) x) → JudgedIn around l.inner d y (Some rule) → JudgedEach around s all y (Some rule)
one_breaks around s all d left x y rule l h = l.rest y (Some rule) (inl h)

pub all_led : (around : List Space) (s : Space) (all : List Definition) (x : Scopes) → LeadsAll around s all [] x → JudgedEach around s all x None
all_led around s all x l = l.rest x None (tt, l.stand)
