-- What is asked of the handles of atoms, one atom after another.
use Rattle.std.proofs.Common.{◌≡◌, ◌≤◌, ◌<◌, ◌+◌, ℕ, suc, Bool, true, false, ◌&&◌, List, ◌∷◌, length, drop, get_or, refl, sym, ap, ◌∙◌, arith}
use Rattle.std.specs.List.{list_all}
use Rattle.std.proofs.Math.ListN.{drop_of_length-le}
use Rattle.std.proofs.Math.Seq.{drop-cons}
use Rattle.std.proofs.lemmas.List.Folds.{list_all-append}
use Rattle.reference_step.specs.Atoms.{handle_in, handles}
use Rattle.ref_guards.specs.declared.atoms.Atom.{Atom}
use Rattle.ref_guards.specs.Noted.{shown, shown_all}

pub and_true : (b : Bool) → (b && true) ≡ b
and_true true = refl
and_true false = refl

-- ---- a test of all, one after another: it ends at the first that fails

pub halted : (a b before all : Bool) → before ≡ (a && b) → a ≡ false → before ≡ all → false ≡ all
halted a b before all split fails is = sym (split ∙ ap (λ x. x && b) fails) ∙ is

pub went_on : (a b before all : Bool) → before ≡ (a && b) → a ≡ true → before ≡ all → b ≡ all
went_on a b before all split passes is = sym (split ∙ ap (λ x. x && b) passes) ∙ is

-- ---- the handles of atoms

pub next_atom : (test : ℕ × ℕ → Bool) (noted : List Atom) (i : ℕ) (d : Atom) → i < length noted
    → list_all test (handles (shown_all (drop i noted))) ≡ (list_all test (handle_in (shown (get_or noted i d))) && list_all test (handles (shown_all (drop (i + 1) noted))))
next_atom test noted i d lt =
    ap (λ each. list_all test (handles (shown_all each))) (drop-cons noted i d lt ∙ ap (λ n. get_or noted i d ∷ drop n noted) one_more)
    ∙ list_all-append test (handle_in (shown (get_or noted i d))) (handles (shown_all (drop (i + 1) noted)))
  where
    one_more : suc i ≡ i + 1
    one_more = omega arith

pub no_more_atoms : (test : ℕ × ℕ → Bool) (noted : List Atom) (i : ℕ) → length noted ≤ i → list_all test (handles (shown_all (drop i noted))) ≡ true
no_more_atoms test noted i past = ap (λ each. list_all test (handles (shown_all each))) (drop_of_length-le noted past)
