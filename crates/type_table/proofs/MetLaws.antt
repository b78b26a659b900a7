-- What walks over a table remember holds while the pairs of resources, or the table, only grow.
use Rattle.std.proofs.Common.{◌≡◌, ◌∙◌, refl, sym, subst, ℕ, List, Some, slice_get}
use Rattle.std.specs.Prelude.{All, Contains}
use Rattle.std.proofs.lemmas.List.Elements.{All-weaker, All-contains}
use Rattle.std.proofs.lemmas.Option.{same_Some}
use Rattle.wit_types.specs.Plain.{Plain}
use Rattle.comp_types.specs.Matching.{Pairs, matched_value}
use Rattle.comp_types.proofs.MeetLaws.{Grows, grows-same}
use Rattle.type_table.specs.Tables.{Types, trees, Grew}
use Rattle.type_table.specs.Met.{HaveMet}
use Rattle.type_table.proofs.MatchLaws.{value-again}
use Rattle.type_table.proofs.HasLaws.{get-append, trees-append}

-- ---- types that met

module _ (types : Types) where
  -- the two at these places
  pub met_now : (by out : Pairs) (i j : ℕ) (a b : Plain) → slice_get (trees types) i ≡ Some a → slice_get (trees types) j ≡ Some b → matched_value by a b ≡ Some out → HaveMet types out (i, j)
  met_now by out i j a b e f m = λ x y g h.
      subst (λ z. matched_value out z y ≡ Some out) (same_Some a x (sym e ∙ g))
      (subst (λ z. matched_value out a z ≡ Some out) (same_Some b y (sym f ∙ h)) (value-again by out out a b m (grows-same out out refl)))

  pub met_later : (by more : Pairs) (p : ℕ × ℕ) → Grows by more → HaveMet types by p → HaveMet types more p
  met_later by more p g h = λ a b e f. value-again by by more a b (h a b e f) g

  pub all_met-later : (by more : Pairs) (ps : List (ℕ × ℕ)) → Grows by more → All (HaveMet types by) ps → All (HaveMet types more) ps
  all_met-later by more ps g h = All-weaker (HaveMet types by) (HaveMet types more) (λ p. met_later by more p g) ps h

  -- so they need not be walked again
  pub met_again : (by : Pairs) (ps : List (ℕ × ℕ)) (i j : ℕ) (a b : Plain) → All (HaveMet types by) ps → Contains ps (i, j) → slice_get (trees types) i ≡ Some a → slice_get (trees types) j ≡ Some b → matched_value by a b ≡ Some by
  met_again by ps i j a b h c e f = All-contains (HaveMet types by) ps (i, j) h c a b e f

-- ---- longer tables

module _ (old new : Types) where
  pub tree-grew : (at : ℕ) (ty : Plain) → Grew old new → slice_get (trees old) at ≡ Some ty → slice_get (trees new) at ≡ Some ty
  tree-grew at ty g e =
      subst (λ ts. slice_get (trees ts) at ≡ Some ty) (sym g.is)
      (subst (λ tys. slice_get tys at ≡ Some ty) (sym (trees-append old g.more)) (get-append (trees old) (trees g.more) at ty e))
