-- The component exports what is handed on, and nothing else.
use Rattle.std.proofs.Common.{◌≡◌, inl, inr, cond, [], Some, None, Bool, true, false, refl, subst}
use Rattle.std.specs.Prelude.{codes}
use Rattle.wit_types.specs.Plain.{Name}
use Rattle.comp_types.specs.Items.{same_name}
use Rattle.comp_types.proofs.ValueLaws.{name-sound}
use Rattle.comp_grammar.specs.Trees.{End}
use Rattle.comp_link.specs.Linking.{Given, Giving, Nothing, find, linked}
use Rattle.comp_inside.specs.Wrapping.{IsNamed, AreExports, handing}
use Rattle.link_rows.specs.WrapsTrees.{somewhere, constant, handed, silent}
use Rattle.link_rows.specs.WrapsRows.{PremisesHold}

-- one of four names
four : (a b c d : Name) (x y z u : Given) (name : Name) (item : Given) → find name (Giving a x (Giving b y (Giving c z (Giving d u Nothing)))) ≡ Some item → (P : Name → Type 0) → P a → P b → P c → P d → P name
four a b c d x y z u name item is P pa pb pc pd = at (same_name a name) refl (same_name b name) refl (same_name c name) refl (same_name d name) refl is
  where
    named : (n : Name) → P n → same_name n name ≡ true → P name
    named n p e = subst P (name-sound n name e) p

    at : (i : Bool) → same_name a name ≡ i → (j : Bool) → same_name b name ≡ j → (k : Bool) → same_name c name ≡ k → (l : Bool) → same_name d name ≡ l → cond i (Some x) (cond j (Some y) (cond k (Some z) (cond l (Some u) None))) ≡ Some item → P name
    at true e1 j e2 k e3 l e4 is' = named a pa e1
    at false e1 true e2 k e3 l e4 is' = named b pb e2
    at false e1 false e2 true e3 l e4 is' = named c pc e3
    at false e1 false e2 false e3 true e4 is' = named d pd e4
    at false e1 false e2 false e3 false e4 is' = absurd (let q : None ≡ Some item = is' in cc)

all_handed : (name : Name) (item : Given) → find name (linked constant).exports ≡ Some item → IsNamed name handed
all_handed name item is =
    four (codes "f") (codes "t") (codes "i") (codes "r") _ _ _ _ name item is (λ n. IsNamed n handed) (inr (inl refl)) (inr (inr (inr (inl refl)))) (inl refl) (inr (inr (inl refl)))

are_exports : AreExports (linked constant).exports handed
are_exports = record { each = ((_, refl, refl), ((_, refl, refl), ((_, refl, refl), ((_, refl, refl), tt)))); all = all_handed }

none_exported : AreExports (linked silent).exports []
none_exported = record { each = tt; all = λ name item is. let q : None ≡ Some item = is in cc }

pub premises_hold : PremisesHold
premises_hold = record {
  wraps = (somewhere, handed, handing handed, refl, inl refl, are_exports);
  imports_none = refl;
  silent_wraps = (somewhere, [], End, refl, inr (refl, refl), none_exported);
  empty_wraps = (somewhere, [], handing [], refl, inl refl, none_exported);
}
