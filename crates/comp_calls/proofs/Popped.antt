-- A list from which nothing could be taken.
use Rattle.std.proofs.Common.{◌≡◌, ◌∙◌, List, [], ◌∷◌, length, refl, sym}
use Rattle.std.specs.Prelude.{Vec, vec_len}
use Rattle.std.specs.Global.{Global}

no_items : {X : Type 0} (xs : List X) → length xs ≡ 0 → xs ≡ []
no_items [] e = refl
no_items (x ∷ xs) e = cc

pub none_left : {X : Type 0} (v : Vec X Global) → vec_len v ≡ 0 → v.items ≡ []
none_left v e = no_items v.items (sym v.ok.0 ∙ e)
