-- What an entry that was there before says of a name.
use Rattle.std.proofs.Common.{◌≡◌, ◌∙◌, refl, sym, Option, Some, Bool, true, false, not, cond, is_some}
use Rattle.std.specs.Prelude.{◌||◌}

pub turned : (a r l : Bool) → a ≡ not r → a ≡ l → r ≡ not l
turned a true true e f = let never : true ≡ false = sym f ∙ e in cc
turned a true false e f = refl
turned a false true e f = refl
turned a false false e f = let never : false ≡ true = sym f ∙ e in cc

pub either : (b : Bool) (o : Option Bool) → is_some (cond b (Some true) o) ≡ (b || is_some o)
either true o = refl
either false o = refl
