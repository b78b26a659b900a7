-- The first value of a row, and of a run of bytes.
use Rattle.std.proofs.Common.{◌≡◌, ◌<◌, ◌≤◌, ◌∙◌, ℕ, pos, List, [], ◌∷◌, length, Some, None, refl, ap, arith}
use Rattle.std.specs.Prelude.{slice_index_or, slice_get}
use Rattle.wit_types.specs.declared.value.Value.{Value}
use Rattle.wit_types.specs.PlainValue.{IntValue, plain_value, values_of, byte_values}
use Rattle.comp_worlds.specs.Passing.{first_in}

pub first_none : (vs : List Value) → length vs ≡ 0 → None ≡ first_in (values_of vs)
first_none [] e = refl
first_none (v ∷ vs) e = cc

pub first_some : (vs : List Value) (x : Value) → 0 < length vs → x ≡ slice_index_or vs 0 x → Some (plain_value x) ≡ first_in (values_of vs)
first_some [] x lt e = absurd (omega (arith, lt))
first_some (v ∷ vs) x lt e = ap (λ y. Some (plain_value y)) e

pub byte_none : (bs : List ℕ) → length bs ≤ 0 → None ≡ first_in (byte_values bs)
byte_none [] e = refl
byte_none (b ∷ bs) e = absurd (omega (arith, e))

pub byte_some : (bs : List ℕ) (b : ℕ) (x : Value) → Some b ≡ slice_get bs 0 → plain_value x ≡ IntValue (pos b) → Some (plain_value x) ≡ first_in (byte_values bs)
byte_some [] b x e v = cc
byte_some (y ∷ bs) b x e v = let same : b ≡ y = cc in ap (λ z. Some z) (v ∙ ap (λ n. IntValue (pos n)) same)

pub ruleset firsts = (first_none, first_some, byte_none, byte_some)
