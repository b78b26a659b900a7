-- The value at a place.
use Rattle.std.proofs.Common.{◌≡◌, ◌<◌, ◌≤◌, ℕ, pos, zero, suc, refl, List, [], ◌∷◌, length, get_or, arith}
use Rattle.wit_types.specs.declared.value.Value.{Value}
use Rattle.wit_types.specs.PlainValue.{IntValue, plain_value, values_of, byte_values}
use Rattle.reference_step.specs.Values.{nth, none}

pub nth_there : (vs : List Value) (n : ℕ) (d : Value) → n < length vs → nth n (values_of vs) ≡ plain_value (get_or vs n d)
nth_there [] n d lt = absurd (omega arith)
nth_there (x ∷ vs) zero d lt = refl
nth_there (x ∷ vs) (suc n) d lt = nth_there vs n d (omega (arith, lt))

pub nth_missing : (vs : List Value) (n : ℕ) → length vs ≤ n → nth n (values_of vs) ≡ none
nth_missing [] zero le = refl
nth_missing [] (suc n) le = refl
nth_missing (x ∷ vs) zero le = absurd (omega arith)
nth_missing (x ∷ vs) (suc n) le = nth_missing vs n (omega (arith, le))

pub byte_there : (bs : List ℕ) (n d : ℕ) → n < length bs → nth n (byte_values bs) ≡ IntValue (pos (get_or bs n d))
byte_there [] n d lt = absurd (omega arith)
byte_there (b ∷ bs) zero d lt = refl
byte_there (b ∷ bs) (suc n) d lt = byte_there bs n d (omega (arith, lt))

pub byte_missing : (bs : List ℕ) (n : ℕ) → length bs ≤ n → nth n (byte_values bs) ≡ none
byte_missing [] zero le = refl
byte_missing [] (suc n) le = refl
byte_missing (b ∷ bs) zero le = absurd (omega arith)
byte_missing (b ∷ bs) (suc n) le = byte_missing bs n (omega (arith, le))
