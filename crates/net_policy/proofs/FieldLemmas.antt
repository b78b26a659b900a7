-- The field at a place.
use Rattle.std.proofs.Common.{◌≡◌, ◌<◌, ◌≤◌, ℕ, pos, zero, suc, refl, List, [], ◌∷◌, length, get_or, arith}
use Rattle.wit_types.specs.declared.value.Value.{Value}
use Rattle.wit_types.specs.PlainValue.{RecordValue, IntValue, End, plain_value, values_of, byte_values}
use Rattle.net_policy.specs.Allowed.{field_at, all_numbers, record_values, number_in}

pub field_there : (vs : List Value) (n : ℕ) (d : Value) → n < length vs → field_at n (values_of vs) ≡ plain_value (get_or vs n d)
field_there [] n d lt = absurd (omega arith)
field_there (x ∷ vs) zero d lt = refl
field_there (x ∷ vs) (suc n) d lt = field_there vs n d (omega (arith, lt))

pub field_missing : (vs : List Value) (n : ℕ) → length vs ≤ n → field_at n (values_of vs) ≡ RecordValue End
field_missing [] zero le = refl
field_missing [] (suc n) le = refl
field_missing (x ∷ vs) zero le = absurd (omega arith)
field_missing (x ∷ vs) (suc n) le = field_missing vs n (omega (arith, le))

-- the same of a run of bytes

pub byte_there : (bs : List ℕ) (n d : ℕ) → n < length bs → number_in (field_at n (byte_values bs)) ≡ get_or bs n d
byte_there [] n d lt = absurd (omega arith)
byte_there (b ∷ bs) zero d lt = refl
byte_there (b ∷ bs) (suc n) d lt = byte_there bs n d (omega (arith, lt))

pub byte_missing : (bs : List ℕ) (n : ℕ) → length bs ≤ n → number_in (field_at n (byte_values bs)) ≡ 0
byte_missing [] zero le = refl
byte_missing [] (suc n) le = refl
byte_missing (b ∷ bs) zero le = absurd (omega arith)
byte_missing (b ∷ bs) (suc n) le = byte_missing bs n (omega (arith, le))

-- no byte is a record
pub no_record : (bs : List ℕ) (n : ℕ) → record_values (field_at n (byte_values bs)) ≡ End
no_record [] zero = refl
no_record [] (suc n) = refl
no_record (b ∷ bs) zero = refl
no_record (b ∷ bs) (suc n) = no_record bs n
