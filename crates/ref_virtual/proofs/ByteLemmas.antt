-- The numbers of values, and of bytes.
use Rattle.std.proofs.Common.{◌≡◌, ◌<◌, ℕ, All, List, [], ◌∷◌, length, map, get_or, refl, ap, ◌∙◌, arith}
use Rattle.std.proofs.lemmas.List.{length-map, get_or-map}
use Rattle.std.proofs.lemmas.List.Elements.{All-get_or}
use Rattle.wit_types.specs.declared.value.Value.{Value}
use Rattle.wit_types.specs.PlainValue.{plain_value, values_of, byte_values}
use Rattle.reference_step.specs.Values.{number_in, numbers_of, items}

pub each_number : (vs : List Value) → numbers_of (items (values_of vs)) ≡ map (λ v. number_in (plain_value v)) vs
each_number [] = refl
each_number (v ∷ vs) = ap (λ ns. number_in (plain_value v) ∷ ns) (each_number vs)

pub byte_number : (bs : List ℕ) → numbers_of (items (byte_values bs)) ≡ bs
byte_number [] = refl
byte_number (b ∷ bs) = ap (λ ns. b ∷ ns) (byte_number bs)

-- numbers that are bytes are those of values that are bytes
pub small_values : (vs : List Value) (ns : List ℕ) → ns ≡ map (λ v. number_in (plain_value v)) vs → All (λ n. n < 256) ns → (k : ℕ) (d : Value) → k < length vs → number_in (plain_value (get_or vs k d)) < 256
small_values vs ns e small k d less =
    let g : Value → ℕ = λ v. number_in (plain_value v) in
    let long : k < length ns = omega (arith, less, ap length e ∙ length-map vs g) in
    let is : get_or ns k 0 ≡ g (get_or vs k d) = ap (λ xs. get_or xs k 0) e ∙ get_or-map g vs k d 0 less in
    rw (← is) (All-get_or (λ n. n < 256) ns k 0 long small)
