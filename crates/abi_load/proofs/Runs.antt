-- A list of bytes is a run of bytes.
use Rattle.std.proofs.Common.{◌≡◌, ℕ, ◌+◌, ◌%◌, ◌<◌, ◌≤◌, ap, refl, sym, ◌∙◌, List, ◌∷◌, length, take, drop, get_or, Option, Some, arith, suc, zero, add-one, drop-cons, subst}
use Rattle.std.specs.Prelude.{pos, option_and_then, option_map}
use Rattle.std.proofs.lemmas.Bool.Decides.{nat_tests}
use Rattle.core_memory.specs.Number.{number}
use Rattle.wit_types.specs.Plain.{UnsignedType, OneByte}
use Rattle.wit_types.specs.PlainValue.{PlainValue, PlainValues, IntValue, byte_values, More as Values}
use Rattle.abi_layout.specs.Loading.{read, items_at, loads_at}
use Rattle.abi_layout.specs.Numbers.{value_of}

read_within : (m : List ℕ) (at width : ℕ) → at + width ≤ length m → read m at width ≡ Some (number (take width (drop at m)))
read_within m at width le = grind (arith, nat_tests)

byte_at : (m : List ℕ) (at b : ℕ) (rest : List ℕ) → at + 1 ≤ length m → drop at m ≡ b ∷ rest → b < 256 → loads_at m (UnsignedType OneByte) at ≡ Some (IntValue (pos b))
byte_at m at b rest le is small =
    let one : number (take 1 (drop at m)) ≡ b = ap (λ (v : List ℕ). number (take 1 v)) is ∙ omega arith in
    ap (λ (o : Option ℕ). option_and_then (λ n. value_of (UnsignedType OneByte) n) o) (read_within m at 1 le ∙ ap Some one)
    ∙ ap (λ (n : ℕ). Some (IntValue (pos n))) (let low : b % 256 ≡ b = omega arith in low)

-- bytes that are within the memory
pub bytes_at_once : (m : List ℕ) (place n : ℕ) → place + n ≤ length m → ((k : ℕ) → get_or (take n (drop place m)) k 0 < 256) →
    items_at (λ p. loads_at m (UnsignedType OneByte) p) 1 place n ≡ Some (byte_values (take n (drop place m)))
bytes_at_once m place zero le small = refl
bytes_at_once m place (suc n) le small =
    let b : ℕ = get_or m place 0 in
    let cut : drop place m ≡ b ∷ drop (suc place) m = drop-cons m place 0 (omega arith) in
    let part : take (suc n) (drop place m) ≡ b ∷ take n (drop (suc place) m) = ap (λ (v : List ℕ). take (suc n) v) cut in
    let each : (k : ℕ) → get_or (b ∷ take n (drop (suc place) m)) k 0 < 256 = subst (λ (v : List ℕ). (k : ℕ) → get_or v k 0 < 256) part small in
    let here : b < 256 = each 0 in
    let later : (k : ℕ) → get_or (take n (drop (place + 1) m)) k 0 < 256 = subst (λ (j : ℕ). (k : ℕ) → get_or (take n (drop j m)) k 0 < 256) (sym (add-one place)) (λ k. each (suc k)) in
    let rest : items_at (λ p. loads_at m (UnsignedType OneByte) p) 1 (place + 1) n ≡ Some (byte_values (take n (drop (place + 1) m))) = bytes_at_once m (place + 1) n (omega arith) later in
    ap (λ (o : Option PlainValue). option_and_then (λ v. option_map (Values v) (items_at (λ p. loads_at m (UnsignedType OneByte) p) 1 (place + 1) n)) o) (byte_at m place b (drop (suc place) m) (omega arith) cut here)
    ∙ ap (λ (o : Option PlainValues). option_map (Values (IntValue (pos b))) o) rest
    ∙ ap (λ (j : ℕ). Some (Values (IntValue (pos b)) (byte_values (take n (drop j m))))) (add-one place)
    ∙ sym (ap (λ (v : List ℕ). Some (byte_values v)) part)

pub run_is : (m : List ℕ) (place n : ℕ) (bytes shown : List ℕ) → place + n ≤ length m → bytes ≡ take n (drop place m) → shown ≡ bytes → ((k : ℕ) → get_or shown k 0 < 256) →
    items_at (λ p. loads_at m (UnsignedType OneByte) p) 1 place n ≡ Some (byte_values bytes)
run_is m place n bytes shown le is same small =
    bytes_at_once m place n le (subst (λ (v : List ℕ). (k : ℕ) → get_or v k 0 < 256) (same ∙ is) small) ∙ ap (λ (v : List ℕ). Some (byte_values v)) (sym is)
