-- The text of a network: an address, `/` and how many of its first bits count.
use Rattle.std.specs.Prelude.{ℕ, ◌+◌, ◌-◌, ◌*◌, List, [], ◌∷◌, Bool, true, false, not, Option, Some, None, option_and_then, length, nat_lt, nat_le, ◌==◌, ◌&&◌, ◌||◌, if◌then◌else◌}
use Rattle.policy_data.specs.declared.data.Network.{Network}
use Rattle.path_names.specs.Parts.{cut, parts_of}

-- ---- numbers

abbrev pub decimal_digit : ℕ → Option ℕ
decimal_digit c = if nat_lt c 48 then None else (if nat_lt c 58 then Some (c - 48) else None)

-- in lower case
abbrev pub group_digit : ℕ → Option ℕ
group_digit c = if nat_lt c 48 then None else (if nat_lt c 58 then Some (c - 48)
    else (if nat_lt c 97 then None else (if nat_lt c 103 then Some (c - 87) else None)))

-- a number, and digits after those that spell it
abbrev pub digits_behind : (ℕ → Option ℕ) → ℕ → ℕ → List ℕ → Option ℕ
digits_behind digit base n [] = Some n
digits_behind digit base n (c ∷ cs) = option_and_then (λ d. digits_behind digit base (n * base + d) cs) (digit c)

-- 1 to 3 digits without a leading zero
abbrev pub decimal_of : List ℕ → Option ℕ
decimal_of [] = None
decimal_of (c ∷ cs) = if nat_lt 2 (length cs) || ((c == 48) && not (length cs == 0)) then None else digits_behind decimal_digit 10 0 (c ∷ cs)

-- 1 to 4 digits
abbrev pub group_of : List ℕ → Option ℕ
group_of text = if (length text == 0) || nat_lt 4 (length text) then None else digits_behind group_digit 16 0 text

abbrev pub upto : ℕ → ℕ → Option ℕ
upto greatest n = if nat_le n greatest then Some n else None

-- ---- addresses

-- a number of an address of four or of eight
abbrev pub number_of : Bool → List ℕ → Option ℕ
number_of false text = option_and_then (upto 255) (decimal_of text)
number_of true text = group_of text

abbrev pub all_numbers : (List ℕ → Option ℕ) → List (List ℕ) → Option (List ℕ)
all_numbers number [] = Some []
all_numbers number (part ∷ parts) = option_and_then (λ n. option_and_then (λ ns. Some (n ∷ ns)) (all_numbers number parts)) (number part)

abbrev pub so_many : ℕ → List ℕ → Option (List ℕ)
so_many count numbers = if length numbers == count then Some numbers else None

-- four decimal numbers that `.` joins, or eight groups that `:` joins
abbrev pub address_of : Bool → List ℕ → Option (List ℕ)
address_of false text = option_and_then (so_many 4) (all_numbers (number_of false) (parts_of 46 text))
address_of true text = option_and_then (so_many 8) (all_numbers (number_of true) (parts_of 58 text))

-- ---- networks

abbrev pub network_by : Bool → List ℕ → Option ℕ → Option Network
network_by six numbers None = None
network_by six numbers (Some n) = Some (record { six = six; numbers = numbers; length = n })

abbrev pub network_at : Option (List ℕ) → Option (List ℕ) → Option ℕ → Option Network
network_at (Some four) eight n = network_by false four (option_and_then (upto 32) n)
network_at None (Some eight) n = network_by true eight (option_and_then (upto 128) n)
network_at None None n = None

abbrev pub network_cut : Option (List ℕ × List ℕ) → Option Network
network_cut None = None
network_cut (Some p) = network_at (address_of false p.0) (address_of true p.0) (decimal_of p.1)

abbrev pub network_of : List ℕ → Option Network
network_of text = network_cut (cut 47 text)
