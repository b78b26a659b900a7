-- Bytes that pairs of hexadecimal digits spell.
use Rattle.std.specs.Prelude.{ℕ, ◌+◌, ◌-◌, ◌*◌, List, [], ◌∷◌, Option, Some, None, nat_lt, if◌then◌else◌}

-- a hexadecimal digit of either case
abbrev pub hex_digit : ℕ → Option ℕ
hex_digit c = if nat_lt c 48 then None else (if nat_lt c 58 then Some (c - 48)
    else (if nat_lt c 65 then None else (if nat_lt c 71 then Some (c - 55)
    else (if nat_lt c 97 then None else (if nat_lt c 103 then Some (c - 87) else None)))))

abbrev pub hex_pair : Option ℕ → Option ℕ → Option (List ℕ) → Option (List ℕ)
hex_pair (Some high) (Some low) (Some bytes) = Some ((high * 16 + low) ∷ bytes)
hex_pair _ _ _ = None

-- the bytes that pairs of digits spell
abbrev pub hex_bytes : List ℕ → Option (List ℕ)
hex_bytes [] = Some []
hex_bytes (digit ∷ []) = None
hex_bytes (high ∷ low ∷ digits) = hex_pair (hex_digit high) (hex_digit low) (hex_bytes digits)
