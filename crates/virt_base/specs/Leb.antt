-- Numbers in LEB128 (WebAssembly Core 2.0, section 5.2.2): seven bits a byte, the lowest first; each byte but the last has
-- its top bit set; the bits above the number's width are zeros, or copies of the sign.
use Rattle.std.specs.Prelude.{◌≡◌, ℕ, ℤ, pos, ◌+ℤ◌, ◌-ℤ◌, ◌*ℤ◌, neg_ℤ, ◌≤ℤ◌, ◌<ℤ◌, zero, suc, ◌+◌, ◌-◌, ◌*◌, ◌/◌, ◌%◌, ◌<◌, ◌≤◌, ◌⊎◌, Bool, true, false, List, [], ◌∷◌, Result, Ok, Err, nat_lt, nat_le, if◌then◌else◌, length, negsuc}
use Rattle.std.specs.List.{AllByRecursion}
use Rattle.virt_base.specs.declared.leb.LebFault.{LebFault}
use Rattle.virt_base.specs.declared.leb.LebFault.TheVariants.{Short, TooLong}
use Rattle.virt_base.specs.declared.cursor.Cursor.{Cursor}
use Rattle.virt_base.specs.Place.{Place, Takes, place}

-- ---- unsigned numbers, below a limit that is a power of two

-- The bytes spell the number n.
abbrev pub IsUnsigned : ℕ → ℕ → List ℕ → Type 0
IsUnsigned limit n [] = ⊥
IsUnsigned limit n (b ∷ []) = (b < 128) × (b < limit) × (n ≡ b)
IsUnsigned limit n (b ∷ c ∷ bs) = (128 < limit) × (128 ≤ b) × ((high : ℕ) × (n + 128 ≡ b + 128 * high) × IsUnsigned (limit / 128) high (c ∷ bs))

-- The bytes end before a number does: each has its top bit set, and the limit permits one more.
abbrev pub IsCut : ℕ → List ℕ → Type 0
IsCut limit [] = Unit {0}
IsCut limit (b ∷ bs) = (128 < limit) × (128 ≤ b) × IsCut (limit / 128) bs

-- The last byte that the limit permits has its top bit set, or a bit above the limit.
abbrev pub IsTooLong : ℕ → List ℕ → Type 0
IsTooLong limit [] = ⊥
IsTooLong limit (b ∷ bs) = ((limit ≤ 128) × (limit ≤ b)) ⊎ ((128 < limit) × (128 ≤ b) × IsTooLong (limit / 128) bs)

-- ---- signed numbers, from -half to half - 1 for a power of two

-- seven bits as a number from -64 to 63
abbrev pub seven : ℕ → ℤ
seven b = if nat_lt b 64 then pos b else (pos b -ℤ pos 128)

-- seven bits are of a number from -half to half - 1
abbrev pub fits_seven : ℕ → ℕ → Bool
fits_seven half b = if nat_lt b 64 then nat_lt b half else nat_le 128 (b + half)

-- The bytes spell the number n.
abbrev pub IsSigned : ℕ → ℤ → List ℕ → Type 0
IsSigned half n [] = ⊥
IsSigned half n (b ∷ []) = (b < 128) × (neg_ℤ (pos half) ≤ℤ n) × (n <ℤ pos half) × (n ≡ seven b)
IsSigned half n (b ∷ c ∷ bs) = (64 < half) × (128 ≤ b) × ((high : ℤ) × (n ≡ pos (b - 128) +ℤ pos 128 *ℤ high) × IsSigned (half / 128) high (c ∷ bs))

abbrev pub IsCutSigned : ℕ → List ℕ → Type 0
IsCutSigned half [] = Unit {0}
IsCutSigned half (b ∷ bs) = (64 < half) × (128 ≤ b) × IsCutSigned (half / 128) bs

-- The last byte that the width permits has its top bit set, or a bit above the width that is no copy of the sign.
abbrev pub IsTooLongSigned : ℕ → List ℕ → Type 0
IsTooLongSigned half [] = ⊥
IsTooLongSigned half (b ∷ bs) = ((half ≤ 64) × ((128 ≤ b) ⊎ (fits_seven half b ≡ false))) ⊎ ((64 < half) × (128 ≤ b) × IsTooLongSigned (half / 128) bs)

-- ---- what a call answers by the rule

-- The text of a number stood at the cursor, which is after it now; or the bytes there are refused so, and the cursor stays.
abbrev pub AnswersBy : {X : Type 0} → (X → List ℕ → Type 0) → (List ℕ → Type 0) → (List ℕ → Type 0) → Cursor → Cursor → Result X LebFault → Type 0
AnswersBy Spells Cut Long old new (Ok n) = (text : List ℕ) × Spells n text × Takes text (place old) (place new)
AnswersBy Spells Cut Long old new (Err Short) = Cut (place old).rest × (new ≡ old)
AnswersBy Spells Cut Long old new (Err TooLong) = Long (place old).rest × (new ≡ old)

abbrev pub AnswersUnsigned : ℕ → Cursor → Cursor → Result ℕ LebFault → Type 0
AnswersUnsigned limit = AnswersBy (IsUnsigned limit) (IsCut limit) (IsTooLong limit)

abbrev pub AnswersSigned : ℕ → Cursor → Cursor → Result ℤ LebFault → Type 0
AnswersSigned half = AnswersBy (IsSigned half) (IsCutSigned half) (IsTooLongSigned half)

-- ---- the same as functions: reading the number at the front, from the left

abbrev pub above : ℕ → Result (ℕ × Place) LebFault → Result (ℕ × Place) LebFault
above b (Ok high) = Ok (b - 128 + 128 * high.0, high.1)
above b (Err e) = Err e

unfoldable pub unsigned_at : ℕ → ℕ → List ℕ → Result (ℕ × Place) LebFault
unsigned_at limit at [] = Err Short
unsigned_at limit at (b ∷ bs) =
    if nat_lt b 128 then (if nat_lt b limit then Ok (b, record { at = at + 1; rest = bs }) else Err TooLong)
    else (if nat_lt 128 limit then above b (unsigned_at (limit / 128) (at + 1) bs) else Err TooLong)

abbrev pub above_signed : ℕ → Result (ℤ × Place) LebFault → Result (ℤ × Place) LebFault
above_signed b (Ok high) = Ok (pos (b - 128) +ℤ pos 128 *ℤ high.0, high.1)
above_signed b (Err e) = Err e

unfoldable pub signed_at : ℕ → ℕ → List ℕ → Result (ℤ × Place) LebFault
signed_at half at [] = Err Short
signed_at half at (b ∷ bs) =
    if nat_lt b 128 then (if fits_seven half b then Ok (seven b, record { at = at + 1; rest = bs }) else Err TooLong)
    else (if nat_lt 64 half then above_signed b (signed_at (half / 128) (at + 1) bs) else Err TooLong)

-- ---- the shortest spellings, of at most `more` bytes after the first

abbrev pub shortest_unsigned : ℕ → ℕ → List ℕ
shortest_unsigned zero n = n ∷ []
shortest_unsigned (suc more) n = if nat_lt n 128 then n ∷ [] else ((n % 128 + 128) ∷ shortest_unsigned more (n / 128))

-- seven bits of a number, or of -1 less that number
abbrev pub low_bits : Bool → ℕ → ℕ
low_bits false m = m
low_bits true m = 127 - m

-- of m, or of -1 - m where the number is negative
abbrev pub shortest_by : Bool → ℕ → ℕ → List ℕ
shortest_by negative zero m = low_bits negative m ∷ []
shortest_by negative (suc more) m = if nat_lt m 64 then low_bits negative m ∷ [] else ((low_bits negative (m % 128) + 128) ∷ shortest_by negative more (m / 128))

abbrev pub shortest_signed : ℕ → ℤ → List ℕ
shortest_signed more (pos m) = shortest_by false more m
shortest_signed more (negsuc m) = shortest_by true more m

-- m, or -1 - m where the number is negative
abbrev pub number_by : Bool → ℕ → ℤ
number_by false m = pos m
number_by true m = negsuc m

-- A spelling of the number, and no bytes that spell it are fewer.
pub record IsShortest (Spells : List ℕ → Type 0) (text : List ℕ) : Type 0 where
  pub spelled : Spells text
  pub least : (other : List ℕ) → AllByRecursion (λ b. b < 256) other → Spells other → length text ≤ length other

-- base times 128, so often: the limit of what that many bytes after the first can spell
abbrev pub limit_of : ℕ → ℕ → ℕ
limit_of base zero = base
limit_of base (suc more) = 128 * limit_of base more
