-- A page of a memory: 65,536 bytes (WebAssembly Core 2.0, section 4.2.8).
use Rattle.std.specs.Prelude.{ℕ, ◌≡◌, ◌==◌, ◌||◌, true, false, Bool, List, [], ◌∷◌, length, replicate}

-- that many bytes of 0
unfoldable pub zeros : ℕ → List ℕ
zeros n = replicate n 0

-- what a page shows, and whether memory was taken for it
pub record Content : Type 0 where
  pub bytes : List ℕ
  pub made : Bool

-- a page is kept as its bytes, or as none until the first write
abbrev pub content : List ℕ → Content
content [] = record { bytes = zeros 65536; made = false }
content (b ∷ bs) = record { bytes = b ∷ bs; made = true }

abbrev pub IsKept : List ℕ → Type 0
IsKept bs = (length bs == 0 || length bs == 65536) ≡ true
