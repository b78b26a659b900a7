-- Bytes as binary formats write them (WebAssembly core specification, section 5.1.3; Component Model, Binary.md).
use Rattle.std.specs.Prelude.{ℕ, zero, suc, List, [], ◌∷◌, ◌++◌, length}
use Rattle.virt_base.specs.Leb.{shortest_unsigned}

-- a number of 32 bits, in LEB128
abbrev pub number : ℕ → List ℕ
number n = shortest_unsigned 4 n

-- bytes after their length
abbrev pub sized : List ℕ → List ℕ
sized content = number (length content) ++ content

-- a section after its number
abbrev pub section : ℕ → List ℕ → List ℕ
section id content = id ∷ sized content

-- the items 0 to n - 1, one after another
abbrev pub each : (ℕ → List ℕ) → ℕ → List ℕ
each item zero = []
each item (suc n) = each item n ++ item n

-- the items 0 to n - 1 after their count
abbrev pub list : (ℕ → List ℕ) → ℕ → List ℕ
list item n = number n ++ each item n
