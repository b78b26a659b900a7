-- Blocks of 4,096 bytes in an order.
use Rattle.std.specs.Prelude.{◌≡◌, ℕ, ◌+◌, ◌*◌, ◌-◌, ◌≤◌, ◌<◌, ◌^◌, ◌==◌, if◌then◌else◌, List, [], ◌∷◌, ◌++◌, All, length, take, drop}

-- the bytes of a block
abbrev pub block : List ℕ → ℕ → List ℕ
block bytes k = take 4096 (drop (k * 4096) bytes)

-- the bytes of blocks in an order, one block after another
abbrev pub in_order : List ℕ → List ℕ → List ℕ
in_order [] bytes = []
in_order (k ∷ order) bytes = block bytes k ++ in_order order bytes

-- how often a block stands in an order
abbrev pub times : ℕ → List ℕ → ℕ
times k [] = 0
times k (j ∷ order) = (if j == k then 1 else 0) + times k order

-- the bytes are those of as many blocks as the order has, and it has each of them once
pub record IsSpace (order bytes : List ℕ) : Type 0 where
  pub whole : length bytes ≡ length order * 4096
  pub inside : All (λ k. k < length order) order
  pub once : (k : ℕ) → times k order ≤ 1
  pub few : length order < 2 ^ 32

-- what stands from `at` up to `mid`, and what stands from there up to `end`, change places
abbrev pub exchanged : List ℕ → (at mid end : ℕ) → List ℕ
exchanged xs at mid end = take at xs ++ (take (end - mid) (drop mid xs) ++ (take (mid - at) (drop at xs) ++ drop end xs))
