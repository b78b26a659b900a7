-- What is read and the text after it have together at most that many bytes.
use Rattle.std.proofs.Common.{◌≡◌, ℕ, ◌+◌, ◌≤◌, ◌<◌, List, [], ◌∷◌, length, drop, Some, None, option_map, option_and_then, arith}
use Rattle.toml_parser.specs.Lexical.{Read, first}

-- if something is read, it and the text after it have at most n bytes
abbrev pub Within : {A : Type 0} → (A → ℕ) → ℕ → Read A → Type 0
Within size n None = Unit {0}
Within size n (Some r) = size r.0 + length r.1 ≤ n

pub within_map : {A B : Type 0} (size : A → ℕ) (other : B → ℕ) (n m : ℕ) (f : A × List ℕ → B × List ℕ) (r : Read A) → Within size n r
    → ((a : A) (rest : List ℕ) → size a + length rest ≤ n → other (f (a, rest)).0 + length (f (a, rest)).1 ≤ m)
    → Within other m (option_map f r)
within_map size other n m f None h more = tt
within_map size other n m f (Some (a, rest)) h more = more a rest h

pub within_then : {A B : Type 0} (size : A → ℕ) (other : B → ℕ) (n m : ℕ) (r : Read A) (f : A × List ℕ → Read B) → Within size n r
    → ((a : A) (rest : List ℕ) → size a + length rest ≤ n → Within other m (f (a, rest)))
    → Within other m (option_and_then f r)
within_then size other n m None f h more = tt
within_then size other n m (Some (a, rest)) f h more = more a rest h

pub within_more : {A : Type 0} (size : A → ℕ) (n m : ℕ) (r : Read A) → n ≤ m → Within size n r → Within size m r
within_more size n m None h within = tt
within_more size n m (Some r) h within = omega arith

-- the same by another size
pub within_size : {A : Type 0} (size other : A → ℕ) (n m : ℕ) (r : Read A) → Within size n r
    → ((a : A) (rest : List ℕ) → size a + length rest ≤ n → other a + length rest ≤ m) → Within other m r
within_size size other n m None h more = tt
within_size size other n m (Some (a, rest)) h more = more a rest h

-- a byte that is not 0 stands in the text
pub one_taken : (text : List ℕ) → 0 < first text → 1 + length (drop 1 text) ≡ length text
one_taken [] h = absurd (omega arith)
one_taken (c ∷ cs) h = omega arith
