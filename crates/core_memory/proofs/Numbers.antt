-- Integers in bytes.
use Rattle.std.proofs.Common.{◌≡◌, ℕ, suc, ◌+◌, ◌*◌, ◌<◌, ◌≤◌, List, length, get_or, take, drop, refl, arith}
use Rattle.std.proofs.lemmas.List.{drop_more}
use Rattle.core_memory.specs.Number.{number}

pub next_byte : (bs : List ℕ) (at k n : ℕ) → at < length bs → k ≡ at + 1 → number (take (suc n) (drop at bs)) ≡ get_or bs at 0 + 256 * number (take n (drop k bs))
next_byte bs at k n lt e = rw (drop_more bs at 0 lt, ← e) refl

pub spelled1 : (bs : List ℕ) (at : ℕ) → at + 1 ≤ length bs → number (take 1 (drop at bs)) ≡ get_or bs at 0
spelled1 bs at le = let a = next_byte bs at (at + 1) 0 (omega arith) refl in omega arith

pub spelled2 : (bs : List ℕ) (at : ℕ) → at + 2 ≤ length bs → number (take 2 (drop at bs)) ≡ get_or bs at 0 + 256 * get_or bs (at + 1) 0
spelled2 bs at le = let a = next_byte bs at (at + 1) 1 (omega arith) refl in let b = next_byte bs (at + 1) (at + 2) 0 (omega arith) (omega arith) in omega arith

pub spelled4 : (bs : List ℕ) (at : ℕ) → at + 4 ≤ length bs → number (take 4 (drop at bs)) ≡ get_or bs at 0 + 256 * get_or bs (at + 1) 0 + 65536 * get_or bs (at + 2) 0 + 16777216 * get_or bs (at + 3) 0
spelled4 bs at le =
    let a = next_byte bs at (at + 1) 3 (omega arith) refl in let b = next_byte bs (at + 1) (at + 2) 2 (omega arith) (omega arith) in
    let c = next_byte bs (at + 2) (at + 3) 1 (omega arith) (omega arith) in let d = next_byte bs (at + 3) (at + 4) 0 (omega arith) (omega arith) in omega arith

pub spelled8 : (bs : List ℕ) (at : ℕ) → at + 8 ≤ length bs → number (take 8 (drop at bs)) ≡ number (take 4 (drop at bs)) + 4294967296 * number (take 4 (drop (at + 4) bs))
spelled8 bs at le =
    let a = next_byte bs at (at + 1) 7 (omega arith) refl in let b = next_byte bs (at + 1) (at + 2) 6 (omega arith) (omega arith) in
    let c = next_byte bs (at + 2) (at + 3) 5 (omega arith) (omega arith) in let d = next_byte bs (at + 3) (at + 4) 4 (omega arith) (omega arith) in
    let e = spelled4 bs at (omega arith) in omega arith

pub ruleset spelled = (spelled1, spelled2, spelled4, spelled8)
