-- Faults of limits: the value is above its limit.
use Rattle.std.proofs.Common.{◌≡◌, refl, sym, ap, subst, ℕ, ◌+◌, ◌<◌, List, true, length, min, Result, Err, inl, inr, arith}
use Rattle.std.specs.Prelude.{codes, nat_lt}
use Rattle.std.proofs.lemmas.Bool.Decides.{nat_tests}
use Rattle.path_names.specs.Paths.{names_of}
use Rattle.mount_tree.specs.declared.fault.TreeFault.{TreeFault}
use Rattle.mount_tree.specs.declared.fault.TreeFault.TheVariants.{FileFault, BadName, OverLimit, NoMemory}
use Rattle.mount_tree.specs.Runs.{IsAbove, IsFault, Says}
use Rattle.mount_tree.specs.Making.{Sofar, few_nodes, fitting, reached}
use Rattle.mount_tree.proofs.ReadLemmas.{above_bytes, too_long}

pub over_says : {A : Type 0} (due : Result A TreeFault) (what : List ℕ) (value : ℕ) (fault : TreeFault) → due ≡ Err (OverLimit what value) → IsAbove what value
    → IsFault (OverLimit what value) fault → Says due (Err fault)
over_says due what value NoMemory is above named = tt
over_says due what value (OverLimit w v) is above named = subst (λ f. Says due (Err f)) named (above, is)
over_says due what value (FileFault n) is above named = subst (λ f. Says due (Err f)) named (above, is)
over_says due what value (BadName n) is above named = subst (λ f. Says due (Err f)) named (above, is)

pub nodes_refused : (n : ℕ) (sofar : Sofar) (fault : TreeFault) → 65536 < n → IsFault (OverLimit (codes "tree-nodes") n) fault → Says (few_nodes n sofar) (Err fault)
nodes_refused n sofar fault past named =
    let high : nat_lt 65536 n ≡ true = grind (arith, nat_tests, past) in
    over_says (few_nodes n sofar) (codes "tree-nodes") n fault (rw (high) refl) (inr (inl (refl, past))) named

pub names_refused : (n : ℕ) (sofar : Sofar) (path : List ℕ) (fault : TreeFault) → n ≡ length (names_of path) → 64 < n → IsFault (OverLimit (codes "tree-depth") n) fault
    → Says (reached sofar path) (Err fault)
names_refused n sofar path fault is past named =
    let high : nat_lt 64 (length (names_of path)) ≡ true = grind (arith, nat_tests, past, is) in
    over_says (reached sofar path) (codes "tree-depth") n fault (rw (high) (ap (λ k. Err (OverLimit (codes "tree-depth") k)) (sym is))) (inl (refl, past)) named

pub bytes_refused : (used : ℕ) (bytes : List ℕ) (fault : TreeFault) → 67108864 < min (used + length bytes) 18446744073709551615
    → IsFault (OverLimit (codes "embedded-bytes") (min (used + length bytes) 18446744073709551615)) fault → Says (fitting used bytes) (Err fault)
bytes_refused used bytes fault past named =
    let many : 67108864 < used + length bytes = omega (arith, past) in
    over_says (fitting used bytes) (codes "embedded-bytes") (min (used + length bytes) 18446744073709551615) fault (too_long used bytes many) (above_bytes (used + length bytes) many) named
