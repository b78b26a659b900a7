-- The rule on functions, of indexes in a row.
use Rattle.std.proofs.Common.{◌≡◌, ℕ, ◌<◌, ◌≤◌, ◌+◌, suc, refl, sym, ◌∙◌, ap, Option, Some, None, List, [], ◌∷◌, ◌++◌, map, Bool, true, false, cond, length, drop, get_or, arith, drop-cons}
use Rattle.std.specs.Prelude.{nat_lt}
use Rattle.std.proofs.lemmas.Bool.Decides.{nat_tests}
use Rattle.core_body.specs.Context.{Context}
use Rattle.core_body.specs.Conditions.{FunctionAt, lesser, broken, least}
use Rattle.core_body.proofs.ConditionLemmas.{lesser-none, lesser-assoc}
use Rattle.core_validate.specs.Items.{Part}
use Rattle.core_validate.specs.Faults.{part_fault, parts_fault}

two : (c : Context) (ns : List ℕ) → lesser (Some 2) (least c (map (λ n. FunctionAt n) ns)) ≡ Some 2
two c [] = refl
two c (n ∷ ns) = go (least c (map (λ k. FunctionAt k) ns)) (two c ns) (nat_lt n (length c.functions))
  where
    go : (r : Option ℕ) → lesser (Some 2) r ≡ Some 2 → (b : Bool) → lesser (Some 2) (lesser (cond b None (Some 2)) r) ≡ Some 2
    go r more true = ap (lesser (Some 2)) (lesser-none r) ∙ more
    go r more false = ap (lesser (Some 2)) more

function-missing : (c : Context) (n : ℕ) → length c.functions ≤ n → broken c (FunctionAt n) ≡ Some 2
function-missing c n h = let e : nat_lt n (length c.functions) ≡ false = grind (arith, nat_tests) in ap (λ b. cond b None (Some 2)) e

pub functions-stop : (c : Context) (ns : List ℕ) (i : ℕ) → i < length ns → length c.functions ≤ get_or ns i 0 → Some 2 ≡ least c (map (λ n. FunctionAt n) (drop i ns))
functions-stop c ns i h past =
    sym (ap (λ l. least c (map (λ n. FunctionAt n) l)) (drop-cons ns i 0 h)
    ∙ ap (λ r. lesser r (least c (map (λ n. FunctionAt n) (drop (suc i) ns)))) (function-missing c (get_or ns i 0) past) ∙ two c (drop (suc i) ns))

pub parts-append : (ps qs : List Part) → parts_fault (ps ++ qs) ≡ lesser (parts_fault ps) (parts_fault qs)
parts-append [] qs = sym (lesser-none (parts_fault qs))
parts-append (p ∷ ps) qs = ap (lesser (part_fault p)) (parts-append ps qs) ∙ sym (lesser-assoc (part_fault p) (parts_fault ps) (parts_fault qs))
