-- A module that bytes spell has its counts.
use Rattle.std.proofs.Common.{◌≡◌, ℕ, ◌==◌, ◌&&◌, length, Bool, true, false, Option, Some, None, refl, sym, subst, ◌∙◌, arith}
use Rattle.std.proofs.lemmas.Bool.Decides.{nat_tests}
use Rattle.wasm_ast.specs.Modules.{Progress, sections, all_sections, core_module, is_count_of, has_counts}
use Rattle.core_instance.specs.Matching.{HasCounts, SpelledModulesHaveCounts}

equal : (a b : ℕ) → (a == b) ≡ true → a ≡ b
equal a b e = grind (arith, nat_tests)

both_hold : (a b : Bool) → (a && b) ≡ true → (a ≡ true) × (b ≡ true)
both_hold true true e = (refl, refl)
both_hold true false e = absurd (cc)
both_hold false b e = absurd (cc)

counted : (o : Option ℕ) (n count : ℕ) → is_count_of o n ≡ true → o ≡ Some count → n ≡ count
counted None n count e is = absurd (cc)
counted (Some k) n count e is = let same : k ≡ count = cc in equal n k e ∙ same

counts : (p : Progress) → has_counts p ≡ true → HasCounts p.found
counts p e =
    let h = both_hold (length p.found.code == length p.found.functions) (is_count_of p.found.data_count (length p.found.segments)) e in
    record { bodies = equal (length p.found.code) (length p.found.functions) h.0; segments = λ count is. counted p.found.data_count (length p.found.segments) count h.1 is }

pub spelled_counts : SpelledModulesHaveCounts
unfolding core_module all_sections sections
spelled_counts m text h = subst HasCounts (sym h.1) (counts h.0.1 h.2.3.3)
