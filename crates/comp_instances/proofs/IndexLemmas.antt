-- An index that does not stand is the least fault of a definition (rule 3), whatever else fails.
use Rattle.std.proofs.Common.{◌≡◌, ◌∙◌, ℕ, zero, suc, ◌<◌, List, refl, sym, true, false, arith}
use Rattle.std.proofs.lemmas.Bool.{false≢true}
use Rattle.comp_types.specs.Spaces.{Space}
use Rattle.comp_types.specs.Definitions.{Definition}
use Rattle.comp_types.specs.Faults.{tests, test_at}
use Rattle.comp_types.specs.Rules.{indexes_stand}
use Rattle.comp_types.specs.Validity.{IsLeastOf}
use Rattle.comp_types.proofs.FaultLaws.{kept, made}

before_three : (around : List Space) (s : Space) (d : Definition) (n : ℕ) → n < 3 → test_at (tests around s d) n ≡ true
before_three around s d zero lt = refl
before_three around s d (suc zero) lt = refl
before_three around s d (suc (suc zero)) lt = refl
before_three around s d (suc (suc (suc n))) lt = absurd (omega arith)

pub indexes_fail : (around : List Space) (s : Space) (d : Definition) → indexes_stand around s d ≡ false → IsLeastOf around s d 3
indexes_fail around s d wrong =
    (λ h. absurd (false≢true (sym wrong ∙ kept around s d 3 h)), λ less lt. made around s d less (before_three around s d less lt) (λ e. absurd (omega arith)) (λ e. absurd (omega arith)))
