-- The words of a policy by which each interface goes.
use Rattle.std.proofs.Common.{◌≡◌, ◌<◌, ◌≤◌, ℕ, zero, suc, refl, get_or, arith}
use Rattle.std.proofs.lemmas.List.{get_or_past}
use Rattle.wit_types.specs.Plain.{Name}
use Rattle.policy_data.specs.declared.policy.Policy.{Policy}
use Rattle.reference_step.specs.Access.{access, accesses, Denied}
use Rattle.ref_rules.specs.declared.access.Source.{Source}
use Rattle.ref_rules.specs.declared.access.TheConstants.{SOURCES}
use Rattle.ref_rules.specs.Sources.{by_source}

pub source_access : (p : Policy) (i : ℕ) (d : Source) (f : Name) → i < 27 → by_source p (get_or SOURCES i d) f ≡ access p i f
source_access p zero d f lt = refl
source_access p (suc zero) d f lt = refl
source_access p (suc (suc zero)) d f lt = refl
source_access p (suc (suc (suc zero))) d f lt = refl
source_access p (suc (suc (suc (suc zero)))) d f lt = refl
source_access p (suc (suc (suc (suc (suc zero))))) d f lt = refl
source_access p (suc (suc (suc (suc (suc (suc zero)))))) d f lt = refl
source_access p (suc (suc (suc (suc (suc (suc (suc zero))))))) d f lt = refl
source_access p (suc (suc (suc (suc (suc (suc (suc (suc zero)))))))) d f lt = refl
source_access p (suc (suc (suc (suc (suc (suc (suc (suc (suc zero))))))))) d f lt = refl
source_access p (suc (suc (suc (suc (suc (suc (suc (suc (suc (suc zero)))))))))) d f lt = refl
source_access p (suc (suc (suc (suc (suc (suc (suc (suc (suc (suc (suc zero))))))))))) d f lt = refl
source_access p (suc (suc (suc (suc (suc (suc (suc (suc (suc (suc (suc (suc zero)))))))))))) d f lt = refl
source_access p (suc (suc (suc (suc (suc (suc (suc (suc (suc (suc (suc (suc (suc zero))))))))))))) d f lt = refl
source_access p (suc (suc (suc (suc (suc (suc (suc (suc (suc (suc (suc (suc (suc (suc zero)))))))))))))) d f lt = refl
source_access p (suc (suc (suc (suc (suc (suc (suc (suc (suc (suc (suc (suc (suc (suc (suc zero))))))))))))))) d f lt = refl
source_access p (suc (suc (suc (suc (suc (suc (suc (suc (suc (suc (suc (suc (suc (suc (suc (suc zero)))))))))))))))) d f lt = refl
source_access p (suc (suc (suc (suc (suc (suc (suc (suc (suc (suc (suc (suc (suc (suc (suc (suc (suc zero))))))))))))))))) d f lt = refl
source_access p (suc (suc (suc (suc (suc (suc (suc (suc (suc (suc (suc (suc (suc (suc (suc (suc (suc (suc zero)))))))))))))))))) d f lt = refl
source_access p (suc (suc (suc (suc (suc (suc (suc (suc (suc (suc (suc (suc (suc (suc (suc (suc (suc (suc (suc zero))))))))))))))))))) d f lt = refl
source_access p (suc (suc (suc (suc (suc (suc (suc (suc (suc (suc (suc (suc (suc (suc (suc (suc (suc (suc (suc (suc zero)))))))))))))))))))) d f lt = refl
source_access p (suc (suc (suc (suc (suc (suc (suc (suc (suc (suc (suc (suc (suc (suc (suc (suc (suc (suc (suc (suc (suc zero))))))))))))))))))))) d f lt = refl
source_access p (suc (suc (suc (suc (suc (suc (suc (suc (suc (suc (suc (suc (suc (suc (suc (suc (suc (suc (suc (suc (suc (suc zero)))))))))))))))))))))) d f lt = refl
source_access p (suc (suc (suc (suc (suc (suc (suc (suc (suc (suc (suc (suc (suc (suc (suc (suc (suc (suc (suc (suc (suc (suc (suc zero))))))))))))))))))))))) d f lt = refl
source_access p (suc (suc (suc (suc (suc (suc (suc (suc (suc (suc (suc (suc (suc (suc (suc (suc (suc (suc (suc (suc (suc (suc (suc (suc zero)))))))))))))))))))))))) d f lt = refl
source_access p (suc (suc (suc (suc (suc (suc (suc (suc (suc (suc (suc (suc (suc (suc (suc (suc (suc (suc (suc (suc (suc (suc (suc (suc (suc zero))))))))))))))))))))))))) d f lt = refl
source_access p (suc (suc (suc (suc (suc (suc (suc (suc (suc (suc (suc (suc (suc (suc (suc (suc (suc (suc (suc (suc (suc (suc (suc (suc (suc (suc zero)))))))))))))))))))))))))) d f lt = refl
source_access p (suc (suc (suc (suc (suc (suc (suc (suc (suc (suc (suc (suc (suc (suc (suc (suc (suc (suc (suc (suc (suc (suc (suc (suc (suc (suc (suc i))))))))))))))))))))))))))) d f lt = absurd (omega arith)

pub no_source : (p : Policy) (i : ℕ) (f : Name) → 27 ≤ i → Denied ≡ access p i f
no_source p i f past = let none : get_or (accesses p) i (λ g. Denied) ≡ (λ g. Denied) = get_or_past (accesses p) i (λ g. Denied) past in rw none refl
