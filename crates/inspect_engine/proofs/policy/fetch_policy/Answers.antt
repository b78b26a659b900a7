use Rattle.std.proofs.Common.{rules, subst, List, ℕ}
use Rattle.inspect_engine.specs.Policies.{ReadsPolicy}
use Rattle.inspect_engine.proofs.PolicyReading.{no_policy, policy_read}
use Rattle.inspect_engine.proofs.policy.fetch_policy.Goals as goal

pub returns-in_err-text : goal.returns-in_err-text
returns-in_err-text g c = no_policy _ _ _ c.in_err-text.field-0.0 c.from_residual.result (search (rules, c.from_residual.ensures)) c.in_err-text.ensures

pub returns : goal.returns
returns g c = policy_read _ _ _ _ c.in_ok-text.ensures c.policy_in.result (subst (λ (z : List ℕ). ReadsPolicy z c.policy_in.result) c.as_slice.ensures.value c.policy_in.ensures)
