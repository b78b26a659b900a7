-- Files of the command that were read, or were not.
use Rattle.std.proofs.Common.{◌≡◌, ◌∙◌, refl, sym, ap, subst, ℕ, ◌<◌, List, length, true, inl, inr, Ok, Err, arith}
use Rattle.std.specs.Prelude.{Option, Some, Result, Vec, codes, nat_lt}
use Rattle.std.specs.declared.alloc.Global.{Global}
use Rattle.std.proofs.lemmas.Bool.Decides.{nat_tests}
use Rattle.outside.specs.Files.{FilesState}
use Rattle.policy_data.specs.declared.policy.Policy.{Policy}
use Rattle.policy_data.specs.declared.fault.ReadPolicyFault.{ReadPolicyFault}
use Rattle.policy_data.specs.declared.fault.ReadPolicyFault.TheVariants as faults
use Rattle.component_judge.specs.declared.refusal.Refusal.{Refusal}
use Rattle.component_judge.specs.declared.refusal.Refusal.TheVariants as refusals
use Rattle.component_judge.specs.declared.unready.Unready.{Unready}
use Rattle.component_judge.specs.declared.unready.Unready.TheVariants.{FileFault as Faulted, Refused}
use Rattle.component_judge.specs.Fetching.{IsFileFault as IsFault, IsTooLong, RefusesNone, Cause, Fetches}
use Rattle.virt_engine.specs.declared.status.Status.{Status}
use Rattle.virt_engine.specs.declared.status.Status.TheVariants.{OverLimit}
use Rattle.virt_engine.specs.Fetching.{with_input, unready_as, IsFileFault}
use Rattle.virt_engine.specs.Policies.{policy_limit, policy_due, refused_for, with_policy, IsPolicyVerdict, ReadsPolicy, HasPolicy, PolicyCause, FetchesPolicy}
use Rattle.virt_engine.proofs.PolicyLaws.{text_decides}

-- only a file fault is one
pub no_fault : (e : Unready) → ¬ (IsFault e) → ¬ (IsFileFault (unready_as e))
no_fault (Faulted name) h = h
no_fault (Refused (refusals.Refused fault)) h = λ (b : ⊥). b
no_fault (Refused (refusals.OverLimit what value)) h = λ (b : ⊥). b
no_fault (Refused (refusals.BadScript path)) h = λ (b : ⊥). b
no_fault (Refused refusals.NoMemory) h = λ (b : ⊥). b

-- a file that is too long
pub too_long : (file : Option (List ℕ)) (bytes what name : List ℕ) (limit value : ℕ) (next : List ℕ → Status) → file ≡ Some bytes → length bytes ≡ value → limit < value
    → with_input file what limit name next ≡ OverLimit what value
too_long file bytes what name limit value next there is over =
    let long : nat_lt limit (length bytes) ≡ true = grind (arith, nat_tests, is, over) in
    rw (there, long) (ap (λ n. OverLimit what n) is)

-- ---- the policy's file was not read

module _ (name : List ℕ) (s t : FilesState) where
  policy_long : (refusal : Refusal) → IsTooLong name (codes "policy-bytes") policy_limit s refusal → PolicyCause name s t (unready_as (Refused refusal))
  policy_long refusal long =
      let cause : PolicyCause name s t (OverLimit (codes "policy-bytes") long.value) = (
        inl (refl, long.over),
        λ told next.
            let found = long.there told in
            too_long (s.held.file name) found.0 (codes "policy-bytes") name policy_limit long.value (λ z. with_policy (policy_due z) next) found.1 found.2 long.over,
      ) in
      subst (λ (r : Refusal). PolicyCause name s t (unready_as (Refused r))) (sym long.named) cause

  policy_not_read : (e : Unready) → Cause name (codes "policy-bytes") policy_limit RefusesNone s t e → PolicyCause name s t (unready_as e)
  policy_not_read (Faulted kept) h = (h.asked, h.counted, h.absent)
  policy_not_read (Refused refusal) (inl none) = subst (λ (r : Refusal). PolicyCause name s t (unready_as (Refused r))) (sym none) tt
  policy_not_read (Refused refusal) (inr (inl long)) = policy_long refusal long
  policy_not_read (Refused refusal) (inr (inr h)) = absurd h.refused

  pub no_policy : (e : Unready) (r : Result Policy Status) → r ≡ Err (unready_as e) → Fetches name (codes "policy-bytes") policy_limit s t (Err e) → FetchesPolicy name s t r
  no_policy e r is f =
      subst (λ (x : Result Policy Status). FetchesPolicy name s t x) (sym is) (record {
        goes = f.goes;
        stays = f.stays;
        policy = tt;
        cause = policy_not_read e f.cause;
        quiet = λ told steady some. let q = f.quiet told steady some in (q.0, no_fault e q.1);
      })

  -- ---- the policy's text was read

  module _ (v : Vec ℕ Global) (f : Fetches name (codes "policy-bytes") policy_limit s t (Ok v)) where
    has_policy : (policy : Policy) → ReadsPolicy v.items (Ok policy) → HasPolicy name s policy
    has_policy policy h = record {
      text = v.items;
      short = f.short;
      well_formed = h.0;
      limits = h.2;
      there = f.bytes;
      taken = λ told next. text_decides s.held name v.items (f.bytes told) f.short next ∙ ap (λ due. with_policy due next) h.1;
    }

    -- the fault of its text is due
    verdict : (fault : ReadPolicyFault) → policy_due v.items ≡ Err fault → s.told ≡ true → IsPolicyVerdict s.held name (refused_for fault)
    verdict fault due told = λ next. text_decides s.held name v.items (f.bytes told) f.short next ∙ ap (λ r. with_policy r next) due

    refused : (fault : ReadPolicyFault) → policy_due v.items ≡ Err fault → PolicyCause name s t (refused_for fault) × ¬ (IsFileFault (refused_for fault))
    refused faults.NotToml due = (
      (record { text = v.items; short = f.short; fault = faults.NotToml; due = due; refused = refl; there = f.bytes }, λ told. verdict faults.NotToml due told),
      λ (b : ⊥). b,
    )
    refused (faults.BadKey path) due = (
      (record { text = v.items; short = f.short; fault = faults.BadKey path; due = due; refused = refl; there = f.bytes }, λ told. verdict (faults.BadKey path) due told),
      λ (b : ⊥). b,
    )
    refused (faults.BadValue path) due = (
      (record { text = v.items; short = f.short; fault = faults.BadValue path; due = due; refused = refl; there = f.bytes }, λ told. verdict (faults.BadValue path) due told),
      λ (b : ⊥). b,
    )
    refused (faults.BadName path) due = (
      (record { text = v.items; short = f.short; fault = faults.BadName path; due = due; refused = refl; there = f.bytes }, λ told. verdict (faults.BadName path) due told),
      λ (b : ⊥). b,
    )
    refused (faults.OverLimit path value) due = ((inr (v.items, due), λ told. verdict (faults.OverLimit path value) due told), λ (b : ⊥). b)
    refused faults.NoMemory due = (tt, λ (b : ⊥). b)

    why : (status : Status) → ReadsPolicy v.items (Err status) → PolicyCause name s t status × ¬ (IsFileFault status)
    why status (inl none) = subst (λ (x : Status). PolicyCause name s t x × ¬ (IsFileFault x)) (sym none) (tt, λ (b : ⊥). b)
    why status (inr h) = subst (λ (x : Status). PolicyCause name s t x × ¬ (IsFileFault x)) h.2 (refused h.0 h.1)

    pub policy_read : (r : Result Policy Status) → ReadsPolicy v.items r → FetchesPolicy name s t r
    policy_read (Ok policy) h = record {
      goes = f.goes;
      stays = f.stays;
      policy = has_policy policy h;
      cause = tt;
      quiet = λ told steady some. ((f.quiet told steady some).0, tt);
    }
    policy_read (Err status) h =
        let w = why status h in
        record { goes = f.goes; stays = f.stays; policy = tt; cause = w.0; quiet = λ told steady some. ((f.quiet told steady some).0, w.1) }
