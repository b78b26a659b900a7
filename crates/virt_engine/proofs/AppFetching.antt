-- What reading an application's file comes to, from what judging it answers.
use Rattle.std.proofs.Common.{◌≡◌, refl, sym, subst, ℕ, ◌<◌, List, length, true, inl, inr, Ok, Err, arith}
use Rattle.std.specs.Prelude.{Option, Some, Result}
use Rattle.outside.specs.Files.{FilesState}
use Rattle.component_judge.specs.declared.inputs.Fetched.{Fetched}
use Rattle.component_judge.specs.declared.limits.Purpose.TheVariants.{Virt}
use Rattle.component_judge.specs.declared.refusal.Refusal.{Refusal}
use Rattle.component_judge.specs.declared.refusal.Refusal.TheVariants as refusals
use Rattle.component_judge.specs.declared.unready.Unready.{Unready}
use Rattle.component_judge.specs.declared.unready.Unready.TheVariants.{FileFault as Faulted, Refused}
use Rattle.component_judge.specs.Limits.{bytes_limit, bytes_name}
use Rattle.component_judge.specs.Applications.{IsApplicationRefusal}
use Rattle.component_judge.specs.Fetching.{Cause, IsTooLong}
use Rattle.component_judge.specs.Inputs.{FetchesWrapped}
use Rattle.virt_engine.specs.declared.status.Status.{Status}
use Rattle.virt_engine.specs.declared.status.Status.TheVariants.{OverLimit}
use Rattle.virt_engine.specs.Fetching.{unready_as}
use Rattle.virt_engine.specs.RunDue.{IsVerdictBy}
use Rattle.virt_engine.specs.Apps.{Refuses, AppCause, FetchesApp}
use Rattle.virt_engine.proofs.Fetching.{no_fault}

module _ (name : List ℕ) (s t : FilesState) where
  -- bytes that are refused so call for it
  calls_for : (bytes : List ℕ) (status : Status) → s.held.file name ≡ Some bytes → Refuses bytes status → IsVerdictBy (IsApplicationRefusal Virt) (s.held.file name) name status
  calls_for bytes status there h = subst (λ (file : Option (List ℕ)). IsVerdictBy (IsApplicationRefusal Virt) file name status) (sym there) h

  too_long : (refusal : Refusal) → IsTooLong name (bytes_name Virt) (bytes_limit Virt) s refusal → AppCause name s t (unready_as (Refused refusal))
  too_long refusal long =
      let cause : AppCause name s t (OverLimit (bytes_name Virt) long.value) = (
        inl (refl, long.over),
        λ told.
            let found = long.there told in
            let over : bytes_limit Virt < length found.0 = omega (arith, found.2, long.over) in
            calls_for found.0 (OverLimit (bytes_name Virt) long.value) found.1 (refusals.OverLimit (bytes_name Virt) long.value, λ e. cc, inl (refl, over, sym found.2), refl),
      ) in
      subst (λ (r : Refusal). AppCause name s t (unready_as (Refused r))) (sym long.named) cause

  refused : (bytes : List ℕ) (refusal : Refusal) → (s.told ≡ true → s.held.file name ≡ Some bytes) → IsApplicationRefusal Virt bytes refusal → AppCause name s t (unready_as (Refused refusal))
  refused bytes (refusals.Refused fault) there h = record { bytes = bytes; refused = (refusals.Refused fault, λ e. cc, h, refl); there = there }
  refused bytes (refusals.OverLimit what value) there h =
      let so : Refuses bytes (OverLimit what value) = (refusals.OverLimit what value, λ e. cc, h, refl) in
      (inr (bytes, so), λ told. calls_for bytes (OverLimit what value) (there told) so)
  refused bytes (refusals.BadScript path) there h = absurd h
  refused bytes refusals.NoMemory there h = tt

  cause_of : (e : Unready) → Cause name (bytes_name Virt) (bytes_limit Virt) (IsApplicationRefusal Virt) s t e → AppCause name s t (unready_as e)
  cause_of (Faulted kept) h = (h.asked, h.counted, h.absent)
  cause_of (Refused refusal) (inl none) = subst (λ (r : Refusal). AppCause name s t (unready_as (Refused r))) (sym none) tt
  cause_of (Refused refusal) (inr (inl long)) = too_long refusal long
  cause_of (Refused refusal) (inr (inr h)) = refused h.bytes refusal h.there h.refused

  pub not_fetched : (e : Unready) (r : Result Fetched Status) → r ≡ Err (unready_as e) → FetchesWrapped name s t (Err e) → FetchesApp name s t r
  not_fetched e r is f = subst (λ (x : Result Fetched Status). FetchesApp name s t x) (sym is) (record {
    goes = f.goes;
    stays = f.stays;
    app = tt;
    cause = cause_of e f.cause;
    quiet = λ told steady some. let q = f.quiet told steady some in (q.0, no_fault e q.1);
  })

  pub fetched : (app : Fetched) → FetchesWrapped name s t (Ok app) → FetchesApp name s t (Ok app)
  fetched app f = record {
    goes = f.goes;
    stays = f.stays;
    app = f.ready;
    cause = tt;
    quiet = λ told steady some. ((f.quiet told steady some).0, tt);
  }
