-- What reading the policy comes to.
use Rattle.std.proofs.Common.{◌≡◌, refl, sym, subst, ℕ, List, codes, inl, inr, Ok, Err, arith}
use Rattle.std.specs.Prelude.{Option, Some, None, Result, Vec}
use Rattle.std.specs.declared.alloc.Global.{Global}
use Rattle.outside.specs.Files.{FilesState, Goes}
use Rattle.policy_data.specs.declared.policy.Policy.{Policy}
use Rattle.policy_data.specs.declared.fault.ReadPolicyFault.{ReadPolicyFault}
use Rattle.policy_data.specs.declared.fault.ReadPolicyFault.TheVariants.{NotToml, BadKey, BadValue, BadName, OverLimit, NoMemory}
use Rattle.policy_toml.specs.Policy.{GivesPolicy, HasFault}
use Rattle.component_judge.specs.declared.refusal.Refusal.TheVariants as refusals
use Rattle.component_judge.specs.declared.unready.Unready.{Unready}
use Rattle.component_judge.specs.declared.unready.Unready.TheVariants.{FileFault as Faulted, Refused}
use Rattle.component_judge.specs.Fetching.{IsFileFault as IsFault, Fetches}
use Rattle.inspect_engine.specs.declared.status.Status.{Status}
use Rattle.inspect_engine.specs.Policies.{policy_limit, unready_as, refused_for, IsFileFault, HasFaultyPolicy, PolicyCause, ReadsPolicy, FetchesPolicy, FetchesAsked}

-- only a file fault is one
pub no_fault : (e : Unready) → ¬ (IsFault e) → ¬ (IsFileFault (unready_as e))
no_fault (Faulted name) h = h
no_fault (Refused (refusals.Refused fault)) h = λ (b : ⊥). b
no_fault (Refused (refusals.OverLimit what value)) h = λ (b : ⊥). b
no_fault (Refused (refusals.BadScript path)) h = λ (b : ⊥). b
no_fault (Refused refusals.NoMemory) h = λ (b : ⊥). b

no_file_fault : (fault : ReadPolicyFault) → ¬ (IsFileFault (refused_for fault))
no_file_fault NotToml = λ (b : ⊥). b
no_file_fault (BadKey path) = λ (b : ⊥). b
no_file_fault (BadValue path) = λ (b : ⊥). b
no_file_fault (BadName path) = λ (b : ⊥). b
no_file_fault (OverLimit path value) = λ (b : ⊥). b
no_file_fault NoMemory = λ (b : ⊥). b

-- ---- a text

faulty : (text : List ℕ) (fault : ReadPolicyFault) → HasFault text fault → ReadsPolicy text (Err (refused_for fault))
faulty text fault h = inr (fault, refl, h)

reads_refused : (text : List ℕ) (fault : ReadPolicyFault) → GivesPolicy text (Err fault) → ReadsPolicy text (Err (refused_for fault))
reads_refused text NotToml h = faulty text NotToml h
reads_refused text (BadKey path) h = faulty text (BadKey path) h
reads_refused text (BadValue path) h = faulty text (BadValue path) h
reads_refused text (BadName path) h = faulty text (BadName path) h
reads_refused text (OverLimit path value) h = faulty text (OverLimit path value) h
reads_refused text NoMemory h = inl refl

pub reads_fault : (text : List ℕ) (fault : ReadPolicyFault) (status : Status) → GivesPolicy text (Err fault) → status ≡ refused_for fault → ReadsPolicy text (Err status)
reads_fault text fault status h e = subst (λ (v : Status). ReadsPolicy text (Err v)) (sym e) (reads_refused text fault h)

-- ---- a file

module _ (name : List ℕ) (s t : FilesState) where
  pub no_policy : (e : Unready) (r : Result Policy Status) → r ≡ Err (unready_as e) → Fetches name (codes "policy-bytes") policy_limit s t (Err e) → FetchesPolicy name s t r
  no_policy e r is f =
      subst (λ (x : Result Policy Status). FetchesPolicy name s t x) (sym is) (record {
        goes = f.goes;
        stays = f.stays;
        policy = tt;
        cause = inl (e, refl, f.cause);
        quiet = λ told steady some. let q = f.quiet told steady some in (q.0, no_fault e q.1);
      })

  module _ (v : Vec ℕ Global) (f : Fetches name (codes "policy-bytes") policy_limit s t (Ok v)) where
    faulty_policy : (fault : ReadPolicyFault) → HasFault v.items fault → HasFaultyPolicy name s fault
    faulty_policy fault h = record { text = v.items; short = f.short; faulty = h; there = f.bytes }

    why : (status : Status) → ReadsPolicy v.items (Err status) → PolicyCause name s t status × ¬ (IsFileFault status)
    why status (inl none) = (inr (inr none), subst (λ (x : Status). ¬ (IsFileFault x)) (sym none) (λ (b : ⊥). b))
    why status (inr h) = (inr (inl (h.0, h.1, faulty_policy h.0 h.2)), subst (λ (x : Status). ¬ (IsFileFault x)) (sym h.1) (no_file_fault h.0))

    pub policy_read : (r : Result Policy Status) → ReadsPolicy v.items r → FetchesPolicy name s t r
    policy_read (Ok policy) h = record {
      goes = f.goes;
      stays = f.stays;
      policy = record { text = v.items; short = f.short; well_formed = h; there = f.bytes };
      cause = tt;
      quiet = λ told steady some. ((f.quiet told steady some).0, tt);
    }
    policy_read (Err status) h =
        let w = why status h in
        record { goes = f.goes; stays = f.stays; policy = tt; cause = w.0; quiet = λ told steady some. ((f.quiet told steady some).0, w.1) }

-- ---- where one is asked for

pub goes_nowhere : (s : FilesState) → Goes s s
goes_nowhere s = record { later = omega arith; told = refl; steady = λ h. h }

asked_none : (s : FilesState) → FetchesAsked None s s (Ok None)
asked_none s = record { goes = goes_nowhere s; stays = refl; policy = refl; cause = tt; quiet = λ told steady some. (refl, tt) }

pub none_asked : (asked : Option (List ℕ)) (s : FilesState) → asked ≡ None → FetchesAsked asked s s (Ok None)
none_asked asked s is = subst (λ (o : Option (List ℕ)). FetchesAsked o s s (Ok None)) (sym is) (asked_none s)

module _ (name : List ℕ) (s t : FilesState) where
  pub asked_policy : (policy : Policy) → FetchesPolicy name s t (Ok policy) → FetchesAsked (Some name) s t (Ok (Some policy))
  asked_policy policy f = record { goes = f.goes; stays = f.stays; policy = (policy, refl, f.policy); cause = tt; quiet = f.quiet }

  pub asked_refused : (status : Status) → FetchesPolicy name s t (Err status) → FetchesAsked (Some name) s t (Err status)
  asked_refused status f = record { goes = f.goes; stays = f.stays; policy = tt; cause = f.cause; quiet = f.quiet }
