-- What a call comes to, from what its parts did.
use Rattle.std.proofs.Common.{◌≡◌, ◌≢◌, ◌∙◌, refl, sym, subst, ℕ, List, [], true, inl, inr, Ok, Err, arith, string_bytes}
use Rattle.std.specs.Prelude.{Option, Some, None, IsSome, Result, String}
use Rattle.std.specs.declared.alloc.Global.{Global}
use Rattle.outside.specs.Files.{FilesState, Goes}
use Rattle.outside.specs.Sink.{SinkState}
use Rattle.policy_data.specs.declared.policy.Policy.{Policy}
use Rattle.component_judge.specs.declared.inputs.Fetched.{Fetched}
use Rattle.component_judge.specs.declared.unready.Unready.{Unready}
use Rattle.component_judge.specs.declared.limits.Purpose.TheVariants.{Virt}
use Rattle.component_judge.specs.Limits.{bytes_limit, bytes_name}
use Rattle.component_judge.specs.Applications.{IsApplicationRefusal}
use Rattle.component_judge.specs.Inputs.{HasWrapped, FetchesWrapped}
use Rattle.component_judge.proofs.Both.{earlier, file_stays}
use Rattle.virt_words.specs.declared.command.InspectWords.{InspectWords}
use Rattle.virt_words.specs.declared.command.WordsFault.{WordsFault}
use Rattle.virt_words.specs.declared.command.WordsFault.TheVariants.{Usage as NoCommand}
use Rattle.virt_words.specs.Words.{Reads, inspect_words}
use Rattle.inspect_engine.specs.declared.status.Status.{Status}
use Rattle.inspect_engine.specs.declared.status.Status.TheVariants.{Done, SinkFault, NoMemory, Usage}
use Rattle.inspect_engine.specs.Policies.{unready_as, FetchesAsked}
use Rattle.inspect_engine.specs.Report.{report}
use Rattle.inspect_engine.specs.Status.{status_text}
use Rattle.inspect_engine.specs.Inspected.{ComponentCause, AreThere, Inspects, Puts, Reports, IsDueFor, AllThere, Inspected, InspectedFor}
use Rattle.inspect_engine.proofs.PolicyReading.{goes_nowhere}

goes_on : (s t u : FilesState) → Goes s t → Goes t u → Goes s u
goes_on s t u a b = record {
  later = omega (arith, a.later, b.later);
  told = b.told ∙ a.told;
  steady = λ h. b.steady (a.steady h);
}

-- ---- reading

module _ (w : InspectWords) (s t : FilesState) where
  pub no_asked : (status : Status) → FetchesAsked w.policy s t (Err status) → Inspects w s t (Err status)
  no_asked status f = record {
    goes = f.goes;
    stays = f.stays;
    made = tt;
    cause = inl f.cause;
    quiet = λ told steady there. (f.quiet told steady there.policy).0;
  }

  pub left_asked : (status : Status) (r : Result (String Global) Status) → r ≡ Err status → FetchesAsked w.policy s t (Err status) → Inspects w s t r
  left_asked status r is f = subst (λ (x : Result (String Global) Status). Inspects w s t x) (sym is) (no_asked status f)

  module _ (policy : Option Policy) (p : FetchesAsked w.policy s t (Ok policy)) (u : FilesState) where
    -- the component's file is there
    still_there : AreThere w s → IsSome (t.held.file w.component)
    still_there there = subst (λ (o : Option (List ℕ)). IsSome o) (sym (file_stays w.component s t p.stays)) there.component

    wrapped_before : (fetched : Fetched) → HasWrapped w.component t fetched → HasWrapped w.component s fetched
    wrapped_before fetched h = record {
      judges = h.judges;
      short = h.short;
      there = λ told. sym (file_stays w.component s t p.stays) ∙ h.there (p.goes.told ∙ told);
    }

    pub no_component : (e : Unready) (r : Result (String Global) Status) → r ≡ Err (unready_as e) → FetchesWrapped w.component t u (Err e) → Inspects w s u r
    no_component e r is f =
        let cause : ComponentCause w.component s u (unready_as e) =
        record { unready = e; is = refl; cause = earlier w.component (bytes_name Virt) (bytes_limit Virt) (IsApplicationRefusal Virt) s t u e p.goes p.stays f.cause } in
        let refused : Inspects w s u (Err (unready_as e)) = record {
          goes = goes_on s t u p.goes f.goes;
          stays = f.stays ∙ p.stays;
          made = tt;
          cause = inr (inl (policy, p.policy, cause));
          quiet = λ told steady there.
              (f.quiet (p.goes.told ∙ told) (p.goes.steady steady) (still_there there)).0 ∙ (p.quiet told steady there.policy).0;
        } in
        subst (λ (x : Result (String Global) Status). Inspects w s u x) (sym is) refused

    module _ (fetched : Fetched) (f : FetchesWrapped w.component t u (Ok fetched)) where
      quiet_both : s.told ≡ true → s.steady ≡ true → AreThere w s → u.faults ≡ s.faults
      quiet_both told steady there =
          (f.quiet (p.goes.told ∙ told) (p.goes.steady steady) (still_there there)).0 ∙ (p.quiet told steady there.policy).0

      pub reported : (text : String Global) → string_bytes text ≡ report policy fetched.application.listed.uses → Inspects w s u (Ok text)
      reported text is = record {
        goes = goes_on s t u p.goes f.goes;
        stays = f.stays ∙ p.stays;
        made = record { policy = policy; asked = p.policy; fetched = fetched; wrapped = wrapped_before fetched f.ready; is = is };
        cause = tt;
        quiet = quiet_both;
      }

      pub no_room : Inspects w s u (Err NoMemory)
      no_room = record {
        goes = goes_on s t u p.goes f.goes;
        stays = f.stays ∙ p.stays;
        made = tt;
        cause = inr (inr refl);
        quiet = quiet_both;
      }

-- ---- the whole call

not_silent : (due : Status) (text : List ℕ) (k l : SinkState) (result : Status) → due ≢ NoMemory → Puts due text k l result → result ≡ NoMemory → ⊥
not_silent due text k l result loud p e = elim p.put [
  | inl w ↦ loud (sym w.status ∙ e)
  | inr b ↦ fault_is_not (sym b.status ∙ e)
]
  where
    fault_is_not : SinkFault ≡ NoMemory → ⊥
    fault_is_not h = cc

done_is_loud : Done ≢ NoMemory
done_is_loud h = cc

module _ (w : InspectWords) (s t : FilesState) (k l : SinkState) (result : Status) where
  module _ (words : List (List ℕ)) (said : inspect_words words ≡ Some w) where
    due_said : (due : Status) (text : List ℕ) → IsDueFor (Some w) s t due text → IsDueFor (inspect_words words) s t due text
    due_said due text h = subst (λ (o : Option InspectWords). IsDueFor o s t due text) (sym said) h

    there_said : AllThere (inspect_words words) s → AreThere w s
    there_said h = subst (λ (o : Option InspectWords). AllThere o s) said h

    inspected_said : (text : String Global) → Inspects w s t (Ok text) → Puts Done (string_bytes text) k l result → Inspected words s t k l result
    inspected_said text i p = record {
      goes = i.goes;
      stays = i.stays;
      due = Done;
      text = string_bytes text;
      why = inl (due_said Done (string_bytes text) (inl (refl, i.made)));
      put = inl p;
      silent = λ e. absurd (not_silent Done (string_bytes text) k l result done_is_loud p e);
      quiet = λ told steady there. i.quiet told steady (there_said there);
    }

    refused_said : (due : Status) → Inspects w s t (Err due) → Reports due (status_text due) k l result → (result ≡ NoMemory → l ≡ k) → Inspected words s t k l result
    refused_said due i r silent = record {
      goes = i.goes;
      stays = i.stays;
      due = due;
      text = status_text due;
      why = inl (due_said due (status_text due) (inr (i.cause, refl)));
      put = r;
      silent = silent;
      quiet = λ told steady there. i.quiet told steady (there_said there);
    }

  pub inspected : (text : String Global) → Inspects w s t (Ok text) → Puts Done (string_bytes text) k l result → InspectedFor w s t k l result
  inspected text i p = λ words said. inspected_said words said text i p

  pub refused : (due : Status) → Inspects w s t (Err due) → Reports due (status_text due) k l result → (result ≡ NoMemory → l ≡ k) → InspectedFor w s t k l result
  refused due i r silent = λ words said. refused_said words said due i r silent

pub none_said : (words : List (List ℕ)) (fault : WordsFault) → fault ≡ NoCommand → Reads (inspect_words words) (Err fault) → inspect_words words ≡ None
none_said words fault is h = subst (λ (f : WordsFault). Reads (inspect_words words) (Err f)) is h

pub no_command : (words : List (List ℕ)) (s : FilesState) (k l : SinkState) (result : Status) → inspect_words words ≡ None
    → Reports Usage (status_text Usage) k l result → (result ≡ NoMemory → l ≡ k) → Inspected words s s k l result
no_command words s k l result none r silent =
    let due : IsDueFor None s s Usage (status_text Usage) = (refl, refl) in
    record {
      goes = goes_nowhere s;
      stays = refl;
      due = Usage;
      text = status_text Usage;
      why = inl (subst (λ (o : Option InspectWords). IsDueFor o s s Usage (status_text Usage)) (sym none) due);
      put = r;
      silent = silent;
      quiet = λ told steady there. refl;
    }

pub no_memory : (words : List (List ℕ)) (s : FilesState) (k : SinkState) → Inspected words s s k k NoMemory
no_memory words s k = record {
  goes = goes_nowhere s;
  stays = refl;
  due = NoMemory;
  text = [];
  why = inr refl;
  put = inr (refl, refl);
  silent = λ e. refl;
  quiet = λ told steady there. refl;
}
