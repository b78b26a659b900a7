-- What follows of a call of `run`: the status is one that the contents call for.
use Rattle.std.proofs.Common.{◌≡◌, ◌∙◌, refl, sym, ap, subst, ℕ, ◌<◌, List, length, true, inl, inr, arith}
use Rattle.std.specs.Prelude.{◌⊎◌, Option, Some, None, codes}
use Rattle.outside.specs.Fault.{Rose}
use Rattle.outside.specs.Files.{FilesState}
use Rattle.outside.specs.Sink.{SinkState}
use Rattle.policy_data.specs.declared.policy.Policy.{Policy}
use Rattle.comp_types.specs.Items.{Entries, Signature}
use Rattle.comp_grammar.specs.Trees.{plain}
use Rattle.comp_types.specs.Added.{type_of}
use Rattle.comp_signature.specs.Signatures.{component_signature}
use Rattle.component_judge.specs.declared.refusal.Refusal.{Refusal}
use Rattle.component_judge.specs.declared.refusal.Refusal.TheVariants as refusals
use Rattle.component_judge.specs.declared.component.Judged.{Judged}
use Rattle.component_judge.specs.Components.{Faulting, IsUnfit, IsRefusal, IsRefusalBy, IsRunnable}
use Rattle.component_judge.specs.Applications.{IsUnlisted, IsApplicationRefusal}
use Rattle.component_judge.specs.declared.limits.Purpose.TheVariants.{Run}
use Rattle.component_judge.specs.Limits.{bytes_name, bytes_limit, script_limit}
use Rattle.component_judge.specs.declared.unready.Unready.{Unready}
use Rattle.component_judge.specs.declared.unready.Unready.TheVariants.{FileFault as Faulted, Refused}
use Rattle.component_judge.specs.declared.inputs.Inputs.{Inputs}
use Rattle.component_judge.specs.Fetching.{Cause}
use Rattle.component_judge.specs.Inputs.{IsListedBy, RefusesScript, HasComponent, HasApplication, AreReady, ScriptCause, InputsCause, ListedCause}
use Rattle.virt_engine.specs.declared.runner.Shown.{Shown}
use Rattle.virt_engine.specs.declared.status.Status.{Status}
use Rattle.virt_engine.specs.declared.status.Status.TheVariants.{Done, PolicyRefused, AppRefused, FileFault, SinkFault, OverLimit, NoMemory, ScriptRefused, Trapped, ScriptEnded, StepsSpent, BadAnswer, TooDeep, Usage, PlugRefused}
use Rattle.virt_engine.specs.Command.{RunCommand}
use Rattle.virt_engine.specs.Fetching.{unready_as}
use Rattle.virt_engine.specs.Policies.{IsPolicyVerdict, PolicyCause}
use Rattle.virt_engine.specs.PolicyTrees.{IsTreesVerdict, TreesCause}
use Rattle.virt_engine.specs.Report.{Puts}
use Rattle.virt_engine.specs.RunDue.{HoldsComponent, Refusing, IsVerdictBy, AreInputsRefused, IsRefusedBy, IsRunRefused, AreAccepted, IsAcceptedUnder}
use Rattle.virt_engine.specs.Runs.{ended_as, BeginsUnder, BeginsBy, ShowsWhat, EndsBy, CauseBy, RunCause, RunsBy, RunCompletes, RunAccepts}
use Rattle.virt_engine.proofs.Planning.{policy_absent, policy_file}
use Rattle.virt_engine.proofs.Showing.{script_held, application_held}
use Rattle.virt_engine.proofs.RunDue.{runs_stand}

-- ---- a cause is due, where files are steady or no fault was counted

-- bytes that are refused, unless memory ran out
verdict_of : (Refuses : Refusing) (file : Option (List ℕ)) (name bytes : List ℕ) (refusal : Refusal) → file ≡ Some bytes → Refuses bytes refusal
    → IsVerdictBy Refuses file name (unready_as (Refused refusal)) ⊎ (unready_as (Refused refusal) ≡ NoMemory)
verdict_of Refuses file name bytes refusals.NoMemory there h = inr refl
verdict_of Refuses file name bytes (refusals.Refused fault) there h =
    inl (subst (λ (o : Option (List ℕ)). IsVerdictBy Refuses o name (AppRefused fault)) (sym there) (refusals.Refused fault, λ e. cc, h, refl))
verdict_of Refuses file name bytes (refusals.OverLimit what value) there h =
    inl (subst (λ (o : Option (List ℕ)). IsVerdictBy Refuses o name (OverLimit what value)) (sym there) (refusals.OverLimit what value, λ e. cc, h, refl))
verdict_of Refuses file name bytes (refusals.BadScript path) there h =
    inl (subst (λ (o : Option (List ℕ)). IsVerdictBy Refuses o name (ScriptRefused path)) (sym there) (refusals.BadScript path, λ e. cc, h, refl))

module _ (s t : FilesState) (told : s.told ≡ true) (calm : (s.steady ≡ true) ⊎ ¬ (Rose s.faults t.faults)) where
  -- a fault that was counted is one of steady files
  steadily : {A : Type 0} → Rose s.faults t.faults → (s.steady ≡ true → A) → A
  steadily rose so = elim calm [ inl steady ↦ so steady | inr quiet ↦ absurd (quiet rose) ]

  pub file_due : (name what : List ℕ) (limit : ℕ) (Refuses : Refusing) (e : Unready)
      → ((bytes : List ℕ) (value : ℕ) → limit < value → length bytes ≡ value → Refuses bytes (refusals.OverLimit what value))
      → Cause name what limit Refuses s t e → IsVerdictBy Refuses (s.held.file name) name (unready_as e) ⊎ (unready_as e ≡ NoMemory)
  file_due name what limit Refuses (Faulted kept) long h =
      steadily h.counted (λ steady. inl (subst (λ (o : Option (List ℕ)). IsVerdictBy Refuses o name (FileFault kept)) (sym (h.absent told steady)) (ap FileFault h.asked)))
  file_due name what limit Refuses (Refused refusal) long (inl none) = inr (ap (λ r. unready_as (Refused r)) none)
  file_due name what limit Refuses (Refused refusal) long (inr (inl h)) =
      let found = h.there told in
      verdict_of Refuses (s.held.file name) name found.0 refusal found.1
      (subst (λ (r : Refusal). Refuses found.0 r) (sym h.named) (long found.0 h.value h.over found.2))
  file_due name what limit Refuses (Refused refusal) long (inr (inr h)) = verdict_of Refuses (s.held.file name) name h.bytes refusal (h.there told) h.refused

  long_component : (AtFault : Faulting) (bytes : List ℕ) (value : ℕ) → bytes_limit Run < value → length bytes ≡ value → IsRefusalBy Run AtFault bytes (refusals.OverLimit (bytes_name Run) value)
  long_component AtFault bytes value over is = inl (refl, omega (arith, over, is), sym is)

  long_script : (exports : Entries) (bytes : List ℕ) (value : ℕ) → script_limit < value → length bytes ≡ value → RefusesScript exports bytes (refusals.OverLimit (codes "script-bytes") value)
  long_script exports bytes value over is = (refl, omega (arith, over, is), sym is)

  script_due : (judged : Judged) (name : List ℕ) (e : Unready) → component_signature judged.ty ≡ type_of (plain judged.component) → ScriptCause judged.ty.exports name s t e
      → IsVerdictBy (RefusesScript (type_of (plain judged.component)).exports) (s.held.file name) name (unready_as e) ⊎ (unready_as e ≡ NoMemory)
  script_due judged name e same h =
      let exports : judged.ty.exports ≡ (type_of (plain judged.component)).exports = ap (λ (sig : Signature). sig.exports) same in
      subst (λ (es : Entries). IsVerdictBy (RefusesScript es) (s.held.file name) name (unready_as e) ⊎ (unready_as e ≡ NoMemory)) exports
      (file_due name (codes "script-bytes") script_limit (RefusesScript judged.ty.exports) e (long_script judged.ty.exports) h)

  component_held : (name : List ℕ) (judged : Judged) → HasComponent name s judged → HoldsComponent IsRunnable s.held name (plain judged.component)
  component_held name judged h = record { bytes = h.bytes; there = h.there told; fits = h.judges.0 }

  listed_held : (name : List ℕ) (judged : Judged) (listed : _) → HasApplication name s judged listed → HoldsComponent IsListedBy s.held name (plain judged.component)
  listed_held name judged listed h = record { bytes = h.bytes; there = h.there told; fits = (listed.uses, h.judges.0) }

  alone_due : (c : RunCommand) (e : Unready) → InputsCause c.component c.script s t e → AreInputsRefused IsRefusal IsRunnable s.held c (unready_as e) ⊎ (unready_as e ≡ NoMemory)
  alone_due c e (inl h) = elim (file_due c.component (bytes_name Run) (bytes_limit Run) IsRefusal e (long_component IsUnfit) h) [ inl v ↦ inl (inl v) | inr none ↦ inr none ]
  alone_due c e (inr h) = elim (script_due h.0 c.script e h.1.judges.1 h.2) [
    | inl v ↦ inl (inr (plain h.0.component, component_held c.component h.0 h.1, v))
    | inr none ↦ inr none
  ]

  listed_due : (c : RunCommand) (e : Unready) → ListedCause c.component c.script s t e → AreInputsRefused (IsApplicationRefusal Run) IsListedBy s.held c (unready_as e) ⊎ (unready_as e ≡ NoMemory)
  listed_due c e (inl h) = elim (file_due c.component (bytes_name Run) (bytes_limit Run) (IsApplicationRefusal Run) e (long_component IsUnlisted) h) [ inl v ↦ inl (inl v) | inr none ↦ inr none ]
  listed_due c e (inr h) = elim (script_due h.0 c.script e h.2.judges.1 h.3) [
    | inl v ↦ inl (inr (plain h.0.component, listed_held c.component h.0 h.1 h.2, v))
    | inr none ↦ inr none
  ]

  pub policy_due : (name : List ℕ) (status : Status) → PolicyCause name s t status → IsPolicyVerdict s.held name status ⊎ (status ≡ NoMemory)
  policy_due name (FileFault kept) h =
      steadily h.1 (λ steady. inl (subst (λ (x : List ℕ). IsPolicyVerdict s.held name (FileFault x)) (sym h.0) (policy_absent s.held name (h.2 told steady))))
  policy_due name NoMemory h = inr refl
  policy_due name (OverLimit what value) h = inl (h.1 told)
  policy_due name (PolicyRefused fault) h = inl (h.1 told)
  policy_due name Done h = absurd h
  policy_due name (AppRefused fault) h = absurd h
  policy_due name SinkFault h = absurd h
  policy_due name (ScriptRefused path) h = absurd h
  policy_due name (PlugRefused fault) h = absurd h
  policy_due name Trapped h = absurd h
  policy_due name ScriptEnded h = absurd h
  policy_due name StepsSpent h = absurd h
  policy_due name BadAnswer h = absurd h
  policy_due name TooDeep h = absurd h
  policy_due name Usage h = absurd h

  pub trees_are_due : (policy : Policy) (status : Status) → TreesCause policy s t status → IsTreesVerdict s.held policy status ⊎ (status ≡ NoMemory)
  trees_are_due policy (FileFault kept) h = steadily h.0 (λ steady. inl (h.2 told steady))
  trees_are_due policy NoMemory h = inr refl
  trees_are_due policy (OverLimit what value) h = inl (h.1 told)
  trees_are_due policy (PolicyRefused fault) h = inl (h told)
  trees_are_due policy Done h = absurd h
  trees_are_due policy (AppRefused fault) h = absurd h
  trees_are_due policy SinkFault h = absurd h
  trees_are_due policy (ScriptRefused path) h = absurd h
  trees_are_due policy (PlugRefused fault) h = absurd h
  trees_are_due policy Trapped h = absurd h
  trees_are_due policy ScriptEnded h = absurd h
  trees_are_due policy StepsSpent h = absurd h
  trees_are_due policy BadAnswer h = absurd h
  trees_are_due policy TooDeep h = absurd h
  trees_are_due policy Usage h = absurd h

  due_as : (c : RunCommand) (policy : Option (List ℕ)) (a b : Status) → a ≡ b → IsRefusedBy s.held c policy b ⊎ (b ≡ NoMemory) → IsRefusedBy s.held c policy a ⊎ (a ≡ NoMemory)
  due_as c policy a b is h = subst (λ (x : Status). IsRefusedBy s.held c policy x ⊎ (x ≡ NoMemory)) (sym is) h

  pub cause_due : (c : RunCommand) (policy : Option (List ℕ)) (status : Status) → CauseBy c policy s t status → IsRefusedBy s.held c policy status ⊎ (status ≡ NoMemory)
  cause_due c None status h = due_as c None status (unready_as h.0) h.2 (alone_due c h.0 h.1)
  cause_due c (Some name) status (inl h) = elim (policy_due name status h) [ inl v ↦ inl (inl v) | inr none ↦ inr none ]
  cause_due c (Some name) status (inr (policy, has, inl h)) =
      due_as c (Some name) status (unready_as h.0) h.2 (elim (listed_due c h.0 h.1) [
        | inl v ↦ inl (inr (policy, policy_file name s policy has told, inl v))
        | inr none ↦ inr none
      ])
  cause_due c (Some name) status (inr (policy, has, inr (inputs, ready, h))) = elim (trees_are_due policy status h) [
    | inl v ↦ inl (inr (
      policy,
      policy_file name s policy has told,
      inr (
        plain inputs.inputs.judged.component,
        application_held c.component c.script s inputs ready told,
        script_held inputs.inputs.judged c.script s inputs.inputs.scripted ready.application.judges.1 ready.scripted told,
        v,
      ),
    ))
    | inr none ↦ inr none
  ]

-- ---- what files begin a run with is what can be run

module _ (s : FilesState) (told : s.told ≡ true) where
  abbrev pub alone_accepted : (c : RunCommand) (inputs : Inputs) → AreReady c.component c.script s inputs → AreAccepted IsRunnable s.held c
  alone_accepted c inputs h = record {
    tree = plain inputs.judged.component;
    component = record { bytes = h.runnable.bytes; there = h.runnable.there told; fits = h.runnable.judges.0 };
    script = script_held inputs.judged c.script s inputs.scripted h.runnable.judges.1 h.scripted told;
  }

  abbrev pub under_accepted : (c : RunCommand) (name : List ℕ) → BeginsUnder c name s → IsAcceptedUnder s.held c name
  under_accepted c name h = record {
    policy = h.policy;
    policy_file = policy_file name s h.policy h.has_policy told;
    inputs = record {
      tree = plain h.inputs.inputs.judged.component;
      component = application_held c.component c.script s h.inputs h.ready told;
      script = script_held h.inputs.inputs.judged c.script s h.inputs.inputs.scripted h.ready.application.judges.1 h.ready.scripted told;
    };
    forest = h.are.0;
    trees = h.are.1 told;
  }

  -- and the status is that of the run's end
  begins_ended : (c : RunCommand) (policy : Option (List ℕ)) (b : BeginsBy c policy s) (shown : Shown) (result : Status) → ShowsWhat c policy s b shown → result ≡ ended_as shown.end → EndsBy s.held c policy result
  begins_ended c None b shown result runs is = record { accepted = alone_accepted c b.0 b.1; end = is ∙ ap ended_as runs.told.end }
  begins_ended c (Some name) b shown result runs is = record { accepted = under_accepted c name b; trees = b.trees; ordered = b.are.2; end = is ∙ ap ended_as runs.told.end }

-- ---- the whole call

put_of : (due : Status) (text : List ℕ) (k l : SinkState) (result : Status) → Puts due text k l result → ¬ (Rose k.faults l.faults) → result ≡ due
put_of due text k l result p quiet = elim p.put [ inl w ↦ w.status | inr b ↦ absurd (quiet b.cause) ]

refused_so : (c : RunCommand) (s t : FilesState) (result why : Status) → s.told ≡ true → ¬ (Rose s.faults t.faults) → RunCause c s t why → result ≡ why → IsRunRefused s.held c result ⊎ (result ≡ NoMemory)
refused_so c s t result why told files (inl none) is = inr (is ∙ none)
refused_so c s t result why told files (inr h) is = elim (cause_due s t told (inr files) c c.policy why h) [
  | inl due ↦ inl (subst (λ (x : Status). IsRunRefused s.held c x) (sym is) due)
  | inr none ↦ inr (is ∙ none)
]

pub run_completes : (c : RunCommand) (s t : FilesState) (k l : SinkState) (result : Status) → RunsBy c s t k l result → RunCompletes c s t k l result
run_completes c s t k l result r told files sink = elim r.end [
  | inl n ↦ elim n.report [
    | inl p ↦ elim (refused_so c s t result n.why told files n.cause (put_of n.why _ k l result p sink)) [ inl due ↦ inl due | inr none ↦ inr (inr none) ]
    | inr none ↦ inr (inr none.0)
  ]
  | inr on ↦ inr (inl (begins_ended s told c c.policy on.begins on.shown result on.runs (put_of _ _ k l result on.shows.puts sink)))
]

pub run_accepts : (c : RunCommand) (s t : FilesState) (k l : SinkState) (result : Status) → RunsBy c s t k l result → RunAccepts c s t k l result
run_accepts c s t k l result r told can files sink = elim (run_completes c s t k l result r told files sink) [
  | inl refused ↦ absurd (runs_stand s.held c result can refused)
  | inr (inl ended) ↦ inl ended
  | inr (inr none) ↦ inr none
]
