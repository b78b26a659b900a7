-- What can be inspected is inspected.
use Rattle.std.proofs.Common.{◌≡◌, ◌≢◌, ◌∙◌, refl, sym, ap, subst, codes, ℕ, ◌≤◌, ◌<◌, List, length, true, inl, inr, Ok, Err, arith}
use Rattle.std.specs.Prelude.{◌⊎◌, Option, Some, None, Result}
use Rattle.outside.specs.Fault.{Rose}
use Rattle.outside.specs.Files.{FilesState}
use Rattle.outside.specs.Sink.{SinkState}
use Rattle.toml.specs.Data.{Members}
use Rattle.policy_data.specs.declared.policy.Policy.{Policy}
use Rattle.policy_data.specs.declared.fault.ReadPolicyFault.{ReadPolicyFault}
use Rattle.policy_data.specs.declared.fault.ReadPolicyFault.TheVariants.{NotToml, BadKey, BadValue, BadName, OverLimit as OverLimitFault, NoMemory as NoMemoryFault}
use Rattle.policy_toml.specs.Policy.{policy_of, IsWellFormed, HasFault}
use Rattle.component_judge.specs.declared.refusal.Refusal.{Refusal}
use Rattle.component_judge.specs.declared.refusal.Refusal.TheVariants as refusals
use Rattle.component_judge.specs.declared.unready.Unready.{Unready}
use Rattle.component_judge.specs.declared.unready.Unready.TheVariants.{FileFault as Faulted, Refused}
use Rattle.component_judge.specs.declared.limits.Purpose.TheVariants.{Virt}
use Rattle.component_judge.specs.Limits.{bytes_limit, bytes_name}
use Rattle.component_judge.specs.Applications.{IsApplication, IsApplicationRefusal}
use Rattle.component_judge.specs.Fetching.{Cause, RefusesNone}
use Rattle.component_judge.proofs.Verdicts.{one_application}
use Rattle.comp_grammar.specs.Trees.{Tree}
use Rattle.wasi_match.specs.declared.listed.ListedUse.{ListedUse}
use Rattle.virt_words.specs.declared.command.InspectWords.{InspectWords}
use Rattle.virt_words.specs.Words.{inspect_words}
use Rattle.inspect_engine.specs.declared.status.Status.{Status}
use Rattle.inspect_engine.specs.declared.status.Status.TheVariants.{Done, NoMemory}
use Rattle.inspect_engine.specs.Policies.{policy_limit, unready_as, PolicyCause, AskedCause}
use Rattle.inspect_engine.specs.Inspected.{ComponentCause, NoReport, Reports, IsDueFor, Inspected, HoldsAsked, IsAccepted, Accepts}

same_some : {A : Type 0} (a b : A) → Some a ≡ Some b → a ≡ b
same_some a b e = cc

ok_or_err : {A B : Type 0} (a : A) (b : B) → ◌≡◌ {A = Result A B} (Ok a) (Err b) → ⊥
ok_or_err a b e = cc

some_or_none : {A : Type 0} (o : Option A) (a : A) → o ≡ Some a → o ≡ None → ⊥
some_or_none o a some none = cc

-- ---- a policy that is well formed has no fault

clash : (document : Option Members) (f : Members → Result Policy ReadPolicyFault) (a b : Members) (policy : Policy) (fault : ReadPolicyFault)
    → document ≡ Some a → f a ≡ Ok policy → document ≡ Some b → f b ≡ Err fault → ⊥
clash document f a b policy fault is good other bad = ok_or_err policy fault (sym good ∙ ap f (same_some a b (sym is ∙ other)) ∙ bad)

has_no_fault : (text : List ℕ) (policy : Policy) (fault : ReadPolicyFault) → IsWellFormed text policy → HasFault text fault → ⊥
has_no_fault text policy NotToml w h = some_or_none _ w.1 w.2 (h w.0)
has_no_fault text policy (BadKey path) w h = clash _ policy_of w.1 h.1 policy (BadKey path) w.2 w.3 h.2 h.3
has_no_fault text policy (BadValue path) w h = clash _ policy_of w.1 h.1 policy (BadValue path) w.2 w.3 h.2 h.3
has_no_fault text policy (BadName path) w h = clash _ policy_of w.1 h.1 policy (BadName path) w.2 w.3 h.2 h.3
has_no_fault text policy (OverLimitFault path value) w h = clash _ policy_of w.1 h.1 policy (OverLimitFault path value) w.2 w.3 h.2 h.3
has_no_fault text policy NoMemoryFault w h = clash _ policy_of w.1 h.1 policy NoMemoryFault w.2 w.3 h.2 h.3

-- ---- a file that will do is not refused

-- one of these bytes, which are within the limit, was read, or memory ran out
module _ (name what : List ℕ) (limit : ℕ) (Refuses : List ℕ → Refusal → Type 0) (s t : FilesState) (told : s.told ≡ true) (quiet : ¬ (Rose s.faults t.faults))
    (bytes : List ℕ) (there : s.held.file name ≡ Some bytes) (short : length bytes ≤ limit)
    (stands : (refusal : Refusal) → Refuses bytes refusal → unready_as (Refused refusal) ≡ NoMemory) where
  too_long : (found : List ℕ) (value : ℕ) → s.held.file name ≡ Some found → length found ≡ value → limit < value → ⊥
  too_long found value here is over =
      let same : length bytes ≡ length found = ap length (same_some bytes found (sym there ∙ here)) in
      omega (arith, same, is, over, short)

  file_stands : (e : Unready) → Cause name what limit Refuses s t e → unready_as e ≡ NoMemory
  file_stands (Faulted kept) h = absurd (quiet h.counted)
  file_stands (Refused refusal) (inl none) = ap (λ (r : Refusal). unready_as (Refused r)) none
  file_stands (Refused refusal) (inr (inl long)) = let found = long.there told in absurd (too_long found.0 long.value found.1 found.2 long.over)
  file_stands (Refused refusal) (inr (inr h)) =
      stands refusal (subst (λ (z : List ℕ). Refuses z refusal) (same_some h.bytes bytes (sym (h.there told) ∙ there)) h.refused)

-- ---- the policy

module _ (s t : FilesState) (told : s.told ≡ true) (quiet : ¬ (Rose s.faults t.faults)) where
  policy_stands : (name : List ℕ) (due : Status) → HoldsAsked (Some name) s.held → PolicyCause name s t due → due ≡ NoMemory
  policy_stands name due p (inl c) =
      c.1 ∙ file_stands name (codes "policy-bytes") policy_limit RefusesNone s t told quiet p.text p.there p.short (λ refusal h. absurd h) c.0 c.2
  policy_stands name due p (inr (inl c)) =
      let same : c.2.text ≡ p.text = same_some c.2.text p.text (sym (c.2.there told) ∙ p.there) in
      absurd (has_no_fault p.text p.policy c.0 p.well_formed (subst (λ (z : List ℕ). HasFault z c.0) same c.2.faulty))
  policy_stands name due p (inr (inr none)) = none

  asked_stands : (asked : Option (List ℕ)) (due : Status) → HoldsAsked asked s.held → AskedCause asked s t due → due ≡ NoMemory
  asked_stands None due p c = absurd c
  asked_stands (Some name) due p c = policy_stands name due p c

  -- ---- the component

  module _ (bytes : List ℕ) (tree : Tree) (uses : List ListedUse) (application : IsApplication Virt bytes tree uses) where
    known : (refusal : Refusal) → IsApplicationRefusal Virt bytes refusal → refusal ≢ refusals.NoMemory → ⊥
    known refusal h some = one_application Virt bytes tree uses refusal application some h

    not_refused : (refusal : Refusal) → IsApplicationRefusal Virt bytes refusal → unready_as (Refused refusal) ≡ NoMemory
    not_refused (refusals.Refused fault) h = absurd (known (refusals.Refused fault) h (λ e. cc))
    not_refused (refusals.OverLimit what value) h = absurd (known (refusals.OverLimit what value) h (λ e. cc))
    not_refused (refusals.BadScript path) h = absurd (known (refusals.BadScript path) h (λ e. cc))
    not_refused refusals.NoMemory h = refl

    component_stands : (name : List ℕ) (due : Status) → s.held.file name ≡ Some bytes → ComponentCause name s t due → due ≡ NoMemory
    component_stands name due there c =
        c.is ∙ file_stands name (bytes_name Virt) (bytes_limit Virt) (IsApplicationRefusal Virt) s t told quiet bytes there application.sound.small.short not_refused c.unready c.cause

  -- ---- both

  report_stands : (words : List (List ℕ)) (a : IsAccepted s.held words) (due : Status) → NoReport a.command s t due → due ≡ NoMemory
  report_stands words a due (inl c) = asked_stands a.command.policy due a.policy c
  report_stands words a due (inr (inl c)) = component_stands a.bytes a.tree a.uses a.application a.command.component due a.there c.2
  report_stands words a due (inr (inr none)) = none

  due_of : (words : List (List ℕ)) (a : IsAccepted s.held words) (due : Status) (text : List ℕ) → IsDueFor (Some a.command) s t due text → (due ≡ Done) ⊎ (due ≡ NoMemory)
  due_of words a due text (inl d) = inl d.0
  due_of words a due text (inr d) = inr (report_stands words a due d.0)

  due_said : (words : List (List ℕ)) (a : IsAccepted s.held words) (due : Status) (text : List ℕ) → IsDueFor (inspect_words words) s t due text ⊎ (due ≡ NoMemory)
      → (due ≡ Done) ⊎ (due ≡ NoMemory)
  due_said words a due text (inl d) = due_of words a due text (subst (λ (o : Option InspectWords). IsDueFor o s t due text) a.said d)
  due_said words a due text (inr none) = inr none

-- ---- what is put

put_of : (due : Status) (text : List ℕ) (k l : SinkState) (result : Status) → Reports due text k l result → ¬ (Rose k.faults l.faults) → (result ≡ due) ⊎ (result ≡ NoMemory)
put_of due text k l result r quiet = elim r [
  | inl p ↦ elim p.put [ inl w ↦ inl w.status | inr b ↦ absurd (quiet b.cause) ]
  | inr n ↦ inr n.0
]

then : (due result : Status) → (due ≡ Done) ⊎ (due ≡ NoMemory) → (result ≡ due) ⊎ (result ≡ NoMemory) → (result ≡ Done) ⊎ (result ≡ NoMemory)
then due result (inl done) (inl is) = inl (is ∙ done)
then due result (inr none) (inl is) = inr (is ∙ none)
then due result h (inr none) = inr none

pub accepts : (words : List (List ℕ)) (s t : FilesState) (k l : SinkState) (result : Status) → Inspected words s t k l result → Accepts words s t k l result
accepts words s t k l result i told a files sink =
    then i.due result (due_said s t told files words a i.due i.text i.why) (put_of i.due i.text k l result i.put sink)
