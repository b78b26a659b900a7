-- What a call comes to.
use Rattle.std.specs.Prelude.{ℕ, ◌≡◌, ◌≤◌, ◌++◌, ◌⊎◌, List, true, false, take, Option, Some, None, IsSome, Result, IfErr, IfOk, string_bytes, String, length}
use Rattle.std.specs.declared.alloc.Global.{Global}
use Rattle.outside.specs.Fault.{Rose}
use Rattle.outside.specs.Files.{FilesState, Held, Goes}
use Rattle.outside.specs.Sink.{SinkState, is_full}
use Rattle.policy_data.specs.declared.policy.Policy.{Policy}
use Rattle.policy_toml.specs.Policy.{IsWellFormed}
use Rattle.comp_grammar.specs.Trees.{Tree}
use Rattle.wasi_match.specs.declared.listed.ListedUse.{ListedUse}
use Rattle.component_judge.specs.declared.inputs.Fetched.{Fetched}
use Rattle.component_judge.specs.declared.unready.Unready.{Unready}
use Rattle.component_judge.specs.declared.limits.Purpose.TheVariants.{Virt}
use Rattle.component_judge.specs.Limits.{bytes_limit, bytes_name}
use Rattle.component_judge.specs.Applications.{IsApplication, IsApplicationRefusal}
use Rattle.component_judge.specs.Fetching.{Cause}
use Rattle.component_judge.specs.Inputs.{HasWrapped}
use Rattle.virt_words.specs.declared.command.InspectWords.{InspectWords}
use Rattle.virt_words.specs.Words.{inspect_words}
use Rattle.inspect_engine.specs.declared.status.Status.{Status}
use Rattle.inspect_engine.specs.declared.status.Status.TheVariants.{Done, SinkFault, NoMemory, Usage}
use Rattle.inspect_engine.specs.Policies.{policy_limit, unready_as, HasAsked, AskedCause, IsThere}
use Rattle.inspect_engine.specs.Report.{report}
use Rattle.inspect_engine.specs.Status.{status_text}

-- ---- what is put for words and files

-- The files hold a policy, where one is asked for, and a component that `virt` would wrap under it; and this is its report.
pub record IsReport (w : InspectWords) (s : FilesState) (text : List ℕ) : Type 0 where
  pub policy : Option Policy
  pub asked : HasAsked w.policy s policy
  pub fetched : Fetched
  pub wrapped : HasWrapped w.component s fetched
  pub is : text ≡ report policy fetched.application.listed.uses

-- The component's file was not read, or is refused.
pub record ComponentCause (name : List ℕ) (s t : FilesState) (status : Status) : Type 0 where
  pub unready : Unready
  pub is : status ≡ unready_as unready
  pub cause : Cause name (bytes_name Virt) (bytes_limit Virt) (IsApplicationRefusal Virt) s t unready

-- why there is no report: the policy, then the component, or no memory
abbrev pub NoReport : InspectWords → FilesState → FilesState → Status → Type 0
NoReport w s t status = AskedCause w.policy s t status
    ⊎ (((policy : Option Policy) × HasAsked w.policy s policy × ComponentCause w.component s t status)
    ⊎ (status ≡ NoMemory))

-- each file that is due is there
pub record AreThere (w : InspectWords) (s : FilesState) : Type 0 where
  pub policy : IsThere w.policy s
  pub component : IsSome (s.held.file w.component)

-- What reading all and making the report does.
pub record Inspects (w : InspectWords) (s t : FilesState) (r : Result (String Global) Status) : Type 0 where
  pub goes : Goes s t
  pub stays : t.held ≡ s.held
  pub made : IfOk r (λ text. IsReport w s (string_bytes text))
  pub cause : IfErr r (NoReport w s t)
  pub quiet : s.told ≡ true → s.steady ≡ true → AreThere w s → t.faults ≡ s.faults

-- ---- what is put to the sink

-- the whole text is there
pub record Written (due : Status) (text : List ℕ) (s t : SinkState) (result : Status) : Type 0 where
  pub status : result ≡ due
  pub bytes : s.told ≡ true → t.bytes ≡ s.bytes ++ text

-- the put failed, and a prefix of the text is there
pub record Broken (text : List ℕ) (s t : SinkState) (result : Status) : Type 0 where
  pub status : result ≡ SinkFault
  pub cause : Rose s.faults t.faults
  pub bytes : s.told ≡ true → (k : ℕ) × (t.bytes ≡ s.bytes ++ take k text)

-- what was put for a status that was due with this text
pub record Puts (due : Status) (text : List ℕ) (s t : SinkState) (result : Status) : Type 0 where
  pub put : Written due text s t result ⊎ Broken text s t result
  -- over a steady sink with room for the text no put fails
  pub quiet : s.told ≡ true → s.steady ≡ true → is_full s text ≡ false → (t.faults ≡ s.faults) × (result ≡ due)

-- the same where memory may run out before: nothing is put then
abbrev pub Reports : Status → List ℕ → SinkState → SinkState → Status → Type 0
Reports due text s t result = Puts due text s t result ⊎ ((result ≡ NoMemory) × (t ≡ s))

-- ---- a call

-- the status that is due of words, and its text; or memory ran out
abbrev pub IsDueFor : Option InspectWords → FilesState → FilesState → Status → List ℕ → Type 0
IsDueFor None s t due text = (due ≡ Usage) × (text ≡ status_text Usage)
IsDueFor (Some w) s t due text = ((due ≡ Done) × IsReport w s text) ⊎ (NoReport w s t due × (text ≡ status_text due))

-- each file that the words name is there
abbrev pub AllThere : Option InspectWords → FilesState → Type 0
AllThere None s = Unit {0}
AllThere (Some w) s = AreThere w s

-- What a call did: which status was due and why, and what was put for it. No file has changed.
pub record Inspected (words : List (List ℕ)) (s t : FilesState) (k l : SinkState) (result : Status) : Type 0 where
  pub goes : Goes s t
  pub stays : t.held ≡ s.held
  pub due : Status
  pub text : List ℕ
  pub why : IsDueFor (inspect_words words) s t due text ⊎ (due ≡ NoMemory)
  pub put : Reports due text k l result
  -- where memory runs out, nothing is put
  pub silent : result ≡ NoMemory → l ≡ k
  pub quiet : s.told ≡ true → s.steady ≡ true → AllThere (inspect_words words) s → t.faults ≡ s.faults

-- the same for words that name a component
abbrev pub InspectedFor : InspectWords → FilesState → FilesState → SinkState → SinkState → Status → Type 0
InspectedFor w s t k l result = (words : List (List ℕ)) → inspect_words words ≡ Some w → Inspected words s t k l result

-- ---- what follows where the files are told

-- The file named so holds a policy.
pub record HoldsPolicy (name : List ℕ) (held : Held) : Type 0 where
  pub text : List ℕ
  pub there : held.file name ≡ Some text
  pub short : length text ≤ policy_limit
  pub policy : Policy
  pub well_formed : IsWellFormed text policy

abbrev pub HoldsAsked : Option (List ℕ) → Held → Type 0
HoldsAsked None held = Unit {0}
HoldsAsked (Some name) held = HoldsPolicy name held

-- The words are a command whose files hold what can be inspected: a policy, where one is asked for, and a component that `virt` would wrap.
pub record IsAccepted (held : Held) (words : List (List ℕ)) : Type 0 where
  pub command : InspectWords
  pub said : inspect_words words ≡ Some command
  pub policy : HoldsAsked command.policy held
  pub bytes : List ℕ
  pub there : held.file command.component ≡ Some bytes
  pub tree : Tree
  pub uses : List ListedUse
  pub application : IsApplication Virt bytes tree uses

-- Where the call is to be accepted and no count rose, it is done, or memory ran out.
abbrev pub Accepts : List (List ℕ) → FilesState → FilesState → SinkState → SinkState → Status → Type 0
Accepts words s t k l result = s.told ≡ true → IsAccepted s.held words → ¬ (Rose s.faults t.faults) → ¬ (Rose k.faults l.faults)
    → (result ≡ Done) ⊎ (result ≡ NoMemory)
