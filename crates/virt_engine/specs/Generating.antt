-- What a call of `gen` comes to.
use Rattle.std.specs.Prelude.{ℕ, ◌≡◌, ◌≢◌, ◌≤◌, ◌⊎◌, List, [], ◌++◌, true, false, Some, Ok, length, codes, string_bytes}
use Rattle.std.specs.Fmt.{decimal}
use Rattle.outside.specs.Fault.{Rose}
use Rattle.outside.specs.Files.{FilesState, Goes, with_file, no_place}
use Rattle.outside.specs.Sink.{SinkState}
use Rattle.policy_data.specs.declared.policy.Policy.{Policy}
use Rattle.policy_toml.specs.Policy.{IsWellFormed}
use Rattle.comp_grammar.specs.Trees.{Tree}
use Rattle.comp_types.specs.Added.{type_of}
use Rattle.wasi_match.specs.declared.listed.ListedUse.{ListedUse}
use Rattle.host_port.specs.Scripts as port
use Rattle.host_script.specs.Script.{PlainScript, due_script, json_in}
use Rattle.reference_step.specs.State.{Reference, opening}
use Rattle.reference_step.specs.Steps.{reference_step}
use Rattle.reference_host.specs.Hosts.{setup_for}
use Rattle.component_judge.specs.Applications.{IsApplication}
use Rattle.component_judge.specs.Callable.{callable}
use Rattle.component_judge.specs.declared.limits.Purpose.TheVariants.{Run}
use Rattle.generated.specs.Generated.{generated, policy_text}
use Rattle.generated.specs.Scripts.{script_text}
use Rattle.virt_words.specs.Lines.{text_of}
use Rattle.virt_engine.specs.declared.generating.Made.{Made}
use Rattle.virt_engine.specs.declared.generating.Made.TheVariants.{Whole, Ended}
use Rattle.virt_engine.specs.declared.plan.Ready.{Ready}
use Rattle.virt_engine.specs.declared.runner.Shown.{Shown}
use Rattle.virt_engine.specs.declared.status.Status.{Status}
use Rattle.virt_engine.specs.declared.status.Status.TheVariants.{Done, FileFault, NoMemory}
use Rattle.virt_engine.specs.declared.tally.Tally.{Tally}
use Rattle.virt_engine.specs.Command.{GenCommand}
use Rattle.virt_engine.specs.Line.{status_text}
use Rattle.virt_engine.specs.Output.{IsOutputOf}
use Rattle.virt_engine.specs.Parts.{written_by}
use Rattle.virt_engine.specs.Report.{Reports}
use Rattle.virt_engine.specs.Runs.{ended_as}
use Rattle.virt_engine.specs.Shown.{ShowsRun, item_texts, items_tally, told_component}
use Rattle.virt_engine.specs.Told.{Told}
use Rattle.virt_engine.specs.Writing.{LeftOf}

-- ---- the run of a generated component

-- The component of that many functions, what it imports, its policy and its script.
pub record Setting (n : ℕ) : Type 0 where
  pub policy : Policy
  pub well_formed : IsWellFormed policy_text policy
  pub tree : Tree
  pub uses : List ListedUse
  pub application : IsApplication Run (generated n) tree uses
  pub script : PlainScript
  pub due : due_script (callable (type_of tree).exports) (json_in (script_text n)) ≡ Ok script

-- the most steps
abbrev pub gen_steps : ℕ
gen_steps = 1000000000

-- the policy's reference host before its first call, over the script; the policy has no trees
abbrev pub opened_for : {n : ℕ} → Setting n → Reference port.Script
opened_for g = opening (setup_for g.policy [] g.uses) g.script.answers

-- What is to be told of the run: each function is called once, in order.
abbrev pub told_generated : {n : ℕ} → Setting n → Told
told_generated g = told_component g.tree (reference_step port.script) (opened_for g) g.script.calls gen_steps

-- ---- the line

-- the number of functions, the calls of the host, the returns, and the results added modulo 2^64
abbrev pub gen_text : ℕ → Tally → List ℕ
gen_text n t =
    codes "gen " ++ (decimal n ++ (codes ": " ++ (decimal t.calls ++ (codes " host calls, " ++ (decimal n ++ (codes " returns, sum " ++ (decimal t.sum ++ codes "\n")))))))

-- ---- why a status is due

-- Each function returned; the bytes are an output of the component under its policy.
pub record Generates (n : ℕ) : Type 0 where
  pub setting : Setting n
  pub returned : ended_as (told_generated setting).end ≡ Done
  pub bytes : List ℕ
  pub output : IsOutputOf setting.policy (generated n) bytes

-- what was counted of its run
abbrev pub counted_in : {n : ℕ} → Generates n → Tally
counted_in w = items_tally (told_generated w.setting).items

-- Why a status was due with this text, and what has become of the files: the output is written; or it could not be, and a part of it may be
-- there; or memory ran out; or a function did not return, the lines of the run were put, and nothing was written.
abbrev pub GenDue : GenCommand → FilesState → FilesState → Status → List ℕ → Type 0
GenDue c s t Done text = (w : Generates c.functions) × (text ≡ gen_text c.functions (counted_in w)) × (s.told ≡ true → t.held ≡ with_file s.held c.out (Some w.bytes))
GenDue c s t (FileFault kept) text = (w : Generates c.functions) × (kept ≡ c.out) × (text ≡ status_text (FileFault kept)) × Rose s.faults t.faults
    × (s.told ≡ true → LeftOf c.out w.bytes s.held t.held)
GenDue c s t NoMemory text = (t ≡ s) × (text ≡ [])
GenDue c s t status text = (g : Setting c.functions) × (t ≡ s) × (status ≡ ended_as (told_generated g).end) × (text ≡ text_of (item_texts (told_generated g).items))

-- how long the output is that was written, or was to be
abbrev pub length_made : (c : GenCommand) (s t : FilesState) (due : Status) (text : List ℕ) → GenDue c s t due text → ℕ
length_made c s t Done text d = length d.0.bytes
length_made c s t (FileFault kept) text d = length d.0.bytes
length_made c s t _ text d = 0

pub record GenRan (c : GenCommand) (s t : FilesState) (k l : SinkState) (result : Status) : Type 0 where
  pub goes : Goes s t
  pub due : Status
  pub text : List ℕ
  pub files : GenDue c s t due text
  pub report : Reports due text k l result
  -- where memory ran out nothing was put, and no file has changed
  pub kept : result ≡ NoMemory → (l ≡ k) × (t.held ≡ s.held)
  -- over steady files where the output has its place and room no fault is provoked
  pub quiet : s.told ≡ true → s.steady ≡ true → no_place s.held c.out ≡ false → length_made c s t due text files ≤ s.held.room c.out → t.faults ≡ s.faults

-- ---- what follows for every caller

-- Where no count rose, the status is that of how the run ends, or memory ran out.
abbrev pub GenCompletes : GenCommand → FilesState → FilesState → SinkState → SinkState → Status → Type 0
GenCompletes c s t k l result = ¬ (Rose s.faults t.faults) → ¬ (Rose k.faults l.faults)
    → ((g : Setting c.functions) × (result ≡ ended_as (told_generated g).end)) ⊎ (result ≡ NoMemory)

-- What Done says: each function returned, the file named OUT holds an output of the component, and all else stays.
pub record GenDelivers (c : GenCommand) (s t : FilesState) : Type 0 where
  pub made : Generates c.functions
  pub written : t.held ≡ with_file s.held c.out (Some made.bytes)

-- ---- for private clauses

-- The parts of the output of a generated component, and the texts of a fault.
pub record IsWrapped (n : ℕ) (out : List ℕ) (p : Ready) : Type 0 where
  pub policy : Policy
  pub well_formed : IsWellFormed policy_text policy
  pub output : IsOutputOf policy (generated n) (written_by p)
  pub fault : p.fault ≡ FileFault out
  pub fault_line : string_bytes p.fault_line ≡ status_text (FileFault out)

-- The same parts, with the line of a run.
pub record HasLine (n : ℕ) (tally : Tally) (old p : Ready) : Type 0 where
  pub written : written_by p ≡ written_by old
  pub line : string_bytes p.done_line ≡ gen_text n tally
  pub fault : p.fault ≡ old.fault
  pub fault_line : p.fault_line ≡ old.fault_line

-- What is shown of its run.
pub record RunsGenerated (n : ℕ) (shown : Shown) : Type 0 where
  pub setting : Setting n
  pub shows : ShowsRun setting.tree (reference_step port.script) (opened_for setting) setting.script.calls gen_steps shown

-- Each function returned, and the output is to be written.
pub record IsWhole (n : ℕ) (out : List ℕ) (p : Ready) : Type 0 where
  pub setting : Setting n
  pub returned : ended_as (told_generated setting).end ≡ Done
  pub output : IsOutputOf setting.policy (generated n) (written_by p)
  pub done_line : string_bytes p.done_line ≡ gen_text n (items_tally (told_generated setting).items)
  pub fault : p.fault ≡ FileFault out
  pub fault_line : string_bytes p.fault_line ≡ status_text (FileFault out)

-- One did not return.
pub record HasEnded (n : ℕ) (shown : Shown) : Type 0 where
  pub runs : RunsGenerated n shown
  pub early : ended_as shown.end ≢ Done

abbrev pub IsMade : ℕ → List ℕ → Made → Type 0
IsMade n out (Whole p) = IsWhole n out p
IsMade n out (Ended shown) = HasEnded n shown
