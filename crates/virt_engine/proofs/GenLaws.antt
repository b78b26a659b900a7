-- A call of `gen`, by what its parts did.
use Rattle.std.proofs.Common.{◌≡◌, ◌∙◌, refl, sym, ap, subst, ℕ, ◌<◌, List, [], length, true, inl, inr, arith, Ok}
use Rattle.std.specs.Prelude.{◌≢◌, ◌⊎◌, ◌≤◌, Option, Some, None, Result, string_bytes}
use Rattle.std.specs.List.{slice_get}
use Rattle.std.specs.Option.{option_map_or}
use Rattle.std.proofs.lemmas.Option.{slice_get_within}
use Rattle.outside.specs.Fault.{Rose}
use Rattle.outside.specs.Files.{FilesState, Goes}
use Rattle.outside.specs.Sink.{SinkState}
use Rattle.policy_data.specs.declared.policy.Policy.{Policy}
use Rattle.policy_toml.specs.Policy.{IsWellFormed}
use Rattle.policy_data.specs.declared.fault.ReadPolicyFault.{ReadPolicyFault}
use Rattle.tree_table.specs.declared.entries.Entry.{Entry}
use Rattle.tree_table.specs.declared.entries.NamedTree.{NamedTree}
use Rattle.tree_table.specs.Trees.{AreTrees}
use Rattle.comp_grammar.specs.Trees.{plain}
use Rattle.comp_types.specs.Items.{Signature}
use Rattle.host_script.specs.Script.{due_script, json_in, script_seen}
use Rattle.reference_host.specs.Kept.{LeadToTexts}
use Rattle.component_judge.specs.Applications.{JudgesApplication}
use Rattle.component_judge.specs.Callable.{callable}
use Rattle.component_judge.specs.Scripts.{JudgesScript}
use Rattle.component_judge.specs.declared.application.Application.{Application}
use Rattle.component_judge.specs.declared.inputs.Fetched.{Fetched}
use Rattle.component_judge.specs.declared.limits.Purpose.TheVariants.{Virt, Run}
use Rattle.component_judge.specs.declared.script.Scripted.{Scripted}
use Rattle.call_moments.specs.declared.end.RunEnd.{RunEnd}
use Rattle.call_moments.specs.declared.end.RunEnd.TheVariants as ends
use Rattle.generated.specs.Generated.{generated, policy_text}
use Rattle.generated.specs.Scripts.{script_text}
use Rattle.virt_words.specs.Lines.{text_of}
use Rattle.virt_engine.specs.declared.plan.Ready.{Ready}
use Rattle.virt_engine.specs.declared.runner.Shown.{Shown}
use Rattle.virt_engine.specs.declared.status.Status.{Status}
use Rattle.virt_engine.specs.declared.status.Status.TheVariants.{Done, PolicyRefused, AppRefused, FileFault, SinkFault, OverLimit, NoMemory, ScriptRefused, Trapped, ScriptEnded, StepsSpent, BadAnswer, TooDeep, Usage, PlugRefused}
use Rattle.virt_engine.specs.Command.{GenCommand}
use Rattle.virt_engine.specs.Generating.{Setting, Generates, GenDue, GenRan, GenCompletes, GenDelivers, HasLine, IsWrapped, RunsGenerated, IsWhole, HasEnded, gen_text, told_generated}
use Rattle.virt_engine.specs.Line.{status_text}
use Rattle.virt_engine.specs.Output.{IsOutputOf}
use Rattle.virt_engine.specs.Parts.{Prepares, written_by}
use Rattle.virt_engine.specs.Plan.{Finishes}
use Rattle.virt_engine.specs.Report.{Puts}
use Rattle.virt_engine.specs.Runs.{ended_as, PutsShown}
use Rattle.virt_engine.specs.Shown.{item_texts}
use Rattle.virt_engine.proofs.Outputs.{prepared}
use Rattle.virt_engine.proofs.PolicyLaws.{well_formed_due}
use Rattle.virt_engine.proofs.Runs.{done_is_loud, due_of_done, fault_is_loud, not_silent, put_of}
use Rattle.virt_engine.proofs.TaskLaws.{shown_is_loud}

-- ---- the output of a run of which each call returned

same_ok : (a b : Policy) → ◌≡◌ {A = Result Policy ReadPolicyFault} (Ok a) (Ok b) → a ≡ b
same_ok a b e = cc

-- a text stands for one policy
one_well_formed : (text : List ℕ) (a b : Policy) → IsWellFormed text a → IsWellFormed text b → a ≡ b
one_well_formed text a b f g = same_ok a b (sym (well_formed_due text a f) ∙ well_formed_due text b g)

returned_is_done : (end : RunEnd) (value : _) → end ≡ ends.Returned value → ended_as end ≡ Done
returned_is_done end value is = ap ended_as is

pub is_whole : (n : ℕ) (out : List ℕ) (w p : Ready) (shown : Shown) (value : _) → IsWrapped n out w → RunsGenerated n shown → shown.end ≡ ends.Returned value → HasLine n shown.tally w p → IsWhole n out p
is_whole n out w p shown value wrapped runs returned h =
    let g = runs.setting in
    let told = runs.shows.told in
    record {
      setting = g;
      returned = ap ended_as (sym told.end) ∙ returned_is_done shown.end value returned;
      output = subst (λ (policy : Policy). IsOutputOf policy (generated n) (written_by p)) (one_well_formed policy_text wrapped.policy g.policy wrapped.well_formed g.well_formed)
          (subst (λ (bytes : List ℕ). IsOutputOf wrapped.policy (generated n) bytes) (sym h.written) wrapped.output);
      done_line = h.line ∙ ap (gen_text n) told.tally;
      fault = h.fault ∙ wrapped.fault;
      fault_line = ap string_bytes h.fault_line ∙ wrapped.fault_line;
    }

not_done : (end : RunEnd) → ((value : _) → end ≡ ends.Returned value → ⊥) → ended_as end ≢ Done
not_done (ends.Returned value) h e = h value refl
not_done ends.Trapped h e = cc
not_done ends.ScriptEnded h e = cc
not_done ends.Spent h e = cc
not_done ends.BadAnswer h e = cc
not_done ends.TooDeep h e = cc

pub has_ended : (n : ℕ) (shown : Shown) → RunsGenerated n shown → ((value : _) → shown.end ≡ ends.Returned value → ⊥) → HasEnded n shown
has_ended n shown runs none = record { runs = runs; early = not_done shown.end none }

-- ---- the whole call

stays : (s : FilesState) → Goes s s
stays s = record { later = omega arith; told = refl; steady = λ h. h }

abbrev made_of : (n : ℕ) (out : List ℕ) (p : Ready) → IsWhole n out p → Generates n
made_of n out p w = record { setting = w.setting; returned = w.returned; bytes = written_by p; output = w.output }

pub gen_finish : (c : GenCommand) (p : Ready) (s t : FilesState) (k l : SinkState) (result : Status) → IsWhole c.functions c.out p → Finishes c.out p s t k l result → GenRan c s t k l result
gen_finish c p s t k l result w f =
    let made = made_of c.functions c.out p w in
    elim f.end [
      | inl done ↦ record {
        goes = f.goes;
        due = Done;
        text = string_bytes p.done_line;
        files = (made, w.done_line, done.0);
        report = inl done.1;
        kept = λ h. absurd (not_silent Done (string_bytes p.done_line) k l result done_is_loud done.1 h);
        quiet = λ told steady place room. f.quiet told steady place room;
      }
      | inr left ↦
          let puts : Puts (FileFault c.out) (status_text (FileFault c.out)) k l result =
          subst (λ (z : List ℕ). Puts (FileFault c.out) z k l result) w.fault_line (subst (λ (d : Status). Puts d (string_bytes p.fault_line) k l result) w.fault left.2) in
          record {
            goes = f.goes;
            due = FileFault c.out;
            text = status_text (FileFault c.out);
            files = (made, refl, refl, left.0, left.1);
            report = inl puts;
            kept = λ h. absurd (not_silent (FileFault c.out) (status_text (FileFault c.out)) k l result (fault_is_loud c.out) puts h);
            quiet = λ told steady place room. f.quiet told steady place room;
          }
    ]

-- the lines of a run that ended early
ended_due : (c : GenCommand) (s : FilesState) (end : RunEnd) (text : List ℕ) (g : Setting c.functions) → ended_as end ≢ Done → ended_as end ≡ ended_as (told_generated g).end → text ≡ text_of (item_texts (told_generated g).items)
    → GenDue c s s (ended_as end) text
ended_due c s (ends.Returned value) text g early is lines = absurd (early refl)
ended_due c s ends.Trapped text g early is lines = (g, refl, is, lines)
ended_due c s ends.ScriptEnded text g early is lines = (g, refl, is, lines)
ended_due c s ends.Spent text g early is lines = (g, refl, is, lines)
ended_due c s ends.BadAnswer text g early is lines = (g, refl, is, lines)
ended_due c s ends.TooDeep text g early is lines = (g, refl, is, lines)

pub gen_ended : (c : GenCommand) (shown : Shown) (s : FilesState) (k l : SinkState) (result : Status) → HasEnded c.functions shown → PutsShown shown k l result → GenRan c s s k l result
gen_ended c shown s k l result h puts =
    let told = h.runs.shows.told in
    record {
      goes = stays s;
      due = ended_as shown.end;
      text = text_of shown.lines;
      files = ended_due c s shown.end (text_of shown.lines) h.runs.setting h.early (ap ended_as told.end) (ap text_of told.lines);
      report = inl puts.puts;
      kept = λ e. absurd (shown_is_loud shown k l result puts e);
      quiet = λ told steady place room. refl;
    }

pub gen_memory : (c : GenCommand) (s : FilesState) (k : SinkState) → GenRan c s s k k NoMemory
gen_memory c s k = record {
  goes = stays s;
  due = NoMemory;
  text = [];
  files = (refl, refl);
  report = inr (refl, refl);
  kept = λ h. (refl, refl);
  quiet = λ told steady place room. refl;
}

-- ---- what follows

abbrev EndsSo : GenCommand → Status → Type 0
EndsSo c status = (g : Setting c.functions) × (status ≡ ended_as (told_generated g).end)

-- what is due is how a run ends, unless memory ran out
end_of_due : (c : GenCommand) (s t : FilesState) (due : Status) (text : List ℕ) → GenDue c s t due text → ¬ (Rose s.faults t.faults) → EndsSo c due ⊎ (due ≡ NoMemory)
end_of_due c s t Done text d files = inl (d.0.setting, sym d.0.returned)
end_of_due c s t (FileFault name) text d files = absurd (files d.3)
end_of_due c s t NoMemory text d files = inr refl
end_of_due c s t (OverLimit what value) text d files = inl (d.0, d.2)
end_of_due c s t (PolicyRefused fault) text d files = inl (d.0, d.2)
end_of_due c s t (AppRefused fault) text d files = inl (d.0, d.2)
end_of_due c s t Usage text d files = inl (d.0, d.2)
end_of_due c s t SinkFault text d files = inl (d.0, d.2)
end_of_due c s t (ScriptRefused path) text d files = inl (d.0, d.2)
end_of_due c s t (PlugRefused fault) text d files = inl (d.0, d.2)
end_of_due c s t Trapped text d files = inl (d.0, d.2)
end_of_due c s t ScriptEnded text d files = inl (d.0, d.2)
end_of_due c s t StepsSpent text d files = inl (d.0, d.2)
end_of_due c s t BadAnswer text d files = inl (d.0, d.2)
end_of_due c s t TooDeep text d files = inl (d.0, d.2)

put_so : (c : GenCommand) (due result : Status) → EndsSo c due ⊎ (due ≡ NoMemory) → (result ≡ due) ⊎ (result ≡ NoMemory) → EndsSo c result ⊎ (result ≡ NoMemory)
put_so c due result (inl e) (inl is) = inl (e.0, is ∙ e.1)
put_so c due result (inr n) (inl is) = inr (is ∙ n)
put_so c due result e (inr n) = inr n

pub gen_completes : (c : GenCommand) (s t : FilesState) (k l : SinkState) (result : Status) → GenRan c s t k l result → GenCompletes c s t k l result
gen_completes c s t k l result r = λ files sink. put_so c r.due result (end_of_due c s t r.due r.text r.files files) (put_of r.due r.text k l result r.report sink)

delivers_by : (c : GenCommand) (s t : FilesState) (due : Status) (text : List ℕ) → GenDue c s t due text → due ≡ Done → s.told ≡ true → GenDelivers c s t
delivers_by c s t Done text d e told = record { made = d.0; written = d.2 told }
delivers_by c s t (FileFault name) text d e told = absurd cc
delivers_by c s t NoMemory text d e told = absurd cc
delivers_by c s t (OverLimit what value) text d e told = absurd cc
delivers_by c s t (PolicyRefused fault) text d e told = absurd cc
delivers_by c s t (AppRefused fault) text d e told = absurd cc
delivers_by c s t Usage text d e told = absurd cc
delivers_by c s t SinkFault text d e told = absurd cc
delivers_by c s t (ScriptRefused path) text d e told = absurd cc
delivers_by c s t (PlugRefused fault) text d e told = absurd cc
delivers_by c s t Trapped text d e told = absurd cc
delivers_by c s t ScriptEnded text d e told = absurd cc
delivers_by c s t StepsSpent text d e told = absurd cc
delivers_by c s t BadAnswer text d e told = absurd cc
delivers_by c s t TooDeep text d e told = absurd cc

pub gen_delivers : (c : GenCommand) (s t : FilesState) (k l : SinkState) (result : Status) → GenRan c s t k l result → s.told ≡ true → result ≡ Done → GenDelivers c s t
gen_delivers c s t k l result r told e = delivers_by c s t r.due r.text r.files (due_of_done r.due r.text k l result r.report e) told

-- ---- what is generated

pub is_wrapped : (n : ℕ) (out : List ℕ) (policy : Policy) (app : Fetched) (p : Ready) → IsWellFormed policy_text policy → app.bytes.items ≡ generated n → JudgesApplication Virt app.bytes.items (Ok app.application) → Prepares policy app out p
    → IsWrapped n out p
is_wrapped n out policy app p well_formed made judges m = record {
  policy = policy;
  well_formed = well_formed;
  output = subst (λ (bytes : List ℕ). IsOutputOf policy bytes (written_by p)) made (prepared policy app judges out p m).0;
  fault = m.fault;
  fault_line = m.fault_line;
}

abbrev pub setting_of : (n : ℕ) (policy : Policy) (app : Application) (s : Scripted) → IsWellFormed policy_text policy → JudgesApplication Run (generated n) (Ok app) → JudgesScript app.judged.ty.exports (script_text n) (Ok s) → Setting n
setting_of n policy app s well_formed judges due = record {
  policy = policy;
  well_formed = well_formed;
  tree = plain app.judged.component;
  uses = app.listed.uses;
  application = judges.0;
  script = script_seen s.script;
  due = ap (λ (sig : Signature). due_script (callable sig.exports) (json_in (script_text n))) (sym judges.1) ∙ due.1;
}

-- ---- no trees

none_by : (trees : List NamedTree) (t i : ℕ) (e : Entry) (tree : Option NamedTree) → length trees ≤ 0 → slice_get trees t ≡ tree → slice_get (option_map_or (λ (it : NamedTree). it.entries) tree []) i ≡ Some e → ⊥
none_by trees t i e None short is there = let within : i < length {A = Entry} [] = slice_get_within [] i e there in omega (arith, within)
none_by trees t i e (Some tree) short is there = let within : t < length trees = slice_get_within trees t tree is in omega (arith, within, short)

pub no_texts : LeadToTexts []
no_texts t i e target there is = absurd (none_by [] t i e (slice_get [] t) (omega arith) refl there)

pub no_trees : AreTrees []
no_trees = record {
  each = λ t tree is. let within : t < length {A = NamedTree} [] = slice_get_within [] t tree is in absurd (omega (arith, within));
  nodes = omega arith;
}
