-- A call of `plug`, by what its parts did, and what follows.
use Rattle.std.proofs.Common.{◌≡◌, ◌∙◌, refl, sym, subst, ℕ, ◌≤◌, ◌<◌, List, [], length, true, false, inl, inr, arith, Ok, Err, string_bytes}
use Rattle.std.specs.Prelude.{◌⊎◌}
use Rattle.outside.specs.Fault.{Rose}
use Rattle.outside.specs.Files.{FilesState, Held, no_place}
use Rattle.outside.specs.Sink.{SinkState}
use Rattle.component_judge.specs.Limits.{bytes_limit, bytes_name}
use Rattle.component_judge.specs.declared.limits.Purpose.TheVariants.{Virt}
use Rattle.component_judge.specs.declared.refusal.Refusal.TheVariants as refusals
use Rattle.component_judge.specs.declared.unready.Unready.{Unready}
use Rattle.component_judge.specs.declared.unready.Unready.TheVariants.{FileFault as Faulted, Refused}
use Rattle.virt_engine.specs.declared.status.PlugFault.{PlugFault}
use Rattle.virt_engine.specs.declared.plan.Ready.{Ready}
use Rattle.virt_engine.specs.declared.status.Status.{Status}
use Rattle.virt_engine.specs.declared.status.Status.TheVariants.{Done, FileFault, NoMemory, PlugRefused}
use Rattle.virt_engine.specs.Command.{PlugCommand}
use Rattle.virt_engine.specs.Fetching.{unready_as}
use Rattle.virt_engine.specs.Line.{status_text}
use Rattle.virt_engine.specs.Pairs.{IsTooLarge, IsPartVerdict, IsPairVerdict}
use Rattle.virt_engine.specs.Parts.{written_by}
use Rattle.virt_engine.specs.Plan.{Finishes}
use Rattle.virt_engine.specs.Report.{Puts, Reports}
use Rattle.virt_engine.specs.Plugging.{IsPlugDue, NoPlugFileDue, PartCause, PairCause, PlugCause, PlugWrote, PlugEnd, PlugFits, PlugRan, PlugCompletes, PlugAccepts, PlugDelivers, IsPlugReady, PlansPlug}
use Rattle.virt_engine.proofs.Adding.{goes_on}
use Rattle.virt_engine.proofs.PairPlanning.{are_pair}
use Rattle.virt_engine.proofs.PairReading.{read_file}
use Rattle.virt_engine.proofs.PairStatus.{one_plug_status, accepted_is_due}
use Rattle.virt_engine.proofs.Planning.{policy_file}
use Rattle.virt_engine.proofs.RunLaws.{file_due, policy_due, trees_are_due}
use Rattle.virt_engine.proofs.Runs.{done_is_loud, due_of_done, fault_is_loud, held_then, left_then, not_silent, put_of}

-- ---- refused before any write

pub plug_refused : (c : PlugCommand) (e : Status) (s t : FilesState) (k l : SinkState) (result : Status) → PlansPlug c s t (Err e) → Reports e (status_text e) k l result → (result ≡ NoMemory → l ≡ k)
    → PlugRan c s t k l result
plug_refused c e s t k l result p r silent = record {
  goes = p.goes;
  due = e;
  text = status_text e;
  end = inr (inr (record { cause = p.cause; line = refl; stays = p.stays }));
  report = r;
  kept = λ h. (silent h, p.stays);
  quiet = λ told steady fine fits. (p.quiet told steady fine).0;
}

-- ---- written, or broken off

abbrev plug_wrote : (c : PlugCommand) (p : Ready) (s : FilesState) → IsPlugReady c s p → PlugWrote c s
plug_wrote c p s r = record { policy = r.policy; has_policy = r.has_policy; has_pair = r.has_pair; has_trees = r.has_trees; bytes = written_by p; output = r.output }

-- all was accepted
done_is_due : (c : PlugCommand) (s : FilesState) (w : PlugWrote c s) → s.told ≡ true → IsPlugDue s.held c Done
done_is_due c s w told = inr (w.policy, policy_file c.policy s w.policy w.has_policy told, inr (are_pair c.first c.second s w.has_pair told, w.has_trees.taken told Done))

module _ (c : PlugCommand) (p : Ready) (s t u : FilesState) (k l : SinkState) (result : Status) (q : PlansPlug c s t (Ok p)) (f : Finishes c.out p t u k l result) where
  abbrev wrote : PlugWrote c s
  wrote = plug_wrote c p s q.ready

  told_t : s.told ≡ true → t.told ≡ true
  told_t told = q.goes.told ∙ told

  quiet_all : s.told ≡ true → s.steady ≡ true → NoPlugFileDue s.held c → (IsPlugDue s.held c Done → PlugFits s.held c (length (written_by p))) → u.faults ≡ s.faults
  quiet_all told steady fine fits =
      let room : PlugFits s.held c (length (written_by p)) = fits (done_is_due c s wrote told) in
      let place : no_place t.held c.out ≡ false = subst (λ (h : Held). no_place h c.out ≡ false) (sym q.stays) room.0 in
      let short : length (written_by p) ≤ t.held.room c.out = subst (λ (h : Held). length (written_by p) ≤ h.room c.out) (sym q.stays) room.1 in
      f.quiet (told_t told) (q.goes.steady steady) place short ∙ (q.quiet told steady fine).0

  pub plug_finished : PlugRan c s u k l result
  plug_finished = elim f.end [
    | inl w ↦ record {
      goes = goes_on s t u q.goes f.goes;
      due = Done;
      text = string_bytes p.done_line;
      end = inl (record {
        done = refl;
        wrote = wrote;
        line = q.ready.done_line;
        written = λ told. held_then s t u c.out (written_by p) (written_by p) q.stays (w.0 (told_t told)) refl;
      });
      report = inl w.1;
      kept = λ h. absurd (not_silent Done (string_bytes p.done_line) k l result done_is_loud w.1 h);
      quiet = quiet_all;
    }
    | inr w ↦
        let puts : Puts (FileFault c.out) (status_text (FileFault c.out)) k l result =
        subst (λ (z : List ℕ). Puts (FileFault c.out) z k l result) q.ready.fault_line (subst (λ (d : Status). Puts d (string_bytes p.fault_line) k l result) q.ready.fault w.2) in
        record {
          goes = goes_on s t u q.goes f.goes;
          due = FileFault c.out;
          text = status_text (FileFault c.out);
          end = inr (inl (record {
            fault = refl;
            wrote = wrote;
            line = refl;
            cause = omega (arith, q.goes.later, w.0);
            left = λ told. left_then s t u c.out (written_by p) (written_by p) q.stays (w.1 (told_t told)) refl;
          }));
          report = inl puts;
          kept = λ h. absurd (not_silent (FileFault c.out) (status_text (FileFault c.out)) k l result (fault_is_loud c.out) puts h);
          quiet = quiet_all;
        }
  ]

-- no memory for the words

pub plug_memory : (c : PlugCommand) (s : FilesState) (k : SinkState) → PlugRan c s s k k NoMemory
plug_memory c s k = record {
  goes = record { later = omega arith; told = refl; steady = λ h. h };
  due = NoMemory;
  text = [];
  end = inr (inr (record { cause = inl refl; line = refl; stays = refl }));
  report = inr (refl, refl);
  kept = λ h. (refl, refl);
  quiet = λ told steady fine fits. refl;
}

-- ---- what follows: the status that the contents call for

module _ (s t : FilesState) (told : s.told ≡ true) (files : ¬ (Rose s.faults t.faults)) where
  long_part : (bytes : List ℕ) (value : ℕ) → bytes_limit Virt < value → length bytes ≡ value → IsTooLarge bytes (refusals.OverLimit (bytes_name Virt) value)
  long_part bytes value over is = inl (refl, omega (arith, over, is), sym is)

  part_due : (name : List ℕ) (status : Status) → PartCause name s t status → IsPartVerdict s.held name status ⊎ (status ≡ NoMemory)
  part_due name status h =
      subst (λ (x : Status). IsPartVerdict s.held name x ⊎ (x ≡ NoMemory)) (sym h.2) (file_due s t told (inr files) name (bytes_name Virt) (bytes_limit Virt) IsTooLarge h.0 long_part h.1)

  pair_due : (first second : List ℕ) (status : Status) → PairCause first second s t status → IsPairVerdict s.held first second status ⊎ (status ≡ NoMemory)
  pair_due first second status (inl none) = inr none
  pair_due first second status (inr (inl h)) = elim (part_due first status h) [ inl v ↦ inl (inl v) | inr none ↦ inr none ]
  pair_due first second status (inr (inr (inl h))) = elim (part_due second status h.2) [
    | inl v ↦ inl (inr (inl (h.0, read_file first s h.0 h.1 told, v)))
    | inr none ↦ inr none
  ]
  pair_due first second status (inr (inr (inr h))) = inl (inr (inr (record {
    a = h.a;
    b = h.b;
    first_file = read_file first s h.a h.first_read told;
    second_file = read_file second s h.b h.second_read told;
    fault = h.fault;
    refuses = h.refuses;
    told = h.told;
  })))

  plug_due : (c : PlugCommand) (status : Status) → PlugCause c s t status → IsPlugDue s.held c status ⊎ (status ≡ NoMemory)
  plug_due c status (inl none) = inr none
  plug_due c status (inr (inl h)) = elim (policy_due s t told (inr files) c.policy status h) [ inl v ↦ inl (inl v) | inr none ↦ inr none ]
  plug_due c status (inr (inr (policy, has, inl h))) = elim (pair_due c.first c.second status h) [
    | inl v ↦ inl (inr (policy, policy_file c.policy s policy has told, inl v))
    | inr none ↦ inr none
  ]
  plug_due c status (inr (inr (policy, has, inr (pair, h)))) = elim (trees_are_due s t told (inr files) policy status h) [
    | inl v ↦ inl (inr (policy, policy_file c.policy s policy has told, inr (are_pair c.first c.second s pair told, v Done)))
    | inr none ↦ inr none
  ]

  end_due : (c : PlugCommand) (due : Status) (text : List ℕ) → PlugEnd c s t due text → IsPlugDue s.held c due ⊎ (due ≡ NoMemory)
  end_due c due text (inl d) = inl (subst (λ (x : Status). IsPlugDue s.held c x) (sym d.done) (done_is_due c s d.wrote told))
  end_due c due text (inr (inl d)) = absurd (files d.cause)
  end_due c due text (inr (inr d)) = plug_due c due d.cause

put_so : (held : Held) (c : PlugCommand) (due result : Status) → IsPlugDue held c due ⊎ (due ≡ NoMemory) → (result ≡ due) ⊎ (result ≡ NoMemory) → IsPlugDue held c result ⊎ (result ≡ NoMemory)
put_so held c due result (inl d) (inl is) = inl (subst (λ (x : Status). IsPlugDue held c x) (sym is) d)
put_so held c due result (inr none) (inl is) = inr (is ∙ none)
put_so held c due result d (inr none) = inr none

pub plug_completes : (c : PlugCommand) (s t : FilesState) (k l : SinkState) (result : Status) → PlugRan c s t k l result → PlugCompletes c s t k l result
plug_completes c s t k l result r told files sink = put_so s.held c r.due result (end_due s t told files c r.due r.text r.end) (put_of r.due r.text k l result r.report sink)

pub plug_accepts : (c : PlugCommand) (s t : FilesState) (k l : SinkState) (result : Status) → PlugRan c s t k l result → PlugAccepts c s t k l result
plug_accepts c s t k l result r told accepted files sink = elim (plug_completes c s t k l result r told files sink) [
  | inl due ↦ inl (one_plug_status s.held c result Done due (accepted_is_due s.held c accepted))
  | inr none ↦ inr none
]

-- ---- what Done says

file_not_done : (name : List ℕ) → Done ≡ FileFault name → ⊥
file_not_done name e = cc

memory_not_done : Done ≡ NoMemory → ⊥
memory_not_done e = cc

refused_not_done : (fault : PlugFault) → Done ≡ PlugRefused fault → ⊥
refused_not_done fault e = cc

unready_not_done : (why : Unready) → Done ≡ unready_as why → ⊥
unready_not_done (Faulted name) e = cc
unready_not_done (Refused (refusals.Refused fault)) e = cc
unready_not_done (Refused (refusals.OverLimit what value)) e = cc
unready_not_done (Refused (refusals.BadScript path)) e = cc
unready_not_done (Refused refusals.NoMemory) e = cc

pair_not_done : (first second : List ℕ) (s t : FilesState) → PairCause first second s t Done → ⊥
pair_not_done first second s t (inl none) = memory_not_done none
pair_not_done first second s t (inr (inl h)) = unready_not_done h.0 h.2
pair_not_done first second s t (inr (inr (inl h))) = unready_not_done h.2.0 h.2.2
pair_not_done first second s t (inr (inr (inr h))) = refused_not_done h.fault h.told

cause_not_done : (c : PlugCommand) (s t : FilesState) → PlugCause c s t Done → ⊥
cause_not_done c s t (inl none) = memory_not_done none
cause_not_done c s t (inr (inl h)) = h
cause_not_done c s t (inr (inr (policy, has, inl h))) = pair_not_done c.first c.second s t h
cause_not_done c s t (inr (inr (policy, has, inr (pair, h)))) = h

delivers_by : (c : PlugCommand) (s t : FilesState) (due : Status) (text : List ℕ) → PlugEnd c s t due text → due ≡ Done → s.told ≡ true → PlugDelivers c s t
delivers_by c s t due text (inl d) e told =
    let w = d.wrote in
    record {
      accepted = record {
        policy = w.policy;
        policy_file = policy_file c.policy s w.policy w.has_policy told;
        components = are_pair c.first c.second s w.has_pair told;
        forest = w.has_trees.forest;
        trees = w.has_trees.made told;
      };
      bytes = w.bytes;
      output = w.output;
      written = d.written told;
    }
delivers_by c s t due text (inr (inl d)) e told = absurd (file_not_done c.out (sym e ∙ d.fault))
delivers_by c s t due text (inr (inr d)) e told = absurd (cause_not_done c s t (subst (λ (x : Status). PlugCause c s t x) e d.cause))

pub plug_delivers : (c : PlugCommand) (s t : FilesState) (k l : SinkState) (result : Status) → PlugRan c s t k l result → s.told ≡ true → result ≡ Done → PlugDelivers c s t
plug_delivers c s t k l result r told e = delivers_by c s t r.due r.text r.end (due_of_done r.due r.text k l result r.report e) told
