-- A whole call, by what its parts did.
use Rattle.std.proofs.Common.{◌≡◌, ◌≢◌, ℕ, ◌≤◌, List, [], length, true, false, refl, sym, ap, subst, ◌∙◌, inl, inr, arith, Ok, Err, string_bytes}
use Rattle.std.specs.Prelude.{◌⊎◌, Option, Some, None, Result}
use Rattle.outside.specs.Fault.{Rose}
use Rattle.outside.specs.Files.{FilesState, Held, with_file, no_place}
use Rattle.outside.specs.Sink.{SinkState}
use Rattle.comp_types.specs.Added.{type_of}
use Rattle.virt_engine.specs.declared.plan.Ready.{Ready}
use Rattle.virt_engine.specs.declared.status.Status.{Status}
use Rattle.virt_engine.specs.declared.status.Status.TheVariants.{Done, PolicyRefused, AppRefused, FileFault, SinkFault, OverLimit, NoMemory, ScriptRefused, Trapped, ScriptEnded, StepsSpent, BadAnswer, TooDeep, Usage, PlugRefused}
use Rattle.virt_engine.specs.Command.{Command, command_of}
use Rattle.virt_engine.specs.Line.{status_text}
use Rattle.virt_engine.specs.Parts.{written_by}
use Rattle.virt_engine.specs.Report.{Puts, Reports}
use Rattle.virt_engine.specs.Writing.{LeftOf}
use Rattle.virt_engine.specs.PolicyTrees.{with_trees, trees_verdict}
use Rattle.virt_engine.specs.Plan.{IsDueUnder, IsDueOf, IsDueFor, IsDue, IsAccepted, NoFileDue, Plans, IsReady, RefusalOf, Wrote, DueOf, HasRoom, FilesQuiet, Finishes, Ran, RanCommand, Completes, Accepts, Delivers}
use Rattle.policy_data.specs.declared.policy.Policy.{Policy}
use Rattle.mount_tree.specs.declared.forest.Forest.{Forest}
use Rattle.mount_tree.specs.declared.fault.TreeFault.{TreeFault}
use Rattle.virt_engine.proofs.PolicyLaws.{policy_stands, one_policy}
use Rattle.virt_engine.proofs.Outputs.{entries_end}
use Rattle.virt_engine.proofs.StatusLaws.{app_stands}
use Rattle.virt_engine.proofs.Adding.{goes_on}

-- ---- what is due of words that name a command

due_named : (held : Held) (words : List (List ℕ)) (c : Command) (status : Status) → command_of words ≡ Some c → IsDueOf held c status → IsDue held words status
due_named held words c status named h = subst (λ (o : Option Command). IsDueFor held o status) (sym named) h

no_fault_of : (held : Held) (words : List (List ℕ)) (c : Command) → command_of words ≡ Some c → ((name : List ℕ) → ¬ (IsDue held words (FileFault name))) → NoFileDue held c
no_fault_of held words c named none = λ name h. none name (due_named held words c (FileFault name) named h)

-- ---- refused before any write

due_of_refusal : (c : Command) (words : List (List ℕ)) (s t : FilesState) (e : Status) → command_of words ≡ Some c → t.held ≡ s.held → RefusalOf c s t e → DueOf words s t e (status_text e)
due_of_refusal c words s t (FileFault kept) named stays r = (c, named, refl, r.0, inl (stays, r.1))
due_of_refusal c words s t NoMemory named stays r = (stays, refl)
due_of_refusal c words s t (OverLimit what value) named stays r = (stays, refl, (c, named, r.0), λ told. due_named s.held words c (OverLimit what value) named (r.1 told))
due_of_refusal c words s t (PolicyRefused fault) named stays r = (stays, refl, (c, named, r.0), λ told. due_named s.held words c (PolicyRefused fault) named (r.1 told))
due_of_refusal c words s t (AppRefused fault) named stays r = (stays, refl, (c, named, r.0), λ told. due_named s.held words c (AppRefused fault) named (r.1 told))
due_of_refusal c words s t Done named stays r = absurd r
due_of_refusal c words s t SinkFault named stays r = absurd r
due_of_refusal c words s t (ScriptRefused path) named stays r = absurd r
due_of_refusal c words s t (PlugRefused fault) named stays r = absurd r
due_of_refusal c words s t Trapped named stays r = absurd r
due_of_refusal c words s t ScriptEnded named stays r = absurd r
due_of_refusal c words s t StepsSpent named stays r = absurd r
due_of_refusal c words s t BadAnswer named stays r = absurd r
due_of_refusal c words s t TooDeep named stays r = absurd r
due_of_refusal c words s t Usage named stays r = absurd r

pub ran_refuse : (c : Command) (e : Status) (s t : FilesState) (k l : SinkState) (result : Status) → Plans c s t (Err e) → Reports e (status_text e) k l result → (result ≡ NoMemory → l ≡ k) → RanCommand c s t k l result
ran_refuse c e s t k l result p r silent words named = record {
  goes = p.goes;
  due = e;
  text = status_text e;
  files = due_of_refusal c words s t e named p.stays p.refusal;
  report = r;
  kept = λ h. (silent h, p.stays);
  quiet = λ told steady none fits. (p.quiet told steady (no_fault_of s.held words c named none)).0;
}

-- ---- written, or broken off

abbrev wrote_of : (c : Command) (p : Ready) (s : FilesState) → IsReady c s p → Wrote c s
wrote_of c p s r = record {
  policy = r.policy;
  has_policy = r.has_policy;
  app = r.app;
  has_app = r.has_app;
  has_trees = r.has_trees;
  bytes = written_by p;
  output = r.output;
}

-- all was accepted
done_is_due : (c : Command) (s : FilesState) (w : Wrote c s) → s.told ≡ true → IsDueOf s.held c Done
done_is_due c s w told =
    inr (
      w.policy,
      record { text = w.has_policy.text; there = w.has_policy.there told; short = w.has_policy.short; well_formed = w.has_policy.well_formed },
      inr (w.app, record { there = w.has_app.there told; short = w.has_app.short; tree = w.has_app.tree; uses = w.has_app.uses; application = w.has_app.application }, w.has_trees.taken told Done),
    )

pub not_silent : (due : Status) (text : List ℕ) (k l : SinkState) (result : Status) → due ≢ NoMemory → Puts due text k l result → result ≡ NoMemory → ⊥
not_silent due text k l result loud p e = elim p.put [
  | inl w ↦ loud (sym w.status ∙ e)
  | inr b ↦ fault_is_not (sym b.status ∙ e)
]
  where
    fault_is_not : SinkFault ≡ NoMemory → ⊥
    fault_is_not h = cc

pub done_is_loud : Done ≢ NoMemory
done_is_loud h = cc

pub fault_is_loud : (name : List ℕ) → FileFault name ≢ NoMemory
fault_is_loud name h = cc

pub held_then : (s t u : FilesState) (name bytes other : List ℕ) → t.held ≡ s.held → u.held ≡ with_file t.held name (Some bytes) → bytes ≡ other → u.held ≡ with_file s.held name (Some other)
held_then s t u name bytes other stays e same = e ∙ ap (λ (h : Held). with_file h name (Some bytes)) stays ∙ ap (λ (z : List ℕ). with_file s.held name (Some z)) same

pub left_then : (s t u : FilesState) (name bytes other : List ℕ) → t.held ≡ s.held → LeftOf name bytes t.held u.held → bytes ≡ other → LeftOf name other s.held u.held
left_then s t u name bytes other stays left same = subst (λ (h : Held). LeftOf name other h u.held) stays (subst (λ (z : List ℕ). LeftOf name z t.held u.held) same left)

-- what is written has room
written_fits : (held : Held) (c : Command) (p : Ready) (s : FilesState) (r : IsReady c s p) → HasRoom held c.out r.app r.has_app.tree (length (written_by p)) → length (written_by p) ≤ held.room c.out
written_fits held c p s r room = elim (entries_end (type_of r.has_app.tree).imports) [
  | inl none ↦ subst (λ (z : List ℕ). length z ≤ held.room c.out) (sym (r.bytes none)) (room.alone none)
  | inr some ↦ room.beside some
]

pub ran_finish : (c : Command) (p : Ready) (s t u : FilesState) (k l : SinkState) (result : Status) → Plans c s t (Ok p) → Finishes c.out p t u k l result → RanCommand c s u k l result
ran_finish c p s t u k l result q f words named =
    let ready : IsReady c s p = q.ready in
    let wrote = wrote_of c p s ready in
    let told_t = λ (told : s.told ≡ true). q.goes.told ∙ told in
    let quiet : FilesQuiet words s u (length (written_by p)) = λ told steady none fits.
    let room = fits c named (done_is_due c s wrote told) in
    let first = (q.quiet told steady (no_fault_of s.held words c named none)).0 in
    let place : no_place t.held c.out ≡ false = subst (λ (h : Held). no_place h c.out ≡ false) (sym q.stays) room.0 in
    let short : length (written_by p) ≤ s.held.room c.out =
    written_fits s.held c p s ready (room.1 ready.app (ready.has_app.there told) ready.has_app.tree ready.has_app.uses ready.has_app.application) in
    let fitting : length (written_by p) ≤ t.held.room c.out = subst (λ (h : Held). length (written_by p) ≤ h.room c.out) (sym q.stays) short in
    f.quiet (told_t told) (q.goes.steady steady) place fitting ∙ first in
    elim f.end [
      | inl w ↦ record {
        goes = goes_on s t u q.goes f.goes;
        due = Done;
        text = string_bytes p.done_line;
        files = (c, named, (wrote, ready.done_line, λ told. held_then s t u c.out (written_by p) (written_by p) q.stays (w.0 (told_t told)) refl));
        report = inl w.1;
        kept = λ h. absurd (not_silent Done (string_bytes p.done_line) k l result done_is_loud w.1 h);
        quiet = quiet;
      }
      | inr w ↦
          let puts : Puts (FileFault c.out) (status_text (FileFault c.out)) k l result =
          subst (λ (z : List ℕ). Puts (FileFault c.out) z k l result) ready.fault_line (subst (λ (d : Status). Puts d (string_bytes p.fault_line) k l result) ready.fault w.2) in
          record {
            goes = goes_on s t u q.goes f.goes;
            due = FileFault c.out;
            text = status_text (FileFault c.out);
            files = (c, named, refl, omega (arith, q.goes.later, w.0), inr (refl, (wrote, λ told. left_then s t u c.out (written_by p) (written_by p) q.stays (w.1 (told_t told)) refl)));
            report = inl puts;
            kept = λ h. absurd (not_silent (FileFault c.out) (status_text (FileFault c.out)) k l result (fault_is_loud c.out) puts h);
            quiet = quiet;
          }
    ]

-- no command

pub ran_usage : (words : List (List ℕ)) (s : FilesState) (k l : SinkState) (result : Status) → command_of words ≡ None → Reports Usage (status_text Usage) k l result → (result ≡ NoMemory → l ≡ k) → Ran words s s k l result
ran_usage words s k l result none r silent = record {
  goes = record { later = omega arith; told = refl; steady = λ h. h };
  due = Usage;
  text = status_text Usage;
  files = (refl, refl, none);
  report = r;
  kept = λ h. (silent h, refl);
  quiet = λ told steady no fits. refl;
}

-- no memory for the words

pub ran_memory : (words : List (List ℕ)) (s : FilesState) (k : SinkState) → Ran words s s k k NoMemory
ran_memory words s k = record {
  goes = record { later = omega arith; told = refl; steady = λ h. h };
  due = NoMemory;
  text = [];
  files = (refl, refl);
  report = inr (refl, refl);
  kept = λ h. (refl, refl);
  quiet = λ told steady no fits. refl;
}

-- ---- what follows: the status that the contents call for

pub put_of : (due : Status) (text : List ℕ) (k l : SinkState) (result : Status) → Reports due text k l result → ¬ (Rose k.faults l.faults) → (result ≡ due) ⊎ (result ≡ NoMemory)
put_of due text k l result r quiet = elim r [
  | inl p ↦ elim p.put [ inl w ↦ inl w.status | inr b ↦ absurd (quiet b.cause) ]
  | inr n ↦ inr n.0
]

-- what was due is due of the result, unless memory ran out
then : (result due : Status) (held : Held) (words : List (List ℕ)) → IsDue held words due → (result ≡ due) ⊎ (result ≡ NoMemory) → IsDue held words result ⊎ (result ≡ NoMemory)
then result due held words h w = elim w [ inl a ↦ inl (subst (λ (status : Status). IsDue held words status) (sym a) h) | inr b ↦ inr b ]

none_left : (result : Status) (P : Type 0) → (result ≡ NoMemory) ⊎ (result ≡ NoMemory) → P ⊎ (result ≡ NoMemory)
none_left result P w = elim w [ inl a ↦ inr a | inr b ↦ inr b ]

by_due : (due : Status) (text : List ℕ) (words : List (List ℕ)) (s t : FilesState) (k l : SinkState) (result : Status)
    → DueOf words s t due text → Reports due text k l result → Completes words s t k l result
by_due Done text words s t k l result d r told files sink = then result Done s.held words (due_named s.held words d.0 Done d.1 (done_is_due d.0 s d.2.0 told)) (put_of Done text k l result r sink)
by_due (FileFault name) text words s t k l result d r told files sink = absurd (files d.3)
by_due NoMemory text words s t k l result d r told files sink = none_left result (IsDue s.held words result) (put_of NoMemory text k l result r sink)
by_due (OverLimit what value) text words s t k l result d r told files sink = then result (OverLimit what value) s.held words (d.3 told) (put_of (OverLimit what value) text k l result r sink)
by_due (PolicyRefused fault) text words s t k l result d r told files sink = then result (PolicyRefused fault) s.held words (d.3 told) (put_of (PolicyRefused fault) text k l result r sink)
by_due (AppRefused fault) text words s t k l result d r told files sink = then result (AppRefused fault) s.held words (d.3 told) (put_of (AppRefused fault) text k l result r sink)
by_due Usage text words s t k l result d r told files sink = then result Usage s.held words (subst (λ (o : Option Command). IsDueFor s.held o Usage) (sym d.2) refl) (put_of Usage text k l result r sink)
by_due SinkFault text words s t k l result d r told files sink = absurd d
by_due (ScriptRefused path) text words s t k l result d r told files sink = absurd d
by_due (PlugRefused fault) text words s t k l result d r told files sink = absurd d
by_due Trapped text words s t k l result d r told files sink = absurd d
by_due ScriptEnded text words s t k l result d r told files sink = absurd d
by_due StepsSpent text words s t k l result d r told files sink = absurd d
by_due BadAnswer text words s t k l result d r told files sink = absurd d
by_due TooDeep text words s t k l result d r told files sink = absurd d

pub completes : (words : List (List ℕ)) (s t : FilesState) (k l : SinkState) (result : Status) → Ran words s t k l result → Completes words s t k l result
completes words s t k l result r = by_due r.due r.text words s t k l result r.files r.report

-- ---- a call that is to be accepted

accepted_under : (held : Held) (words : List (List ℕ)) (a : IsAccepted held words) (policy : Policy) (status : Status) → a.policy ≡ policy → IsDueUnder held a.command policy status → status ≡ Done
accepted_under held words a policy status same h = elim h [
  | inl r ↦ absurd (app_stands held a.command.app a.app status a.app_file r)
  | inr w ↦ sym w.2 ∙ ap (λ (p : Policy). trees_verdict held p Done) (sym same) ∙ ap (λ (r : Result Forest TreeFault). with_trees r Done) a.trees
]

accepted_of : (held : Held) (words : List (List ℕ)) (a : IsAccepted held words) (status : Status) → IsDueOf held a.command status → status ≡ Done
accepted_of held words a status h = elim h [
  | inl r ↦ absurd (policy_stands held a.command.policy a.policy status a.policy_file r)
  | inr w ↦ accepted_under held words a w.0 status (one_policy held a.command.policy a.policy w.0 a.policy_file w.1) w.2
]

accepted_due : (held : Held) (words : List (List ℕ)) → IsAccepted held words → (status : Status) → IsDue held words status → status ≡ Done
accepted_due held words a status h = accepted_of held words a status (subst (λ (o : Option Command). IsDueFor held o status) a.named h)

pub accepts : (words : List (List ℕ)) (s t : FilesState) (k l : SinkState) (result : Status) → Ran words s t k l result → Accepts words s t k l result
accepts words s t k l result r told a files sink = elim (completes words s t k l result r told files sink) [
  | inl due ↦ inl (accepted_due s.held words a result due)
  | inr none ↦ inr none
]

-- ---- what Done says

delivers_by : (due : Status) (text : List ℕ) (words : List (List ℕ)) (s t : FilesState) → DueOf words s t due text → due ≡ Done → s.told ≡ true → Delivers words s t
delivers_by Done text words s t d e told =
    let w = d.2.0 in
    record {
      accepted = record {
        command = d.0;
        named = d.1;
        policy = w.policy;
        policy_file = record { text = w.has_policy.text; there = w.has_policy.there told; short = w.has_policy.short; well_formed = w.has_policy.well_formed };
        app = w.app;
        app_file = record { there = w.has_app.there told; short = w.has_app.short; tree = w.has_app.tree; uses = w.has_app.uses; application = w.has_app.application };
        forest = w.has_trees.forest;
        trees = w.has_trees.made told;
      };
      bytes = w.bytes;
      output = w.output;
      written = d.2.2 told;
    }
delivers_by (FileFault name) text words s t d e told = absurd cc
delivers_by NoMemory text words s t d e told = absurd cc
delivers_by (OverLimit what value) text words s t d e told = absurd cc
delivers_by (PolicyRefused fault) text words s t d e told = absurd cc
delivers_by (AppRefused fault) text words s t d e told = absurd cc
delivers_by Usage text words s t d e told = absurd cc
delivers_by SinkFault text words s t d e told = absurd cc
delivers_by (ScriptRefused path) text words s t d e told = absurd cc
delivers_by (PlugRefused fault) text words s t d e told = absurd cc
delivers_by Trapped text words s t d e told = absurd cc
delivers_by ScriptEnded text words s t d e told = absurd cc
delivers_by StepsSpent text words s t d e told = absurd cc
delivers_by BadAnswer text words s t d e told = absurd cc
delivers_by TooDeep text words s t d e told = absurd cc

fault_not_done : SinkFault ≡ Done → ⊥
fault_not_done h = cc

memory_not_done : NoMemory ≡ Done → ⊥
memory_not_done h = cc

pub due_of_done : (due : Status) (text : List ℕ) (k l : SinkState) (result : Status) → Reports due text k l result → result ≡ Done → due ≡ Done
due_of_done due text k l result r e = elim r [
  | inl p ↦ elim p.put [ inl w ↦ sym w.status ∙ e | inr b ↦ absurd (fault_not_done (sym b.status ∙ e)) ]
  | inr n ↦ absurd (memory_not_done (sym n.0 ∙ e))
]

pub delivers : (words : List (List ℕ)) (s t : FilesState) (k l : SinkState) (result : Status) → Ran words s t k l result → s.told ≡ true → result ≡ Done → Delivers words s t
delivers words s t k l result r told e = delivers_by r.due r.text words s t r.files (due_of_done r.due r.text k l result r.report e) told
