-- What reading all that a call needs comes to, from what its parts did.
use Rattle.std.proofs.Common.{◌≡◌, ◌∙◌, refl, sym, ap, subst, ℕ, List, length, true, inl, inr, Ok, Err}
use Rattle.std.specs.Prelude.{Option, Some, None, IsSome, Contains, Result, codes}
use Rattle.outside.specs.Files.{FilesState, Held, Goes}
use Rattle.outside.proofs.FailingLaws.{Rose-before}
use Rattle.policy_data.specs.declared.policy.Policy.{Policy}
use Rattle.mount_tree.specs.Building.{trees_due}
use Rattle.tree_table.specs.declared.entries.NamedTree.{NamedTree}
use Rattle.component_judge.specs.declared.inputs.Fetched.{Fetched}
use Rattle.comp_grammar.specs.Trees.{plain}
use Rattle.component_judge.specs.Applications.{IsApplicationRefusal}
use Rattle.component_judge.specs.declared.limits.Purpose.TheVariants.{Virt}
use Rattle.component_judge.specs.Inputs.{HasWrapped}
use Rattle.virt_engine.specs.declared.plan.Ready.{Ready}
use Rattle.virt_engine.specs.declared.status.Status.{Status}
use Rattle.virt_engine.specs.declared.status.Status.TheVariants.{Done, PolicyRefused, AppRefused, FileFault, SinkFault, OverLimit, NoMemory, ScriptRefused, Trapped, ScriptEnded, StepsSpent, BadAnswer, TooDeep, Usage, PlugRefused}
use Rattle.virt_engine.specs.Command.{Command}
use Rattle.virt_engine.specs.Fetching.{with_input, IsFileFault}
use Rattle.virt_engine.specs.Policies.{policy_limit, policy_due, with_policy, IsPolicyVerdict, IsPolicyFile, HasPolicy, PolicyCause, FetchesPolicy}
use Rattle.virt_engine.specs.Apps.{IsAppVerdict, IsAppFile, HasApp, HasRefused, AppCause, FetchesApp}
use Rattle.virt_engine.specs.RunDue.{IsVerdictBy}
use Rattle.virt_engine.specs.PolicyTrees.{trees_verdict, HasTrees, TreesCause, MakesTrees}
use Rattle.virt_engine.specs.Line.{done_text}
use Rattle.virt_engine.specs.Parts.{Prepares, written_by}
use Rattle.virt_engine.specs.Plan.{IsDueUnder, IsDueOf, NoFileDue, RefusalOf, Plans}
use Rattle.virt_engine.proofs.Outputs.{bytes_alone, prepared}
use Rattle.virt_engine.proofs.Adding.{goes_on}

-- ---- files that are due

pub fault_named : (status : Status) → IsFileFault status → (name : List ℕ) × (status ≡ FileFault name)
fault_named (FileFault name) h = (name, refl)
fault_named Done h = absurd h
fault_named (PolicyRefused fault) h = absurd h
fault_named (AppRefused fault) h = absurd h
fault_named SinkFault h = absurd h
fault_named (OverLimit what value) h = absurd h
fault_named NoMemory h = absurd h
fault_named (ScriptRefused path) h = absurd h
fault_named (PlugRefused fault) h = absurd h
fault_named Trapped h = absurd h
fault_named ScriptEnded h = absurd h
fault_named StepsSpent h = absurd h
fault_named BadAnswer h = absurd h
fault_named TooDeep h = absurd h
fault_named Usage h = absurd h

-- there, unless its absence is what is due
pub there : (file : Option (List ℕ)) → (file ≡ None → ⊥) → IsSome file
there None never = absurd (never refl)
there (Some bytes) never = refl

pub policy_absent : (held : Held) (name : List ℕ) → held.file name ≡ None → IsPolicyVerdict held name (FileFault name)
policy_absent held name none = λ next. ap (λ (file : Option (List ℕ)). with_input file (codes "policy-bytes") policy_limit name (λ text. with_policy (policy_due text) next)) none

module _ (c : Command) (s : FilesState) where
  policy_there : NoFileDue s.held c → IsSome (s.held.file c.policy)
  policy_there fine = there (s.held.file c.policy) (λ none. fine c.policy (inl (policy_absent s.held c.policy none)))

  -- ---- the policy is not there, or is refused

  module _ (t : FilesState) where
    refused_policy : (e : Status) → PolicyCause c.policy s t e → RefusalOf c s t e
    refused_policy (FileFault kept) h = (h.1, inl (h.0, h.2))
    refused_policy NoMemory h = tt
    refused_policy (OverLimit what value) h = (inl h.0, λ told. inl (h.1 told))
    refused_policy (PolicyRefused fault) h = (inl h.0, λ told. inl (h.1 told))
    refused_policy Done h = absurd h
    refused_policy (AppRefused fault) h = absurd h
    refused_policy SinkFault h = absurd h
    refused_policy (ScriptRefused path) h = absurd h
    refused_policy (PlugRefused fault) h = absurd h
    refused_policy Trapped h = absurd h
    refused_policy ScriptEnded h = absurd h
    refused_policy StepsSpent h = absurd h
    refused_policy BadAnswer h = absurd h
    refused_policy TooDeep h = absurd h
    refused_policy Usage h = absurd h

    pub plans_no_policy : (e : Status) → FetchesPolicy c.policy s t (Err e) → Plans c s t (Err e)
    plans_no_policy e f = record {
      goes = f.goes;
      stays = f.stays;
      ready = tt;
      refusal = refused_policy e f.cause;
      quiet = λ told steady fine. f.quiet told steady (policy_there fine);
    }

-- ---- after the policy

pub policy_file : (name : List ℕ) (s : FilesState) (policy : Policy) → HasPolicy name s policy → s.told ≡ true → IsPolicyFile s.held name policy
policy_file name s policy h told = record { text = h.text; there = h.there told; short = h.short; well_formed = h.well_formed }

app_file : (name : List ℕ) (s : FilesState) (bytes : List ℕ) → HasApp name s bytes → s.told ≡ true → IsAppFile s.held name bytes
app_file name s bytes h told = record { there = h.there told; short = h.short; tree = h.tree; uses = h.uses; application = h.application }

-- an application that was read
abbrev app_of : (name : List ℕ) (s : FilesState) (app : Fetched) → HasWrapped name s app → HasApp name s app.bytes.items
app_of name s app h = record { short = h.short; tree = plain app.application.judged.component; uses = app.application.listed.uses; application = h.judges.0; there = h.there }

-- what is known of contents that stayed was known before
abbrev app_before : (name : List ℕ) (s t : FilesState) (bytes : List ℕ) → t.held ≡ s.held → t.told ≡ s.told → HasApp name t bytes → HasApp name s bytes
app_before name s t bytes stays told h = record {
  short = h.short;
  tree = h.tree;
  uses = h.uses;
  application = h.application;
  there = λ yes. subst (λ (held : Held). held.file name ≡ Some bytes) stays (h.there (told ∙ yes));
}

refused_before : (name : List ℕ) (s t : FilesState) (status : Status) → t.held ≡ s.held → t.told ≡ s.told → HasRefused name t status → HasRefused name s status
refused_before name s t status stays told h = record {
  bytes = h.bytes;
  refused = h.refused;
  there = λ yes. subst (λ (held : Held). held.file name ≡ Some h.bytes) stays (h.there (told ∙ yes));
}

-- a refusal of the file's bytes is what the file calls for
refused_here : (name : List ℕ) (s : FilesState) (status : Status) → HasRefused name s status → s.told ≡ true → IsAppVerdict s.held name status
refused_here name s status h told = subst (λ (file : Option (List ℕ)). IsVerdictBy (IsApplicationRefusal Virt) file name status) (sym (h.there told)) h.refused

module _ (c : Command) (policy : Policy) (s t : FilesState) (p : FetchesPolicy c.policy s t (Ok policy)) where
  told_t : s.told ≡ true → t.told ≡ true
  told_t told = p.goes.told ∙ told

  -- what is due after the policy is due
  under : s.told ≡ true → (status : Status) → IsDueUnder s.held c policy status → IsDueOf s.held c status
  under told status h = inr (policy, policy_file c.policy s policy p.policy told, h)

  quiet_policy : s.told ≡ true → s.steady ≡ true → NoFileDue s.held c → t.faults ≡ s.faults
  quiet_policy told steady fine = (p.quiet told steady (policy_there c s fine)).0

  app_there : s.told ≡ true → NoFileDue s.held c → IsSome (t.held.file c.app)
  app_there told fine =
      there (t.held.file c.app) (λ none.
      fine c.app (under told (FileFault c.app) (inl (subst (λ (file : Option (List ℕ)). IsVerdictBy (IsApplicationRefusal Virt) file c.app (FileFault c.app)) (sym (subst (λ (held : Held). held.file c.app ≡ None) p.stays none)) refl))))

  module _ (u : FilesState) where
    refused_app : (e : Status) → AppCause c.app t u e → RefusalOf c s u e
    refused_app (FileFault kept) h = (
      Rose-before s.faults t.faults u.faults p.goes.later h.1,
      inr (inl (policy, p.policy, h.0, λ told steady. subst (λ (held : Held). held.file c.app ≡ None) p.stays (h.2 (told_t told) (p.goes.steady steady)))),
    )
    refused_app NoMemory h = tt
    refused_app (OverLimit what value) h =
        (inr (inl h.0), λ told. under told (OverLimit what value) (inl (subst (λ (held : Held). IsAppVerdict held c.app (OverLimit what value)) p.stays (h.1 (told_t told)))))
    refused_app (AppRefused fault) h =
        let before = refused_before c.app s t (AppRefused fault) p.stays p.goes.told h in
        (before, λ told. under told (AppRefused fault) (inl (refused_here c.app s (AppRefused fault) before told)))
    refused_app Done h = absurd h
    refused_app (PolicyRefused fault) h = absurd h
    refused_app SinkFault h = absurd h
    refused_app (ScriptRefused path) h = absurd h
    refused_app (PlugRefused fault) h = absurd h
    refused_app Trapped h = absurd h
    refused_app ScriptEnded h = absurd h
    refused_app StepsSpent h = absurd h
    refused_app BadAnswer h = absurd h
    refused_app TooDeep h = absurd h
    refused_app Usage h = absurd h

    pub plans_no_app : (e : Status) → FetchesApp c.app t u (Err e) → Plans c s u (Err e)
    plans_no_app e f = record {
      goes = goes_on s t u p.goes f.goes;
      stays = f.stays ∙ p.stays;
      ready = tt;
      refusal = refused_app e f.cause;
      quiet = λ told steady fine.
          let q = f.quiet (told_t told) (p.goes.steady steady) (app_there told fine) in
          (q.0 ∙ quiet_policy told steady fine, q.1);
    }

    -- ---- after the application

    module _ (app : Fetched) (f : FetchesApp c.app t u (Ok app)) (w : FilesState) where
      told_u : s.told ≡ true → u.told ≡ true
      told_u told = f.goes.told ∙ told_t told

      stays_u : u.held ≡ s.held
      stays_u = f.stays ∙ p.stays

      goes_u : Goes s u
      goes_u = goes_on s t u p.goes f.goes

      abbrev wrapped : HasWrapped c.app t app
      wrapped = f.app

      abbrev has_app : HasApp c.app s app.bytes.items
      has_app = app_before c.app s t app.bytes.items p.stays p.goes.told (app_of c.app t app wrapped)

      -- what the trees call for is due
      by_trees : s.told ≡ true → (status : Status) → trees_verdict u.held policy Done ≡ status → IsDueOf s.held c status
      by_trees told status e =
          under told status (inr (app.bytes.items, app_file c.app s app.bytes.items has_app told, subst (λ (held : Held). trees_verdict held policy Done ≡ status) stays_u e))

      quiet_app : s.told ≡ true → s.steady ≡ true → NoFileDue s.held c → u.faults ≡ s.faults
      quiet_app told steady fine = (f.quiet (told_t told) (p.goes.steady steady) (app_there told fine)).0 ∙ quiet_policy told steady fine

      fine_left : s.told ≡ true → NoFileDue s.held c → ¬ (IsFileFault (trees_verdict u.held policy Done))
      fine_left told fine h = let named = fault_named (trees_verdict u.held policy Done) h in fine named.0 (by_trees told (FileFault named.0) named.1)

      module _ (q : Result (List NamedTree) Status) (m : MakesTrees policy u w q) where
        quiet_trees : s.told ≡ true → s.steady ≡ true → NoFileDue s.held c → w.faults ≡ s.faults
        quiet_trees told steady fine = (m.quiet (told_u told) (goes_u.steady steady) (fine_left told fine)).0 ∙ quiet_app told steady fine

      refused_trees : (e : Status) → MakesTrees policy u w (Err e) → TreesCause policy u w e → RefusalOf c s w e
      refused_trees (FileFault kept) m h = (
        Rose-before s.faults u.faults w.faults goes_u.later h.0,
        inr (inr (policy, p.policy, (app.bytes.items, has_app, λ told. subst (λ (held : Held). Contains (trees_due held policy).asks kept) stays_u (h.1 (told_u told)), λ told steady. by_trees told (FileFault kept) (h.2 (told_u told) (goes_u.steady steady) Done)))),
      )
      refused_trees NoMemory m h = tt
      refused_trees (OverLimit what value) m h = (inr (inr h.0), λ told. by_trees told (OverLimit what value) (h.1 (told_u told) Done))
      refused_trees (PolicyRefused fault) m h = (inr (policy, p.policy, (app.bytes.items, has_app)), λ told. by_trees told (PolicyRefused fault) (h (told_u told) Done))
      refused_trees Done m h = absurd h
      refused_trees (AppRefused fault) m h = absurd h
      refused_trees SinkFault m h = absurd h
      refused_trees (ScriptRefused path) m h = absurd h
      refused_trees (PlugRefused fault) m h = absurd h
      refused_trees Trapped m h = absurd h
      refused_trees ScriptEnded m h = absurd h
      refused_trees StepsSpent m h = absurd h
      refused_trees BadAnswer m h = absurd h
      refused_trees TooDeep m h = absurd h
      refused_trees Usage m h = absurd h

      pub plans_no_trees : (e : Status) → MakesTrees policy u w (Err e) → Plans c s w (Err e)
      plans_no_trees e m = record {
        goes = goes_on s u w goes_u m.goes;
        stays = m.stays ∙ stays_u;
        ready = tt;
        refusal = refused_trees e m m.cause;
        quiet = λ told steady fine. (quiet_trees (Err e) m told steady fine, (m.quiet (told_u told) (goes_u.steady steady) (fine_left told fine)).1);
      }

      module _ (built : List NamedTree) (m : MakesTrees policy u w (Ok built)) where
        has_trees : HasTrees policy s
        has_trees = record {
          forest = m.trees.forest;
          made = λ told. subst (λ (held : Held). (trees_due held policy).answer ≡ Ok m.trees.forest) stays_u (m.trees.made (told_u told));
          taken = λ told. subst (λ (held : Held). (next : Status) → trees_verdict held policy next ≡ next) stays_u (m.trees.taken (told_u told));
        }

        pub plans_no_memory : Plans c s w (Err NoMemory)
        plans_no_memory = record {
          goes = goes_on s u w goes_u m.goes;
          stays = m.stays ∙ stays_u;
          ready = tt;
          refusal = tt;
          quiet = λ told steady fine. (quiet_trees (Ok built) m told steady fine, λ (b : ⊥). b);
        }

        pub plans_ready : (ready : Ready) → Prepares policy app c.out ready → Plans c s w (Ok ready)
        plans_ready ready m' =
            let output = prepared policy app wrapped.judges c.out ready m' in
            record {
              goes = goes_on s u w goes_u m.goes;
              stays = m.stays ∙ stays_u;
              ready = record {
                policy = policy;
                has_policy = p.policy;
                app = app.bytes.items;
                has_app = has_app;
                has_trees = has_trees;
                bytes = λ none. bytes_alone policy app wrapped.judges c.out ready m' none;
                output = output.0;
                done_line = m'.done_line ∙ ap (λ (n : ℕ). done_text (length app.bytes.items) (length (written_by ready)) n) output.1;
                fault = m'.fault;
                fault_line = m'.fault_line;
              };
              refusal = tt;
              quiet = λ told steady fine. (quiet_trees (Ok built) m told steady fine, tt);
            }

-- ---- an answer that is handed on

pub leaves : (c : Command) (s t : FilesState) (r : Result Ready Status) (e : Status) → r ≡ Err e → Plans c s t (Err e) → Plans c s t r
leaves c s t r e same p = subst (λ (x : Result Ready Status). Plans c s t x) (sym same) p
