-- What reading all that a run begins with comes to, from what its parts did.
use Rattle.std.proofs.Common.{◌≡◌, map, ◌∙◌, refl, sym, ap, subst, ℕ, List, true, inl, inr, Ok, Err}
use Rattle.std.specs.Prelude.{Option, Some, None, Contains, Result}
use Rattle.outside.specs.Files.{FilesState, Held, Goes}
use Rattle.outside.proofs.FailingLaws.{Rose-before}
use Rattle.policy_data.specs.declared.policy.Policy.{Policy}
use Rattle.tree_table.specs.declared.entries.NamedTree.{NamedTree}
use Rattle.mount_tree.specs.declared.fault.TreeFault.{TreeFault}
use Rattle.mount_tree.specs.declared.forest.Forest.{Forest}
use Rattle.mount_tree.specs.Building.{trees_due}
use Rattle.comp_types.specs.Items.{Entries, Signature}
use Rattle.comp_grammar.specs.Trees.{Tree, plain}
use Rattle.comp_types.specs.Added.{type_of}
use Rattle.comp_signature.specs.Signatures.{component_signature}
use Rattle.component_judge.specs.declared.script.Scripted.{Scripted}
use Rattle.host_script.specs.Script.{script_seen, due_script, json_in, item_seen, call_seen}
use Rattle.host_port.specs.Scripts as port
use Rattle.reference_step.specs.State.{opening}
use Rattle.reference_step.specs.Steps.{reference_step}
use Rattle.reference_host.specs.Hosts.{setup_for}
use Rattle.component_judge.specs.Callable.{callable}
use Rattle.component_judge.specs.Components.{IsRefusal, IsRunnable}
use Rattle.component_judge.specs.Applications.{IsApplicationRefusal}
use Rattle.component_judge.specs.declared.limits.Purpose.TheVariants.{Run}
use Rattle.component_judge.specs.declared.component.Judged.{Judged}
use Rattle.component_judge.specs.declared.unready.Unready.{Unready}
use Rattle.component_judge.specs.declared.inputs.Inputs.{Inputs}
use Rattle.component_judge.specs.declared.inputs.ListedInputs.{ListedInputs}
use Rattle.component_judge.specs.Inputs.{Fitting, IsListedBy, HasScript, AreListedReady, AreThere, FetchesInputs, FetchesListed}
use Rattle.component_judge.proofs.Both.{listed_earlier, ready_before}
use Rattle.virt_engine.specs.declared.runner.Shown.{Shown}
use Rattle.virt_engine.specs.declared.status.Status.{Status}
use Rattle.virt_engine.specs.declared.status.Status.TheVariants.{Done, PolicyRefused, AppRefused, FileFault, SinkFault, OverLimit, NoMemory, ScriptRefused, Trapped, ScriptEnded, StepsSpent, BadAnswer, TooDeep, Usage, PlugRefused}
use Rattle.virt_engine.specs.Command.{RunCommand}
use Rattle.virt_engine.specs.Fetching.{unready_as, IsFileFault}
use Rattle.virt_engine.specs.Policies.{FetchesPolicy}
use Rattle.virt_engine.specs.PolicyTrees.{with_trees, trees_verdict, IsTreesVerdict, HasTrees, AreTreesOf, TreesCause, MakesTrees}
use Rattle.virt_engine.specs.RunDue.{HoldsComponent, HoldsScript, Refusing, IsVerdictBy, AreInputsRefused, NoFileDueBy}
use Rattle.virt_engine.specs.Runs.{ShowsWhat, ShowsAlone, ShowsUnder}
use Rattle.virt_engine.specs.Shown.{IsShown, ShowsRun}
use Rattle.virt_engine.proofs.Adding.{goes_on}
use Rattle.virt_engine.proofs.Planning.{fault_named, there, policy_absent, policy_file}

-- ---- files that are due are there

abbrev NoInputDue : Refusing → Fitting → Held → RunCommand → Type 0
NoInputDue Refuses Fits held c = (name : List ℕ) → ¬ (AreInputsRefused Refuses Fits held c (FileFault name))

verdict_absent : (Refuses : Refusing) (file : Option (List ℕ)) (name : List ℕ) → file ≡ None → IsVerdictBy Refuses file name (FileFault name)
verdict_absent Refuses file name none = subst (λ (o : Option (List ℕ)). IsVerdictBy Refuses o name (FileFault name)) (sym none) refl

inputs_there : (Refuses : Refusing) (Fits : Fitting) (held : Held) (c : RunCommand) → NoInputDue Refuses Fits held c → AreThere Fits c.component c.script held
inputs_there Refuses Fits held c fine = record {
  first = there (held.file c.component) (λ none. fine c.component (inl (verdict_absent Refuses (held.file c.component) c.component none)));
  second = λ bytes tree here fits.
      there (held.file c.script)
      (λ none. fine c.script (inr (tree, record { bytes = bytes; there = here; fits = fits }, verdict_absent _ (held.file c.script) c.script none)));
}

-- ---- over a script alone

module _ (c : RunCommand) (s t : FilesState) where
  abbrev alone_quiet : (r : Result Inputs Unready) → FetchesInputs c.component c.script s t r → s.told ≡ true → s.steady ≡ true → NoFileDueBy s.held c None → t.faults ≡ s.faults
  alone_quiet r f told steady fine = (f.quiet told steady (inputs_there IsRefusal IsRunnable s.held c fine)).0

  pub alone_refused : (why : Unready) (r : Result Shown Status) → r ≡ Err (unready_as why) → FetchesInputs c.component c.script s t (Err why) → ShowsAlone c s t r
  alone_refused why r is f = subst (λ (x : Result Shown Status). ShowsAlone c s t x) (sym is) (record {
    goes = f.goes;
    stays = f.stays;
    begins = tt;
    ends = tt;
    cause = inr (why, f.cause, refl);
    quiet = alone_quiet (Err why) f;
  })

  pub alone_memory : (inputs : Inputs) (r : Result Shown Status) → r ≡ Err NoMemory → FetchesInputs c.component c.script s t (Ok inputs) → ShowsAlone c s t r
  alone_memory inputs r is f = subst (λ (x : Result Shown Status). ShowsAlone c s t x) (sym is) (record {
    goes = f.goes;
    stays = f.stays;
    begins = tt;
    ends = tt;
    cause = inl refl;
    quiet = alone_quiet (Ok inputs) f;
  })

  pub alone_shown : (inputs : Inputs) (shown : Shown) (f : FetchesInputs c.component c.script s t (Ok inputs)) → IsShown shown → ShowsWhat c None s (inputs, f.ready) shown → ShowsAlone c s t (Ok shown)
  alone_shown inputs shown f ends runs = record {
    goes = f.goes;
    stays = f.stays;
    begins = ((inputs, f.ready), runs);
    ends = ends;
    cause = tt;
    quiet = alone_quiet (Ok inputs) f;
  }

-- ---- under a policy

-- a fault of the trees is one whatever comes next
fault_first : (r : Result Forest TreeFault) (name : List ℕ) → with_trees r Done ≡ FileFault name → (next : Status) → with_trees r next ≡ FileFault name
fault_first (Ok forest) name h next = cc
fault_first (Err fault) name h next = h

-- why the trees could not be made of contents that stayed
pub trees_earlier : (policy : Policy) (s t u : FilesState) (e : Status) → Goes s t → t.held ≡ s.held → TreesCause policy t u e → TreesCause policy s u e
trees_earlier policy s t u (FileFault kept) goes stays h = (
  Rose-before s.faults t.faults u.faults goes.later h.0,
  λ told. subst (λ (held : Held). Contains (trees_due held policy).asks kept) stays (h.1 (goes.told ∙ told)),
  λ told steady. subst (λ (held : Held). IsTreesVerdict held policy (FileFault kept)) stays (h.2 (goes.told ∙ told) (goes.steady steady)),
)
trees_earlier policy s t u NoMemory goes stays h = tt
trees_earlier policy s t u (OverLimit what value) goes stays h = (h.0, λ told. subst (λ (held : Held). IsTreesVerdict held policy (OverLimit what value)) stays (h.1 (goes.told ∙ told)))
trees_earlier policy s t u (PolicyRefused fault) goes stays h = λ told. subst (λ (held : Held). IsTreesVerdict held policy (PolicyRefused fault)) stays (h (goes.told ∙ told))
trees_earlier policy s t u Done goes stays h = absurd h
trees_earlier policy s t u (AppRefused fault) goes stays h = absurd h
trees_earlier policy s t u SinkFault goes stays h = absurd h
trees_earlier policy s t u (ScriptRefused path) goes stays h = absurd h
trees_earlier policy s t u (PlugRefused fault) goes stays h = absurd h
trees_earlier policy s t u Trapped goes stays h = absurd h
trees_earlier policy s t u ScriptEnded goes stays h = absurd h
trees_earlier policy s t u StepsSpent goes stays h = absurd h
trees_earlier policy s t u BadAnswer goes stays h = absurd h
trees_earlier policy s t u TooDeep goes stays h = absurd h
trees_earlier policy s t u Usage goes stays h = absurd h

pub trees_before : (policy : Policy) (s t : FilesState) → Goes s t → t.held ≡ s.held → HasTrees policy t → HasTrees policy s
trees_before policy s t goes stays h = record {
  forest = h.forest;
  made = λ told. subst (λ (held : Held). (trees_due held policy).answer ≡ Ok h.forest) stays (h.made (goes.told ∙ told));
  taken = λ told. subst (λ (held : Held). (next : Status) → trees_verdict held policy next ≡ next) stays (h.taken (goes.told ∙ told));
}

made_before : (policy : Policy) (s t : FilesState) (trees : List NamedTree) → Goes s t → t.held ≡ s.held → AreTreesOf policy t trees → AreTreesOf policy s trees
made_before policy s t trees goes stays h = (h.0, λ told. subst (λ (held : Held). (trees_due held policy).answer ≡ Ok h.0) stays (h.1 (goes.told ∙ told)), h.2)

-- the script of a component that was judged, as the definition has it
abbrev pub script_held : (judged : Judged) (name : List ℕ) (s : FilesState) (scripted : Scripted) → component_signature judged.ty ≡ type_of (plain judged.component)
    → HasScript judged.ty.exports name s scripted → s.told ≡ true → HoldsScript s.held name (type_of (plain judged.component)).exports
script_held judged name s scripted same h told = record {
  bytes = h.bytes;
  there = h.there told;
  short = h.judges.0;
  script = script_seen scripted.script;
  due = subst (λ (exports : Entries). due_script (callable exports) (json_in h.bytes) ≡ Ok (script_seen scripted.script)) (ap (λ (sig : Signature). sig.exports) same) h.judges.1;
}

abbrev pub application_held : (name script : List ℕ) (s : FilesState) (l : ListedInputs) → AreListedReady name script s l → s.told ≡ true → HoldsComponent IsListedBy s.held name (plain l.inputs.judged.component)
application_held name script s l h told = record { bytes = h.application.bytes; there = h.application.there told; fits = (l.listed.uses, h.application.judges.0) }

module _ (c : RunCommand) (name : List ℕ) (s t : FilesState) where
  pub under_no_policy : (e : Status) (r : Result Shown Status) → r ≡ Err e → FetchesPolicy name s t (Err e) → ShowsUnder c name s t r
  under_no_policy e r is f = subst (λ (x : Result Shown Status). ShowsUnder c name s t x) (sym is) (record {
    goes = f.goes;
    stays = f.stays;
    begins = tt;
    ends = tt;
    cause = inr (inl f.cause);
    quiet = λ told steady fine. (f.quiet told steady (there (s.held.file name) (λ none. fine name (inl (policy_absent s.held name none))))).0;
  })

  -- ---- after the policy

  module _ (policy : Policy) (f : FetchesPolicy name s t (Ok policy)) (u : FilesState) where
    told_t : s.told ≡ true → t.told ≡ true
    told_t told = f.goes.told ∙ told

    quiet_policy : s.told ≡ true → s.steady ≡ true → NoFileDueBy s.held c (Some name) → t.faults ≡ s.faults
    quiet_policy told steady fine = (f.quiet told steady (there (s.held.file name) (λ none. fine name (inl (policy_absent s.held name none))))).0

    inputs_here : s.told ≡ true → NoFileDueBy s.held c (Some name) → AreThere IsListedBy c.component c.script t.held
    inputs_here told fine =
        subst (λ (held : Held). AreThere IsListedBy c.component c.script held) (sym f.stays)
        (inputs_there (IsApplicationRefusal Run) IsListedBy s.held c (λ kept h. fine kept (inr (policy, policy_file name s policy f.policy told, inl h))))

    quiet_inputs : (r : Result ListedInputs Unready) → FetchesListed c.component c.script t u r → s.told ≡ true → s.steady ≡ true → NoFileDueBy s.held c (Some name) → u.faults ≡ s.faults
    quiet_inputs r g told steady fine = (g.quiet (told_t told) (f.goes.steady steady) (inputs_here told fine)).0 ∙ quiet_policy told steady fine

    pub under_no_inputs : (why : Unready) (r : Result Shown Status) → r ≡ Err (unready_as why) → FetchesListed c.component c.script t u (Err why) → ShowsUnder c name s u r
    under_no_inputs why r is g = subst (λ (x : Result Shown Status). ShowsUnder c name s u x) (sym is) (record {
      goes = goes_on s t u f.goes g.goes;
      stays = g.stays ∙ f.stays;
      begins = tt;
      ends = tt;
      cause = inr (inr (policy, f.policy, inl (why, listed_earlier c.component c.script s t u why f.goes f.stays g.cause, refl)));
      quiet = quiet_inputs (Err why) g;
    })

    -- ---- after the inputs

    module _ (inputs : ListedInputs) (g : FetchesListed c.component c.script t u (Ok inputs)) (w : FilesState) where
      goes_u : Goes s u
      goes_u = goes_on s t u f.goes g.goes

      stays_u : u.held ≡ s.held
      stays_u = g.stays ∙ f.stays

      ready : AreListedReady c.component c.script s inputs
      ready = ready_before c.component c.script s t inputs f.goes f.stays g.ready

      tree : Tree
      tree = plain inputs.inputs.judged.component

      -- no file of the trees is due and absent
      trees_fine : s.told ≡ true → NoFileDueBy s.held c (Some name) → ¬ (IsFileFault (trees_verdict u.held policy Done))
      trees_fine told fine h =
          let kept = fault_named (trees_verdict u.held policy Done) h in
          let verdict : IsTreesVerdict s.held policy (FileFault kept.0) =
          subst (λ (held : Held). IsTreesVerdict held policy (FileFault kept.0)) stays_u (fault_first (trees_due u.held policy).answer kept.0 kept.1) in
          fine kept.0 (inr (
            policy,
            policy_file name s policy f.policy told,
            inr (
              plain inputs.inputs.judged.component,
              application_held c.component c.script s inputs ready told,
              script_held inputs.inputs.judged c.script s inputs.inputs.scripted ready.application.judges.1 ready.scripted told,
              verdict,
            ),
          ))

      quiet_trees : (r : Result (List NamedTree) Status) → MakesTrees policy u w r → s.told ≡ true → s.steady ≡ true → NoFileDueBy s.held c (Some name) → w.faults ≡ s.faults
      quiet_trees r m told steady fine = (m.quiet (goes_u.told ∙ told) (goes_u.steady steady) (trees_fine told fine)).0 ∙ quiet_inputs (Ok inputs) g told steady fine

      pub under_no_trees : (e : Status) (r : Result Shown Status) → r ≡ Err e → MakesTrees policy u w (Err e) → ShowsUnder c name s w r
      under_no_trees e r is m = subst (λ (x : Result Shown Status). ShowsUnder c name s w x) (sym is) (record {
        goes = goes_on s u w goes_u m.goes;
        stays = m.stays ∙ stays_u;
        begins = tt;
        ends = tt;
        cause = inr (inr (policy, f.policy, inr (inputs, ready, trees_earlier policy s u w e goes_u stays_u m.cause)));
        quiet = quiet_trees (Err e) m;
      })

      -- ---- after the trees

      module _ (trees : List NamedTree) (m : MakesTrees policy u w (Ok trees)) where
        pub under_memory : (r : Result Shown Status) → r ≡ Err NoMemory → ShowsUnder c name s w r
        under_memory r is = subst (λ (x : Result Shown Status). ShowsUnder c name s w x) (sym is) (record {
          goes = goes_on s u w goes_u m.goes;
          stays = m.stays ∙ stays_u;
          begins = tt;
          ends = tt;
          cause = inl refl;
          quiet = quiet_trees (Ok trees) m;
        })

        pub under_shown : (shown : Shown) → IsShown shown
            → ShowsRun (plain inputs.inputs.judged.component) (reference_step port.script) (opening (setup_for policy trees inputs.listed.uses) (map item_seen inputs.inputs.scripted.script.answers)) (map call_seen inputs.inputs.scripted.script.calls) c.steps shown
            → ShowsUnder c name s w (Ok shown)
        under_shown shown ends runs = record {
          goes = goes_on s u w goes_u m.goes;
          stays = m.stays ∙ stays_u;
          begins = (
            record {
              policy = policy;
              has_policy = f.policy;
              inputs = inputs;
              ready = ready;
              has_trees = trees_before policy s u goes_u stays_u m.trees;
              trees = trees;
              are = made_before policy s u trees goes_u stays_u m.made;
            },
            runs,
          );
          ends = ends;
          cause = tt;
          quiet = quiet_trees (Ok trees) m;
        }
