-- Two runs with the same words over files with the same contents end alike.
use Rattle.std.proofs.Common.{◌≡◌, ◌∙◌, refl, sym, ap, subst, ℕ, List, [], ◌∷◌, ◌++◌, true, inl, inr, Ok}
use Rattle.std.specs.Prelude.{◌⊎◌, Option, Some, None, Result}
use Rattle.outside.specs.Files.{FilesState, Held}
use Rattle.policy_data.specs.declared.policy.Policy.{Policy}
use Rattle.mount_tree.specs.declared.fault.TreeFault.{TreeFault}
use Rattle.mount_tree.specs.declared.forest.Forest.{Forest}
use Rattle.mount_tree.specs.Building.{trees_due}
use Rattle.mount_tree.specs.Ordered.{AreOrdered}
use Rattle.tree_table.specs.declared.entries.NamedTree.{NamedTree}
use Rattle.comp_types.specs.Items.{Entries}
use Rattle.comp_grammar.specs.Trees.{Tree}
use Rattle.comp_types.specs.Added.{type_of}
use Rattle.host_port.specs.Scripts as port
use Rattle.host_script.specs.Script.{PlainScript, due_script, json_in}
use Rattle.host_script.specs.declared.fault.ScriptFault.{ScriptFault}
use Rattle.component_judge.specs.Callable.{callable}
use Rattle.reference_step.specs.State.{opening}
use Rattle.reference_step.specs.Steps.{reference_step}
use Rattle.reference_host.specs.Hosts.{setup_for}
use Rattle.wasi_match.specs.declared.listed.ListedUse.{ListedUse}
use Rattle.wasi_match.specs.Listed.{IsListed}
use Rattle.wasi_match.specs.Verdicts.{Accepted}
use Rattle.wasi_match.proofs.VerdictLaws.{one_verdict as one_listing}
use Rattle.component_judge.specs.Components.{IsRefusal, IsRunnable}
use Rattle.component_judge.specs.Applications.{IsApplicationRefusal}
use Rattle.component_judge.specs.declared.limits.Purpose.TheVariants.{Run}
use Rattle.component_judge.specs.Inputs.{IsListedBy}
use Rattle.virt_words.specs.Lines.{text_of}
use Rattle.virt_engine.specs.declared.runner.Shown.{Shown}
use Rattle.virt_engine.specs.declared.status.Status.{Status}
use Rattle.virt_engine.specs.Alike.{CameTo}
use Rattle.virt_engine.specs.Command.{RunCommand}
use Rattle.virt_engine.specs.Line.{status_text}
use Rattle.virt_engine.specs.Report.{Puts}
use Rattle.virt_engine.specs.RunDue.{HoldsScript, IsRunRefused, AreAccepted, IsAcceptedUnder, IsAcceptedBy}
use Rattle.virt_engine.specs.Runs.{ended_as, BeginsBy, ShowsWhat, RanOn, EndsBy, Ends, RunCause}
use Rattle.virt_engine.specs.Shown.{item_texts, told_component, IsTold}
use Rattle.virt_engine.specs.Told.{Told}
use Rattle.virt_engine.proofs.PolicyLaws.{one_policy}
use Rattle.virt_engine.proofs.RunDue.{alone, listed, one_component, one_run_refusal, runs_stand}
use Rattle.virt_engine.proofs.RunLaws.{alone_accepted, cause_due, under_accepted}
use Rattle.virt_engine.proofs.TreesOnce.{one_trees}

-- ---- what contents determine

same_some : (a b : List ℕ) → Some a ≡ Some b → a ≡ b
same_some a b e = cc

same_script : (a b : PlainScript) → ◌≡◌ {A = Result PlainScript ScriptFault} (Ok a) (Ok b) → a ≡ b
same_script a b e = cc

same_forest : (a b : Forest) → ◌≡◌ {A = Result Forest TreeFault} (Ok a) (Ok b) → a ≡ b
same_forest a b e = cc

same_uses : (a b : List ListedUse) → Accepted a ≡ Accepted b → a ≡ b
same_uses a b e = cc

one_script : (held : Held) (name : List ℕ) (e f : Entries) → e ≡ f → (h : HoldsScript held name e) (g : HoldsScript held name f) → h.script ≡ g.script
one_script held name e f same h g =
    let bytes : h.bytes ≡ g.bytes = same_some h.bytes g.bytes (sym h.there ∙ g.there) in
    let read : due_script (callable e) (json_in h.bytes) ≡ due_script (callable f) (json_in g.bytes) = λ i. due_script (callable (same i)) (json_in (bytes i)) in
    same_script h.script g.script (sym h.due ∙ read ∙ g.due)

one_listed : (tree other : Tree) (a b : List ListedUse) → tree ≡ other → IsListed (type_of tree) a → IsListed (type_of other) b → a ≡ b
one_listed tree other a b same h g =
    same_uses a b (one_listing (type_of other) (Accepted a) (Accepted b) (subst (λ (t : Tree). IsListed (type_of t) a) same h) g)

-- ---- so one thing is to be told of a run

abbrev told_alone : (held : Held) (c : RunCommand) → AreAccepted IsRunnable held c → Told
told_alone held c u = told_component u.tree port.script u.script.script.answers u.script.script.calls c.steps

abbrev told_under : (held : Held) (c : RunCommand) (name : List ℕ) → IsAcceptedUnder held c name → List NamedTree → Told
told_under held c name u trees =
    told_component u.inputs.tree (reference_step port.script) (opening (setup_for u.policy trees u.inputs.component.fits.0) u.inputs.script.script.answers) u.inputs.script.script.calls c.steps

abbrev TellsBy : Held → RunCommand → Option (List ℕ) → Told → Type 0
TellsBy held c None whole = (u : AreAccepted IsRunnable held c) × (whole ≡ told_alone held c u)
TellsBy held c (Some name) whole = (u : IsAcceptedUnder held c name) × (trees : List NamedTree) × AreOrdered u.forest.trees trees × (whole ≡ told_under held c name u trees)

one_alone : (held : Held) (c : RunCommand) (u v : AreAccepted IsRunnable held c) → told_alone held c u ≡ told_alone held c v
one_alone held c u v =
    let tree : u.tree ≡ v.tree = one_component IsRefusal IsRunnable alone held c u.tree v.tree u.component v.component in
    let script : u.script.script ≡ v.script.script = one_script held c.script (type_of u.tree).exports (type_of v.tree).exports (ap (λ (t : Tree). (type_of t).exports) tree) u.script v.script in
    λ i. told_component (tree i) port.script (script i).answers (script i).calls c.steps

one_under : (held : Held) (c : RunCommand) (name : List ℕ) (u v : IsAcceptedUnder held c name) (a b : List NamedTree) → AreOrdered u.forest.trees a → AreOrdered v.forest.trees b
    → told_under held c name u a ≡ told_under held c name v b
one_under held c name u v a b h g =
    let policy : u.policy ≡ v.policy = one_policy held name u.policy v.policy u.policy_file v.policy_file in
    let forest : u.forest ≡ v.forest = same_forest u.forest v.forest (sym u.trees ∙ ap (λ (p : Policy). (trees_due held p).answer) policy ∙ v.trees) in
    let trees : a ≡ b = one_trees held v.policy v.forest a b v.trees (subst (λ (f : Forest). AreOrdered f.trees a) forest h) g in
    let tree : u.inputs.tree ≡ v.inputs.tree = one_component (IsApplicationRefusal Run) IsListedBy listed held c u.inputs.tree v.inputs.tree u.inputs.component v.inputs.component in
    let uses : u.inputs.component.fits.0 ≡ v.inputs.component.fits.0 =
    one_listed u.inputs.tree v.inputs.tree u.inputs.component.fits.0 v.inputs.component.fits.0 tree u.inputs.component.fits.1.listed v.inputs.component.fits.1.listed in
    let script : u.inputs.script.script ≡ v.inputs.script.script =
    one_script held c.script (type_of u.inputs.tree).exports (type_of v.inputs.tree).exports (ap (λ (t : Tree). (type_of t).exports) tree) u.inputs.script v.inputs.script in
    λ i. told_component (tree i) (reference_step port.script) (opening (setup_for (policy i) (trees i) (uses i)) (script i).answers) (script i).calls c.steps

one_told : (held : Held) (c : RunCommand) (policy : Option (List ℕ)) (a b : Told) → TellsBy held c policy a → TellsBy held c policy b → a ≡ b
one_told held c None a b h g = h.1 ∙ one_alone held c h.0 g.0 ∙ sym g.1
one_told held c (Some name) a b h g = h.3 ∙ one_under held c name h.0 g.0 h.1 g.1 h.2 g.2 ∙ sym g.3

tells_can : (held : Held) (c : RunCommand) (policy : Option (List ℕ)) (whole : Told) → TellsBy held c policy whole → IsAcceptedBy held c policy
tells_can held c None whole h = h.0
tells_can held c (Some name) whole h = h.0

-- ---- so one end

end_told : (held : Held) (c : RunCommand) (policy : Option (List ℕ)) (status : Status) → EndsBy held c policy status → (whole : Told) × TellsBy held c policy whole × (status ≡ ended_as whole.end)
end_told held c None status h = (told_alone held c h.accepted, (h.accepted, refl), h.end)
end_told held c (Some name) status h = (told_under held c name h.accepted h.trees, (h.accepted, h.trees, h.ordered, refl), h.end)

pub one_end : (held : Held) (c : RunCommand) (a b : Status) → Ends held c a → Ends held c b → a ≡ b
one_end held c a b h g =
    let x = end_told held c c.policy a h in
    let y = end_told held c c.policy b g in
    x.2 ∙ ap (λ (w : Told). ended_as w.end) (one_told held c c.policy x.0 y.0 x.1 y.1) ∙ sym y.2

-- ---- and one text

same_back : (front a b : List ℕ) → front ++ a ≡ front ++ b → a ≡ b
same_back [] a b e = e
same_back (x ∷ front) a b e = let rest : front ++ a ≡ front ++ b = cc in same_back front a b rest

-- lines in which this is told
record IsShownBy (held : Held) (c : RunCommand) (status : Status) (text : List ℕ) : Type 0 where
  whole : Told
  tells : TellsBy held c c.policy whole
  lines : List (List ℕ)
  told : lines ≡ item_texts whole.items
  end : status ≡ ended_as whole.end
  put : text ≡ text_of lines

-- nothing is run, and the status says why; or a run is shown
abbrev ComesTo : Held → RunCommand → Status → List ℕ → Type 0
ComesTo held c status text = (IsRunRefused held c status × (text ≡ status_text status)) ⊎ IsShownBy held c status text

one_shown : (held : Held) (c : RunCommand) (a b : Status) (x y : List ℕ) → IsShownBy held c a x → IsShownBy held c b y → (a ≡ b) × (x ≡ y)
one_shown held c a b x y h g =
    let whole : h.whole ≡ g.whole = one_told held c c.policy h.whole g.whole h.tells g.tells in (
      h.end ∙ ap (λ (w : Told). ended_as w.end) whole ∙ sym g.end,
      h.put ∙ ap text_of (h.told ∙ ap (λ (w : Told). item_texts w.items) whole ∙ sym g.told) ∙ sym g.put,
    )

shown_stands : (held : Held) (c : RunCommand) (a b : Status) (x : List ℕ) → IsShownBy held c a x → IsRunRefused held c b → ⊥
shown_stands held c a b x h refused = runs_stand held c b (tells_can held c c.policy h.whole h.tells) refused

one_comes : (held : Held) (c : RunCommand) (a b : Status) (x y : List ℕ) → ComesTo held c a x → ComesTo held c b y → (a ≡ b) × (x ≡ y)
one_comes held c a b x y (inl h) (inl g) = let same : a ≡ b = one_run_refusal held c a b h.0 g.0 in (same, h.1 ∙ ap status_text same ∙ sym g.1)
one_comes held c a b x y (inl h) (inr g) = absurd (shown_stands held c b a y g h.0)
one_comes held c a b x y (inr h) (inl g) = absurd (shown_stands held c a b x h g.0)
one_comes held c a b x y (inr h) (inr g) = one_shown held c a b x y h g

-- ---- what a call comes to

begins_told : (s : FilesState) (told : s.told ≡ true) (c : RunCommand) (policy : Option (List ℕ)) (b : BeginsBy c policy s) (shown : Shown) → ShowsWhat c policy s b shown
    → (whole : Told) × TellsBy s.held c policy whole × IsTold whole shown.lines shown.tally shown.end
begins_told s told c None b shown runs = let u = alone_accepted s told c b.0 b.1 in (told_alone s.held c u, (u, refl), runs.told)
begins_told s told c (Some name) b shown runs = let u = under_accepted s told c name b in (told_under s.held c name u b.trees, (u, b.trees, b.are.2, refl), runs.told)

module _ (held : Held) (words : List (List ℕ)) (status : Status) (text : List ℕ) (came : CameTo held words status text) where
  -- what was due was put
  put_due : (due : Status) (said : List ℕ) → Puts due said came.sink.0 came.sink.1 status → (status ≡ due) × (text ≡ said)
  put_due due said p = elim p.put [
    | inl w ↦ (w.status, same_back came.sink.0.bytes text said (sym came.took.bytes ∙ w.bytes came.took.told))
    | inr b ↦ absurd (came.took.calm b.cause)
  ]

  refused_comes : (why : Status) → RunCause came.command came.files.0 came.files.1 why → Puts why (status_text why) came.sink.0 came.sink.1 status → ComesTo came.files.0.held came.command status text
  refused_comes why cause p = by (put_due why (status_text why) p) cause
    where
      by : (status ≡ why) × (text ≡ status_text why) → RunCause came.command came.files.0 came.files.1 why → ComesTo came.files.0.held came.command status text
      by put (inl none) = absurd (came.enough (put.0 ∙ none))
      by put (inr h) = elim (cause_due came.files.0 came.files.1 came.calm.told came.calm.calm came.command came.command.policy why h) [
        | inl due ↦ inl (subst (λ (x : Status). IsRunRefused came.files.0.held came.command x) (sym put.0) due, put.1 ∙ ap status_text (sym put.0))
        | inr none ↦ absurd (came.enough (put.0 ∙ none))
      ]

  shown_comes : RanOn came.command came.files.0 came.sink.0 came.sink.1 status → ComesTo came.files.0.held came.command status text
  shown_comes on =
      let t = begins_told came.files.0 came.calm.told came.command came.command.policy on.begins on.shown on.runs in
      let put = put_due (ended_as on.shown.end) (text_of on.shown.lines) on.shows.puts in
      inr (record { whole = t.0; tells = t.1; lines = on.shown.lines; told = t.2.lines; end = put.0 ∙ ap ended_as t.2.end; put = put.1 })

  comes : ComesTo held came.command status text
  comes = subst (λ (h : Held). ComesTo h came.command status text) came.calm.holds (elim came.runs.end [
    | inl n ↦ elim n.report [ inl p ↦ refused_comes n.why n.cause p | inr none ↦ absurd (came.enough none.0) ]
    | inr on ↦ shown_comes on
  ])

same_command : (a b : RunCommand) → Some a ≡ Some b → a ≡ b
same_command a b e = cc

pub one_coming : (held : Held) (words : List (List ℕ)) (a b : Status) (x y : List ℕ) → CameTo held words a x → CameTo held words b y → (a ≡ b) × (x ≡ y)
one_coming held words a b x y h g =
    let same : h.command ≡ g.command = same_command h.command g.command (sym h.said ∙ g.said) in
    one_comes held g.command a b x y (subst (λ (c : RunCommand). ComesTo held c a x) same (comes held words a x h)) (comes held words b y g)
