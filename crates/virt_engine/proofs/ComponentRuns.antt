-- A component that was judged runs as what is to be told of it.
use Rattle.std.proofs.Common.{◌≡◌, ◌∙◌, refl, sym, ap, subst, ℕ, List, [], ◌∷◌, map, cond, Option, Some, None, Ok, Bool, true, false}
use Rattle.std.specs.Option.{option_map}
use Rattle.std.specs.List.{AllByRecursion}
use Rattle.std.proofs.lemmas.List.Elements.{recursion_from_All}
use Rattle.virt_base.specs.declared.fault.AppFault.TheVariants.{Unlisted, HandleExport}
use Rattle.wit_types.specs.Plain.{Name}
use Rattle.wit_types.specs.HasType.{are_of}
use Rattle.comp_grammar.specs.Trees.{Tree, plain}
use Rattle.comp_types.specs.Items.{Entries, Signature, End, More}
use Rattle.comp_types.specs.Resources.{item_has_resource}
use Rattle.comp_types.specs.Added.{type_of}
use Rattle.host_port.specs.Hosts.{HostStep, Kept}
use Rattle.comp_worlds.specs.Groups.{Target, Group, type_of as type_of_target}
use Rattle.comp_worlds.specs.Observed.{Call, obs_deep}
use Rattle.comp_link.specs.Linking.{group_of, linked}
use Rattle.comp_link.proofs.Made.{exports_linked}
use Rattle.comp_link.proofs.Spelled.{spelled_define}
use Rattle.comp_link.specs.declared.linked.Linked.{Linked}
use Rattle.comp_link.specs.Groups.{linked_group}
use Rattle.host_script.specs.declared.script.Call.{Call as ScriptCall}
use Rattle.host_script.specs.Script.{PlainCall, Exports, IsTypedCall, AreTyped, call_seen}
use Rattle.component_judge.specs.Callable.{callable}
use Rattle.component_judge.specs.declared.component.Judged.{Judged}
use Rattle.call_moments.specs.declared.end.RunEnd.{RunEnd}
use Rattle.component_judge.specs.Types.{first_handle, first_unmet, or_later, type_fault}
use Rattle.component_judge.specs.Components.{IsRunnable, Judges}
use Rattle.output_same.proofs.Exported.{exports_fit}
use Rattle.comp_interp.specs.Runs.{host_in, IsNew}
use Rattle.comp_interp.specs.Outcomes.{group_in, MayCall, export_named}
use Rattle.virt_engine.specs.declared.runner.Runner.{Runner}
use Rattle.virt_engine.specs.declared.runner.Shown.{Shown}
use Rattle.virt_engine.specs.Calling.{call_of, typed_calls}
use Rattle.virt_engine.specs.Told.{Told, TypedCall, told}
use Rattle.virt_engine.specs.Tallies.{none_counted}
use Rattle.virt_engine.specs.Shown.{CanRun, IsTold, told_component, ShowsRun}
use Rattle.virt_engine.specs.Runners.{AllMay, IsFresh, told_of, Goes}
use Rattle.virt_engine.proofs.Passing.{arguments_pass, holds_none}
use Rattle.virt_engine.proofs.Named.{AreFree, FitsTarget, named_fits}
use Rattle.virt_engine.proofs.Legal.{fitting_differ, fitting_alone}
use Rattle.virt_engine.proofs.Telling.{told_observed}

-- ---- no export speaks of a resource

not_first : (b : Bool) (name : Name) (later : Option Name) → cond b (Some name) later ≡ None → (b ≡ false) × (later ≡ None)
not_first true name later h = absurd cc
not_first false name later h = (refl, h)

free_of : (es : Entries) → first_handle es ≡ None → AreFree es
free_of End h = tt
free_of (More name item rest) h = let both = not_first (item_has_resource item) name (first_handle rest) h in (both.0, free_of rest both.1)

no_handle : (unmet handle : Option Name) → or_later (option_map Unlisted unmet) (option_map HandleExport handle) ≡ None → handle ≡ None
no_handle (Some name) handle h = absurd cc
no_handle None None h = refl
no_handle None (Some name) h = absurd cc

exports_free : (tree : Tree) → type_fault (type_of tree) ≡ None → AreFree (type_of tree).exports
exports_free tree h = free_of (type_of tree).exports (no_handle (first_unmet (type_of tree).imports) (first_handle (type_of tree).exports) h)

-- ---- each call of a script may be made

module _ {H S : Type 0} (h : HostStep S) (kept : H → Kept S) (tree : Tree) (bytes : List ℕ) (runs : IsRunnable bytes tree) where
  fits : (c : PlainCall) → IsTypedCall (callable (type_of tree).exports) c → (target : Target) → export_named h kept (group_of tree) c.0 ≡ Some target → MayCall h kept target c.1
  fits c typed target is =
      let es : Entries = (type_of tree).exports in
      let valid = runs.sound.valid in
      let fit = exports_fit tree valid in
      let found : FitsTarget target typed.params =
      named_fits es (linked tree).exports c.0 typed.params target (exports_linked tree valid (spelled_define tree bytes runs.sound.small.spelled.0.0)) (fitting_alone End es fit) (fitting_differ End es fit) (exports_free tree runs.fits) typed.named is in
      let none = holds_none (type_of_target target) found.ty found.passes found.free in
      record {
        params = none.0;
        answer = none.1;
        typed = arguments_pass (type_of_target target) found.ty c.1 found.passes (ap (λ ps. are_of ps c.1) found.params ∙ typed.typed);
      }

  may_all : (calls : List ScriptCall) → AllByRecursion (λ c. IsTypedCall (callable (type_of tree).exports) (call_seen c)) calls → AllMay h kept (group_of tree) (map call_seen calls)
  may_all [] all = tt
  may_all (c ∷ calls) all = (fits (call_seen c) all.0, may_all calls all.1)

calls_in : (exports : Exports) (cs : List PlainCall) → map (λ (c : TypedCall). c.call) (typed_calls exports cs) ≡ map call_of cs
calls_in exports [] = refl
calls_in exports (c ∷ cs) = ap (λ z. call_of c ∷ z) (calls_in exports cs)

-- ---- the run

module _ {H S : Type 0} (h : HostStep S) (kept : H → Kept S) (judged : Judged) (can : CanRun judged) where
  abbrev tree : Tree
  tree = plain judged.component

  runs_so : IsRunnable can.0 tree
  runs_so = let judges : Judges can.0 (Ok judged) = can.1 in judges.0

  -- the type that was judged is the component's
  exports_so : judged.ty.exports ≡ (type_of tree).exports
  exports_so = let judges : Judges can.0 (Ok judged) = can.1 in ap (λ (sig : Signature). sig.exports) judges.1

  pub component_told : (host : H) (budget : ℕ) (component : Linked) (exports : Exports) (calls : List ScriptCall) (r0 r1 : Runner H) (how : RunEnd) → linked_group component ≡ group_of tree → exports ≡ callable judged.ty.exports
      → IsNew component (kept host) budget (kept (host_in r0.run)) r0.run → r0.lines ≡ [] → r0.tally ≡ none_counted → r0.shown ≡ 0 → Goes h kept exports (map call_seen calls) r0 how r1
      → (kept host).seen ≡ [] → AreTyped (callable judged.ty.exports) calls → ShowsRun tree h (kept host).state (map call_seen calls) budget (record { lines = r1.lines; tally = r1.tally; end = how })
  component_told host budget component exports calls r0 r1 how group named new lines tally shown goes unseen typed =
      let G : group_in r0.run ≡ group_of tree = ap linked_group new.component ∙ group in
      let names : exports ≡ callable (type_of tree).exports = named ∙ ap callable exports_so in
      let all : AreTyped (callable (type_of tree).exports) calls = subst (λ (es : Entries). AreTyped (callable es) calls) exports_so typed in
      let may : AllMay h kept (group_in r0.run) (map call_seen calls) =
      subst (λ (X : Group). AllMay h kept X (map call_seen calls)) (sym G)
      (may_all h kept tree can.0 runs_so calls (recursion_from_All (λ c. IsTypedCall (callable (type_of tree).exports) (call_seen c)) calls all)) in
      let fresh : IsFresh h kept component (kept host) budget r0 = record { run = new; unseen = unseen; lines = lines; tally = tally; shown = shown } in
      let whole : told_of h kept exports (map call_seen calls) (kept host) budget r0 ≡ told_component tree h (kept host).state (map call_seen calls) budget =
      (λ i. told (G i) h (typed_calls (names i) (map call_seen calls)) (kept host).state budget) in
      record {
        told = subst (λ (t : Told). IsTold t r1.lines r1.tally how) whole (goes component (kept host) budget fresh may);
        observed = told_observed (group_of tree) h (kept host).state (typed_calls (callable (type_of tree).exports) (map call_seen calls)) budget ∙ ap (λ (cs : List Call). obs_deep (group_of tree) [] h (kept host).state cs budget) (calls_in (callable (type_of tree).exports) (map call_seen calls));
      }

-- over a host that was told of so, with the calls of a script
pub shown_over : {S : Type 0} → (tree : Tree) (h : HostStep S) (exports : Exports) (k : Kept S) (st : S) (calls slice : List ScriptCall) (n : ℕ) (shown : Shown) → slice ≡ calls → k.state ≡ st → k.seen ≡ [] → AreTyped exports calls
    → (k.seen ≡ [] → AreTyped exports slice → ShowsRun tree h k.state (map call_seen slice) n shown) → ShowsRun tree h st (map call_seen calls) n shown
shown_over {S} tree h exports k st calls slice n shown same state unseen typed runs =
    subst (λ (x : S). ShowsRun tree h x (map call_seen calls) n shown) state
    (subst (λ (cs : List ScriptCall). ShowsRun tree h k.state (map call_seen cs) n shown) same (runs unseen (subst (AreTyped exports) (sym same) typed)))
