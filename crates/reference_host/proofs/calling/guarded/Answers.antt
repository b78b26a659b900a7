use Rattle.std.proofs.Common.{◌≡◌, true, false, rules, sym, ap, ◌∙◌}
use Rattle.wit_types.specs.HasType.{are_of}
use Rattle.host_port.specs.Calls.{plain_call}
use Rattle.reference_step.specs.Atoms.{handles}
use Rattle.reference_step.specs.Rules.{alike_results, are_live, given, passes}
use Rattle.reference_step.specs.Steps.{traps, weighed}
use Rattle.ref_guards.specs.Noted.{shown_all}
use Rattle.ref_answers.specs.Versions.{plain_found}
use Rattle.reference_host.specs.Kept.{reference_at}
use Rattle.reference_host.proofs.RoomLemmas.{left}
use Rattle.reference_host.proofs.StepLemmas.{ends_as, goes_as, if_false, if_true, no_types, ok_map, on_map, with_types}
use Rattle.reference_host.proofs.TypedLemmas.{further, never}
use Rattle.reference_host.proofs.calling.guarded.Goals as goal

pub returns-then-not-has_types-clause-reaction : goal.returns-then-not-has_types-clause-reaction
returns-then-not-has_types-clause-reaction g c =
    let no : c.has_types.result ≡ false = search rules in
    let h = g.H.Host.step in
    let r = reference_at c.args.setting.now c.args.holding.now (g.H.Host.kept c.args.inner.now).state in
    let f = plain_found c.args.found in
    let q = plain_call c.args.call.now in
    ends_as _ _ _ _ (if_false (passes r.live f q) (weighed h r f q) (traps h r) (no_types (are_of f.function.ty.params q.args) (alike_results f.function.ty.answer q.answer) (are_live r.live (given f q)) (sym c.has_types.ensures ∙ no)))

pub weighed-requires : goal.weighed-requires
weighed-requires g c =
    let yes : c.has_types.result ≡ true = search rules in
    record {
      setting = c.requires.setting;
      holding = c.requires.holding;
      named = c.requires.named;
      small = c.requires.small;
      typed = left (are_of (plain_found c.args.found).function.ty.params (plain_call c.args.call.now).args) _ (sym c.has_types.ensures ∙ yes);
      noted = ap shown_all c.as_slice-noted.ensures.value ∙ c.in_ok-noted.ensures;
    }

pub returns-then-are_live-clause-reaction : goal.returns-then-are_live-clause-reaction
returns-then-are_live-clause-reaction g c = ok_map c.weighed.result _ _ (λ a e.
    let yes : c.has_types.result ≡ true = search rules in
    let lives : c.are_live.result ≡ true = search rules in
    let h = g.H.Host.step in
    let r = reference_at c.args.setting.now c.args.holding.now (g.H.Host.kept c.args.inner.now).state in
    let f = plain_found c.args.found in
    let q = plain_call c.args.call.now in
    let atoms = ap shown_all c.as_slice-noted.ensures.value ∙ c.in_ok-noted.ensures in
    goes_as _ _ _ _ _ _
    (if_true (passes r.live f q) (weighed h r f q) (traps h r)
    (with_types (are_of f.function.ty.params q.args) (alike_results f.function.ty.answer q.answer) (are_live r.live (given f q)) (sym c.has_types.ensures ∙ yes)
    ∙ sym (c.are_live.ensures c.args.setting.now.table ∙ ap (λ xs. are_live r.live (handles xs)) atoms) ∙ lives)) e) c.weighed.ensures.reaction

pub returns-clause-reaction : goal.returns-clause-reaction
returns-clause-reaction g c =
    let yes : c.has_types.result ≡ true = search rules in
    let dead : c.are_live.result ≡ false = search rules in
    let h = g.H.Host.step in
    let r = reference_at c.args.setting.now c.args.holding.now (g.H.Host.kept c.args.inner.now).state in
    let f = plain_found c.args.found in
    let q = plain_call c.args.call.now in
    let atoms = ap shown_all c.as_slice-noted.ensures.value ∙ c.in_ok-noted.ensures in
    ends_as _ _ _ _
    (if_false (passes r.live f q) (weighed h r f q) (traps h r)
    (with_types (are_of f.function.ty.params q.args) (alike_results f.function.ty.answer q.answer) (are_live r.live (given f q)) (sym c.has_types.ensures ∙ yes)
    ∙ sym (c.are_live.ensures c.args.setting.now.table ∙ ap (λ xs. are_live r.live (handles xs)) atoms) ∙ dead))

pub returns-then-not-has_types-clause-typed : goal.returns-then-not-has_types-clause-typed
returns-then-not-has_types-clause-typed g c =
    let no : c.has_types.result ≡ false = search rules in
    let r = reference_at c.args.setting.now c.args.holding.now (g.H.Host.kept c.args.inner.now).state in
    let f = plain_found c.args.found in
    let q = plain_call c.args.call.now in
    never _ _ _ (no_types (are_of f.function.ty.params q.args) (alike_results f.function.ty.answer q.answer) (are_live r.live (given f q)) (sym c.has_types.ensures ∙ no))

pub returns-then-are_live-clause-typed : goal.returns-then-are_live-clause-typed
returns-then-are_live-clause-typed g c = on_map c.weighed.result _ _ (λ typed. further _ _ _ typed) c.weighed.ensures.typed

pub returns-clause-typed : goal.returns-clause-typed
returns-clause-typed g c =
    let yes : c.has_types.result ≡ true = search rules in
    let dead : c.are_live.result ≡ false = search rules in
    let r = reference_at c.args.setting.now c.args.holding.now (g.H.Host.kept c.args.inner.now).state in
    let f = plain_found c.args.found in
    let q = plain_call c.args.call.now in
    let atoms = ap shown_all c.as_slice-noted.ensures.value ∙ c.in_ok-noted.ensures in
    never _ _ _
    (with_types (are_of f.function.ty.params q.args) (alike_results f.function.ty.answer q.answer) (are_live r.live (given f q)) (sym c.has_types.ensures ∙ yes)
    ∙ sym (c.are_live.ensures c.args.setting.now.table ∙ ap (λ xs. are_live r.live (handles xs)) atoms) ∙ dead)
