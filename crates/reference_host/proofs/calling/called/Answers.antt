use Rattle.std.proofs.Common.{sym, ap, ◌∙◌}
use Rattle.host_port.specs.Calls.{plain_call}
use Rattle.reference_step.specs.Listed.{listed_function}
use Rattle.reference_step.specs.Steps.{guarded}
use Rattle.ref_answers.specs.Versions.{version_in}
use Rattle.reference_host.specs.Kept.{reference_at}
use Rattle.reference_host.proofs.StepLemmas.{ends_as, goes_as, named_as, ok_map, on_map}
use Rattle.reference_host.specs.Reaching.{TypedIfPassed}
use Rattle.reference_host.proofs.TypedLemmas.{named, nameless}
use Rattle.reference_host.proofs.calling.called.Goals as goal

pub returns-in-Some-clause-reaction : goal.returns-in-Some-clause-reaction
returns-in-Some-clause-reaction g c = ok_map c.guarded.result _ _ (λ a e.
    let version = version_in c.args.setting.now.listed in
    let names = named_as (listed_function version) c.args.call.now.func.value _ _ _ _ c.as_str.ensures c.deref.ensures c.as_str-2.ensures c.deref-2.ensures in
    goes_as _ _ _ _ _ _ (ap (guarded g.H.Host.step (reference_at c.args.setting.now c.args.holding.now (g.H.Host.kept c.args.inner.now).state) (plain_call c.args.call.now)) (sym (c.in-Some.ensures.value ∙ names))) e) c.guarded.ensures.reaction

pub returns-in-None-clause-reaction : goal.returns-in-None-clause-reaction
returns-in-None-clause-reaction g c =
    let version = version_in c.args.setting.now.listed in
    let names = named_as (listed_function version) c.args.call.now.func.value _ _ _ _ c.as_str.ensures c.deref.ensures c.as_str-2.ensures c.deref-2.ensures in
    ends_as _ _ _ _ (ap (guarded g.H.Host.step (reference_at c.args.setting.now c.args.holding.now (g.H.Host.kept c.args.inner.now).state) (plain_call c.args.call.now)) (sym (c.in-None.ensures.value ∙ names)))

pub guarded-requires : goal.guarded-requires
guarded-requires g c =
    let version = version_in c.args.setting.now.listed in
    let names = named_as (listed_function version) c.args.call.now.func.value _ _ _ _ c.as_str.ensures c.deref.ensures c.as_str-2.ensures c.deref-2.ensures in
    record { setting = c.requires.setting; holding = c.requires.holding; named = sym (c.in-Some.ensures.value ∙ names); small = c.in-Some.ensures.small }

pub returns-in-None-clause-typed : goal.returns-in-None-clause-typed
returns-in-None-clause-typed g c =
    let version = version_in c.args.setting.now.listed in
    let names = named_as (listed_function version) c.args.call.now.func.value _ _ _ _ c.as_str.ensures c.deref.ensures c.as_str-2.ensures c.deref-2.ensures in
    let r = reference_at c.args.setting.now c.args.holding.now (g.H.Host.kept c.args.inner.now).state in
    nameless (λ f. TypedIfPassed g.H.Host.step r f (plain_call c.args.call.now)) _ (sym (c.in-None.ensures.value ∙ names))

pub returns-in-Some-clause-typed : goal.returns-in-Some-clause-typed
returns-in-Some-clause-typed g c = on_map c.guarded.result _ _ (λ typed.
    let version = version_in c.args.setting.now.listed in
    let names = named_as (listed_function version) c.args.call.now.func.value _ _ _ _ c.as_str.ensures c.deref.ensures c.as_str-2.ensures c.deref-2.ensures in
    let r = reference_at c.args.setting.now c.args.holding.now (g.H.Host.kept c.args.inner.now).state in
    named (λ f. TypedIfPassed g.H.Host.step r f (plain_call c.args.call.now)) _ _ (sym (c.in-Some.ensures.value ∙ names)) typed) c.guarded.ensures.typed
