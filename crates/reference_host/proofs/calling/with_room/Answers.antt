use Rattle.std.proofs.Common.{◌≡◌, true, false, arith, rules, sym, ap, ◌∙◌}
use Rattle.reference_step.specs.Steps.{full}
use Rattle.ref_host_calls.specs.Requests.{listed_of}
use Rattle.ref_guards.proofs.KeepLaws.{on_always}
use Rattle.reference_host.specs.Kept.{reference_at}
use Rattle.reference_host.proofs.StepLemmas.{ends_as, goes_as, if_false, if_true, ok_map, on_map}
use Rattle.reference_host.proofs.TypedLemmas.{further, never}
use Rattle.reference_host.proofs.calling.with_room.Goals as goal

pub has_places-requires : goal.has_places-requires
has_places-requires g c = let few = c.requires.setting.slots in let same = c.requires.holding.slots in omega (arith, few, same)

pub denied-requires : goal.denied-requires
denied-requires g c =
    let room : c.has_places.result ≡ true = search rules in
    record {
      setting = c.requires.setting;
      holding = c.requires.holding;
      asked = c.requires.asked;
      room = sym (c.has_places.ensures c.args.setting.now.policy c.args.setting.now.table (listed_of c.args.request).function.ty.answer (sym c.requires.holding.slots) c.owned_kinds-owned.ensures) ∙ room;
    }

pub returns-then-has_places-clause-reaction : goal.returns-then-has_places-clause-reaction
returns-then-has_places-clause-reaction g c = ok_map c.denied.result _ _ (λ a e.
    let room : c.has_places.result ≡ true = search rules in
    goes_as _ _ _ _ _ _ (if_true _ _ _ (sym (c.has_places.ensures c.args.setting.now.policy c.args.setting.now.table (listed_of c.args.request).function.ty.answer (sym c.requires.holding.slots) c.owned_kinds-owned.ensures) ∙ room)) e) c.denied.ensures.reaction

pub returns-else-has_places-clause-reaction : goal.returns-else-has_places-clause-reaction
returns-else-has_places-clause-reaction g c = ok_map c.full.result _ _ (λ a e.
    let none : c.has_places.result ≡ false = search rules in
    let r = reference_at c.args.setting.now c.args.holding.now (g.H.Host.kept c.args.inner.now).state in
    ends_as _ _ _ _
    (if_false _ _ _ (sym (c.has_places.ensures c.args.setting.now.policy c.args.setting.now.table (listed_of c.args.request).function.ty.answer (sym c.requires.holding.slots) c.owned_kinds-owned.ensures) ∙ none)
    ∙ ap (full g.H.Host.step r) (sym c.errors_in.ensures)
    ∙ e r)) c.full.ensures

pub returns-then-has_places-clause-typed : goal.returns-then-has_places-clause-typed
returns-then-has_places-clause-typed g c = on_map c.denied.result _ _ (λ typed. further _ _ _ typed) c.denied.ensures.typed

pub returns-else-has_places-clause-typed : goal.returns-else-has_places-clause-typed
returns-else-has_places-clause-typed g c =
    let none : c.has_places.result ≡ false = search rules in
    on_always c.full.result _ (never _ _ _ (sym (c.has_places.ensures c.args.setting.now.policy c.args.setting.now.table (listed_of c.args.request).function.ty.answer (sym c.requires.holding.slots) c.owned_kinds-owned.ensures) ∙ none))
