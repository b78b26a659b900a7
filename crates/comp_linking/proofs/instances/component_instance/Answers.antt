use Rattle.std.proofs.Common.{◌≡◌, ◌∙◌, ap, sym, ℕ, Some, Bor, slice_get}
use Rattle.std.specs.Prelude.{option_map}
use Rattle.comp_linking.proofs.NamedLemmas.{some_component}
use Rattle.comp_linking.proofs.instances.component_instance.Goals as goal

pub returns-in_ok-args-in-Some : goal.returns-in_ok-args-in-Some
returns-in_ok-args-in-Some c = λ ms cs names s stands h.
    let numbers = c.args.draft.now.components.items in
    let e : slice_get numbers c.args.index ≡ Some c.in-Some.number.now = sym c.component_at.ensures ∙ ap (option_map (λ (n : Bor ℕ). n.now)) c.in-Some.is in
    some_component ms cs names s numbers c.args.index c.in-Some.number.now c.args.scope.now.next c.args.args.now c.in_ok-args-in-Some.args h e stands.rest.next (c.in_ok-args-in-Some.ensures s stands)
