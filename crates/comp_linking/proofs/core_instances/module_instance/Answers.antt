use Rattle.std.proofs.Common.{◌≡◌, ◌∙◌, ap, sym, ℕ, Some, Bor, slice_get}
use Rattle.std.specs.Prelude.{option_map}
use Rattle.wasm_ast.specs.declared.component.CoreInstance.TheVariants.{Instantiate}
use Rattle.comp_link.specs.Plans.{of_core_instance}
use Rattle.comp_linking.proofs.NamedLemmas.{some_module}
use Rattle.comp_linking.proofs.core_instances.module_instance.Goals as goal

pub returns-in_ok-args-in-Some : goal.returns-in_ok-args-in-Some
returns-in_ok-args-in-Some c = λ ms cs scope h.
    let numbers = c.args.draft.now.modules.items in
    let e : slice_get numbers c.args.index ≡ Some c.in-Some.number.now = sym c.module_at.ensures ∙ ap (option_map (λ (n : Bor ℕ). n.now)) c.in-Some.is in
    some_module ms cs scope numbers c.args.index c.in-Some.number.now c.in_ok-args-in-Some.args h e
    ∙ ap (λ args. of_core_instance scope (Instantiate c.args.index args)) c.in_ok-args-in-Some.ensures
