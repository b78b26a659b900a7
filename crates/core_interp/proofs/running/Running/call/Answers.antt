use Rattle.std.proofs.Common.{◌∙◌, ap, sym, subst, length}
use Rattle.std.specs.Prelude.{slice_get}
use Rattle.core_store.specs.declared.value.CoreSpaces.{CoreSpaces}
use Rattle.core_store.specs.Fine.{Place}
use Rattle.core_interp.proofs.Entering.{call_names, call_enters, call_leads, leads_from}
use Rattle.core_interp.proofs.running.Running.call.Goals as goal

pub function_place-callee-requires : goal.function_place-callee-requires
function_place-callee-requires c = record { names = subst (λ (z : CoreSpaces). Place (length c.args.store.now.functions) z.functions c.args.index) (sym c.requires.spaces) (call_names c.args.self.now c.args.store.now c.args.index c.requires.before) }

pub enter-requires-clause-enters : goal.enter-requires-clause-enters
enter-requires-clause-enters c = call_enters c.args.self.now c.args.store.now c.args.index c.function_place-callee.result c.requires.before (sym (ap (λ (z : CoreSpaces). slice_get z.functions c.args.index) c.requires.spaces) ∙ c.function_place-callee.ensures.is)

pub returns-clause-leads : goal.returns-clause-leads
returns-clause-leads c =
    leads_from _ _ c.in_ok-flow.flow c.enter.new.self _ (λ rs n. call_leads c.args.self.now c.args.store.now c.args.index c.function_place-callee.result rs n c.requires.before (sym (ap (λ (z : CoreSpaces). slice_get z.functions c.args.index) c.requires.spaces) ∙ c.function_place-callee.ensures.is)) c.in_ok-flow.ensures.leads
