use Rattle.std.proofs.Common.{ℕ, subst, sym}
use Rattle.wit_types.specs.declared.types.WitType.{WitType}
use Rattle.wit_types.specs.Plain.{plain}
use Rattle.wit_types.specs.PlainValue.{plain_value, plain_values}
use Rattle.abi_layout.specs.Storing.{Lowered}
use Rattle.abi_store.specs.Flows.{Leads, flow_lowered}
use Rattle.abi_store.specs.Works.{list_lowered}
use Rattle.abi_store.proofs.Begins.{list_leads}
use Rattle.abi_store.proofs.beginning.begin_list.Goals as goal

pub returns-in_ok-item-in-Some-clause-leads : goal.returns-in_ok-item-in-Some-clause-leads
returns-in_ok-item-in-Some-clause-leads c =
    λ m. subst (λ (b : ℕ → Lowered). Leads m (list_lowered (plain c.args.item.now.value) (plain_value c.args.value) c.args.at) m b) (sym c.begun_of.ensures.value)
    (subst (λ (w : WitType). Leads m (list_lowered (plain w) (plain_value c.args.value) c.args.at) m (flow_lowered c.request_for.result)) c.in_ok-item-in-Some.ensures.cases
    (list_leads m (plain c.in_ok-item-in-Some.item.value) (plain_value c.args.value) (plain_values c.in-Some.values) c.args.at (flow_lowered c.request_for.result) c.in-Some.ensures.some (c.request_for.ensures m)))
