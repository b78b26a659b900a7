use Rattle.std.proofs.Common.{ℕ, subst, sym}
use Rattle.wit_types.specs.PlainValue.{plain_value}
use Rattle.abi_layout.specs.Storing.{Lowered}
use Rattle.abi_store.specs.Flows.{Leads, flow_lowered}
use Rattle.abi_store.specs.Works.{text_lowered}
use Rattle.abi_store.proofs.Begins.{string_leads}
use Rattle.abi_store.proofs.beginning.begin_string.Goals as goal

pub returns-in-Some-clause-leads : goal.returns-in-Some-clause-leads
returns-in-Some-clause-leads c =
    λ m. subst (λ (b : ℕ → Lowered). Leads m (text_lowered (plain_value c.args.value) c.args.at) m b) (sym c.begun_of.ensures.value)
    (string_leads m (plain_value c.args.value) c.in-Some.text c.args.at (flow_lowered c.request_for.result) c.in-Some.ensures.some (c.request_for.ensures m))
