use Rattle.std.proofs.Common.{◌<◌, arith, ◌∙◌, sym}
use Rattle.core_store.specs.Words.{i32_in}
use Rattle.core_interp.proofs.Entering.{leads_from}
use Rattle.core_interp.proofs.Stepping.{br_if_needs, br_if_on, br_if_can, br_if_goes}
use Rattle.core_interp.proofs.running.Running.br_if.Goals as goal

pub pop-requires : goal.pop-requires
pop-requires c = br_if_needs c.args.self.now c.args.store.now c.args.label c.requires

pub returns-then-test-eq0-clause-leads : goal.returns-then-test-eq0-clause-leads
returns-then-test-eq0-clause-leads c = br_if_on c.args.self.now c.args.store.now c.args.label c.pop.result c.pop.new.self c.requires c.pop.ensures (sym c.low-test.ensures ∙ c.if-test-eq0.true)

pub branch-flow-requires : goal.branch-flow-requires
branch-flow-requires c = br_if_can c.args.self.now c.args.store.now c.args.label c.pop.result c.pop.new.self c.requires c.pop.ensures

pub returns-clause-leads : goal.returns-clause-leads
returns-clause-leads c =
    let pos : 0 < i32_in c.pop.result = omega (arith, c.low-test.ensures) in
    leads_from _ _ c.branch-flow.result c.branch-flow.new.self c.branch-flow.new.store (λ rs n. br_if_goes c.args.self.now c.args.store.now c.args.label c.pop.result c.pop.new.self rs n c.requires c.pop.ensures pos) c.branch-flow.ensures.leads
