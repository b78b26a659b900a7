use Rattle.std.proofs.Common.{subst}
use Rattle.std.specs.Prelude.{reverse}
use Rattle.core_store.specs.State.{memory_at}
use Rattle.abi_store.specs.declared.request.Flow.{Flow}
use Rattle.abi_store.specs.declared.request.Flow.TheVariants.{Asks, Trapped}
use Rattle.abi_store.specs.Works.{IsOver}
use Rattle.abi_store.proofs.Proceeding.{stopped_led, over_led}
use Rattle.abi_store.proofs.going.proceed.Goals as goal

pub returns-in_ok-flow-in-Goes-clause-leads : goal.returns-in_ok-flow-in-Goes-clause-leads
returns-in_ok-flow-in-Goes-clause-leads c = (
  over_led (memory_at c.args.store.now c.args.memory) (memory_at c.run.new.store c.args.memory) c.args.flats.now.done.items c.run_flats.new.flats.done.items c.args.works.now.items c.run.new.works.items
      (reverse c.args.flats.now.left.items) (reverse c.run_flats.new.flats.left.items) c.in_ok-run.field-0 c.in_ok-flow-in-Goes.flow c.in_ok-run.ensures.took.0 c.in-Goes.is
      (subst (λ (f : Flow). IsOver f c.run.new.works.items) c.in-Goes.is c.in_ok-run.ensures.over) c.in_ok-flow-in-Goes.ensures.leads,
  c.in_ok-run.ensures.took.1,
)

pub returns-in-Asks-clause-leads : goal.returns-in-Asks-clause-leads
returns-in-Asks-clause-leads c = (
  stopped_led (memory_at c.args.store.now c.args.memory) (memory_at c.run.new.store c.args.memory) c.args.flats.now.done.items c.args.works.now.items c.run.new.works.items (reverse c.args.flats.now.left.items) c.in_ok-run.field-0
      (Asks c.in-Asks.request) c.in_ok-run.ensures.took.0 c.in-Asks.is,
  c.in_ok-run.ensures.took.1,
)

pub returns-in-Trapped-clause-leads : goal.returns-in-Trapped-clause-leads
returns-in-Trapped-clause-leads c = (
  stopped_led (memory_at c.args.store.now c.args.memory) (memory_at c.run.new.store c.args.memory) c.args.flats.now.done.items c.args.works.now.items c.run.new.works.items (reverse c.args.flats.now.left.items) c.in_ok-run.field-0
      Trapped c.in_ok-run.ensures.took.0 c.in-Trapped.is,
  c.in_ok-run.ensures.took.1,
)
