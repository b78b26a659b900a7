use Rattle.std.proofs.Common.{◌∙◌, sym}
use Rattle.core_store.specs.State.{memory_at}
use Rattle.abi_store.specs.declared.request.Flow.TheVariants.{Goes, Asks, Trapped}
use Rattle.abi_store.specs.Plan.{is_room}
use Rattle.abi_store.specs.Works.{begun_lowered}
use Rattle.abi_store.proofs.Stores.{keeps_then}
use Rattle.abi_store.proofs.Resuming.{resumed_flow}
use Rattle.abi_store.proofs.going.resume.Goals as goal

pub returns-in_ok-flow-in-Goes-clause-leads : goal.returns-in_ok-flow-in-Goes-clause-leads
returns-in_ok-flow-in-Goes-clause-leads c = (
  resumed_flow (memory_at c.args.store.now c.args.memory) (memory_at c.begin_content.new.store c.args.memory) (is_room (memory_at c.args.store.now c.args.memory) c.args.request.align c.args.request.len c.args.place) c.args.place c.len_of-len.result
      c.args.request c.args.works.now.items c.place_answer.new.works.items c.settle.new.works.items c.args.flats.now c.place_answer.new.flats (begun_lowered c.in_ok-begun.begun) c.in_ok-settle.field-0 Goes
      (sym c.is_room.ensures ∙ c.if-not-is_room.false) c.in_ok-place_answer.ensures c.len_of-len.ensures c.in_ok-begun.ensures.0 c.in_ok-settle.ensures.value c.in-Goes.is
      ∙ c.in_ok-flow-in-Goes.ensures.leads.0,
  keeps_then c.args.store.now c.begin_content.new.store c.proceed.new.store c.args.memory c.in_ok-begun.ensures.1 c.in_ok-flow-in-Goes.ensures.leads.1,
)

pub returns-in-Asks-clause-leads : goal.returns-in-Asks-clause-leads
returns-in-Asks-clause-leads c = (
  resumed_flow (memory_at c.args.store.now c.args.memory) (memory_at c.begin_content.new.store c.args.memory) (is_room (memory_at c.args.store.now c.args.memory) c.args.request.align c.args.request.len c.args.place) c.args.place c.len_of-len.result
      c.args.request c.args.works.now.items c.place_answer.new.works.items c.settle.new.works.items c.args.flats.now c.place_answer.new.flats (begun_lowered c.in_ok-begun.begun) c.in_ok-settle.field-0 (Asks c.in-Asks.request)
      (sym c.is_room.ensures ∙ c.if-not-is_room.false) c.in_ok-place_answer.ensures c.len_of-len.ensures c.in_ok-begun.ensures.0 c.in_ok-settle.ensures.value c.in-Asks.is,
  c.in_ok-begun.ensures.1,
)

pub returns-in-Trapped-clause-leads : goal.returns-in-Trapped-clause-leads
returns-in-Trapped-clause-leads c = (
  resumed_flow (memory_at c.args.store.now c.args.memory) (memory_at c.begin_content.new.store c.args.memory) (is_room (memory_at c.args.store.now c.args.memory) c.args.request.align c.args.request.len c.args.place) c.args.place c.len_of-len.result
      c.args.request c.args.works.now.items c.place_answer.new.works.items c.settle.new.works.items c.args.flats.now c.place_answer.new.flats (begun_lowered c.in_ok-begun.begun) c.in_ok-settle.field-0 Trapped
      (sym c.is_room.ensures ∙ c.if-not-is_room.false) c.in_ok-place_answer.ensures c.len_of-len.ensures c.in_ok-begun.ensures.0 c.in_ok-settle.ensures.value c.in-Trapped.is,
  c.in_ok-begun.ensures.1,
)
