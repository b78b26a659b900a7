use Rattle.std.proofs.Common.{refl, subst}
use Rattle.core_store.specs.State.{memory_at}
use Rattle.wit_types.specs.declared.types.WitType.{WitType}
use Rattle.wit_types.specs.Plain.{plain}
use Rattle.wit_types.specs.PlainValue.{plain_value}
use Rattle.abi_store.specs.declared.work.Work.TheVariants.{Value as OfValue, Place as OfPlace}
use Rattle.abi_store.specs.Flows.{Leads, flow_lowered}
use Rattle.abi_store.specs.Works.{begun_lowered, value_lowered, place_lowered}
use Rattle.abi_store.proofs.Begins.{on_top, place_on_top}
use Rattle.abi_store.proofs.storing.turn.Goals as goal

pub returns-in_ok-flow-in-Value-clause-took : goal.returns-in_ok-flow-in-Value-clause-took
returns-in_ok-flow-in-Value-clause-took c =
    let wrote =
    subst
    (λ (w : WitType). Leads (memory_at c.args.store.now c.args.memory) (value_lowered (plain w) (plain_value c.in-Value.work.value) c.in-Value.work.at) (memory_at c.begin.new.store c.args.memory)
    (begun_lowered c.in_ok-begun-in-Value.begun))
    c.deref.ensures c.in_ok-begun-in-Value.ensures.took.0 in (
      on_top (memory_at c.args.store.now c.args.memory) (memory_at c.begin.new.store c.args.memory) c.args.work (OfValue c.in-Value.work) c.args.works.now.items c.settle.new.works.items
          (value_lowered (plain c.in-Value.work.ty.value) (plain_value c.in-Value.work.value) c.in-Value.work.at) (begun_lowered c.in_ok-begun-in-Value.begun) (flow_lowered c.in_ok-flow-in-Value.flow) c.in-Value.is refl wrote
          c.in_ok-flow-in-Value.ensures.value,
      c.in_ok-begun-in-Value.ensures.took.1,
    )

pub returns-in-Place-clause-took : goal.returns-in-Place-clause-took
returns-in-Place-clause-took c =
    place_on_top c.args.store.now c.turn_place.new.store c.args.memory c.turn_place.result c.args.work (OfPlace c.in-Place.work) (place_lowered c.in-Place.work.at c.in-Place.work.place c.in-Place.work.len) c.args.works.now.items
    c.in-Place.is refl c.turn_place.ensures
