use Rattle.std.proofs.Common.{ℕ, ap, refl, subst, List, []}
use Rattle.core_store.specs.State.{memory_at}
use Rattle.wit_types.specs.declared.types.WitType.{WitType}
use Rattle.wit_types.specs.Plain.{plain}
use Rattle.wit_types.specs.PlainValue.{PlainValue, plain_value}
use Rattle.abi_layout.specs.Storing.{Base, Step, Lowered, stores_at}
use Rattle.abi_store.specs.declared.work.Work.TheVariants.{List as OfList}
use Rattle.abi_store.specs.Flows.{Leads, flow_lowered}
use Rattle.abi_store.specs.Works.{begun_lowered, work_lowered, value_lowered}
use Rattle.abi_store.specs.Weights.{turns, left_turns, begun_turns}
use Rattle.abi_store.proofs.Begins.{turned, items_cut}
use Rattle.abi_store.proofs.TurnLemmas.{one_fewer, left_cut}
use Rattle.abi_store.proofs.storing.turn_list.Goals as goal

pub returns-in_ok-flow-in-Some-clause-fewer : goal.returns-in_ok-flow-in-Some-clause-fewer
returns-in_ok-flow-in-Some-clause-fewer c =
    one_fewer c.args.works.now.items c.push.new.self.items c.settle.new.works.items (OfList c.args.work) _ (begun_turns c.in_ok-begun-in-Some.begun) (turns (plain_value c.in-Some.value)) (left_turns c.args.work.left.items)
    (left_turns c.pop.new.self.items) c.in_ok-push-in-Some.ensures.items refl refl (left_cut c.args.work.left.items c.pop.new.self.items c.in-Some.value c.in-Some.ensures.items) c.in_ok-begun-in-Some.ensures.fewer c.in_ok-flow-in-Some.ensures.turns

pub returns-in_ok-flow-in-Some-clause-took : goal.returns-in_ok-flow-in-Some-clause-took
returns-in_ok-flow-in-Some-clause-took c =
    let item = c.args.work.item.value in
    let store = λ (x : PlainValue) (b : Base) (o j : ℕ). stores_at (plain item) x b o j in
    let cut = ap (λ (s : List Step). let l : Lowered = record { steps = s; flats = [] } in l) (items_cut store c.args.work.width c.args.work.at c.args.work.left.items c.pop.new.self.items c.in-Some.value c.in-Some.ensures.items) in
    let wrote =
    subst (λ (w : WitType). Leads (memory_at c.args.store.now c.args.memory) (value_lowered (plain w) (plain_value c.in-Some.value) c.args.work.at) (memory_at c.begin.new.store c.args.memory) (begun_lowered c.in_ok-begun-in-Some.begun))
    c.deref.ensures c.in_ok-begun-in-Some.ensures.took.0 in (
      turned (memory_at c.args.store.now c.args.memory) (memory_at c.begin.new.store c.args.memory) (work_lowered (OfList c.args.work)) (value_lowered (plain item) (plain_value c.in-Some.value) c.args.work.at) _
          c.args.works.now.items c.push.new.self.items c.settle.new.works.items _ (begun_lowered c.in_ok-begun-in-Some.begun) (flow_lowered c.in_ok-flow-in-Some.flow) cut refl c.in_ok-push-in-Some.ensures.items wrote
          c.in_ok-flow-in-Some.ensures.value,
      c.in_ok-begun-in-Some.ensures.took.1,
    )
