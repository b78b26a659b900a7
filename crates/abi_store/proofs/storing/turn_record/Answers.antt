use Rattle.std.proofs.Common.{◌+◌, ◌∙◌, ap, refl, subst, List, [], Option}
use Rattle.core_store.specs.State.{memory_at}
use Rattle.wit_types.specs.declared.types.WitType.{WitType}
use Rattle.wit_types.specs.Plain.{plain}
use Rattle.wit_types.specs.PlainValue.{plain_value}
use Rattle.wit_types.specs.Layout.{align_to}
use Rattle.abi_layout.specs.Storing.{Step, Lowered}
use Rattle.abi_store.specs.declared.work.Work.TheVariants.{Record as OfRecord}
use Rattle.abi_store.specs.Parts.{parts_from, IsNext}
use Rattle.abi_store.specs.Flows.{flow_lowered}
use Rattle.abi_store.specs.Works.{begun_lowered, work_lowered, value_lowered}
use Rattle.abi_store.specs.Weights.{turns, left_turns, begun_turns}
use Rattle.abi_store.proofs.Begins.{turned, fields_cut_at}
use Rattle.abi_store.proofs.TurnLemmas.{one_fewer, left_cut}
use Rattle.abi_store.proofs.storing.turn_record.Goals as goal

pub returns-in_ok-flow-in-Some-pop-clause-fewer : goal.returns-in_ok-flow-in-Some-pop-clause-fewer
returns-in_ok-flow-in-Some-pop-clause-fewer c =
    one_fewer c.args.works.now.items c.push.new.self.items c.settle.new.works.items (OfRecord c.args.work) _ (begun_turns c.in_ok-begun-in-Some-pop.begun) (turns (plain_value c.in-Some-pop.value)) (left_turns c.args.work.left.items)
    (left_turns c.pop.new.self.items) c.in_ok-push-in-Some-pop.ensures.items refl refl (left_cut c.args.work.left.items c.pop.new.self.items c.in-Some-pop.value c.in-Some-pop.ensures.items)
    c.in_ok-begun-in-Some-pop.ensures.fewer c.in_ok-flow-in-Some-pop.ensures.turns

pub returns-in_ok-flow-in-Some-pop-clause-took : goal.returns-in_ok-flow-in-Some-pop-clause-took
returns-in_ok-flow-in-Some-pop-clause-took c =
    let next = subst (λ (o : Option WitType). IsNext (parts_from c.args.work.parts c.args.work.next) (parts_from c.args.work.parts (c.args.work.next + 1)) o) c.in-Some.is c.in_ok-part.ensures in
    let start = c.align_to-start.ensures.value ∙ ap (align_to c.args.work.offset) c.layout_of-layout.ensures.align in
    let end = ap (λ k. c.align_to-start.result + k) c.layout_of-layout.ensures.size in
    let cut =
    ap (λ (s : List Step). let l : Lowered = record { steps = s; flats = [] } in l)
    (fields_cut_at (parts_from c.args.work.parts c.args.work.next) (parts_from c.args.work.parts (c.args.work.next + 1)) next.0 (plain c.in-Some.ty) c.args.work.at c.args.work.offset c.align_to-start.result
    (c.align_to-start.result + c.layout_of-layout.result.size) c.args.work.left.items c.pop.new.self.items c.in-Some-pop.value next.1 start end c.in-Some-pop.ensures.items) in (
      turned (memory_at c.args.store.now c.args.memory) (memory_at c.begin.new.store c.args.memory) (work_lowered (OfRecord c.args.work))
          (value_lowered (plain c.in-Some.ty) (plain_value c.in-Some-pop.value) (c.args.work.at + c.align_to-start.result)) _ c.args.works.now.items c.push.new.self.items c.settle.new.works.items _
          (begun_lowered c.in_ok-begun-in-Some-pop.begun) (flow_lowered c.in_ok-flow-in-Some-pop.flow) cut refl c.in_ok-push-in-Some-pop.ensures.items c.in_ok-begun-in-Some-pop.ensures.took.0 c.in_ok-flow-in-Some-pop.ensures.value,
      c.in_ok-begun-in-Some-pop.ensures.took.1,
    )
