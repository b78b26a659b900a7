use Rattle.std.proofs.Common.{◌∙◌, ap}
use Rattle.wit_types.specs.declared.types.WitType.{WitType}
use Rattle.wit_types.specs.Plain.{Plain, plain}
use Rattle.wit_types.specs.PlainValue.{plain_value}
use Rattle.abi_store.specs.Works.{value_lowered}
use Rattle.abi_store.proofs.Plans.{placed_planned}
use Rattle.abi_store.proofs.plan.placed_plan.Goals as goal

pub returns : goal.returns
returns c =
    let same = ap (λ (w : WitType). plain w) c.in_ok-shared.ensures.ok ∙ c.in_ok-copy_type.ensures in
    placed_planned c.args.place c.layout_of-layout.result.align c.layout_of-layout.result.size c.new-works.result.items c.push.new.self.items c.new-2.result.items c.new-3.result.items c.new-4.result.items (plain c.args.ty.now) (plain_value c.args.value) _
    c.layout_of-layout.ensures.align c.layout_of-layout.ensures.size c.in_ok-push.ensures.items c.new-works.ensures.items (ap (λ (t : Plain). value_lowered t (plain_value c.args.value) c.args.place 0) same) c.new-2.ensures.items c.new-3.ensures.items
    c.new-4.ensures.items
