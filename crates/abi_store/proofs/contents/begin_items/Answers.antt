use Rattle.std.proofs.Common.{◌∙◌, ap}
use Rattle.wit_types.specs.declared.types.WitType.{WitType}
use Rattle.wit_types.specs.Plain.{plain}
use Rattle.wit_types.specs.PlainValue.{plain_values}
use Rattle.wit_types.specs.Layout.{size}
use Rattle.abi_store.proofs.Runs.{width_fits}
use Rattle.abi_store.proofs.contents.begin_items.Goals as goal

pub invariant_of-result-clause-low : goal.invariant_of-result-clause-low
invariant_of-result-clause-low c =
    width_fits c.in_ok-left-in-None.left.items (plain_values c.args.values) c.args.place c.layout_of-width.result.size (size (plain c.args.item.value)) c.in_ok-left-in-None.ensures
    (c.layout_of-width.ensures.size ∙ ap (λ (w : WitType). size (plain w)) c.deref-in-None.ensures) c.ranges.place.fits c.requires.few
