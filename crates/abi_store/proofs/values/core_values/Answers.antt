use Rattle.std.proofs.Common.{◌∙◌, arith}
use Rattle.abi_store.specs.Plan.{core_values}
use Rattle.abi_store.specs.Slots.{known}
use Rattle.abi_store.proofs.CoreLists.{values_end}
use Rattle.abi_store.proofs.values.core_values.Goals as goal

pub returns : goal.returns
returns c = c.new.ensures ∙ values_end (core_values c.args.types.now (known c.args.numbers.now)) c.loop-index.values.items c.args.types.now c.args.numbers.now c.loop-index.index c.loop-index.invariant (omega arith)
