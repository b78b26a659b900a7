use Rattle.std.proofs.Common.{◌-◌, length, arith}
use Rattle.abi_store.proofs.Lowers.{zeros_none}
use Rattle.abi_store.proofs.flats.pad.Goals as goal

pub loop-slots-init : goal.loop-slots-init
loop-slots-init c = record {
  zeros = zeros_none c.args.slots.now.items (length c.args.slots.now.items - length c.args.slots.now.items) (omega arith);
  least = omega arith;
  most = omega arith;
}
