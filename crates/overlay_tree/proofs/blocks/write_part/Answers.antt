use Rattle.std.proofs.Common.{◌/◌, arith}
use Rattle.overlay_tree.proofs.BlockLemmas.{block_there, space_put, bytes_put}
use Rattle.overlay_tree.proofs.blocks.write_part.Goals as goal

pub write-requires : goal.write-requires
write-requires c = omega (arith, block_there c.args.order.now c.args.bytes.now.items (c.args.at / 4096) c.requires.space c.requires.place, c.place-from.ensures, c.requires.within)

pub returns-clause-space : goal.returns-clause-space
returns-clause-space c = space_put c.args.order.now c.args.bytes.now.items c.write.new.bytes.items c.args.new.now c.args.at c.place-from.result c.requires.space c.requires.place c.requires.within c.place-from.ensures c.write.ensures

pub returns-clause-bytes : goal.returns-clause-bytes
returns-clause-bytes c = bytes_put c.args.order.now c.args.bytes.now.items c.write.new.bytes.items c.args.new.now c.args.at c.place-from.result c.requires.space c.requires.place c.requires.within c.place-from.ensures c.write.ensures
