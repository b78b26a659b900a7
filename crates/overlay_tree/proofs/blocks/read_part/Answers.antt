use Rattle.std.proofs.Common.{◌≡◌, length, take, drop, rules}
use Rattle.std.proofs.lemmas.Grind.{common_steps}
use Rattle.overlay_tree.proofs.BlockLemmas.{bytes_read}
use Rattle.overlay_tree.proofs.blocks.read_part.Goals as goal

pub returns-clause-read : goal.returns-clause-read
returns-clause-read c =
    let copied : c.copy_from_slice.new.self ≡ take (length c.args.out.now) (drop c.place-from.result c.args.bytes.now) = search (rules, common_steps) in
    bytes_read c.args.order.now c.args.bytes.now c.copy_from_slice.new.self c.args.at c.place-from.result (length c.args.out.now) c.requires.space c.requires.place c.requires.within c.place-from.ensures copied
