use Rattle.std.proofs.Common.{◌≡◌, ◌+◌, ◌∙◌, ℕ, ap, sym, length, replicate, arith}
use Rattle.std.specs.Prelude.{◌/◌}
use Rattle.std.specs.List.{splice}
use Rattle.std.proofs.lemmas.List.{length-replicate}
use Rattle.overlay_tree.specs.Blocks.{in_order}
use Rattle.overlay_tree.proofs.BlockLemmas.{block_there, space_put, bytes_put}
use Rattle.overlay_tree.proofs.blocks.clear_part.Goals as goal

pub clear-requires : goal.clear-requires
clear-requires c = omega (arith, block_there c.args.order.now c.args.bytes.now.items (c.args.at / 4096) c.requires.space c.requires.place, c.place-from.ensures, c.requires.within)

pub returns-clause-space : goal.returns-clause-space
returns-clause-space c =
    let zeros = replicate c.args.len 0 in
    let long : length zeros ≡ c.args.len = length-replicate {A = ℕ} c.args.len 0 in
    let from = c.place-from.result in
    let cleared = c.clear.ensures ∙ ap (λ k. splice c.args.bytes.now.items from (from + k) zeros) (sym long) in
    space_put c.args.order.now c.args.bytes.now.items c.clear.new.bytes.items zeros c.args.at from c.requires.space c.requires.place (omega (arith, long, c.requires.within)) c.place-from.ensures cleared

pub returns-clause-bytes : goal.returns-clause-bytes
returns-clause-bytes c =
    let zeros = replicate c.args.len 0 in
    let long : length zeros ≡ c.args.len = length-replicate {A = ℕ} c.args.len 0 in
    let from = c.place-from.result in
    let cleared = c.clear.ensures ∙ ap (λ k. splice c.args.bytes.now.items from (from + k) zeros) (sym long) in
    bytes_put c.args.order.now c.args.bytes.now.items c.clear.new.bytes.items zeros c.args.at from c.requires.space c.requires.place (omega (arith, long, c.requires.within)) c.place-from.ensures cleared
    ∙ ap (λ k. splice (in_order c.args.order.now c.args.bytes.now.items) c.args.at (c.args.at + k) zeros) long
