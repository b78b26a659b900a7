use Rattle.std.proofs.Common.{◌≡◌, ◌∙◌, sym, ap, subst, None, get_or, set, rules, arith}
use Rattle.std.proofs.lemmas.Grind.{common_steps}
use Rattle.std.specs.Prelude.{IsSome}
use Rattle.tree_table.specs.Scratches.{blocks_of, with_name}
use Rattle.overlay_tree.specs.Pieces.{entry_blocks, len_of}
use Rattle.overlay_tree.proofs.PieceLemmas.{blocks_set}
use Rattle.overlay_tree.proofs.MapLemmas.{live_number, named_map, same_blocks}
use Rattle.overlay_tree.proofs.pieces.rename_file.Goals as goal

pub returns-clause-kept : goal.returns-clause-kept
returns-clause-kept c =
    let fs = c.free_name.new.slots.items in
    let n = c.args.number in
    let len : c.len-len.result ≡ len_of (get_or fs n None) = search (rules, common_steps) in
    let live = subst (λ o. IsSome o) (sym c.free_name.ensures.own) c.requires.live in
    let lt = live_number fs n live in
    omega (arith, blocks_set fs n c.put.new.self lt, ap entry_blocks c.put.ensures, ap blocks_of len, same_blocks (get_or fs n None) live, c.free_name.ensures.kept)

pub returns-clause-files : goal.returns-clause-files
returns-clause-files c b =
    let fs = c.free_name.new.slots.items in
    let n = c.args.number in
    let len : c.len-len.result ≡ len_of (get_or fs n None) = search (rules, common_steps) in
    let live = subst (λ o. IsSome o) (sym c.free_name.ensures.own) c.requires.live in
    let lt = live_number fs n live in
    named_map b fs (set fs n c.put.new.self) c.free_name.new.space c.args.name.now n c.len-len.result lt live len (ap (set fs n) c.put.ensures) ∙ ap (λ m. with_name m n c.args.name.now) (c.free_name.ensures.files b)
