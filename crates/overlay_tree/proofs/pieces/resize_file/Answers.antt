use Rattle.std.proofs.Common.{◌≡◌, ◌+◌, ◌*◌, ◌∙◌, ap, None, get_or, take, rules}
use Rattle.std.proofs.lemmas.Grind.{common_steps}
use Rattle.std.specs.Prelude.{replicate}
use Rattle.std.specs.List.{splice}
use Rattle.overlay_tree.specs.Pieces.{blocks_in, len_of, with_len}
use Rattle.overlay_tree.proofs.ResizeLemmas.{resized_code}
use Rattle.overlay_tree.proofs.pieces.resize_file.Goals as goal

pub returns-clause-files : goal.returns-clause-files
returns-clause-files c b =
    let first = c.first_block-first.ensures.value ∙ ap (λ s. blocks_in (take c.args.number s)) c.deref.ensures.value in
    let used = c.blocks_in-used.ensures ∙ ap blocks_in c.deref-2.ensures.value in
    let old : c.len-old.result ≡ len_of (get_or c.args.slots.now.items c.args.number None) = search (rules, common_steps) in
    let new : c.resize.new.self ≡ with_len c.args.len (get_or c.args.slots.now.items c.args.number None) = search (rules, common_steps) in
    let at = c.first_block-first.result * 4096 + c.len-old.result in
    let cleared = c.clear.ensures ∙ ap (λ k. splice c.move_rest.new.space at (at + k) (replicate k 0)) c.saturating_sub.ensures in
    resized_code c.args.slots.now.items c.args.space.now c.move_rest.new.space c.clear.new.self c.args.number c.args.len b c.first_block-first.result c.blocks_in-used.result c.len-old.result c.blocks_of.result c.blocks_of-2.result c.resize.new.self c.requires.number c.requires.live c.requires.within c.requires.fits first old used c.blocks_of.ensures.value c.blocks_of-2.ensures.value new c.move_rest.ensures.long c.move_rest.ensures.front c.move_rest.ensures.rest cleared
