use Rattle.std.proofs.Common.{◌≡◌, ◌≤◌, ◌<◌, ◌+◌, ◌-◌, ◌*◌, ℕ, ◌∙◌, sym, ap, subst, None, Some, Option, get_or, set, length, true, false, List, rules, arith}
use Rattle.std.proofs.lemmas.Grind.{common_steps}
use Rattle.std.proofs.lemmas.List.{length-set, length-replicate}
use Rattle.std.specs.Prelude.{option_map, position, is_none, max, replicate}
use Rattle.std.specs.List.{splice}
use Rattle.tree_table.specs.Scratches.{content_at, name_at, file_at, find_file, has_room, with_content, with_name, resized, removed, renamed, created, read_at, free_number}
use Rattle.overlay_tree.specs.Pieces.{Entry, blocks_in, entry_blocks, len_of, with_len, map_of, is_named}
use Rattle.overlay_tree.proofs.PieceLemmas.{free_in, blocks_free, pieces_free, blocks_set, find_pieces}
use Rattle.overlay_tree.proofs.ResizeLemmas.{resized_code}
use Rattle.overlay_tree.proofs.MapLemmas.{live_in, live_number, numbered_in, room_fits, size_in, kept_other, name_in, name_past, written_none, written_some, blocks_gone, place_live, place_free, created_map, named_map, same_blocks, set_twice, without_none, without_same, without_differ, cleared_map}
use Rattle.overlay_tree.proofs.scratch.Scratch.write.Goals as goal

pub returns-clause-ok : goal.returns-clause-ok
returns-clause-ok c =
    let some : 0 < length c.args.bytes.now = grind (arith, common_steps) in
    let room : has_room c.args.self.now c.args.number c.max-len.result ≡ true = search (rules, common_steps) in
    let few = c.has_room.ensures.few (c.has_room.ensures.value ∙ room) in
    let len : c.max-len.result ≡ max (length (content_at c.args.self.now c.args.number)) (c.args.at + length c.args.bytes.now) = grind (arith, common_steps, few, c.size.ensures) in
    written_some c.args.self.now c.args.number c.args.at c.max-len.result c.args.bytes.now c.resize.new.self c.replace.new.self some c.requires len room c.resize.ensures c.replace.ensures
