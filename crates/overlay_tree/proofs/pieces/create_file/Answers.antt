use Rattle.std.proofs.Common.{◌≡◌, ◌≤◌, ◌<◌, ◌+◌, ◌-◌, ◌*◌, ℕ, ◌∙◌, sym, ap, subst, None, Some, Option, get_or, set, length, true, false, List, rules, arith}
use Rattle.std.proofs.lemmas.Grind.{common_steps}
use Rattle.std.proofs.lemmas.List.{length-set, length-replicate}
use Rattle.std.specs.Prelude.{option_map, position, is_none, max, replicate}
use Rattle.std.specs.List.{splice}
use Rattle.tree_table.specs.Scratches.{content_at, name_at, file_at, find_file, has_room, with_content, with_name, resized, removed, renamed, created, read_at, free_number}
use Rattle.overlay_tree.specs.Pieces.{Entry, blocks_in, entry_blocks, len_of, with_len, map_of, is_named}
use Rattle.overlay_tree.proofs.PieceLemmas.{free_in, blocks_free, pieces_free, blocks_set, find_pieces}
use Rattle.overlay_tree.proofs.ResizeLemmas.{resized_code}
use Rattle.overlay_tree.proofs.MapLemmas.{live_in, live_number, numbered_in, room_fits, size_in, kept_other, name_in, name_past, written_none, written_some, blocks_gone, place_live, place_free, created_map, named_map, same_blocks, set_twice, without_none, without_same, without_differ, cleared_map}
use Rattle.overlay_tree.proofs.pieces.create_file.Goals as goal

pub returns-clause-kept : goal.returns-clause-kept
returns-clause-kept c =
    omega (arith, blocks_set c.args.slots.now.items c.args.number c.put.new.self c.requires.number, ap entry_blocks c.put.ensures, ap entry_blocks c.requires.free)

pub returns-clause-files : goal.returns-clause-files
returns-clause-files c b bytes =
    created_map b c.args.slots.now.items (set c.args.slots.now.items c.args.number c.put.new.self) bytes c.args.name.now c.args.number c.requires.number c.requires.free (ap (set c.args.slots.now.items c.args.number) c.put.ensures)
