use Rattle.std.proofs.Common.{◌≡◌, ◌∙◌, ap, None, Some, arith}
use Rattle.std.specs.Prelude.{position}
use Rattle.tree_table.specs.Scratches.{find_file}
use Rattle.overlay_tree.specs.Pieces.{blocks_in, map_of, is_named}
use Rattle.overlay_tree.proofs.PieceLemmas.{find_pieces}
use Rattle.overlay_tree.proofs.MapLemmas.{live_number, blocks_gone, place_live, without_none, without_same, without_differ}
use Rattle.overlay_tree.proofs.pieces.free_name.Goals as goal

pub remove_file-requires-clause-live : goal.remove_file-requires-clause-live
remove_file-requires-clause-live c =
    let place : position (is_named c.args.name.now) c.args.slots.now.items ≡ Some c.in-Some.other = (let found = c.in-Some.ensures.place in let slots = c.deref.ensures.value in cc) in
    place_live c.args.name.now c.args.slots.now.items c.in-Some.other place

pub returns-then-other-number-clause-kept : goal.returns-then-other-number-clause-kept
returns-then-other-number-clause-kept c =
    let place : position (is_named c.args.name.now) c.args.slots.now.items ≡ Some c.in-Some.other = (let found = c.in-Some.ensures.place in let slots = c.deref.ensures.value in cc) in
    let lt = live_number c.args.slots.now.items c.in-Some.other (place_live c.args.name.now c.args.slots.now.items c.in-Some.other place) in
    omega (arith, ap blocks_in c.remove_file.ensures.slots, blocks_gone c.args.slots.now.items c.in-Some.other lt)

pub returns-then-other-number-clause-files : goal.returns-then-other-number-clause-files
returns-then-other-number-clause-files c b =
    let place : position (is_named c.args.name.now) c.args.slots.now.items ≡ Some c.in-Some.other = (let found = c.in-Some.ensures.place in let slots = c.deref.ensures.value in cc) in
    let found = find_pieces c.args.name.now c.args.slots.now.items c.args.space.now ∙ place in
    c.remove_file.ensures.files b ∙ without_differ (map_of b c.args.slots.now.items c.args.space.now) c.args.number c.in-Some.other (find_file (map_of b c.args.slots.now.items c.args.space.now) c.args.name.now) found c.if-other-number.true

pub returns-else-other-number-clause-files : goal.returns-else-other-number-clause-files
returns-else-other-number-clause-files c b =
    let place : position (is_named c.args.name.now) c.args.slots.now.items ≡ Some c.in-Some.other = (let found = c.in-Some.ensures.place in let slots = c.deref.ensures.value in cc) in
    let found = find_pieces c.args.name.now c.args.slots.now.items c.args.space.now ∙ place in
    without_same (map_of b c.args.slots.now.items c.args.space.now) c.args.number c.in-Some.other (find_file (map_of b c.args.slots.now.items c.args.space.now) c.args.name.now) found c.if-other-number.false

pub returns-in_default-clause-files : goal.returns-in_default-clause-files
returns-in_default-clause-files c b =
    let place : position (is_named c.args.name.now) c.args.slots.now.items ≡ None = (let found = c.in_default.ensures.place in let slots = c.deref.ensures.value in cc) in
    let found = find_pieces c.args.name.now c.args.slots.now.items c.args.space.now ∙ place in
    without_none (map_of b c.args.slots.now.items c.args.space.now) c.args.number (find_file (map_of b c.args.slots.now.items c.args.space.now) c.args.name.now) found
