use Rattle.std.proofs.Common.{◌≡◌, ◌∙◌, ap, None, Some}
use Rattle.std.specs.Prelude.{position, is_none}
use Rattle.tree_table.specs.Scratches.{created}
use Rattle.overlay_tree.proofs.PieceLemmas.{free_in}
use Rattle.overlay_tree.proofs.MapLemmas.{place_free}
use Rattle.overlay_tree.proofs.scratch.Scratch.create.Goals as goal

pub create_file-requires-clause-free : goal.create_file-requires-clause-free
create_file-requires-clause-free c =
    let place : position is_none c.self.inside.slots.items ≡ Some c.in-Some.number = (let found = c.in-Some.ensures.place in let slots = c.deref.ensures.value in cc) in
    place_free c.self.inside.slots.items c.in-Some.number place

pub returns-in-Some-clause-number : goal.returns-in-Some-clause-number
returns-in-Some-clause-number c =
    let place : position is_none c.self.inside.slots.items ≡ Some c.in-Some.number = (let found = c.in-Some.ensures.place in let slots = c.deref.ensures.value in cc) in
    free_in c.args.self.now c.self.inside.blocks c.self.inside.slots.items c.self.inside.space c.self.view_is ∙ place

pub returns-in-Some-clause-made : goal.returns-in-Some-clause-made
returns-in-Some-clause-made c = c.create_file.ensures.files c.self.inside.blocks c.self.inside.space ∙ ap (λ m. created m c.in-Some.number c.args.name.now) c.self.view_is

pub returns-in-None-clause-full : goal.returns-in-None-clause-full
returns-in-None-clause-full c =
    let place : position is_none c.self.inside.slots.items ≡ None = (let found = c.in-None.ensures.place in let slots = c.deref.ensures.value in cc) in
    free_in c.args.self.now c.self.inside.blocks c.self.inside.slots.items c.self.inside.space c.self.view_is ∙ place
