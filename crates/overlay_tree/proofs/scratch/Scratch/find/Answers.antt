use Rattle.overlay_tree.proofs.PieceLemmas.{find_in}
use Rattle.overlay_tree.proofs.scratch.Scratch.find.Goals as goal

pub returns-in-Some : goal.returns-in-Some
returns-in-Some c =
    let found = find_in c.args.self.now c.self.inside.blocks c.self.inside.slots.items c.self.inside.space c.args.name.now c.self.view_is in
    let place = c.in-Some.ensures.place in
    let slots = c.deref.ensures.value in
    cc

pub returns-in-None : goal.returns-in-None
returns-in-None c =
    let found = find_in c.args.self.now c.self.inside.blocks c.self.inside.slots.items c.self.inside.space c.args.name.now c.self.view_is in
    let place = c.in-None.ensures.place in
    let slots = c.deref.ensures.value in
    cc
