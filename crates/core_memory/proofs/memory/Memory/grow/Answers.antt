use Rattle.std.proofs.Common.{arith, ap, ◌∙◌}
use Rattle.core_memory.proofs.Memories.{linear_size, most_of, grow_yes, grow_done, linear_grown}
use Rattle.std.proofs.lemmas.Int.{to_z_pos}
use Rattle.std.specs.Int.{w32}
use Rattle.std.specs.Prelude.{pos}
use Rattle.core_memory.proofs.memory.Memory.grow.Goals as goal

pub returns : goal.returns
returns c =
    let s = linear_size c.self.inside.pages.items c.self.inside.max c.args.self.now c.self.view_is in
    let most = most_of c.self.inside.pages.items c.self.inside.max c.args.self.now c.most_pages.result c.self.view_is c.most_pages.ensures in
    let can = grow_yes c.args.self.now c.args.pages c.most_pages.result most (omega arith) in
    grow_done c.args.self.now _ c.args.pages _ can (to_z_pos w32 c.len-old.result (omega arith) ∙ ap pos (omega arith)) (linear_grown c.self.inside.pages.items c.add_pages.new.pages.items c.self.inside.max c.args.self.now c.args.pages c.self.view_is c.in_ok-add_pages.ensures.ok)
