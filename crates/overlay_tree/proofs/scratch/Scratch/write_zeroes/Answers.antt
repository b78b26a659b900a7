use Rattle.std.proofs.Common.{◌≡◌, ◌≤◌, ◌<◌, ◌+◌, ℕ, ◌∙◌, sym, ap, subst, length, true, max, rules, arith}
use Rattle.std.proofs.lemmas.Grind.{common_steps}
use Rattle.std.proofs.lemmas.List.{length-replicate}
use Rattle.std.specs.Prelude.{replicate}
use Rattle.std.specs.List.{splice}
use Rattle.tree_table.specs.Scratches.{content_at, has_room, with_content}
use Rattle.overlay_tree.proofs.MapLemmas.{written_some, written_none, long_enough}
use Rattle.overlay_tree.proofs.scratch.Scratch.write_zeroes.Goals as goal

pub returns-clause-ok : goal.returns-clause-ok
returns-clause-ok c =
    let zeros = replicate c.args.len 0 in
    let long : length zeros ≡ c.args.len = length-replicate {A = ℕ} c.args.len 0 in
    let some : 0 < length zeros = grind (arith, long) in
    let room : has_room c.args.self.now c.args.number c.max-size.result ≡ true = search (rules, common_steps) in
    let few = c.has_room.ensures.few (c.has_room.ensures.value ∙ room) in
    let len : c.max-size.result ≡ max (length (content_at c.args.self.now c.args.number)) (c.args.at + length zeros) = grind (arith, common_steps, few, long, c.size.ensures) in
    let cleared = c.clear.ensures ∙ ap (λ k. with_content c.resize.new.self c.args.number (splice (content_at c.resize.new.self c.args.number) c.args.at (c.args.at + k) zeros)) (sym long) in
    written_some c.args.self.now c.args.number c.args.at c.max-size.result zeros c.resize.new.self c.clear.new.self some c.requires len room c.resize.ensures cleared
