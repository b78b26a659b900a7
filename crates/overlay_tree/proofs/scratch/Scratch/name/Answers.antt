use Rattle.std.proofs.Common.{◌≡◌, ◌∙◌, sym, None, get_or, rules, arith}
use Rattle.std.proofs.lemmas.Grind.{common_steps}
use Rattle.std.specs.Prelude.{option_map}
use Rattle.overlay_tree.proofs.MapLemmas.{name_in, name_past}
use Rattle.overlay_tree.proofs.scratch.Scratch.name.Goals as goal

pub returns-then-number-len-clause-value : goal.returns-then-number-len-clause-value
returns-then-number-len-clause-value c =
    let name : option_map (λ n. n.now) c.name.result ≡ option_map (λ e. e.name) (get_or c.self.inside.slots.items c.args.number None) = search (rules, common_steps) in
    name ∙ sym (name_in c.args.self.now c.self.inside.blocks c.self.inside.slots.items c.self.inside.space c.args.number c.self.view_is)

pub returns-else-number-len-clause-value : goal.returns-else-number-len-clause-value
returns-else-number-len-clause-value c = name_past c.args.self.now c.self.inside.blocks c.self.inside.slots.items c.self.inside.space c.args.number c.self.view_is (grind (arith, common_steps))
