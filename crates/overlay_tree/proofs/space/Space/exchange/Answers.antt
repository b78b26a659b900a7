use Rattle.std.proofs.Common.{◌*◌, ◌≤◌, ◌∙◌, ap, sym, subst, length, arith}
use Rattle.overlay_tree.specs.Blocks.{in_order, exchanged, IsSpace}
use Rattle.overlay_tree.proofs.BlockLemmas.{space_long, space_exchanged, bytes_exchanged}
use Rattle.overlay_tree.proofs.space.Space.exchange.Goals as goal

pub turn-requires-clause-within : goal.turn-requires-clause-within
turn-requires-clause-within c = omega (arith, c.requires.within, space_long c.self.inside.order.items c.self.inside.bytes.items c.self.invariant, ap length c.self.view_is)

pub invariant_of-self : goal.invariant_of-self
invariant_of-self c =
    let order = c.self.inside.order.items in
    let bytes = c.self.inside.bytes.items in
    let within : c.args.end ≤ length order = omega (arith, c.requires.within, space_long order bytes c.self.invariant, ap length c.self.view_is) in
    subst (λ o. IsSpace o bytes) (sym c.turn.ensures) (space_exchanged order bytes c.args.at c.args.mid c.args.end c.self.invariant c.requires.first c.requires.second within)

pub returns : goal.returns
returns c =
    let order = c.self.inside.order.items in
    let bytes = c.self.inside.bytes.items in
    let within : c.args.end ≤ length order = omega (arith, c.requires.within, space_long order bytes c.self.invariant, ap length c.self.view_is) in
    ap (λ o. in_order o bytes) c.turn.ensures ∙ bytes_exchanged order bytes c.args.at c.args.mid c.args.end c.self.invariant c.requires.first c.requires.second within
    ∙ ap (λ x. exchanged x (c.args.at * 4096) (c.args.mid * 4096) (c.args.end * 4096)) c.self.view_is
