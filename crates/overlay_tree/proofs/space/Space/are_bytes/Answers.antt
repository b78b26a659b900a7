use Rattle.std.proofs.Common.{◌<◌, All, ap, subst, length, arith}
use Rattle.overlay_tree.proofs.BlockLemmas.{order_bytes, space_long}
use Rattle.overlay_tree.proofs.space.Space.are_bytes.Goals as goal

pub returns-clause-small : goal.returns-clause-small
returns-clause-small c =
    let v = c.self.inside in
    subst (All (λ b. b < 256)) c.self.view_is (order_bytes v.order.items v.bytes.items (subst (All (λ b. b < 256)) c.as_slice.ensures.value c.are_bytes.ensures.small))

pub returns-clause-count : goal.returns-clause-count
returns-clause-count c =
    let v = c.self.inside in
    omega (arith, space_long v.order.items v.bytes.items c.self.invariant, ap length c.self.view_is, c.self.invariant.whole, ap length c.as_slice.ensures.value, c.are_bytes.ensures.count)
