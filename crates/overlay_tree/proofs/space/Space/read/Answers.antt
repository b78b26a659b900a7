use Rattle.std.proofs.Common.{◌∙◌, ap, length, take, drop, arith}
use Rattle.overlay_tree.specs.Blocks.{in_order}
use Rattle.overlay_tree.proofs.BlockLemmas.{space_long}
use Rattle.overlay_tree.proofs.space.Space.read.Goals as goal

pub read_all-requires-clause-space : goal.read_all-requires-clause-space
read_all-requires-clause-space c = rw (c.deref.ensures.value, c.deref-2.ensures.value) c.self.invariant

pub read_all-requires-clause-within : goal.read_all-requires-clause-within
read_all-requires-clause-within c = rw c.deref.ensures.value (omega (arith, c.requires, space_long c.self.inside.order.items c.self.inside.bytes.items c.self.invariant, ap length c.self.view_is))

pub returns : goal.returns
returns c =
    let k = length c.args.out.now in
    c.read_all.ensures ∙ ap (λ o. take k (drop c.args.at (in_order o c.deref-2.result.now))) c.deref.ensures.value ∙ ap (λ x. take k (drop c.args.at (in_order c.self.inside.order.items x))) c.deref-2.ensures.value ∙ ap (λ x. take k (drop c.args.at x)) c.self.view_is
