use Rattle.std.proofs.Common.{◌≡◌, ◌+◌, ◌∙◌, ap, subst, length, arith}
use Rattle.std.specs.List.{splice}
use Rattle.overlay_tree.specs.Blocks.{in_order, IsSpace}
use Rattle.overlay_tree.proofs.BlockLemmas.{space_long}
use Rattle.overlay_tree.proofs.space.Space.write.Goals as goal

pub write_all-requires-clause-space : goal.write_all-requires-clause-space
write_all-requires-clause-space c = rw c.deref.ensures.value c.self.invariant

pub write_all-requires-clause-within : goal.write_all-requires-clause-within
write_all-requires-clause-within c = rw c.deref.ensures.value (omega (arith, c.requires, space_long c.self.inside.order.items c.self.inside.bytes.items c.self.invariant, ap length c.self.view_is))

pub invariant_of-self : goal.invariant_of-self
invariant_of-self c = subst (λ o. IsSpace o c.write_all.new.bytes.items) c.deref.ensures.value c.write_all.ensures.space

pub returns : goal.returns
returns c =
    let old = c.self.inside.bytes.items in
    subst (λ o. in_order o c.write_all.new.bytes.items ≡ splice (in_order o old) c.args.at (c.args.at + length c.args.new.now) c.args.new.now) c.deref.ensures.value c.write_all.ensures.bytes ∙ ap (λ x. splice x c.args.at (c.args.at + length c.args.new.now) c.args.new.now) c.self.view_is
