use Rattle.std.proofs.Common.{◌≡◌, ◌+◌, ◌∙◌, ap, subst, length, arith}
use Rattle.std.specs.Prelude.{replicate}
use Rattle.std.specs.List.{splice}
use Rattle.overlay_tree.specs.Blocks.{in_order, IsSpace}
use Rattle.overlay_tree.proofs.BlockLemmas.{space_long}
use Rattle.overlay_tree.proofs.space.Space.clear.Goals as goal

pub clear_all-requires-clause-space : goal.clear_all-requires-clause-space
clear_all-requires-clause-space c = rw c.deref.ensures.value c.self.invariant

pub clear_all-requires-clause-within : goal.clear_all-requires-clause-within
clear_all-requires-clause-within c = rw c.deref.ensures.value (omega (arith, c.requires, space_long c.self.inside.order.items c.self.inside.bytes.items c.self.invariant, ap length c.self.view_is))

pub invariant_of-self : goal.invariant_of-self
invariant_of-self c = subst (λ o. IsSpace o c.clear_all.new.bytes.items) c.deref.ensures.value c.clear_all.ensures.space

pub returns : goal.returns
returns c =
    let old = c.self.inside.bytes.items in
    subst (λ o. in_order o c.clear_all.new.bytes.items ≡ splice (in_order o old) c.args.at (c.args.at + c.args.len) (replicate c.args.len 0)) c.deref.ensures.value c.clear_all.ensures.bytes ∙ ap (λ x. splice x c.args.at (c.args.at + c.args.len) (replicate c.args.len 0)) c.self.view_is
