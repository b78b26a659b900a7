use Rattle.std.proofs.Common.{◌≡◌, ◌∙◌, [], inl}
use Rattle.mount_tree.proofs.policy_trees.add_content.Goals as goal

pub add_contents-requires : goal.add_contents-requires
add_contents-requires g c = inl (c.from_string-root.ensures ∙ c.new.ensures.bytes)

pub returns-in-Mount-clause-gives : goal.returns-in-Mount-clause-gives
returns-in-Mount-clause-gives g c =
    let root : c.from_string-root.result ≡ [] = c.from_string-root.ensures ∙ c.new.ensures.bytes in
    rw (c.in-Mount.is) (rw root at c.add_contents.ensures.gives)
