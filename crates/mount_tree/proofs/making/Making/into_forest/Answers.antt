use Rattle.std.proofs.Common.{◌≡◌, ◌∙◌, ◌+◌, ◌∷◌, ◌++◌, [], List, ℕ, length, sym, ap, subst}
use Rattle.tree_table.specs.declared.entries.Entry.{Entry}
use Rattle.mount_tree.specs.declared.forest.MadeTree.{MadeTree}
use Rattle.mount_tree.specs.Growing.{IsGrown}
use Rattle.mount_tree.specs.Making.{Sofar}
use Rattle.mount_tree.specs.Woods.{IsWood}
use Rattle.mount_tree.proofs.TreeLemmas.{wood-more}
use Rattle.mount_tree.proofs.making.Making.into_forest.Goals as goal

pub returns-clause-wood : goal.returns-clause-wood
returns-clause-wood c =
    let i = c.self.inside in
    let all : List MadeTree = i.before.trees ++ record { name = c.args.name; nodes = i.paths } ∷ [] in
    let count : c.nodes-nodes.result ≡ i.before.nodes + length i.paths = c.nodes-nodes.ensures.value ∙ ap (λ (m : Sofar). m.before.nodes + length m.there) (sym c.self.view_is) in
    let more : c.push.new.self ≡ all = c.in_ok-push.ensures.ok ∙ ap (λ (es : List Entry). i.before.trees ++ record { name = c.args.name; nodes = es } ∷ []) c.into_nodes.ensures.value in
    let wood = wood-more i.before i.paths c.args.name i.bytes c.self.invariant.4 (subst IsGrown c.into_nodes.ensures.value c.into_nodes.ensures.grown) c.self.invariant.3 c.self.invariant.0 c.self.invariant.2 c.self.invariant.1 in
    subst (λ (n : ℕ). IsWood (record { nodes = n; bytes = i.bytes; trees = c.push.new.self })) (sym count)
    (subst (λ (ts : List MadeTree). IsWood (record { nodes = i.before.nodes + length i.paths; bytes = i.bytes; trees = ts })) (sym more) wood)
