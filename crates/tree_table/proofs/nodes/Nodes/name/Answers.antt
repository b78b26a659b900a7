use Rattle.std.proofs.Common.{sym, ap, ◌∙◌}
use Rattle.tree_table.specs.declared.entries.Entry.{Entry}
use Rattle.tree_table.specs.Linked.{end_name}
use Rattle.tree_table.specs.Stored.{path_at}
use Rattle.tree_table.proofs.BuildLemmas.{end-longer}
use Rattle.tree_table.proofs.nodes.Nodes.name.Goals as goal

pub returns-in-Some-clause-value : goal.returns-in-Some-clause-value
returns-in-Some-clause-value c =
    let k = c.in-Some.kept.now in
    c.bytes.ensures.value ∙ sym (end-longer (path_at c.args.self.now k.folder) k.name) ∙ sym (ap (λ (e : Entry). end_name e.path) c.in-Some.ensures.some.is)
