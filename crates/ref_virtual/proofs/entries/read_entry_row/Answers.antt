use Rattle.std.proofs.Common.{◌≡◌, ◌+◌, ◌∙◌, drop, arith}
use Rattle.std.proofs.lemmas.Grind.{common_steps}
use Rattle.reference_step.specs.Handles.{Entries}
use Rattle.reference_step.specs.Nodes.{entry_value}
use Rattle.reference_step.specs.State.{moves, returns}
use Rattle.reference_step.specs.Values.{ok, some, none}
use Rattle.ref_answers.specs.Seen.{entries_of_node}
use Rattle.ref_answers.specs.Shown.{shown}
use Rattle.ref_virtual.specs.Views.{node_entry}
use Rattle.ref_virtual.proofs.RangeLemmas.{some_row, none_row}
use Rattle.tree_table.specs.Tables.{count_of}
use Rattle.ref_rules.specs.declared.content.Content.TheVariants.{Entries as Held}
use Rattle.ref_virtual.proofs.FilesInsideLemmas.{below, row_fixed, row_moves}
use Rattle.ref_virtual.proofs.entries.read_entry_row.Goals as goal

pub returns-in_ok-ok-in-Some-clause-row : goal.returns-in_ok-ok-in-Some-clause-row
returns-in_ok-ok-in-Some-clause-row c = λ v h.
    let f = c.args.table.now in
    let n = c.in-Some.ensures.nth in
    let row : shown f c.moves.result ≡ moves (Entries (drop (c.args.place + 1) (entries_of_node f c.args.node))) (ok (some (entry_value (node_entry f c.in-Some.at)))) = grind (arith, common_steps, c.moves.ensures f) in
    row ∙ some_row f h.holds.forest v c.args.node c.args.place n.0 n.1 c.requires.inside n.2 c.in-Some.at n.3

pub returns-in_ok-ok-in-None-clause-row : goal.returns-in_ok-ok-in-None-clause-row
returns-in_ok-ok-in-None-clause-row c = λ v h.
    let f = c.args.table.now in
    let n = c.in-None.ensures.nth in
    let row : shown f c.returns.result ≡ returns (ok none) = grind (arith, common_steps, c.returns.ensures f) in
    row ∙ none_row f h.holds.forest v c.args.node c.args.place n.0 n.1 c.requires.inside n.2 n.3

pub returns-in_ok-ok-in-Some-clause-inside : goal.returns-in_ok-ok-in-Some-clause-inside
returns-in_ok-ok-in-Some-clause-inside c = row_moves c.moves.result (Held c.args.node (c.args.place + 1)) _ (count_of c.args.table.now) c.moves.ensures (below c.args.node (count_of c.args.table.now) c.requires.inside)

pub returns-in_ok-ok-in-None-clause-inside : goal.returns-in_ok-ok-in-None-clause-inside
returns-in_ok-ok-in-None-clause-inside c = row_fixed c.returns.result _ (count_of c.args.table.now) c.returns.ensures
