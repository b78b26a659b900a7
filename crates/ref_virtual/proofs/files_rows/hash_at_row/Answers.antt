use Rattle.std.proofs.Common.{◌∙◌, ap}
use Rattle.reference_step.specs.Descriptors.{hash_of, symlink-follow}
use Rattle.reference_step.specs.State.{returns as returning, fails as failing}
use Rattle.tree_table.specs.Tables.{tree_of, count_of}
use Rattle.ref_virtual.proofs.LedLemmas.{ok_map, hash_led, led_nowhere}
use Rattle.ref_virtual.proofs.FilesInsideLemmas.{row_fixed, fixed_inside}
use Rattle.ref_virtual.proofs.files_rows.hash_at_row.Goals as goal

pub returns-in_ok-node_hash-in-Ok-clause-row : goal.returns-in_ok-node_hash-in-Ok-clause-row
returns-in_ok-node_hash-in-Ok-clause-row c = λ v h.
    let f = c.args.table.now in
    let found = c.in-Ok.ensures.found in
    c.returns.ensures f ∙ ap returning c.in_ok-node_hash-in-Ok.ensures
    ∙ hash_led f v h c.args.node c.requires c.args.text.now c.has_flag.result (symlink-follow c.args.flags) c.has_flag.ensures c.in-Ok.at found.0 found.1 found.2

pub returns-in-Err-clause-row : goal.returns-in-Err-clause-row
returns-in-Err-clause-row c =
    let f = c.args.table.now in
    ok_map c.fails.result _ _ (λ row says. λ v h.
    says f ∙ ap failing c.from.ensures
    ∙ led_nowhere f v h c.args.node c.requires c.args.text.now c.has_flag.result (symlink-follow c.args.flags) c.has_flag.ensures (λ found. hash_of v (tree_of f c.args.node) found) c.in-Err.code c.in-Err.ensures.fault) c.fails.ensures

pub returns-in_ok-node_hash-in-Ok-clause-inside : goal.returns-in_ok-node_hash-in-Ok-clause-inside
returns-in_ok-node_hash-in-Ok-clause-inside c = row_fixed c.returns.result _ (count_of c.args.table.now) c.returns.ensures

pub returns-in-Err-clause-inside : goal.returns-in-Err-clause-inside
returns-in-Err-clause-inside c = fixed_inside c.fails.result _ (count_of c.args.table.now) c.fails.ensures
