use Rattle.std.proofs.Common.{◌∙◌, sym}
use Rattle.tree_table.specs.Tables.{tree_of, count_of}
use Rattle.ref_virtual.proofs.LedLemmas.{ok_map, open_there, open_nowhere}
use Rattle.ref_virtual.proofs.FilesInsideLemmas.{fixed_inside}
use Rattle.ref_virtual.proofs.opening.open_row.Goals as goal

pub returns-in-Ok-clause-row : goal.returns-in-Ok-clause-row
returns-in-Ok-clause-row c =
    let f = c.args.table.now in
    let found = c.in-Ok.ensures.found in
    let no = sym c.asks_changes.ensures ∙ c.if-asks_changes.false in
    ok_map c.open_found.result _ _ (λ row says. λ v h.
    says ∙ open_there f v h c.args.node c.requires c.args.text.now c.args.follow c.args.flags c.args.rights c.has_flag.result c.has_flag.ensures no c.in-Ok.at found.0 found.1 found.2) c.open_found.ensures.row

pub returns-in-Err-clause-row : goal.returns-in-Err-clause-row
returns-in-Err-clause-row c =
    let f = c.args.table.now in
    let no = sym c.asks_changes.ensures ∙ c.if-asks_changes.false in
    ok_map c.open_missing.result _ _ (λ row says. λ v h.
    says f v (tree_of f c.args.node) ∙ open_nowhere f v h c.args.node c.requires c.args.text.now c.args.follow c.args.flags c.args.rights c.has_flag.result c.has_flag.ensures no c.in-Err.code c.in-Err.ensures.fault) c.open_missing.ensures.row

pub returns-then-asks_changes-clause-inside : goal.returns-then-asks_changes-clause-inside
returns-then-asks_changes-clause-inside c = fixed_inside c.fails.result _ (count_of c.args.table.now) c.fails.ensures

pub returns-in-Err-clause-inside : goal.returns-in-Err-clause-inside
returns-in-Err-clause-inside c = ok_map c.open_missing.result _ _ (λ row is. is (count_of c.args.table.now)) c.open_missing.ensures.inside
