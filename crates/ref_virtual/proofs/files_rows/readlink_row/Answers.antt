use Rattle.std.proofs.Common.{◌∙◌, false, refl, ap}
use Rattle.reference_step.specs.Descriptors.{link_at}
use Rattle.reference_step.specs.Nodes.{node_at}
use Rattle.reference_step.specs.State.{fails as failing}
use Rattle.tree_table.specs.Tables.{tree_of, count_of}
use Rattle.ref_virtual.proofs.LedLemmas.{ok_map, link_led, led_nowhere}
use Rattle.ref_virtual.proofs.FilesInsideLemmas.{fixed_inside}
use Rattle.ref_virtual.proofs.files_rows.readlink_row.Goals as goal

pub returns-in-Ok-clause-row : goal.returns-in-Ok-clause-row
returns-in-Ok-clause-row c =
    let f = c.args.table.now in
    let found = c.in-Ok.ensures.found in
    ok_map c.link_row.result _ _ (λ row says. λ v h.
    says ∙ link_led f v h c.args.node c.requires.inside c.args.text.now false false refl c.in-Ok.at found.0 found.1 found.2) c.link_row.ensures.row

pub returns-in-Err-clause-row : goal.returns-in-Err-clause-row
returns-in-Err-clause-row c =
    let f = c.args.table.now in
    ok_map c.fails.result _ _ (λ row says. λ v h.
    says f ∙ ap failing c.from.ensures
    ∙ led_nowhere f v h c.args.node c.requires.inside c.args.text.now false false refl (λ found. link_at (node_at v.trees (tree_of f c.args.node) found)) c.in-Err.code c.in-Err.ensures.fault) c.fails.ensures

pub returns-in-Err-clause-inside : goal.returns-in-Err-clause-inside
returns-in-Err-clause-inside c = fixed_inside c.fails.result _ (count_of c.args.table.now) c.fails.ensures
