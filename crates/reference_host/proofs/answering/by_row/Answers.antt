use Rattle.std.proofs.Common.{List, ℕ, arith, sym, ap, subst, ◌∙◌}
use Rattle.reference_step.specs.Rows.{row_of}
use Rattle.reference_step.specs.State.{View, view_of}
use Rattle.reference_step.specs.Steps.{by_row}
use Rattle.reference_host.proofs.BytesListedLaw.{typed_are_bytes}
use Rattle.ref_virtual.specs.Views.{HoldsTrees}
use Rattle.ref_host_calls.specs.Requests.{call_of, listed_of}
use Rattle.ref_answers.specs.Versions.{version_in}
use Rattle.ref_rules.specs.Lives.{LiveTable}
use Rattle.ref_virtual.proofs.WordLaws.{typed_words}
use Rattle.reference_host.specs.Kept.{IsHolding, reference_at}
use Rattle.reference_host.proofs.RowLemmas.{by_settled, holding_behind, row_may_enter}
use Rattle.reference_host.proofs.StepLemmas.{ok_map, on_map}
use Rattle.reference_host.proofs.answering.by_row.Goals as goal

pub row_of-requires : goal.row_of-requires
row_of-requires g c =
    let count = c.requires.setting.holds.count in
    let nodes = c.requires.setting.trees.nodes in
    record {
      trees = c.requires.setting.holds.roots ∙ sym c.tree_count.ensures;
      few = omega (arith, count, nodes);
      texts = c.requires.setting.texts;
      nodes = c.requires.holding.nodes;
      «open» = c.requires.holding.held_there;
      files = c.requires.holding.files ∙ sym c.file_limit.ensures;
      held = c.requires.holding.held_files;
      words = typed_words (listed_of c.args.request).function.ty.params (call_of c.args.request).args c.requires.asked.typed;
      bytes = typed_are_bytes (version_in c.args.setting.now.listed) (call_of c.args.request).interface (call_of c.args.request).function (listed_of c.args.request) c.requires.asked.named (call_of c.args.request).args c.requires.asked.typed;
    }

pub perform_row-requires : goal.perform_row-requires
perform_row-requires g c =
    let v : View = view_of (reference_at c.args.setting.now c.args.holding.now (tt {0})) in
    let holds : HoldsTrees c.args.setting.now.table v = record { trees = c.requires.setting.trees; holds = c.requires.setting.holds } in
    record {
      noted = c.requires.asked.noted;
      enters = row_may_enter c.args.setting.now c.args.holding.now c.args.request c.requires.holding c.row_of.new.folder (listed_of c.args.request).interface c.as_str.result.now c.requires.asked c.requires.room c.requires.others c.in_ok-row.row (c.in_ok-row.ensures.row v holds);
    }

pub returns-clause-answer : goal.returns-clause-answer
returns-clause-answer g c = ok_map c.perform_row.result _ _ (λ a e s.
    let h = g.H.Host.step in
    let f = listed_of c.args.request in
    let q = call_of c.args.request in
    let r = reference_at c.args.setting.now c.args.holding.now s in
    let holds : HoldsTrees c.args.setting.now.table (view_of r) = record { trees = c.requires.setting.trees; holds = c.requires.setting.holds } in
    ap (λ (n : List ℕ). by_row h r f q (row_of f.interface n (view_of r) q.args)) (sym c.as_str.ensures)
    ∙ sym (by_settled h f q r (row_of f.interface c.as_str.result.now (view_of r) q.args))
    ∙ ap (by_row h r f q) (sym (c.in_ok-row.ensures.row (view_of r) holds))
    ∙ e c.args.setting.now.table r c.row_of.new.folder (c.in_ok-row.ensures.still (view_of r) holds)) c.perform_row.ensures.does

pub returns-clause-keeps : goal.returns-clause-keeps
returns-clause-keeps g c = on_map c.perform_row.result _ _ (λ e.
    let v : View = view_of (reference_at c.args.setting.now c.args.holding.now (tt {0})) in
    let holds : HoldsTrees c.args.setting.now.table v = record { trees = c.requires.setting.trees; holds = c.requires.setting.holds } in
    subst (λ (l : LiveTable). IsHolding c.args.setting.now (record { live = l; folder = c.row_of.new.folder })) (sym e)
    (holding_behind c.args.setting.now c.args.holding.now c.args.request c.requires.holding c.row_of.new.folder (listed_of c.args.request).interface c.as_str.result.now c.requires.asked c.requires.room c.requires.others c.in_ok-row.row
    (c.in_ok-row.ensures.row v holds) (c.in_ok-row.ensures.inside v holds) (c.in_ok-row.ensures.still v holds))) c.perform_row.ensures.entered
