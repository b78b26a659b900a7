use Rattle.std.proofs.Common.{◌≡◌, ◌∙◌, ap, sym, subst, rules}
use Rattle.std.specs.Prelude.{IfOk}
use Rattle.serde_json.specs.Data.{Data, string}
use Rattle.serde_json.specs.View.{view}
use Rattle.wit_types.specs.Plain.{bare}
use Rattle.script_lines.specs.Shown.{labelled, label_at}
use Rattle.script_lines.proofs.Views.{view-Null}
use Rattle.script_lines.proofs.Places.{bare_label, bare_past}
use Rattle.script_lines.proofs.showing.show_label.Goals as goal

pub returns-then-number-labels : goal.returns-then-number-labels
returns-then-number-labels c = view-Null ∙ ap (λ o. labelled string o) (sym (bare_past c.args.labels.now c.args.number c.if-number-labels.true))

pub returns : goal.returns
returns c =
    let labels = c.args.labels.now in
    let n = c.args.number in
    let x = c.index-labels-number.result in
    let named : string c.as_str.result.now ≡ labelled string (label_at n (bare labels)) =
    ap string (search (rules, c.as_str.ensures, c.index-labels-number.is)) ∙ ap (λ o. labelled string o) (sym (bare_label labels n x c.if-number-labels.false)) in
    subst (λ (d : Data). IfOk c.text_of.result (λ json. view json ≡ d)) named c.text_of.ensures
