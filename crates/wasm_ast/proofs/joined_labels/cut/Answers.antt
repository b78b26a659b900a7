use Rattle.std.proofs.Common.{◌∙◌, ap, sym, take, ◌∷◌}
use Rattle.std.specs.Prelude.{◌+◌}
use Rattle.wasm_ast.specs.JoinedLabels.{labels_in}
use Rattle.wasm_ast.proofs.JoinedLemmas.{all_behind, label_ends, last_label}
use Rattle.wasm_ast.proofs.joined_labels.cut.Goals as goal

pub returns-in-None-clause-labels : goal.returns-in-None-clause-labels
returns-in-None-clause-labels c = last_label c.args.bytes.now (sym c.place_between.ensures.place ∙ c.in-None.is)

pub returns-in-Some-clause-labels : goal.returns-in-Some-clause-labels
returns-in-Some-clause-labels c =
    label_ends c.args.bytes.now c.in-Some.place (sym c.place_between.ensures.place ∙ c.in-Some.is)
    ∙ ap (λ more. take c.in-Some.place c.args.bytes.now ∷ labels_in more) (sym (all_behind c.args.bytes.now (c.in-Some.place + 1)))
