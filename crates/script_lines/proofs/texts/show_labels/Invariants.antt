use Rattle.std.proofs.Common.{◌≡◌, drop}
use Rattle.serde_json.specs.View.{items_view}
use Rattle.script_lines.specs.Shown.{labels_set}
use Rattle.script_lines.specs.Shows.{items_then}
use Rattle.script_lines.proofs.texts.show_labels.Given as goal

abbrev pub invariant-loop-label : goal.invariant-loop-label
invariant-loop-label l =
    labels_set l.labels l.fn.bits ≡ items_then (items_view l.items.items) (labels_set (drop l.label-index l.labels) l.left)
