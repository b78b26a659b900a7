use Rattle.std.proofs.Common.{◌≡◌, map, length}
use Rattle.std.specs.List.{list_all}
use Rattle.comp_names.specs.Labels.{is_label}
use Rattle.comp_indexes.proofs.legal.labels_are_legal.Given as goal

abbrev pub invariant-loop-item : goal.invariant-loop-item
invariant-loop-item g l = list_all is_label (map g.T.Named.name l.items) ≡ list_all is_label (map g.T.Named.name l.rest)

abbrev pub decreases-loop-item : goal.decreases-loop-item
decreases-loop-item g l = length l.rest
