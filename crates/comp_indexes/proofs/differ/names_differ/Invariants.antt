use Rattle.std.proofs.Common.{◌≡◌, map, length}
use Rattle.comp_names.specs.Same.{is_same_name}
use Rattle.comp_names.specs.Seen.{holds}
use Rattle.comp_types.specs.Rules.{all_differ}
use Rattle.comp_indexes.proofs.DifferLemmas.{are_new}
use Rattle.comp_indexes.proofs.differ.names_differ.Given as goal

abbrev pub invariant-loop-item : goal.invariant-loop-item
invariant-loop-item g l = all_differ is_same_name (map g.T.Named.name l.items) ≡ are_new is_same_name (holds l.seen) (map g.T.Named.name l.rest)

abbrev pub decreases-loop-item : goal.decreases-loop-item
decreases-loop-item g l = length l.rest
