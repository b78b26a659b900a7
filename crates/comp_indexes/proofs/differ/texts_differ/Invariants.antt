use Rattle.std.proofs.Common.{◌≡◌, map, length}
use Rattle.comp_types.specs.CoreMatching.{same_text}
use Rattle.comp_names.specs.Seen.{holds_text}
use Rattle.comp_types.specs.Rules.{all_differ}
use Rattle.comp_indexes.proofs.DifferLemmas.{are_new}
use Rattle.comp_indexes.proofs.differ.texts_differ.Given as goal

abbrev pub invariant-loop-item : goal.invariant-loop-item
invariant-loop-item g l = all_differ same_text (map g.T.Named.name l.items) ≡ are_new same_text (holds_text l.seen) (map g.T.Named.name l.rest)

abbrev pub decreases-loop-item : goal.decreases-loop-item
decreases-loop-item g l = length l.rest
