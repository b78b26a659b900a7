use Rattle.std.proofs.Common.{◌≡◌, map, length}
use Rattle.std.specs.List.{list_all}
use Rattle.comp_names.specs.Names.{is_legal}
use Rattle.comp_indexes.proofs.legal.names_are_legal.Given as goal

abbrev pub invariant-loop-item : goal.invariant-loop-item
invariant-loop-item g l = list_all is_legal (map g.T.Named.name l.items) ≡ list_all is_legal (map g.T.Named.name l.rest)

abbrev pub decreases-loop-item : goal.decreases-loop-item
decreases-loop-item g l = length l.rest
