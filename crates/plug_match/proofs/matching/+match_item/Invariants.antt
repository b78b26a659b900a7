use Rattle.std.proofs.Common.{◌≡◌, drop, ◌+◌}
use Rattle.comp_types.specs.Sizes.{item_size, kind_size, entries_size}
use Rattle.comp_types.specs.Views.{item_of, kind_of, entries_of}
use Rattle.comp_types.specs.Matching.{matched_entries}
use Rattle.plug_match.proofs.matching.+match_item.Given as goal

abbrev pub invariant-match_entries-loop-i : goal.invariant-match_entries-loop-i
invariant-match_entries-loop-i l = matched_entries l.fn.by l.these (entries_of l.entries) ≡ matched_entries l.by l.these (entries_of (drop l.i l.entries))

abbrev pub decreases-match_declared : goal.decreases-match_declared
decreases-match_declared l = entries_size l.b.now.instance.value.entries + 2

abbrev pub decreases-match_entries : goal.decreases-match_entries
decreases-match_entries l = entries_size (entries_of l.entries.now)

abbrev pub decreases-match_item : goal.decreases-match_item
decreases-match_item l = item_size (item_of l.b.now)

abbrev pub decreases-match_kind : goal.decreases-match_kind
decreases-match_kind l = kind_size (kind_of l.b.now)
