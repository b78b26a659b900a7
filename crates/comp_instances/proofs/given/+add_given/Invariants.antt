use Rattle.std.proofs.Common.{◌≡◌, ◌+◌, ◌*◌, drop}
use Rattle.comp_types.specs.Sizes.{item_size, entries_size}
use Rattle.comp_types.specs.Views.{item_of, entries_of}
use Rattle.comp_types.specs.GivenResources.{given_by}
use Rattle.comp_instances.specs.Given.{and_pairs}
use Rattle.comp_instances.proofs.given.+add_given.Given as goal

abbrev pub invariant-add_given-loop-import : goal.invariant-add_given-loop-import
invariant-add_given-loop-import l = and_pairs l.fn.by (given_by l.args (entries_of l.imports)) ≡ and_pairs l.by (given_by l.args (entries_of (drop l.import-index l.imports)))

abbrev pub decreases-add_given : goal.decreases-add_given
decreases-add_given l = 4 * entries_size (entries_of l.imports.now)

abbrev pub decreases-add_given_one : goal.decreases-add_given_one
decreases-add_given_one l = 4 * item_size (item_of l.import.now.ty) + 2

abbrev pub decreases-add_given_for : goal.decreases-add_given_for
decreases-add_given_for l = 4 * item_size (item_of l.item.now) + 1

abbrev pub decreases-add_instance : goal.decreases-add_instance
decreases-add_instance l = 4 * item_size (item_of l.item.now)
