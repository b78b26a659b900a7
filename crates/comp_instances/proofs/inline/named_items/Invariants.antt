use Rattle.std.proofs.Common.{◌≡◌, take}
use Rattle.comp_types.specs.Added.{named_items}
use Rattle.comp_types.specs.Spaces.{Space}
use Rattle.comp_scopes.specs.Stands.{Stands}
use Rattle.comp_instances.proofs.inline.named_items.Given as goal

abbrev pub invariant-loop-item : goal.invariant-loop-item
invariant-loop-item l = (s : Space) → Stands s l.scope → l.entries ≡ named_items s (take l.item-index l.items)
