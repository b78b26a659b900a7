use Rattle.std.proofs.Common.{◌≡◌, take}
use Rattle.comp_types.specs.Spaces.{Space}
use Rattle.comp_scopes.specs.Stands.{Stands}
use Rattle.comp_link.specs.Plans.{named_args}
use Rattle.comp_link.specs.Planned.{args_named}
use Rattle.comp_linking.proofs.arguments.named_args.Given as goal

abbrev pub invariant-loop-item : goal.invariant-loop-item
invariant-loop-item l = (s : Space) → Stands s l.scope → args_named l.args.items ≡ named_args s (take l.item-index l.items)
