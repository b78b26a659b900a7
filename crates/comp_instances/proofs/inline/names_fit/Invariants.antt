use Rattle.std.proofs.Common.{◌≡◌, [], take, drop}
use Rattle.comp_types.specs.Added.{named_items}
use Rattle.comp_types.specs.Rules.{names_fit_in}
use Rattle.comp_types.specs.Spaces.{Space}
use Rattle.comp_scopes.specs.Stands.{Stands}
use Rattle.comp_instances.proofs.inline.names_fit.Given as goal

abbrev pub invariant-loop-item : goal.invariant-loop-item
invariant-loop-item l = record {
  entries : (s : Space) → Stands s l.scope → l.entries ≡ named_items s (take l.item-index l.items);
  fit : (s : Space) → Stands s l.scope → names_fit_in s [] l.items ≡ names_fit_in s (take l.item-index l.items) (drop l.item-index l.items);
}
