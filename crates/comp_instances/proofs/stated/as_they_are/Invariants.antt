use Rattle.std.proofs.Common.{ℕ, drop}
use Rattle.comp_types.specs.Subtyping.{Takes}
use Rattle.comp_types.specs.Rules.{as_they_are}
use Rattle.comp_instances.proofs.AmongLemmas.{AreSame}
use Rattle.comp_instances.proofs.stated.as_they_are.Given as goal

abbrev pub invariant-loop-resource : goal.invariant-loop-resource
invariant-loop-resource l = record {
  same : AreSame l.by;
  onward : (partner : ℕ → ℕ) → Takes partner l.by → Takes partner (as_they_are (drop l.resource-index l.these)) → Takes partner (as_they_are l.these);
  back : (partner : ℕ → ℕ) → Takes partner (as_they_are l.these) → Takes partner l.by × Takes partner (as_they_are (drop l.resource-index l.these));
}
