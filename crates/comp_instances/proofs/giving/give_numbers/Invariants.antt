use Rattle.std.proofs.Common.{◌≡◌, ◌+◌, ◌++◌, drop, length}
use Rattle.comp_types.specs.Added.{new_numbers}
use Rattle.comp_types.specs.GivenResources.{numbered}
use Rattle.comp_instances.specs.Pairs.{FindAlike}
use Rattle.comp_instances.proofs.giving.give_numbers.Given as goal

abbrev pub invariant-loop-resource : goal.invariant-loop-resource
invariant-loop-resource l = record {
  by : FindAlike (l.fresh.by ++ numbered (drop l.resource-index l.own) l.fresh.next) (l.fn.by ++ numbered l.own l.fn.next);
  numbers : l.fresh.numbers ++ new_numbers (numbered (drop l.resource-index l.own) l.fresh.next) ≡ new_numbers (numbered l.own l.fn.next);
  next : l.fresh.next + length (numbered (drop l.resource-index l.own) l.fresh.next) ≡ l.fn.next + length (numbered l.own l.fn.next);
}
