use Rattle.std.proofs.Common.{◌≡◌, ℕ, take}
use Rattle.comp_types.specs.Matching.{is_own}
use Rattle.plug_match.proofs.declared.Declared.of.Given as goal

abbrev pub invariant-loop-resource : goal.invariant-loop-resource
invariant-loop-resource l = (r : ℕ) → is_own l.numbers.keys r ≡ is_own (take l.resource-index l.own) r
