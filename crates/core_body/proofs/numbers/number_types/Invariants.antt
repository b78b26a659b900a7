use Rattle.std.proofs.Common.{take}
use Rattle.core_body.specs.Numbers.{AreApart, HaveNumbers}
use Rattle.core_body.proofs.numbers.number_types.Given as goal

abbrev pub invariant-loop-f : goal.invariant-loop-f
invariant-loop-f l =
    record {
      apart : AreApart l.known;
      have : HaveNumbers l.known (take l.f-index l.types) l.numbers.items;
    }
