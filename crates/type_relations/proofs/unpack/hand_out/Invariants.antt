use Rattle.std.proofs.Common.{◌≡◌, drop}
use Rattle.comp_types.specs.Matching.{is_own, handed_out}
use Rattle.type_relations.proofs.unpack.hand_out.Given as goal

abbrev pub invariant-loop-i : goal.invariant-loop-i
invariant-loop-i l = record { met : handed_out (is_own l.own) l.fn.walk.by l.inside ≡ handed_out (is_own l.own) l.walk.by (drop l.i l.inside); kept : l.walk.types ≡ l.fn.walk.types }
