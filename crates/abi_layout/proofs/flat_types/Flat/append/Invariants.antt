use Rattle.std.proofs.Common.{◌≡◌, take}
use Rattle.abi_layout.specs.Flat.{types_of, add_within}
use Rattle.abi_layout.proofs.flat_types.Flat.append.Given as goal

abbrev pub invariant-loop-i : goal.invariant-loop-i
invariant-loop-i l = types_of l.self ≡ add_within (types_of l.fn.self) (take l.i l.other.types)
