use Rattle.std.proofs.Common.{◌≡◌, take, Some, []}
use Rattle.abi_layout.specs.Flat.{types_of, add_within}
use Rattle.wit_types.specs.Layout.{join}
use Rattle.abi_layout.proofs.flattening.joined.Given as goal

abbrev pub invariant-loop-i : goal.invariant-loop-i
invariant-loop-i l = types_of l.all ≡ add_within (Some []) (take l.i (join (take l.one.count l.one.types) (take l.other.count l.other.types)))
