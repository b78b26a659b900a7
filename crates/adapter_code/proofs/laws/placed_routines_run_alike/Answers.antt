use Rattle.std.proofs.Common.{length, refl}
use Rattle.adapter_code.proofs.Placed.{placed_inside}
use Rattle.adapter_code.proofs.laws.placed_routines_run_alike.Goals as goal

pub returns : goal.returns
returns c = λ places outer code k s ok len w. (placed_inside places outer (length places) code k s (record { places = ok; count = refl }) len w).same
