use Rattle.std.proofs.Common.{rules}
use Rattle.comp_types.specs.Placed.{place_of}
use Rattle.comp_types.proofs.places.Places.none.Goals as goal

pub returns : goal.returns
unfolding place_of
returns c = search rules
