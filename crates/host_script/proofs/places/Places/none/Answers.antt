use Rattle.std.proofs.Common.{rules}
use Rattle.host_script.specs.Exports.{place_of}
use Rattle.host_script.proofs.places.Places.none.Goals as goal

pub returns : goal.returns
unfolding place_of
returns c = search rules
