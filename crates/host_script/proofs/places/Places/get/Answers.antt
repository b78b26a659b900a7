use Rattle.std.proofs.Common.{rules}
use Rattle.host_script.specs.Exports.{place_of}
use Rattle.host_script.proofs.places.Places.get.Goals as goal

pub returns : goal.returns
unfolding place_of
returns c = search (rules, c.copied.ensures, c.get.ensures.value)
