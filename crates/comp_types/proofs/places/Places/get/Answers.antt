use Rattle.std.proofs.Common.{rules}
use Rattle.comp_types.specs.Placed.{place_of}
use Rattle.comp_types.proofs.places.Places.get.Goals as goal

pub returns : goal.returns
unfolding place_of
returns c = search (rules, c.copied.ensures, c.get.ensures.value, c.as_str.ensures)
