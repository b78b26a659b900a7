use Rattle.link_rows.proofs.Places.{places_examples}
use Rattle.link_rows.proofs.worlds.handles_have_places.Goals as goal

pub returns : goal.returns
returns c = places_examples
