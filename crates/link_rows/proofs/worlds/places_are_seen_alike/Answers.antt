use Rattle.link_rows.specs.Places.{app, opening}
use Rattle.link_rows.proofs.Places.{places_related, within_imports, places_open}
use Rattle.link_rows.proofs.worlds.places_are_seen_alike.Goals as goal

pub returns : goal.returns
returns c = λ items calls each. c.components_are_seen_alike.ensures app places_related within_imports calls (opening items) items each (places_open items)
