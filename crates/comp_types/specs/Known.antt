-- What is kept of parts together with the keys of their types.
use Rattle.std.specs.Prelude.{◌≡◌}
use Rattle.wit_types.specs.Plain.{Parts}
use Rattle.comp_facts.specs.Facts.{AreFactsOf}
use Rattle.comp_facts.specs.Keys.{keys_in}
use Rattle.comp_types.specs.declared.known_parts.KnownParts.{KnownParts}

pub record AreKnownOf (ps : Parts) (known : KnownParts) : Type 0 where
  pub facts : AreFactsOf ps known.facts
  pub keys : known.keys ≡ keys_in ps
