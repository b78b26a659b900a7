use Rattle.std.proofs.Common.{◌≡◌, ◌∙◌, sym}
use Rattle.comp_facts.proofs.KeyLemmas.{keys-bare}
use Rattle.comp_types.proofs.known_parts.KnownParts.add_bare.Goals as goal

pub returns : goal.returns
returns c = λ ps known. record {
  facts = c.add_bare.ensures ps known.facts;
  keys = known.keys ∙ sym (keys-bare ps c.args.name.now);
}
