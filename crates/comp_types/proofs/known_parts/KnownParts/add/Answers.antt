use Rattle.std.proofs.Common.{◌≡◌, ◌∙◌, ◌∷◌, [], ◌++◌, ap, sym}
use Rattle.comp_facts.specs.Keys.{keys_in}
use Rattle.comp_facts.proofs.KeyLemmas.{keys-and}
use Rattle.comp_types.proofs.known_parts.KnownParts.add.Goals as goal

pub returns : goal.returns
returns c = λ ps known. record {
  facts = c.add.ensures ps c.args.value.now known.facts c.facts-facts.ensures;
  keys = c.in_ok-push.ensures.ok
      ∙ (ap (λ ks. ks ++ c.facts-facts.result.now.key ∷ []) known.keys
      ∙ (ap (λ k. keys_in ps ++ k ∷ []) c.facts-facts.ensures.key
      ∙ sym (keys-and ps c.args.name.now c.args.value.now)));
}
