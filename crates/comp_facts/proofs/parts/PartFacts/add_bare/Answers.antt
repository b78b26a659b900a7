use Rattle.std.proofs.Common.{◌∙◌, ap, sym, min}
use Rattle.abi_layout.specs.Flat.{within}
use Rattle.comp_facts.specs.Keys.{and_number, and_name}
use Rattle.comp_facts.proofs.PartLemmas.{depth-bare, parts-bare, borrows-bare, handles-bare, pointed-bare, fields-bare, cases-bare}
use Rattle.comp_facts.proofs.KeyLemmas.{key-bare}
use Rattle.comp_facts.proofs.parts.PartFacts.add_bare.Goals as goal

pub returns : goal.returns
returns c = λ ps h. let n = c.args.name.now in record {
  depth = h.depth ∙ ap (λ k. min k 101) (sym (depth-bare ps n));
  parts = h.parts ∙ ap (λ k. min k 1000001) (sym (parts-bare ps n));
  borrows = h.borrows ∙ sym (borrows-bare ps n);
  handles = h.handles ∙ sym (handles-bare ps n);
  pointed = h.pointed ∙ sym (pointed-bare ps n);
  fields = h.fields ∙ ap within (sym (fields-bare ps n));
  cases = h.cases ∙ ap within (sym (cases-bare ps n));
  key = c.and_number-self.ensures ∙ (ap (λ x. and_number x 0) (c.and_name.ensures ∙ ap (λ x. and_name x n) h.key) ∙ sym (key-bare 0 ps n));
}
