use Rattle.std.proofs.Common.{◌∙◌, ap, arith}
use Rattle.wit_types.specs.Layout.{flat_cases}
use Rattle.abi_layout.specs.Flat.{types_of}
use Rattle.comp_facts.specs.Keys.{and_number, key_of_parts}
use Rattle.comp_facts.proofs.PartLemmas.{numbered}
use Rattle.comp_facts.proofs.facts.Facts.variant.Goals as goal

pub returns : goal.returns
returns c = λ ps h. record {
  depth = omega (arith, c.min.ensures, h.depth);
  parts = omega (arith, c.min-2.ensures, h.parts);
  borrows = h.borrows;
  handles = h.handles;
  pointed = h.pointed;
  flat = numbered (flat_cases ps) (types_of c.args.cases.now.cases) (types_of c.variant.result) c.variant.ensures h.cases;
  key = c.and_number.ensures ∙ (ap (λ k. and_number k c.number.result) h.key ∙ ap (and_number (key_of_parts ps)) c.number.ensures);
}
