use Rattle.std.proofs.Common.{◌∙◌, ap, sym, subst}
use Rattle.wit_types.specs.Plain.{Plain}
use Rattle.wit_types.proofs.PlainLemmas.{plain-Borrow}
use Rattle.comp_facts.specs.Facts.{IsFactsOf}
use Rattle.comp_facts.specs.Keys.{keys_of}
use Rattle.comp_defining.proofs.kinds.borrow_of.Goals as goal

pub new-requires : goal.new-requires
new-requires c =
    let is = plain-Borrow c.in-Resource.number in
    record { facts = subst (λ (t : Plain). IsFactsOf t c.borrow-facts.result) (sym is) c.borrow-facts.ensures; keys = c.empty.ensures ∙ sym (ap keys_of is) }
