use Rattle.std.proofs.Common.{◌≡◌, ◌∙◌, ap, sym, subst, false}
use Rattle.comp_facts.specs.Handles.{has_handle}
use Rattle.comp_types.specs.Substitution.{partner_in}
use Rattle.type_table.specs.Tables.{Has}
use Rattle.type_table.proofs.MakingLemmas.{stays-made}
use Rattle.type_table.proofs.making.Making.value_with.Goals as goal

pub returns-then-not-facts-clause-made : goal.returns-then-not-facts-clause-made
returns-then-not-facts-clause-made c = λ has.
    let old = c.args.known.now.value in
    let bare : has_handle old ≡ false = sym (c.facts-facts.ensures.handles ∙ ap has_handle c.deref.ensures) ∙ c.if-not-facts.true in
    (stays-made (partner_in c.args.self.now.by) old c.in_ok-same.same.value bare c.in_ok-same.ensures, subst (Has c.args.self.now.types) (sym c.in_ok-same.ensures) has)
