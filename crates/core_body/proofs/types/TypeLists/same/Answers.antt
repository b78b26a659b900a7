use Rattle.std.proofs.Common.{◌∙◌, sym}
use Rattle.std.proofs.lemmas.Bool.{eqb-true, eq-eqb}
use Rattle.core_body.proofs.types.TypeLists.same.Goals as goal

pub returns : goal.returns
returns c =
    let d = c.numbers-numbers.ensures c.args.a c.args.b in (
      λ e. d.0 (sym c.number_of.ensures ∙ eqb-true _ _ e ∙ c.number_of-2.ensures),
      λ e. eq-eqb _ _ (c.number_of.ensures ∙ d.1 e ∙ sym c.number_of-2.ensures),
    )
