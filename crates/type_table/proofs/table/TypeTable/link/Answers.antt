use Rattle.std.proofs.Common.{◌≡◌, ap, sym, subst, Some}
use Rattle.std.specs.Prelude.{option_map}
use Rattle.wit_types.specs.Plain.{plain}
use Rattle.type_table.specs.Tables.{trees, Leads, HasAnswer}
use Rattle.type_table.specs.Nodes.{IsKeyOf}
use Rattle.type_table.proofs.NodeLemmas.{leads-placed, below-some}
use Rattle.type_table.proofs.table.TypeTable.link.Goals as goal

pub returns-in-Some-clause-below : goal.returns-in-Some-clause-below
returns-in-Some-clause-below c = below-some _ c.place.result c.place.ensures.within

pub returns-in-Some-clause-leads : goal.returns-in-Some-clause-leads
returns-in-Some-clause-leads c = λ is has.
    let self = c.args.self.now in
    let ty = plain c.in-Some.ty.now in
    let o : option_map (λ t. plain t.now) c.args.part ≡ Some ty = ap (option_map (λ t. plain t.now)) c.in-Some.is in
    subst (Leads (trees self) c.place.result) (sym o)
    (leads-placed (trees self) c.place.result ty (c.place.ensures.one (subst (λ x. IsKeyOf x c.args.key) o is) (subst (HasAnswer self) o has)))
