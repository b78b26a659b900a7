use Rattle.std.proofs.Common.{subst}
use Rattle.comp_types.specs.Substitution.{partner_in}
use Rattle.type_table.specs.Tables.{IsSound}
use Rattle.type_table.specs.Walks.{Walk}
use Rattle.type_table.specs.Made.{MadeOf}
use Rattle.type_table.proofs.MakingLemmas.{found-made, made-same}
use Rattle.type_table.proofs.making.Making.found.Goals as goal

pub returns-in_ok-share-in-Some-get : goal.returns-in_ok-share-in-Some-get
returns-in_ok-share-in-Some-get c =
    let types = c.self.inside.table in
    let f = partner_in c.self.inside.by.now in
    let ms = c.deref.result.now in
    let new = c.in_ok-share-in-Some-get.field-0.value in
    subst (λ (w : Walk). IsSound w.types → MadeOf w.types (partner_in w.by) c.args.at new) c.self.view_is
    (found-made types f ms c.get-2.result c.in-Some.index.now c.args.at c.in-Some-get.made new c.get-2.ensures.lookup.0 c.get-2.ensures.lookup.1 c.in-Some-get.is c.if-made-at.true c.in_ok-share-in-Some-get.ensures
    (made-same types f c.self.inside.made.items ms c.deref.ensures.value c.self.invariant))
