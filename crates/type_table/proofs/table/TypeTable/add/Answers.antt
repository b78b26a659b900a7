use Rattle.std.proofs.Common.{subst}
use Rattle.wit_types.specs.Plain.{Plain}
use Rattle.type_table.specs.Slots.{slots_of}
use Rattle.type_table.specs.Tables.{trees, IsSound, AreLinks, HasOwnParts}
use Rattle.type_table.specs.Nodes.{IsThere}
use Rattle.type_table.proofs.AddLemmas.{adds-there, adds-pushed}
use Rattle.type_table.proofs.table.TypeTable.add.Goals as goal

pub returns-in_ok-same-in-Some-clause-ok : goal.returns-in_ok-same-in-Some-clause-ok
returns-in_ok-same-in-Some-clause-ok c =
    let self = c.args.self.now in
    let links = c.in_ok-links.links in
    let same = c.in_ok-same-in-Some.same.value in
    let is = subst (λ (x : Plain). IsSound self → AreLinks (trees self) c.as_slice.result.now (slots_of x) → IsThere self x same) c.deref-in-Some.ensures c.in_ok-same-in-Some.ensures in
    adds-there self c.args.known.value same links
    (subst (λ p. HasOwnParts self p → AreLinks (trees self) links (slots_of p)) c.deref-2.ensures c.in_ok-links.ensures.links)
    (subst (λ ls. IsSound self → AreLinks (trees self) ls (slots_of c.args.known.value) → IsThere self c.args.known.value same) c.as_slice.ensures is)

pub returns-in_ok-push-in-None-clause-ok : goal.returns-in_ok-push-in-None-clause-ok
returns-in_ok-push-in-None-clause-ok c =
    let self = c.args.self.now in
    let links = c.in_ok-links.links in
    adds-pushed self c.args.known.value c.push.new.self c.in_ok-share-in-None.field-0.value links c.in_ok-push-in-None.ensures.ok c.in_ok-share-in-None.ensures
    (subst (λ p. HasOwnParts self p → AreLinks (trees self) links (slots_of p)) c.deref-2.ensures c.in_ok-links.ensures.links)
