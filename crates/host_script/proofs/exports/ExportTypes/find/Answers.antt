use Rattle.std.proofs.Common.{◌∙◌, ap, sym, rules}
use Rattle.host_script.specs.Exports.{export_named}
use Rattle.host_script.proofs.ExportPlaces.{nowhere, stands-at}
use Rattle.host_script.proofs.exports.ExportTypes.find.Goals as goal

pub index-requires : goal.index-requires
index-requires c =
    let at = stands-at c.args.name.now c.self.inside.items.items c.in-Some.place (sym (c.self.invariant c.args.name.now) ∙ (sym c.get.ensures ∙ c.in-Some.is)) in
    search (rules, at.0)

pub returns-in-Some : goal.returns-in-Some
returns-in-Some c =
    let at = stands-at c.args.name.now c.self.inside.items.items c.in-Some.place (sym (c.self.invariant c.args.name.now) ∙ (sym c.get.ensures ∙ c.in-Some.is)) in
    search (rules, c.self.view_is, c.index.ensures, at.1 c.index.result.now)

pub returns-in-None : goal.returns-in-None
returns-in-None c =
    sym (ap (export_named c.args.name.now) (sym c.self.view_is) ∙ nowhere c.args.name.now c.self.inside.items.items (sym (c.self.invariant c.args.name.now) ∙ (sym c.get.ensures ∙ c.in-None.is)))
