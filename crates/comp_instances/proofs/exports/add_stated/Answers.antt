use Rattle.std.proofs.Common.{◌∙◌, subst}
use Rattle.comp_types.specs.Items.{and_entry}
use Rattle.comp_types.specs.Added.{and_described, described}
use Rattle.comp_scopes.specs.Named.{HasNamed}
use Rattle.comp_instances.proofs.ExternsStandLemmas.{stands_with, kept-index, export_stated}
use Rattle.comp_instances.proofs.exports.add_stated.Goals as goal

pub returns : goal.returns
returns c = λ s h states k.
    let x = c.add_described.new.scope in
    let e = c.args.export.now in
    let desc = c.args.desc in
    let t = and_described s desc in
    let a = c.in_ok-add_described.ensures s h k in
    let r = a.rest in
    let named : HasNamed (and_entry s.exports e.name (described s desc)) c.push.new.self =
    subst (λ j. HasNamed (and_entry s.exports e.name j) c.push.new.self) (c.in_ok-copy.ensures ∙ k.item) (c.in_ok-push.ensures s.exports (subst (λ es. HasNamed es x.exports) (kept-index s desc).exports r.exports)) in
    export_stated s e desc _ states
    (stands_with t x t.imports (and_entry s.exports e.name (described s desc)) t.imported t.defined t.deepest t.next x.imports c.push.new.self x.imported x.defined x.deepest x.next a r.imports named r.imported r.defined r.deepest r.next)
