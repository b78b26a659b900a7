use Rattle.std.proofs.Common.{subst}
use Rattle.comp_types.specs.Items.{and_entry}
use Rattle.comp_types.specs.Views.{item_of}
use Rattle.comp_types.specs.Added.{and_again}
use Rattle.comp_scopes.specs.Named.{HasNamed}
use Rattle.comp_instances.proofs.ExternsStandLemmas.{stands_with, kept-again, export_plain}
use Rattle.comp_instances.proofs.exports.add_plain.Goals as goal

pub returns : goal.returns
returns c = λ s h plain there.
    let x = c.add_again.new.scope in
    let e = c.args.export.now in
    let t = and_again s e.sort e.index in
    let a = c.in_ok-add_again.ensures s h there in
    let r = a.rest in
    let i = item_of c.args.item.now in
    let named : HasNamed (and_entry s.exports e.name i) c.push.new.self =
    subst (λ j. HasNamed (and_entry s.exports e.name j) c.push.new.self) c.in_ok-copy.ensures (c.in_ok-push.ensures s.exports (subst (λ es. HasNamed es x.exports) (kept-again s e.sort e.index).exports r.exports)) in
    export_plain s e i _ plain there
    (stands_with t x t.imports (and_entry s.exports e.name i) t.imported t.defined t.deepest t.next x.imports c.push.new.self x.imported x.defined x.deepest x.next a r.imports named r.imported r.defined r.deepest r.next)
