use Rattle.std.proofs.Common.{◌∙◌, ◌++◌, subst}
use Rattle.comp_types.specs.Items.{and_entry}
use Rattle.comp_types.specs.Added.{and_described, brought, described, new_numbers}
use Rattle.comp_scopes.specs.Named.{HasNamed}
use Rattle.comp_scopes.specs.Numbers.{HasNumbers}
use Rattle.comp_instances.proofs.ExternsStandLemmas.{stands_with, kept-index}
use Rattle.comp_instances.proofs.imports.add_import.Goals as goal

pub returns : goal.returns
returns c = λ s h k.
    let x = c.add_described.new.scope in
    let desc = c.args.import.now.desc in
    let t = and_described s desc in
    let a = c.in_ok-add_described.ensures s h k in
    let r = a.rest in
    let kept = kept-index s desc in
    let named : HasNamed (and_entry s.imports c.args.import.now.name (described s desc)) c.push.new.self =
    subst (λ i. HasNamed (and_entry s.imports c.args.import.now.name i) c.push.new.self) (c.in_ok-copy.ensures ∙ k.item) (c.in_ok-push.ensures s.imports (subst (λ es. HasNamed es x.imports) kept.imports r.imports)) in
    let numbers : HasNumbers (s.imported ++ new_numbers (brought s desc)) c.push_all.new.numbers =
    subst (λ ns. HasNumbers (s.imported ++ ns) c.push_all.new.numbers) (c.as_slice.ensures ∙ k.numbers) (c.in_ok-push_all.ensures s.imported (subst (λ rs. HasNumbers rs x.imported) kept.imported r.imported)) in
    stands_with t x (and_entry s.imports c.args.import.now.name (described s desc)) t.exports (s.imported ++ new_numbers (brought s desc)) t.defined t.deepest t.next
    c.push.new.self x.exports c.push_all.new.numbers x.defined x.deepest x.next a named r.exports numbers r.defined r.deepest r.next
