use Rattle.std.proofs.Common.{◌≡◌, ◌∙◌, ◌++◌, min, max, subst}
use Rattle.comp_types.specs.Items.{and_entry}
use Rattle.comp_types.specs.Added.{and_described, brought, described, described_depth, new_numbers}
use Rattle.comp_scopes.specs.Named.{HasNamed}
use Rattle.comp_scopes.specs.Numbers.{HasNumbers}
use Rattle.comp_instances.proofs.ExternsStandLemmas.{stands_with, kept-index, deeper}
use Rattle.comp_instances.proofs.declares.add_type_export.Goals as goal

pub returns : goal.returns
returns c = λ s h k.
    let x = c.add_described.new.scope in
    let desc = c.args.desc in
    let t = and_described s desc in
    let a = c.in_ok-add_described.ensures s h k in
    let r = a.rest in
    let kept = kept-index s desc in
    let named : HasNamed (and_entry s.exports c.args.name.now (described s desc)) c.push.new.self =
    subst (λ i. HasNamed (and_entry s.exports c.args.name.now i) c.push.new.self) (c.in_ok-copy.ensures ∙ k.item) (c.in_ok-push.ensures s.exports (subst (λ es. HasNamed es x.exports) kept.exports r.exports)) in
    let numbers : HasNumbers (s.defined ++ new_numbers (brought s desc)) c.push_all.new.numbers =
    subst (λ ns. HasNumbers (s.defined ++ ns) c.push_all.new.numbers) (c.as_slice.ensures ∙ k.numbers) (c.in_ok-push_all.ensures s.defined (subst (λ rs. HasNumbers rs x.defined) kept.defined r.defined)) in
    let deep : c.max-scope.result ≡ min (max t.deepest (described_depth s desc)) 101 =
    c.max-scope.ensures ∙ deeper x.deepest t.deepest c.described_depth-depth.result (described_depth s desc) r.deepest (c.described_depth-depth.ensures s h) in
    stands_with t x t.imports (and_entry s.exports c.args.name.now (described s desc)) t.imported (s.defined ++ new_numbers (brought s desc)) (max t.deepest (described_depth s desc)) t.next
    x.imports c.push.new.self x.imported c.push_all.new.numbers c.max-scope.result x.next a r.imports named r.imported numbers deep r.next
