use Rattle.std.proofs.Common.{◌≡◌, ◌∙◌, ap, sym, true}
use Rattle.comp_types.specs.Definitions.{AnExport}
use Rattle.comp_types.specs.Rules.{export_stands, lengths_of}
use Rattle.comp_instances.proofs.IndexLemmas.{indexes_fail}
use Rattle.comp_instances.proofs.FaultLemmas.{early_fails}
use Rattle.comp_instances.proofs.TableLemmas.{makes_nothing}
use Rattle.comp_instances.proofs.exports.define_export.Goals as goal

pub returns-then-not-export_stands : goal.returns-then-not-export_stands
returns-then-not-export_stands c = λ around s h t.
    let e = c.args.export.now in
    (indexes_fail around s (AnExport e) (sym (c.if-not-export_stands.ensures ∙ ap (λ l. export_stands l e) (c.lengths.ensures s h))), makes_nothing c.args.types.now s (AnExport e) 3)

pub returns-in-Some : goal.returns-in-Some
returns-in-Some c = λ around s h t.
    let e = c.args.export.now in
    let stands : export_stands (lengths_of s) e ≡ true = ap (λ l. export_stands l e) (sym (c.lengths.ensures s h)) ∙ sym c.if-not-export_stands.ensures in
    (early_fails around s (AnExport e) c.in-Some.rule (sym (c.in_ok-early.ensures around s h stands) ∙ c.in-Some.is), makes_nothing c.args.types.now s (AnExport e) c.in-Some.rule)

pub returns-in_ok-rule-in-None : goal.returns-in_ok-rule-in-None
returns-in_ok-rule-in-None c = λ around s h t.
    let e = c.args.export.now in
    let stands : export_stands (lengths_of s) e ≡ true = ap (λ l. export_stands l e) (sym (c.lengths.ensures s h)) ∙ sym c.if-not-export_stands.ensures in
    c.in_ok-rule-in-None.ensures around s h t stands (sym (c.in_ok-early.ensures around s h stands) ∙ c.in-None.is)
