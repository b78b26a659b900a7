use Rattle.std.proofs.Common.{◌≡◌, ◌∙◌, ap, sym, true}
use Rattle.comp_types.specs.Declarations.{ATypeExport}
use Rattle.comp_types.specs.Definitions.{AType}
use Rattle.comp_types.specs.Rules.{desc_stands, lengths_of}
use Rattle.comp_instances.proofs.IndexLemmas.{indexes_fail}
use Rattle.comp_instances.proofs.TableLemmas.{makes, makes_nothing}
use Rattle.comp_instances.proofs.declares.define_type_export.Goals as goal

pub returns-then-not-desc_stands : goal.returns-then-not-desc_stands
returns-then-not-desc_stands c = λ around s h t.
    let d = AType (ATypeExport c.args.name.now c.args.desc) in
    (indexes_fail around s d (sym (c.if-not-desc_stands.ensures ∙ ap (λ l. desc_stands l c.args.desc) (c.lengths.ensures s h))), makes_nothing c.args.types.now s d 3)

pub returns : goal.returns
returns c = λ around s h t.
    let d = AType (ATypeExport c.args.name.now c.args.desc) in
    let k = c.in_ok-d.ensures s h t in
    let stands : desc_stands (lengths_of s) c.args.desc ≡ true = ap (λ l. desc_stands l c.args.desc) (sym (c.lengths.ensures s h)) ∙ sym c.if-not-desc_stands.ensures in
    (c.in_ok-rule.ensures around s h stands k.is, makes c.args.types.now c.describe.new.types s d c.in_ok-rule.rule k.grew k.has)
