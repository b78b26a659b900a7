use Rattle.std.proofs.Common.{◌≡◌, ◌∙◌, ap, sym, true}
use Rattle.comp_types.specs.Definitions.{AnImport}
use Rattle.comp_types.specs.Rules.{desc_stands, lengths_of}
use Rattle.type_table.proofs.ScopeLaws.{covers_grew}
use Rattle.comp_instances.proofs.IndexLemmas.{indexes_fail}
use Rattle.comp_instances.proofs.TableLemmas.{makes, makes_nothing}
use Rattle.comp_instances.proofs.imports.define_import.Goals as goal

pub returns-then-not-desc_stands : goal.returns-then-not-desc_stands
returns-then-not-desc_stands c = λ around s h t.
    let d = AnImport c.args.import.now in
    (indexes_fail around s d (sym (c.if-not-desc_stands.ensures ∙ ap (λ l. desc_stands l c.args.import.now.desc) (c.lengths.ensures s h))), makes_nothing c.args.types.now s d 3)

pub returns : goal.returns
returns c = λ around s h t.
    let d = c.args.import.now.desc in
    let old = c.args.types.now in
    let new = c.describe.new.types in
    let k = c.in_ok-d.ensures s h t in
    let stands : desc_stands (lengths_of s) d ≡ true = ap (λ l. desc_stands l d) (sym (c.lengths.ensures s h)) ∙ sym c.if-not-desc_stands.ensures in
    (c.in_ok-rule.ensures around s h (covers_grew old new s k.grew t) stands k.is, makes old new s (AnImport c.args.import.now) c.in_ok-rule.rule k.grew k.has)
