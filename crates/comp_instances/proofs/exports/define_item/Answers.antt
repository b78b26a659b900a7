use Rattle.std.proofs.Common.{◌∙◌, ap, sym}
use Rattle.comp_types.specs.Views.{item_of}
use Rattle.comp_types.specs.Rules.{name_fits}
use Rattle.comp_instances.proofs.FaultLemmas.{annotations_fail, export_fits, stated_nothing, valid_export}
use Rattle.comp_instances.proofs.ExternsStandLemmas.{exported_plain}
use Rattle.comp_instances.proofs.exports.define_item.Goals as goal

pub returns-then-not-fits : goal.returns-then-not-fits
returns-then-not-fits c = λ around s h plain there early.
    let e = c.args.export.now in
    let i = item_of c.args.item.now in
    annotations_fail around s e c.args.scope.now early (stated_nothing s e plain)
    (export_fits s e i (exported_plain s e plain ∙ there) ∙ (sym (c.in_ok-fits.ensures ∙ ap (λ es. name_fits es e.name i) (c.entries.ensures s.exports h.rest.exports)) ∙ c.if-not-fits.true))

pub returns : goal.returns
returns c = λ around s h plain there early.
    let e = c.args.export.now in
    let i = item_of c.args.item.now in
    valid_export around s e c.add_plain.new.scope early (stated_nothing s e plain)
    (export_fits s e i (exported_plain s e plain ∙ there) ∙ (sym (c.in_ok-fits.ensures ∙ ap (λ es. name_fits es e.name i) (c.entries.ensures s.exports h.rest.exports)) ∙ c.if-not-fits.false))
    (c.in_ok-add_plain.ensures s h plain there)
