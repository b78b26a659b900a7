use Rattle.std.proofs.Common.{◌∙◌, sym, Some, None}
use Rattle.std.specs.Prelude.{option_map}
use Rattle.std.proofs.lemmas.Bool.{false≢true}
use Rattle.comp_types.specs.Views.{item_of}
use Rattle.comp_types.specs.Added.{described}
use Rattle.comp_types.specs.Definitions.{AnExport}
use Rattle.comp_types.specs.Rules.{name_fits}
use Rattle.comp_instances.proofs.FaultLemmas.{annotations_fail, export_fits, stated_back, stated_fails_first, stated_onward, valid_export}
use Rattle.comp_instances.proofs.ExternsStandLemmas.{exported_stated}
use Rattle.comp_instances.proofs.TableLemmas.{item_given, makes_nothing, makes_stated}
use Rattle.comp_instances.proofs.exports.define_stated.Goals as goal

pub returns-then-not-stated : goal.returns-then-not-stated
returns-then-not-stated c = λ around s h t states early.
    let e = c.args.export.now in
    let types = c.args.types.now in
    let given = option_map item_of c.in_ok-given.given in
    let there = c.in_ok-given.ensures s h in
    let decides = c.in_ok-stated.ensures s h t (item_given types s e.sort e.index given t there) in
    (stated_fails_first around s (AnExport e) early (λ w. false≢true (sym c.if-not-stated.true ∙ decides.1 (stated_back s e c.args.desc given states there w))), makes_nothing types s (AnExport e) 22)

pub returns-then-not-fits : goal.returns-then-not-fits
returns-then-not-fits c = λ around s h t states early.
    let e = c.args.export.now in
    let desc = c.args.desc in
    let old = c.args.types.now in
    let new = c.describe.new.types in
    let given = option_map item_of c.in_ok-given.given in
    let there = c.in_ok-given.ensures s h in
    let decides = c.in_ok-stated.ensures s h t (item_given old s e.sort e.index given t there) in
    let k = c.in_ok-d.ensures s h t in
    let item = k.is.item in
    let before = c.entries.ensures s.exports h.rest.exports in (
      annotations_fail around s e c.args.scope.now early (stated_onward s e desc given states there (decides.0 c.if-not-stated.false))
          (export_fits s e (described s desc) (exported_stated s e desc states) ∙ (sym (c.in_ok-fits.ensures ∙ (λ i. name_fits (before i) e.name (item i))) ∙ c.if-not-fits.true)),
      makes_stated old new s e desc (Some 24) states k.grew k.has,
    )

pub returns : goal.returns
returns c = λ around s h t states early.
    let e = c.args.export.now in
    let desc = c.args.desc in
    let old = c.args.types.now in
    let new = c.describe.new.types in
    let given = option_map item_of c.in_ok-given.given in
    let there = c.in_ok-given.ensures s h in
    let decides = c.in_ok-stated.ensures s h t (item_given old s e.sort e.index given t there) in
    let k = c.in_ok-d.ensures s h t in
    let item = k.is.item in
    let before = c.entries.ensures s.exports h.rest.exports in (
      valid_export around s e c.add_stated.new.scope early (stated_onward s e desc given states there (decides.0 c.if-not-stated.false))
          (export_fits s e (described s desc) (exported_stated s e desc states) ∙ (sym (c.in_ok-fits.ensures ∙ (λ i. name_fits (before i) e.name (item i))) ∙ c.if-not-fits.false))
          (c.in_ok-add_stated.ensures s h states k.is),
      makes_stated old new s e desc None states k.grew k.has,
    )
