use Rattle.std.proofs.Common.{◌≡◌, ◌∙◌, sym, ap, true}
use Rattle.std.specs.List.{list_any}
use Rattle.comp_types.specs.Views.{entries_of}
use Rattle.wasi_match.specs.declared.fault.Cause.TheVariants.{HandleExport}
use Rattle.plug_match.specs.declared.source.Source.{Source}
use Rattle.plug_match.specs.Walk.{SecondAtFault, is_met, second_of}
use Rattle.plug_match.proofs.SecondLaws.{all_well, handle_shown}
use Rattle.plug_match.proofs.second.match_sources.Goals as goal

pub returns-in-None : goal.returns-in-None
returns-in-None c =
    let met : list_any is_met c.loop-i.plugging.sources ≡ true = ap (list_any is_met) (sym c.as_slice.ensures) ∙ sym c.has_met.ensures ∙ c.if-not-has_met.false in
    all_well c.args.first.now c.args.given.now c.args.exports.now c.args.imports.now c.loop-i.i c.loop-i.plugging
    (second_of c.args.first.now c.args.given.now (entries_of c.args.imports.now) c.args.exports.now) c.loop-i.invariant c.loop-i-test.false met c.in-None.ensures

pub returns-in_ok-copy-in-Some-first_with_handle : goal.returns-in_ok-copy-in-Some-first_with_handle
returns-in_ok-copy-in-Some-first_with_handle c =
    let met : list_any is_met c.loop-i.plugging.sources ≡ true = ap (list_any is_met) (sym c.as_slice.ensures) ∙ sym c.has_met.ensures ∙ c.if-not-has_met.false in
    let shown = handle_shown c.args.first.now c.args.given.now c.args.exports.now c.args.imports.now c.loop-i.i c.loop-i.plugging
    (second_of c.args.first.now c.args.given.now (entries_of c.args.imports.now) c.args.exports.now) c.loop-i.invariant c.loop-i-test.false met c.in-Some-first_with_handle.name.now c.in-Some-first_with_handle.ensures in
    ap (SecondAtFault HandleExport) c.in_ok-copy-in-Some-first_with_handle.ensures ∙ shown
