use Rattle.std.proofs.Common.{◌∙◌, sym, subst, get_or}
use Rattle.std.proofs.lemmas.List.{get_or_default}
use Rattle.comp_types.specs.declared.types.InstanceEntry.{InstanceEntry}
use Rattle.wasi_match.specs.Verdicts.{HasHandle}
use Rattle.wasi_match.proofs.PlaceLaws.{still_none, handle_here}
use Rattle.wasi_match.proofs.exports.first_with_handle.Goals as goal

pub returns-then-has_resource : goal.returns-then-has_resource
returns-then-has_resource c =
    let xs = c.as_slice-entries.result.now in
    let i = c.loop-i.i in
    let less = c.loop-i-test.true in
    let x = get_or xs i c.index-entries-i.result in
    let is = get_or_default xs i c.index-entries-i.result x less in
    let same = get_or_default xs i c.index-entries-i.result c.index-entries-i-then-has_resource.result less in
    subst (λ (e : InstanceEntry). HasHandle c.args.exports.now e.name) same
    (handle_here xs i x less is c.args.exports.now c.as_slice-entries.ensures c.loop-i.invariant (sym c.has_resource.ensures ∙ c.if-has_resource.true))

pub loop-i-preserved : goal.loop-i-preserved
loop-i-preserved c =
    let xs = c.as_slice-entries.result.now in
    let i = c.loop-i.i in
    let less = c.loop-i-test.true in
    let x = get_or xs i c.index-entries-i.result in
    still_none xs i x less (get_or_default xs i c.index-entries-i.result x less) c.loop-i.invariant (sym c.has_resource.ensures ∙ c.if-has_resource.false)
