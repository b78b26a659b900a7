use Rattle.std.proofs.Common.{subst, List}
use Rattle.virt_base.specs.declared.core_type.CoreType.{CoreType}
use Rattle.core_body.specs.Parts.{LiesAt}
use Rattle.core_body.proofs.PartLemmas.{laid-step, all-laid}
use Rattle.core_body.proofs.parts.parts_of.Goals as goal

pub loop-f-preserved : goal.loop-f-preserved
loop-f-preserved c =
    let middle = c.lay.new.text.items in
    let new = c.lay-in-loop-f.new.text.items in
    let first : LiesAt middle c.in_ok-params.params c.f-item.result.params =
    subst (λ (ts : List CoreType). LiesAt middle c.in_ok-params.params ts) c.as_slice.ensures c.in_ok-params.ensures.lies in
    let second : LiesAt new c.in_ok-results.results c.f-item.result.results =
    subst (λ (ts : List CoreType). LiesAt new c.in_ok-results.results ts) c.as_slice-in-loop-f.ensures c.in_ok-results.ensures.lies in
    rw c.in_ok-push.ensures.items
    (laid-step c.loop-f.text.items middle new c.args.types.now c.loop-f.places.items c.loop-f.f-index c.f-item.result c.in_ok-params.params c.in_ok-results.results
    c.loop-f-test.true c.f-item.is c.loop-f.invariant first c.in_ok-params.ensures.grows second c.in_ok-results.ensures.grows)

pub returns : goal.returns
returns c =
    (c.loop-f.text.items, c.in_ok-levels.ensures, all-laid c.loop-f.text.items c.args.types.now c.loop-f.places.items c.loop-f.f-index c.loop-f-test.false c.loop-f.invariant)
