use Rattle.std.proofs.Common.{subst, List}
use Rattle.virt_base.specs.declared.core_type.CoreType.{CoreType}
use Rattle.core_body.specs.Numbers.{numbered, Adds}
use Rattle.core_body.proofs.NumberLemmas.{types-step, all-distinguished}
use Rattle.core_body.proofs.numbers.number_types.Goals as goal

pub loop-f-preserved : goal.loop-f-preserved
loop-f-preserved c =
    let old = c.loop-f.known in
    let middle = c.number_list.new.known in
    let new = c.number_list-in-loop-f.new.known in
    let first : Adds old middle (numbered middle c.f-item.result.params) c.in_ok-params.params =
    subst (λ (ts : List CoreType). Adds old middle (numbered middle ts) c.in_ok-params.params) c.as_slice.ensures c.in_ok-params.ensures in
    let second : Adds middle new (numbered new c.f-item.result.results) c.in_ok-results.results =
    subst (λ (ts : List CoreType). Adds middle new (numbered new ts) c.in_ok-results.results) c.as_slice-in-loop-f.ensures c.in_ok-results.ensures in
    rw c.in_ok-push.ensures.items (record {
      apart = second.apart;
      have = types-step old middle new c.args.types.now c.loop-f.numbers.items c.loop-f.f-index c.f-item.result c.in_ok-params.params c.in_ok-results.results c.loop-f-test.true c.f-item.is c.loop-f.invariant.have first second;
    })

pub returns : goal.returns
returns c = all-distinguished c.loop-f.known c.args.types.now c.loop-f.numbers.items c.loop-f.f-index c.loop-f-test.false c.loop-f.invariant.apart c.loop-f.invariant.have
