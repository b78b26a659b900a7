use Rattle.std.proofs.Common.{ap, ◌∙◌, ◌∷◌, [], arith}
use Rattle.std.specs.Prelude.{reverse}
use Rattle.abi_store.specs.declared.request.Flow.TheVariants.{Goes, Asks, Trapped}
use Rattle.abi_store.specs.Works.{works_lowered}
use Rattle.abi_store.specs.Weights.{works_turns}
use Rattle.abi_store.proofs.Begins.{run_on, goes_on}
use Rattle.abi_store.proofs.Stores.{took_count}
use Rattle.abi_store.proofs.TurnLemmas.{works-append}
use Rattle.abi_store.proofs.storing.run.Goals as goal

pub loop-work-smaller : goal.loop-work-smaller
loop-work-smaller c =
    let before = ap works_turns c.in-Some.ensures.items ∙ works-append c.pop.new.self.items (c.in-Some.work ∷ []) in
    let fewer = c.in_ok-turn.ensures.fewer in
    omega arith

pub loop-work-preserved : goal.loop-work-preserved
loop-work-preserved c =
    let took =
    run_on c.args.store.now c.loop-work.store c.turn.new.store c.args.memory (works_lowered (reverse c.args.works.now.items)) c.loop-work.works.items c.pop.new.self.items c.turn.new.works.items c.in-Some.work c.in_ok-turn.field-0 Goes
    c.loop-work.invariant.took c.in-Some.ensures.items c.in_ok-turn.ensures.took c.in-Goes.is in
    let count = took_count c.loop-work.store c.turn.new.store c.args.memory _ _ c.in_ok-turn.ensures.took in
    let memory = c.loop-work.invariant.memory in
    record {
      took = goes_on c.args.store.now c.turn.new.store c.args.memory (works_lowered (reverse c.args.works.now.items)) (reverse c.turn.new.works.items) took;
      memory = omega arith;
    }

pub returns-in-Asks-clause-took : goal.returns-in-Asks-clause-took
returns-in-Asks-clause-took c =
    run_on c.args.store.now c.loop-work.store c.turn.new.store c.args.memory (works_lowered (reverse c.args.works.now.items)) c.loop-work.works.items c.pop.new.self.items c.turn.new.works.items c.in-Some.work c.in_ok-turn.field-0 (Asks c.in-Asks.request)
    c.loop-work.invariant.took c.in-Some.ensures.items c.in_ok-turn.ensures.took c.in-Asks.is

pub returns-in-Trapped-clause-took : goal.returns-in-Trapped-clause-took
returns-in-Trapped-clause-took c =
    run_on c.args.store.now c.loop-work.store c.turn.new.store c.args.memory (works_lowered (reverse c.args.works.now.items)) c.loop-work.works.items c.pop.new.self.items c.turn.new.works.items c.in-Some.work c.in_ok-turn.field-0 Trapped
    c.loop-work.invariant.took c.in-Some.ensures.items c.in_ok-turn.ensures.took c.in-Trapped.is
