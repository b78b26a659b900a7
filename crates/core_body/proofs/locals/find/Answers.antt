use Rattle.std.proofs.Common.{◌≡◌, ◌<◌, ◌+◌, ◌-◌, ◌/◌, ℕ, ap, ◌∙◌, sym, subst, drop, get_or, arith, add-one}
use Rattle.virt_base.specs.declared.core_type.CoreType.TheVariants.{I32}
use Rattle.core_body.specs.declared.locals.RunEnd.{RunEnd}
use Rattle.core_body.specs.Runs.{run_at}
use Rattle.core_body.proofs.RunLemmas.{run_at-drop, run_at-here}
use Rattle.core_body.proofs.locals.find.Goals as goal

pub loop-low-preserved-then-ends-middle : goal.loop-low-preserved-then-ends-middle
loop-low-preserved-then-ends-middle c =
    let ends = c.args.ends.now in
    let middle : ℕ = c.loop-low.low + (c.loop-low.high - c.loop-low.low) / 2 in
    record {
      ordered = omega arith;
      within = c.loop-low.invariant.within;
      skipped = ap (λ k. run_at c.args.n (drop k ends)) (add-one middle) ∙ run_at-drop c.args.n c.requires.0 ends middle _ c.requires.1 (omega arith) c.if-ends-middle.true;
      above = c.loop-low.invariant.above;
    }

pub returns-then-low-ends : goal.returns-then-low-ends
returns-then-low-ends c =
    let ends = c.args.ends.now in
    let d : RunEnd = record { end = 0; ty = I32 } in
    let same : c.loop-low.high ≡ c.loop-low.low = omega arith in
    let P : ℕ → Type 0 = λ k. c.args.n < (get_or ends k d).end in
    let over = subst P same (c.loop-low.invariant.above d (omega arith)) in
    sym (run_at-here c.args.n ends c.loop-low.low d (omega arith) over) ∙ c.loop-low.invariant.skipped
