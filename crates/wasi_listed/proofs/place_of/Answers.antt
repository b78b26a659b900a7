use Rattle.std.proofs.Common.{◌≡◌, ◌∙◌, ◌+◌, ◌-◌, ◌<◌, ◌≤◌, ℕ, get_or, drop, ap, sym, arith}
use Rattle.std.proofs.lemmas.List.{drop_more}
use Rattle.wasi_listed.specs.declared.TheConstants.{COUNTS}
use Rattle.wasi_listed.specs.Listed.{listed}
use Rattle.wasi_listed.proofs.CountLaw.{count_of}
use Rattle.wasi_listed.proofs.PlaceLemmas.{total, inside, further}
use Rattle.wasi_listed.proofs.place_of.Goals as goal

pub returns-then-place-count : goal.returns-then-place-count
unfolding listed
returns-then-place-count c =
    let i = c.loop-interface.interface in
    let less : i < 27 = c.loop-interface-test.true in
    let is = count_of i 0 less in
    let before : c.loop-interface.place < get_or COUNTS i 0 = c.if-place-count.true in
    record {
      there = less;
      inside = omega (arith, is, before);
      is = λ d. c.loop-interface.invariant.same ∙ inside i c.loop-interface.place (get_or COUNTS i 0) less is before d;
    }

pub loop-interface-preserved : goal.loop-interface-preserved
loop-interface-preserved c =
    let i = c.loop-interface.interface in
    let less : i < 27 = c.loop-interface-test.true in
    let most : get_or COUNTS i 0 ≤ c.loop-interface.place = c.if-place-count.false in
    let more : total (drop i COUNTS) ≡ get_or COUNTS i 0 + total (drop (i + 1) COUNTS) = ap total (drop_more COUNTS i 0 less) in
    record {
      same = c.loop-interface.invariant.same ∙ further i c.loop-interface.place (get_or COUNTS i 0) less (count_of i 0 less) most;
      left = omega (arith, most, c.loop-interface.invariant.left, more);
    }
