use Rattle.std.proofs.Common.{◌+◌, ◌-◌, ◌/◌, sym, inl, inr, arith}
use Rattle.std.specs.declared.cmp.Ordering.TheVariants.{Less, Greater}
use Rattle.std.proofs.lemmas.Bool.{cases_lt}
use Rattle.std.proofs.lemmas.Map.Lookups.{exact_bytes}
use Rattle.tree_table.proofs.Search.{all_below, all_above, halve, never_itself}
use Rattle.tree_table.proofs.walking.find_child.Goals as goal

pub loop-low-preserved-in-Less : goal.loop-low-preserved-in-Less
loop-low-preserved-in-Less g c =
    record {
      low = omega arith;
      high = c.loop-low.invariant.high;
      below = λ i low at. all_below (g.N.NameRead.name c.args.names.now) c.args.part.now c.args.from c.args.to _ i c.requires.sorted (omega arith) (sym c.in-Less.ensures.order) low (omega arith);
      above = c.loop-low.invariant.above;
      probes = λ digits few.
          let so_far = c.loop-low.invariant.probes digits few in
          let rest = halve (c.loop-low.high - c.loop-low.low) (c.loop-low.high - (c.loop-low.low + (c.loop-low.high - c.loop-low.low) / 2 + 1)) so_far.0 (omega arith) (omega arith) so_far.2 in
          (rest.0, omega (arith, so_far.1, rest.1, c.in-Less.ensures.probe), rest.2);
    }

pub loop-low-preserved : goal.loop-low-preserved
loop-low-preserved g c =
    record {
      low = c.loop-low.invariant.low;
      high = omega arith;
      below = c.loop-low.invariant.below;
      above = λ i at within. all_above (g.N.NameRead.name c.args.names.now) c.args.part.now c.args.from c.args.to _ i c.requires.sorted (omega arith) (sym c.in-Greater.ensures.order) at within;
      probes = λ digits few.
          let so_far = c.loop-low.invariant.probes digits few in
          let rest = halve (c.loop-low.high - c.loop-low.low) (c.loop-low.low + (c.loop-low.high - c.loop-low.low) / 2 - c.loop-low.low) so_far.0 (omega arith) (omega arith) so_far.2 in
          (rest.0, omega (arith, so_far.1, rest.1, c.in-Greater.ensures.probe), rest.2);
    }

pub returns-in-Equal-clause-found : goal.returns-in-Equal-clause-found
returns-in-Equal-clause-found g c = (omega arith, omega arith, exact_bytes _ _ (sym c.in-Equal.ensures.order))

pub returns-clause-none : goal.returns-clause-none
returns-clause-none g c = λ i low within same.
    elim (cases_lt i c.loop-low.low) [
      | inl under ↦ never_itself Less (λ e. cc) _ _ (c.loop-low.invariant.below i low under) same
      | inr over ↦ never_itself Greater (λ e. cc) _ _ (c.loop-low.invariant.above i (omega arith) within) same
    ]
