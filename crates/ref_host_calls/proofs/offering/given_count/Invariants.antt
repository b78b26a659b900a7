use Rattle.std.proofs.Common.{◌≡◌, ◌≤◌, ◌+◌, drop}
use Rattle.tree_table.specs.Tables.{Forest}
use Rattle.reference_step.specs.Steps.{given_count}
use Rattle.ref_host_calls.specs.Offers.{shown_all}
use Rattle.ref_host_calls.proofs.offering.given_count.Given as goal

abbrev pub invariant-loop-offer : goal.invariant-loop-offer
invariant-loop-offer g l = record {
  bound : l.count ≤ l.offer-index;
  counted : (f : Forest) → l.count + given_count g.H.Host.step (shown_all g.H.Host.step f (drop l.offer-index l.offers)) ≡ given_count g.H.Host.step (shown_all g.H.Host.step f l.offers);
}
