use Rattle.std.proofs.Common.{◌≡◌, ◌++◌, length, drop}
use Rattle.tree_table.specs.Tables.{Forest, Holds}
use Rattle.reference_step.specs.Steps.{roots_from}
use Rattle.ref_host_calls.specs.Offers.{AreInside, shown_all}
use Rattle.ref_host_calls.proofs.own.note_roots.Given as goal

abbrev pub invariant-loop-place : goal.invariant-loop-place
invariant-loop-place g l = record {
  noted : (f : Forest) → Holds l.trees f → shown_all g.H.Host.step f l.offers.items ++ roots_from g.H.Host.step l.place (drop l.place l.trees) ≡ shown_all g.H.Host.step f l.fn.offers.items ++ roots_from g.H.Host.step 0 l.trees;
  inside : AreInside (length l.trees) l.fn.offers.items → AreInside (length l.trees) l.offers.items;
}
