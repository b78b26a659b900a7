use Rattle.std.proofs.Common.{◌≡◌, ◌++◌, [], List, drop, length, map}
use Rattle.wit_types.specs.PlainValue.{plain_value}
use Rattle.tree_table.specs.Tables.{Forest}
use Rattle.host_port.specs.Calls.{PlainObservation}
use Rattle.reference_step.specs.State.{Reference}
use Rattle.ref_guards.specs.Contents.{KeepsContents}
use Rattle.ref_host_calls.specs.Offers.{HoldsOfFolders, folders_at, shown_all}
use Rattle.ref_host_calls.specs.Offered.{GoesOn}
use Rattle.ref_host_calls.proofs.offering.offer_all.Given as goal

abbrev pub invariant-loop-offer : goal.invariant-loop-offer
invariant-loop-offer g l = record {
  slots : l.live.slots ≡ l.folders.policy.now.slots;
  limits : (l.live.slots ≡ l.fn.live.slots) × (l.live.files ≡ l.fn.live.files);
  keeps : KeepsContents (HoldsOfFolders (length l.folders.trees.now)) l.fn.live l.live;
  goes : (f : Forest) (r : Reference g.H.Host.State) (base seen : List PlainObservation) → (g.H.Host.kept l.fn.inner).seen ≡ base ++ seen →
      GoesOn g.H.Host.step (folders_at r f l.folders l.fn.live (g.H.Host.kept l.fn.inner).state) seen [] (shown_all g.H.Host.step f l.offers) (folders_at r f l.folders l.live (g.H.Host.kept l.inner).state) (map plain_value l.values.items) (shown_all g.H.Host.step f (drop l.offer-index l.offers)) base (g.H.Host.kept l.inner).seen;
}
