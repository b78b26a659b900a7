-- Handles that are neither descriptors nor listings, and views of the same trees.
use Rattle.std.proofs.Common.{◌≡◌, ℕ, Bool, true}
use Rattle.tree_table.specs.Scratches.{ScratchMap}
use Rattle.tree_table.specs.Tables.{Forest}
use Rattle.reference_step.specs.Handles.{Content}
use Rattle.reference_step.specs.State.{View}
use Rattle.ref_virtual.specs.Views.{HoldsTrees}
use Rattle.ref_virtual.specs.declared.methods.Method.{Method}
use Rattle.ref_virtual.specs.declared.methods.Method.TheVariants.{Looks, Changes, Pairs, Syncs, ReadDirectoryEntry}
use Rattle.ref_virtual.specs.Others.{is_no_descriptor, is_no_listing, is_other}

pub other_of : (method : Method) (c : Content) → is_no_descriptor c ≡ true → is_no_listing c ≡ true → is_other method c ≡ true
other_of (Looks look) c descriptor listing = descriptor
other_of (Changes change) c descriptor listing = descriptor
other_of (Pairs pair) c descriptor listing = descriptor
other_of Syncs c descriptor listing = descriptor
other_of ReadDirectoryEntry c descriptor listing = listing

pub held_trees : (f : Forest) (v : View) (m : ScratchMap) (held : ℕ → Bool) → HoldsTrees f v → HoldsTrees f (record v { scratch = m; held = held })
held_trees f v m held h = record { trees = h.trees; holds = h.holds }

pub scratch_trees : (f : Forest) (v : View) (m : ScratchMap) → HoldsTrees f v → HoldsTrees f (record v { scratch = m })
scratch_trees f v m h = record { trees = h.trees; holds = h.holds }
