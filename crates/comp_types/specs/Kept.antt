-- What is kept of entries, so that nothing is walked again to ask it: a depth or a number of parts beyond the limits is kept as
-- the least beyond them.
use Rattle.std.specs.Prelude.{◌≡◌, ℕ, min, Bool}
use Rattle.comp_types.specs.Items.{Entries}
use Rattle.comp_types.specs.Measures.{entries_depth, entries_parts}
use Rattle.comp_types.specs.Resources.{entries_have_resource}

pub record IsKept (entries : Entries) (depth parts : ℕ) (resource : Bool) : Type 0 where
  pub depth_is : depth ≡ min (entries_depth entries) 101
  pub parts_is : parts ≡ min (entries_parts entries) 1000001
  pub resource_is : resource ≡ entries_have_resource entries
