-- What reaching a path gives.
use Rattle.std.specs.Prelude.{◌≡◌, ℕ, ◌≤◌, List, Result, Ok, Err, length}
use Rattle.mount_tree.specs.declared.fault.TreeFault.{TreeFault}
use Rattle.mount_tree.specs.declared.making.Reached.{Reached}
use Rattle.mount_tree.specs.Runs.{Says}
use Rattle.mount_tree.specs.Making.{Sofar, count_with, reached}
use Rattle.mount_tree.specs.Spots.{IsSpot}
use Rattle.path_names.specs.Paths.{names_of}

-- the folders above a path are there, and its place, with room for a node
pub record IsReached (sofar : Sofar) (path : List ℕ) (r : Reached) : Type 0 where
  pub due : reached sofar path ≡ Ok r.making
  pub spot : IsSpot r.making.there path r.spot.folder r.spot.name.now
  pub few : count_with r.making path ≤ 65536
  pub deep : length (names_of path) ≤ 64

abbrev pub Reaches : Sofar → List ℕ → Result Reached TreeFault → Type 0
Reaches sofar path (Ok r) = IsReached sofar path r
Reaches sofar path (Err fault) = Says (reached sofar path) (Err fault)
