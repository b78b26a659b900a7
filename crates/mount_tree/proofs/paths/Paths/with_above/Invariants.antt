use Rattle.std.proofs.Common.{◌≡◌, ◌++◌, List, ℕ, [], length}
use denote.Text.{Utf8}
use denote.Shadow.{shadow}
use Rattle.path_names.specs.Paths.{names_of}
use Rattle.mount_tree.specs.Growing.{IsAt, with_folders}
use Rattle.mount_tree.proofs.paths.Paths.with_above.Given as goal

abbrev pub invariant-loop-name : goal.invariant-loop-name
invariant-loop-name l = shadow (Utf8 l.rest) × ((above : List (List ℕ)) × (names_of l.path ≡ above ++ names_of l.rest) × IsAt l.paths above l.folder × (with_folders l.fn.self [] (names_of l.path) ≡ with_folders l.paths above (names_of l.rest)))

abbrev pub decreases-loop-name : goal.decreases-loop-name
decreases-loop-name l = length l.rest
