-- The group with a destructor, with any number for its resource.
use Rattle.std.specs.Prelude.{ℕ, ◌+◌, [], ◌∷◌, Some, None}
use Rattle.wit_types.specs.Plain.{OwnType, End}
use Rattle.comp_worlds.specs.Groups.{Lifting, Mine, Theirs, LoweredFunc, ResourceNew, ResourceDrop, Group}
use Rattle.link_rows.specs.Samples.{func, no_options, lift, tell, group_of, first_owns, dropper}

abbrev pub giver_at : ℕ → Lifting
giver_at r = lift 2 (func End (Some (OwnType r))) no_options

abbrev pub dropper_at : ℕ → Group
dropper_at r =
    group_of (ResourceNew r ∷ LoweredFunc (Theirs tell) no_options ∷ []) (LoweredFunc (Mine 0 (giver_at r)) no_options ∷ ResourceDrop r ∷ []) (first_owns (Some 3)) (Mine 1 (lift 2 (func End None) no_options)) dropper.stages

abbrev pub seven_more : ℕ → ℕ
seven_more r = 7 + r
