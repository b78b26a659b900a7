use Rattle.output_same.proofs.Places.{same_group}
use Rattle.output_same.proofs.laws.places_make_no_difference_to_groups.Goals as goal

pub returns : goal.returns
returns c = same_group
