use Rattle.output_same.proofs.Bare.{same_valid, same_type}
use Rattle.output_same.proofs.valid.places_make_no_difference.Goals as goal

pub returns : goal.returns
returns c = λ t u same valid. (same_valid t u same valid, same_type t u same)
