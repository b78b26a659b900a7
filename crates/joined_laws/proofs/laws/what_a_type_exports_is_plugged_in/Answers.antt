use Rattle.joined_laws.proofs.Showing.{shown_is_plugged_in}
use Rattle.joined_laws.proofs.laws.what_a_type_exports_is_plugged_in.Goals as goal

pub returns : goal.returns
returns c = shown_is_plugged_in
