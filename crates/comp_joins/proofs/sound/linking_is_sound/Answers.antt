use Rattle.comp_joins.proofs.SoundMade.{linking_sound}
use Rattle.comp_joins.proofs.sound.linking_is_sound.Goals as goal

pub returns : goal.returns
returns c = linking_sound
