use Rattle.comp_joins.proofs.SoundMade.{linked_sound}
use Rattle.comp_joins.proofs.sound.linked_components_are_sound.Goals as goal

pub returns : goal.returns
returns c = linked_sound
