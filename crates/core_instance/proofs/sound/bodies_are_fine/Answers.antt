use Rattle.core_instance.proofs.SoundFineLemmas.{body_fine}
use Rattle.core_instance.proofs.sound.bodies_are_fine.Goals as goal

pub returns : goal.returns
returns c = body_fine
