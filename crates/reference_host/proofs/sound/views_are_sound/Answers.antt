use Rattle.reference_host.proofs.ViewLaws.{views_are_sound}
use Rattle.reference_host.proofs.sound.views_are_sound.Goals as goal

pub returns : goal.returns
returns c = views_are_sound
