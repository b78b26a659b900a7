use Rattle.comp_frames.proofs.Halts.{goes_on_as}
use Rattle.comp_frames.proofs.stores.plans_go_on_as_stores.Goals as goal

pub returns : goal.returns
returns c = λ G p run d k at realloc due left answer w n lt h. goes_on_as G p run d k at realloc due left answer w n lt h
