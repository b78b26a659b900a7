use Rattle.comp_worlds.proofs.Whole.{same_as_parts}
use Rattle.comp_worlds.proofs.groups.parts_do_what_the_whole_does.Goals as goal

pub returns : goal.returns
returns g c = λ j s d calls n. same_as_parts g.P.Parts.lower g.P.Parts.upper g.P.Parts.whole g.P.Parts.left g.P.Parts.right g.P.Parts.meets j g.P.Parts.below g.P.Parts.machine s d calls n
