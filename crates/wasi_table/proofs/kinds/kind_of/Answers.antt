use Rattle.std.proofs.Common.{◌∙◌, sym}
use Rattle.wasi_table.specs.Types.{kind_of}
use Rattle.wasi_table.proofs.kinds.kind_of.Goals as goal

pub returns-in-Some : goal.returns-in-Some
unfolding kind_of
returns-in-Some c = sym c.in-Some.is ∙ c.place_in.ensures.place

pub returns-in-None : goal.returns-in-None
unfolding kind_of
returns-in-None c = sym c.in-None.is ∙ c.place_in.ensures.place
