use Rattle.std.proofs.Common.{◌∙◌, sym}
use Rattle.std.specs.Str.{bytes_eq}
use Rattle.wasi_table.proofs.PlaceLemmas.{position-map}
use Rattle.wasi_table.proofs.kinds.place_in.Goals as goal

pub returns-clause-place : goal.returns-clause-place
returns-clause-place c = c.place_of.ensures.place ∙ sym (position-map (λ w. w.now) (λ w. bytes_eq w c.args.name.now) c.args.names.now)
