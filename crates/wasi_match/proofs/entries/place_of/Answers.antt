use Rattle.std.proofs.Common.{◌∙◌, sym}
use Rattle.std.specs.Str.{bytes_eq}
use Rattle.wasi_table.specs.Plain.{plain_named_func}
use Rattle.wasi_table.proofs.PlaceLemmas.{position-map}
use Rattle.wasi_match.proofs.entries.place_of.Goals as goal

pub returns-clause-place : goal.returns-clause-place
returns-clause-place c = c.place_by.ensures.place ∙ sym (position-map plain_named_func (λ f. bytes_eq f.name c.args.name.now) c.args.functions.now)
