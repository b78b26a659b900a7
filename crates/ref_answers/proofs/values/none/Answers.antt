use Rattle.std.proofs.Common.{None}
use Rattle.wit_types.proofs.ValueLemmas.{plain_value-Variant}
use Rattle.ref_answers.proofs.values.none.Goals as goal

pub returns : goal.returns
returns c = plain_value-Variant 0 None
