use Rattle.ref_answers.proofs.ValueLemmas.{payload_held}
use Rattle.ref_answers.proofs.values.ok.Goals as goal

pub returns : goal.returns
returns c = payload_held 0 c.in_ok-new.field-0 c.args.value c.in_ok-new.ensures.ok
