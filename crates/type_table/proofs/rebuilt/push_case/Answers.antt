use Rattle.std.proofs.Common.{◌∙◌, ap}
use Rattle.wit_types.specs.Plain.{cases_of}
use Rattle.type_table.proofs.RebuiltLemmas.{case-more}
use Rattle.type_table.proofs.rebuilt.push_case.Goals as goal

pub returns : goal.returns
returns c = ap cases_of c.in_ok-push.ensures.items ∙ case-more c.args.cases.now.items _ c.args.name.now _ c.in_ok-name.ensures c.in_ok-ty.ensures
