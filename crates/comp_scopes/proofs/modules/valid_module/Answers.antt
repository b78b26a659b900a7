use Rattle.comp_scopes.proofs.CoreJudgedLemmas.{broken_is_invalid}
use Rattle.comp_scopes.proofs.modules.valid_module.Goals as goal

pub returns-in-Err-Invalid : goal.returns-in-Err-Invalid
returns-in-Err-Invalid c = broken_is_invalid c.args.judged.now c.in-Err-Invalid.field-0-0 (rw c.in-Err-Invalid.field-0-is at c.in-Err-Invalid.ensures)
