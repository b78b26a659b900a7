use Rattle.std.proofs.Common.{rules}
use Rattle.component_judge.proofs.Both.{script_refused, script_taken}
use Rattle.component_judge.proofs.inputs.fetch_inputs.Goals as goal

pub returns-in_err-scripted : goal.returns-in_err-scripted
returns-in_err-scripted g c =
    script_refused _ _ _ _ _ c.in_ok-judged.judged c.in_ok-judged.ensures c.in_err-scripted.field-0.0 c.from_residual-in_err-scripted.result (search (rules, c.from_residual-in_err-scripted.ensures)) c.in_err-scripted.ensures

pub returns : goal.returns
returns g c = script_taken _ _ _ _ _ c.in_ok-judged.judged c.in_ok-judged.ensures c.in_ok-scripted.scripted c.in_ok-scripted.ensures
