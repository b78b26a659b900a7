use Rattle.std.proofs.Common.{rules}
use Rattle.component_judge.proofs.Both.{listed_refused, listed_taken}
use Rattle.component_judge.proofs.inputs.fetch_listed.Goals as goal

pub returns-in_err-scripted : goal.returns-in_err-scripted
returns-in_err-scripted g c =
    listed_refused _ _ _ _ _ c.in_ok-application.application.judged c.in_ok-application.application.listed c.in_ok-application.ensures c.in_err-scripted.field-0.0 c.from_residual-in_err-scripted.result
    (search (rules, c.from_residual-in_err-scripted.ensures)) c.in_err-scripted.ensures

pub returns : goal.returns
returns g c = listed_taken _ _ _ _ _ c.in_ok-application.application.judged c.in_ok-application.application.listed c.in_ok-application.ensures c.in_ok-scripted.scripted c.in_ok-scripted.ensures
