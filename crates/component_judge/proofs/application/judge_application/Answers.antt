use Rattle.std.proofs.Common.{rules}
use Rattle.component_judge.proofs.Applications.{not_sound, runs}
use Rattle.component_judge.proofs.application.judge_application.Goals as goal

pub returns-in_err-judged-clause-listed : goal.returns-in_err-judged-clause-listed
returns-in_err-judged-clause-listed c = not_sound c.args.purpose c.args.bytes.now c.from_residual.result c.in_err-judged.field-0.0 (search (rules, c.from_residual.ensures)) c.in_err-judged.ensures

pub returns-clause-runs : goal.returns-clause-runs
returns-clause-runs c = runs c.args.purpose c.args.bytes.now c.in_ok-judged.judged c.in_ok-judged.ensures c.in_ok-listed.listed c.in_ok-listed.ensures
