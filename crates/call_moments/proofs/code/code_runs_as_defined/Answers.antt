use Rattle.call_moments.proofs.Coding.{code_begins, code_goes, code_gets_results}
use Rattle.call_moments.proofs.code.code_runs_as_defined.Goals as goal

pub returns-clause-begins : goal.returns-clause-begins
returns-clause-begins g c = λ G. code_begins g.H.Host.step G

pub returns-clause-goes : goal.returns-clause-goes
returns-clause-goes g c = λ G. code_goes g.H.Host.step G

pub returns-clause-gets : goal.returns-clause-gets
returns-clause-gets g c = λ G. code_gets_results g.H.Host.step G
