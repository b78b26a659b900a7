use Rattle.adapter_code.proofs.Words.{word-put, keeps-put}
use Rattle.adapter_code.proofs.laws.writes_are_read.Goals as goal

pub returns-clause-read : goal.returns-clause-read
returns-clause-read c = word-put

pub returns-clause-keeps : goal.returns-clause-keeps
returns-clause-keeps c = keeps-put
