use Rattle.inspect_engine.proofs.Accepting.{accepts}
use Rattle.inspect_engine.proofs.engine.wasi_inspect.Goals as goal

pub returns-clause-accepts : goal.returns-clause-accepts
returns-clause-accepts g c = accepts _ _ _ _ _ _ c.inspect_words.ensures
