use Rattle.std.proofs.Common.{rules}
use Rattle.virt_engine.proofs.AppFetching.{not_fetched, fetched}
use Rattle.virt_engine.proofs.app.fetch_app.Goals as goal

pub returns-in_err-fetched : goal.returns-in_err-fetched
returns-in_err-fetched g c = not_fetched _ _ _ c.in_err-fetched.field-0.0 c.from_residual.result (search (rules, c.from_residual.ensures)) c.in_err-fetched.ensures

pub returns : goal.returns
returns g c = fetched _ _ _ c.in_ok-fetched.fetched c.in_ok-fetched.ensures
