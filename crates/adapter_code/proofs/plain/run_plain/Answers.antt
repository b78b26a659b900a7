use Rattle.std.proofs.Common.{ℕ, sym, subst, IfOk}
use Rattle.adapter_code.specs.Code.{Stop, before}
use Rattle.adapter_code.specs.Run.{runs}
use Rattle.adapter_code.specs.Shown.{seen, Shows}
use Rattle.adapter_code.proofs.plain.run_plain.Goals as goal

pub returns-in-NewHandle-clause-shows : goal.returns-in-NewHandle-clause-shows
returns-in-NewHandle-clause-shows c =
    subst (λ st. IfOk c.make.result (λ flow. (k : ℕ) → Shows (runs (before st Stop) k (seen c.args.state.now)) flow (seen c.make.new.state))) (sym c.in-NewHandle.is) c.make.ensures.shows
