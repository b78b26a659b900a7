use Rattle.std.proofs.Common.{sym, subst}
use Rattle.core_interp.specs.Plains.{Did}
use Rattle.core_interp.proofs.plain.operate.Goals as goal

pub returns-in-Numeric : goal.returns-in-Numeric
returns-in-Numeric c = record { did = subst (λ o. Did o c.args.spaces.now c.args.slots.now c.args.store.now c.calculate.new.slots c.args.store.now c.calculate.result) (sym c.in-Numeric.is) (c.calculate.ensures c.args.spaces.now c.args.store.now) }
