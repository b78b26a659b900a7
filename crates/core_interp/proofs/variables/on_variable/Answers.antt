use Rattle.std.proofs.Common.{sym, subst}
use Rattle.core_interp.specs.Plains.{Does}
use Rattle.core_interp.proofs.variables.on_variable.Goals as goal

pub returns-in_ok-get_local-in-LocalGet : goal.returns-in_ok-get_local-in-LocalGet
returns-in_ok-get_local-in-LocalGet c = record { did = subst (λ o. Does o c.args.spaces.now c.args.slots.now c.args.store.now c.get_local.new.slots c.args.store.now) (sym c.in-LocalGet.is) (c.in_ok-get_local-in-LocalGet.ensures c.args.spaces.now c.args.store.now) }

pub returns-in-LocalSet : goal.returns-in-LocalSet
returns-in-LocalSet c = record { did = subst (λ o. Does o c.args.spaces.now c.args.slots.now c.args.store.now c.set_local.new.slots c.args.store.now) (sym c.in-LocalSet.is) (c.set_local.ensures c.args.spaces.now c.args.store.now) }

pub returns-in-LocalTee : goal.returns-in-LocalTee
returns-in-LocalTee c = record { did = subst (λ o. Does o c.args.spaces.now c.args.slots.now c.args.store.now c.tee_local.new.slots c.args.store.now) (sym c.in-LocalTee.is) (c.tee_local.ensures c.args.spaces.now c.args.store.now) }
