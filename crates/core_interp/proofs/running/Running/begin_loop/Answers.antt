use Rattle.std.proofs.Common.{arith}
use Rattle.core_interp.proofs.Given.{loop_can, loop_leads}
use Rattle.core_interp.proofs.Entries.{label_pushed}
use Rattle.core_interp.proofs.running.Running.begin_loop.Goals as goal

pub block_params-arity-requires : goal.block_params-arity-requires
block_params-arity-requires c = (loop_can c.args.self.now c.args.store.now c.args.ty _ c.requires.before c.requires.spaces).0

pub overflow_sub-height : goal.overflow_sub-height
overflow_sub-height c = omega (arith, c.height.ensures, c.block_params-arity.ensures, (loop_can c.args.self.now c.args.store.now c.args.ty _ c.requires.before c.requires.spaces).1)

pub returns-clause-leads : goal.returns-clause-leads
returns-clause-leads c =
    loop_leads c.args.self.now c.args.store.now c.args.ty c.args.spaces.now c.block_params-arity.result c.height.result c.push.new.self.items c.requires.before c.requires.spaces c.block_params-arity.ensures c.height.ensures c.in_ok-push.ensures.items

pub returns-clause-entry : goal.returns-clause-entry
returns-clause-entry c = label_pushed _ _ _ _ _ c.in_ok-push.ensures.items
