use Rattle.std.proofs.Common.{arith}
use Rattle.core_interp.proofs.Given.{block_can, block_leads}
use Rattle.core_interp.proofs.AtHand.{within_held, jumps_held}
use Rattle.wasm_ast.specs.declared.instr.Instr.TheVariants.{Block}
use Rattle.core_interp.proofs.Entries.{label_pushed}
use Rattle.core_interp.proofs.running.Running.block.Goals as goal

pub block_params-params-requires : goal.block_params-params-requires
block_params-params-requires c = (block_can c.args.self.now c.args.store.now c.args.ty _ c.requires.before c.requires.spaces).0

pub block_results-arity-requires : goal.block_results-arity-requires
block_results-arity-requires c = (block_can c.args.self.now c.args.store.now c.args.ty _ c.requires.before c.requires.spaces).0

pub jump_at-to-requires : goal.jump_at-to-requires
jump_at-to-requires c = within_held c.args.code.now (Block c.args.ty) c.args.self.now c.args.store.now c.requires.code c.requires.before

pub overflow_sub-height : goal.overflow_sub-height
overflow_sub-height c = omega (arith, c.height.ensures, c.block_params-params.ensures, (block_can c.args.self.now c.args.store.now c.args.ty _ c.requires.before c.requires.spaces).1)

pub returns-clause-leads : goal.returns-clause-leads
returns-clause-leads c =
    block_leads c.args.self.now c.args.store.now c.args.ty c.jump_at-to.result c.args.spaces.now c.block_params-params.result c.block_results-arity.result c.height.result c.push.new.self.items c.requires.before (jumps_held c.args.code.now _ c.args.self.now c.args.store.now c.jump_at-to.result c.requires.code c.jump_at-to.ensures.leads c.requires.before.there) c.requires.spaces c.block_params-params.ensures c.block_results-arity.ensures c.height.ensures c.in_ok-push.ensures.items

pub returns-clause-entry : goal.returns-clause-entry
returns-clause-entry c = label_pushed _ _ _ _ _ c.in_ok-push.ensures.items
