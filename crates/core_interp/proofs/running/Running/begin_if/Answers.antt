use Rattle.std.proofs.Common.{◌<◌, arith, ◌∙◌, ap, sym, length}
use Rattle.core_store.specs.Words.{i32_in}
use Rattle.core_slots.specs.Stacked.{Stacked}
use Rattle.wasm_ast.specs.declared.instr.Instr.TheVariants.{If}
use Rattle.core_interp.proofs.Given.{if_can, if_other_leads, if_body_leads}
use Rattle.core_interp.proofs.AtHand.{within_held, jumps_held}
use Rattle.core_interp.proofs.Entries.{label_pushed}
use Rattle.core_interp.proofs.running.Running.begin_if.Goals as goal

pub block_params-params-requires : goal.block_params-params-requires
block_params-params-requires c = (if_can c.args.self.now c.args.store.now c.args.ty _ c.requires.before c.requires.spaces).0

pub block_results-arity-requires : goal.block_results-arity-requires
block_results-arity-requires c = (if_can c.args.self.now c.args.store.now c.args.ty _ c.requires.before c.requires.spaces).0

pub jump_at-jump-requires : goal.jump_at-jump-requires
jump_at-jump-requires c = within_held c.args.code.now (If c.args.ty) c.args.self.now c.args.store.now c.requires.code c.requires.before

pub pop-requires : goal.pop-requires
pop-requires c = omega (arith, (if_can c.args.self.now c.args.store.now c.args.ty _ c.requires.before c.requires.spaces).1)

pub overflow_sub-height : goal.overflow_sub-height
overflow_sub-height c =
    let n = ap (λ (x : Stacked). length x.operands) c.pop.ensures in
    omega (arith, c.height.ensures, c.block_params-params.ensures, (if_can c.args.self.now c.args.store.now c.args.ty _ c.requires.before c.requires.spaces).1)

pub returns-then-test-eq0-clause-leads : goal.returns-then-test-eq0-clause-leads
returns-then-test-eq0-clause-leads c =
    if_other_leads c.args.self.now c.args.store.now c.args.ty c.jump_at-jump.result c.args.spaces.now c.pop.result c.block_params-params.result c.block_results-arity.result c.height.result c.pop.new.self c.push.new.self.items c.requires.before (jumps_held c.args.code.now _ c.args.self.now c.args.store.now c.jump_at-jump.result c.requires.code c.jump_at-jump.ensures.leads c.requires.before.there) c.requires.spaces c.block_params-params.ensures c.block_results-arity.ensures c.height.ensures c.pop.ensures (sym c.low-test.ensures ∙ c.if-test-eq0.true) c.in_ok-push.ensures.items

pub returns-clause-leads : goal.returns-clause-leads
returns-clause-leads c =
    let pos : 0 < i32_in c.pop.result = omega (arith, c.low-test.ensures) in
    if_body_leads c.args.self.now c.args.store.now c.args.ty c.jump_at-jump.result c.args.spaces.now c.pop.result c.block_params-params.result c.block_results-arity.result c.height.result c.pop.new.self c.push.new.self.items c.requires.before (jumps_held c.args.code.now _ c.args.self.now c.args.store.now c.jump_at-jump.result c.requires.code c.jump_at-jump.ensures.leads c.requires.before.there) c.requires.spaces c.block_params-params.ensures c.block_results-arity.ensures c.height.ensures c.pop.ensures pos c.in_ok-push.ensures.items

pub returns-then-test-eq0-clause-entry : goal.returns-then-test-eq0-clause-entry
returns-then-test-eq0-clause-entry c = label_pushed _ _ _ _ _ c.in_ok-push.ensures.items

pub returns-clause-entry : goal.returns-clause-entry
returns-clause-entry c = label_pushed _ _ _ _ _ c.in_ok-push.ensures.items
