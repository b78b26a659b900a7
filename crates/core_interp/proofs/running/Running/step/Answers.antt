use Rattle.std.proofs.Common.{◌∙◌, ap, Some}
use Rattle.core_interp.proofs.AtHand.{there_held}
use Rattle.core_interp.proofs.Stepping.{unreachable_traps, before_at}
use Rattle.wasm_ast.specs.declared.instr.Instr.TheVariants.{Unreachable, Else, End}
use Rattle.core_interp.proofs.running.Running.step.Goals as goal

pub unreachable-requires : goal.unreachable-requires
unreachable-requires c = c.requires.steps.counted Else (there_held c.args.code.now Else c.args.self.now c.args.store.now c.requires.code (c.instr_at.ensures.there ∙ ap Some c.in-Else.is))

pub unreachable-requires-in-End : goal.unreachable-requires-in-End
unreachable-requires-in-End c = c.requires.steps.counted End (there_held c.args.code.now End c.args.self.now c.args.store.now c.requires.code (c.instr_at.ensures.there ∙ ap Some c.in-End.is))

pub returns-in-Unreachable-clause-leads : goal.returns-in-Unreachable-clause-leads
returns-in-Unreachable-clause-leads c rs n =
    unreachable_traps c.args.self.now c.args.store.now rs n (before_at Unreachable c.args.self.now c.args.store.now (there_held c.args.code.now Unreachable c.args.self.now c.args.store.now c.requires.code (c.instr_at.ensures.there ∙ ap Some c.in-Unreachable.is)) c.instr_at.ensures.small c.requires.steps.ready)
