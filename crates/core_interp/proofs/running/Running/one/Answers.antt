use Rattle.std.proofs.Common.{◌∙◌, ap, Some}
use Rattle.core_interp.proofs.AtHand.{there_held, jumps_held}
use Rattle.core_interp.proofs.Stepping.{end_stop, end_next, else_stop, else_next, before_at}
use Rattle.wasm_ast.specs.declared.instr.Instr.TheVariants.{Else, End}
use Rattle.core_interp.proofs.running.Running.one.Goals as goal

pub leave-flow-requires-in-End-clause-stop : goal.leave-flow-requires-in-End-clause-stop
leave-flow-requires-in-End-clause-stop c = end_stop c.args.self.now c.args.store.now (before_at End c.args.self.now c.args.store.now (there_held c.args.code.now End c.args.self.now c.args.store.now c.requires.code (c.instr_at.ensures.there ∙ ap Some c.in-End.is)) c.instr_at.ensures.small c.requires.ready)

pub leave-flow-requires-in-End-clause-next : goal.leave-flow-requires-in-End-clause-next
leave-flow-requires-in-End-clause-next c = end_next c.args.self.now c.args.store.now (before_at End c.args.self.now c.args.store.now (there_held c.args.code.now End c.args.self.now c.args.store.now c.requires.code (c.instr_at.ensures.there ∙ ap Some c.in-End.is)) c.instr_at.ensures.small c.requires.ready)

pub leave-flow-requires-in-Else-clause-stop : goal.leave-flow-requires-in-Else-clause-stop
leave-flow-requires-in-Else-clause-stop c = else_stop c.args.self.now c.args.store.now (before_at Else c.args.self.now c.args.store.now (there_held c.args.code.now Else c.args.self.now c.args.store.now c.requires.code (c.instr_at.ensures.there ∙ ap Some c.in-Else.is)) c.instr_at.ensures.small c.requires.ready)

pub leave-flow-requires-in-Else-clause-next : goal.leave-flow-requires-in-Else-clause-next
leave-flow-requires-in-Else-clause-next c = else_next c.args.self.now c.args.store.now c.jump_at-next.result (before_at Else c.args.self.now c.args.store.now (there_held c.args.code.now Else c.args.self.now c.args.store.now c.requires.code (c.instr_at.ensures.there ∙ ap Some c.in-Else.is)) c.instr_at.ensures.small c.requires.ready) (jumps_held c.args.code.now Else c.args.self.now c.args.store.now c.jump_at-next.result c.requires.code c.jump_at-next.ensures.leads (there_held c.args.code.now Else c.args.self.now c.args.store.now c.requires.code (c.instr_at.ensures.there ∙ ap Some c.in-Else.is)))
