use Rattle.std.proofs.Common.{arith}
use Rattle.core_interp.proofs.Given.{back_call, back_can, back_entry, back_calls, back_some, held_some, back_no_label}
use Rattle.core_interp.proofs.Entries.{back_entries}
use Rattle.core_interp.proofs.running.Running.back.Goals as goal

pub pop_call-requires : goal.pop_call-requires
pop_call-requires c = back_some c.args.self.now c.args.store.now c.requires

pub leave-requires : goal.leave-requires
leave-requires c = omega (arith, back_calls c.args.self.now c.args.store.now _ c.pop_call.new.controls.items c.in-Called.ensures.call c.requires)

pub close-requires-clause-results : goal.close-requires-clause-results
close-requires-clause-results c = (back_can c.args.self.now c.args.store.now _ _ _ c.pop_call.new.controls.items c.in-Called.ensures.call c.requires).results

pub close-requires-clause-caller : goal.close-requires-clause-caller
close-requires-clause-caller c =
    let can = back_can c.args.self.now c.args.store.now _ _ _ c.pop_call.new.controls.items c.in-Called.ensures.call c.requires in
    held_some c.args.self.now.slots can.held can.others can.callers

pub leave-requires-in-Entry : goal.leave-requires-in-Entry
leave-requires-in-Entry c = omega (arith, back_calls c.args.self.now c.args.store.now _ c.pop_call.new.controls.items c.in-Entry.ensures.call c.requires)

pub unreachable-requires : goal.unreachable-requires
unreachable-requires c = back_no_label c.args.self.now _ _ _ _ c.in-Label.ensures.call

pub returns-in-Called-clause-leads : goal.returns-in-Called-clause-leads
returns-in-Called-clause-leads c = (back_call c.args.self.now c.args.store.now _ _ _ _ _ c.pop_call.new.controls.items c.in-Called.ensures.call c.close.ensures c.leave.ensures c.requires).1

pub returns-in-Entry-clause-leads : goal.returns-in-Entry-clause-leads
returns-in-Entry-clause-leads c = back_entry c.args.self.now c.args.store.now _ _ c.pop_call.new.controls.items c.in-Entry.ensures.call c.leave-in-Entry.ensures c.requires

pub returns-in-Called-clause-entry : goal.returns-in-Called-clause-entry
returns-in-Called-clause-entry c = back_entries c.args.self.now _ c.pop_call.new.controls.items c.in-Called.ensures.call

pub returns-in-Entry-clause-entry : goal.returns-in-Entry-clause-entry
returns-in-Entry-clause-entry c = back_entries c.args.self.now _ c.pop_call.new.controls.items c.in-Entry.ensures.call
