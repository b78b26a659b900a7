use Rattle.core_interp.proofs.Given.{leave_label, leave_call, leave_entry}
use Rattle.core_interp.proofs.Entries.{label_popped, called_popped, entry_popped}
use Rattle.core_interp.proofs.running.Running.leave.Goals as goal

pub returns-in-Some-Label-clause-leads : goal.returns-in-Some-Label-clause-leads
returns-in-Some-Label-clause-leads c =
    leave_label c.args.self.now c.args.store.now _ _ _ _ _ (rw c.in-Some-Label.field-0-is at c.in-Some-Label.ensures.items) c.requires.stop c.requires.next c.requires.ready

pub returns-in-Some-Called-clause-leads : goal.returns-in-Some-Called-clause-leads
returns-in-Some-Called-clause-leads c =
    leave_call c.args.self.now c.args.store.now _ _ _ _ _ _ (rw c.in-Some-Called.field-0-is at c.in-Some-Called.ensures.items) c.requires.stop c.requires.ready c.close.ensures c.leave.ensures

pub returns-in-Some-Entry-clause-leads : goal.returns-in-Some-Entry-clause-leads
returns-in-Some-Entry-clause-leads c =
    leave_entry c.args.self.now c.args.store.now _ _ _ (rw c.in-Some-Entry.field-0-is at c.in-Some-Entry.ensures.items) c.requires.stop c.requires.ready c.leave-in-Some-Entry.ensures

pub returns-in-Some-Label-clause-entry : goal.returns-in-Some-Label-clause-entry
returns-in-Some-Label-clause-entry c = label_popped _ _ _ _ _ (rw c.in-Some-Label.field-0-is at c.in-Some-Label.ensures.items)

pub returns-in-Some-Called-clause-entry : goal.returns-in-Some-Called-clause-entry
returns-in-Some-Called-clause-entry c = called_popped _ _ _ _ _ (rw c.in-Some-Called.field-0-is at c.in-Some-Called.ensures.items)

pub returns-in-Some-Entry-clause-entry : goal.returns-in-Some-Entry-clause-entry
returns-in-Some-Entry-clause-entry c = entry_popped _ _ _ (rw c.in-Some-Entry.field-0-is at c.in-Some-Entry.ensures.items)
