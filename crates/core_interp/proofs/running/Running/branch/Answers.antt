use Rattle.std.proofs.Common.{◌≡◌, ◌<◌, ◌∙◌, arith, length}
use Rattle.core_interp.proofs.Given.{cut_at, label_within, label_calls, branch_label, branch_call, branch_call_can, branch_entry, branch_label_fits, held_some}
use Rattle.core_interp.proofs.Entries.{label_popped, called_popped, entry_popped, cut_entries}
use Rattle.core_interp.proofs.running.Running.branch.Goals as goal

pub overflow_sub-len : goal.overflow_sub-len
overflow_sub-len c =
    let w : c.args.label < length c.args.self.now.controls.items = label_within _ _ _ c.requires in
    omega arith

pub keep-requires : goal.keep-requires
keep-requires c =
    let n : c.len.result ≡ length c.args.self.now.controls.items = omega arith in
    branch_label_fits c.args.self.now c.args.store.now _ _ _ _ c.truncate.new.self.items c.pop.new.self.items (cut_at _ _ _ _ c.truncate.ensures.items n) (rw c.in-Some-Label.field-0-is at c.in-Some-Label.ensures.items) c.requires

pub close-requires-clause-results : goal.close-requires-clause-results
close-requires-clause-results c =
    let n : c.len.result ≡ length c.args.self.now.controls.items = omega arith in
    (branch_call_can c.args.self.now c.args.store.now _ _ _ _ c.truncate.new.self.items c.pop.new.self.items (cut_at _ _ _ _ c.truncate.ensures.items n) (rw c.in-Some-Called.field-0-is at c.in-Some-Called.ensures.items) c.requires).results

pub close-requires-clause-caller : goal.close-requires-clause-caller
close-requires-clause-caller c =
    let n : c.len.result ≡ length c.args.self.now.controls.items = omega arith in
    let can = branch_call_can c.args.self.now c.args.store.now _ _ _ _ c.truncate.new.self.items c.pop.new.self.items (cut_at _ _ _ _ c.truncate.ensures.items n) (rw c.in-Some-Called.field-0-is at c.in-Some-Called.ensures.items) c.requires in
    held_some c.args.self.now.slots can.held can.others can.callers

pub unreachable-requires : goal.unreachable-requires
unreachable-requires c =
    let w : c.args.label < length c.args.self.now.controls.items = label_within _ _ _ c.requires in
    omega (arith, c.in-None.ensures.len, c.in-None.ensures.cases, c.truncate.ensures.len)

pub returns-in-Some-Label-clause-leads : goal.returns-in-Some-Label-clause-leads
returns-in-Some-Label-clause-leads c =
    let n : c.len.result ≡ length c.args.self.now.controls.items = omega arith in
    branch_label c.args.self.now c.args.store.now _ _ _ _ _ c.truncate.new.self.items c.pop.new.self.items (cut_at _ _ _ _ c.truncate.ensures.items n) (rw c.in-Some-Label.field-0-is at c.in-Some-Label.ensures.items) c.keep.ensures c.requires

pub returns-in-Some-Called-clause-leads : goal.returns-in-Some-Called-clause-leads
returns-in-Some-Called-clause-leads c =
    let n : c.len.result ≡ length c.args.self.now.controls.items = omega arith in
    branch_call c.args.self.now c.args.store.now _ _ _ _ _ _ c.truncate.new.self.items c.pop.new.self.items (cut_at _ _ _ _ c.truncate.ensures.items n) (rw c.in-Some-Called.field-0-is at c.in-Some-Called.ensures.items) c.close.ensures c.leave.ensures c.requires

pub returns-in-Some-Entry-clause-leads : goal.returns-in-Some-Entry-clause-leads
returns-in-Some-Entry-clause-leads c =
    let n : c.len.result ≡ length c.args.self.now.controls.items = omega arith in
    branch_entry c.args.self.now c.args.store.now _ _ _ c.truncate.new.self.items c.pop.new.self.items (cut_at _ _ _ _ c.truncate.ensures.items n) (rw c.in-Some-Entry.field-0-is at c.in-Some-Entry.ensures.items) c.leave-in-Some-Entry.ensures c.requires

pub leave-requires : goal.leave-requires
leave-requires c =
    let n : c.len.result ≡ length c.args.self.now.controls.items = omega arith in
    omega (arith, label_calls c.args.self.now c.args.store.now c.truncate.new.self.items c.pop.new.self.items _ _ (cut_at _ _ _ _ c.truncate.ensures.items n) (rw c.in-Some-Called.field-0-is at c.in-Some-Called.ensures.items) c.requires)

pub leave-requires-in-Some-Entry : goal.leave-requires-in-Some-Entry
leave-requires-in-Some-Entry c =
    let n : c.len.result ≡ length c.args.self.now.controls.items = omega arith in
    omega (arith, label_calls c.args.self.now c.args.store.now c.truncate.new.self.items c.pop.new.self.items _ _ (cut_at _ _ _ _ c.truncate.ensures.items n) (rw c.in-Some-Entry.field-0-is at c.in-Some-Entry.ensures.items) c.requires)

pub returns-in-Some-Label-clause-entry : goal.returns-in-Some-Label-clause-entry
returns-in-Some-Label-clause-entry c =
    let n : c.len.result ≡ length c.args.self.now.controls.items = omega arith in
    let w = label_within c.args.self.now c.args.store.now c.args.label c.requires in
    label_popped _ _ _ _ _ (rw c.in-Some-Label.field-0-is at c.in-Some-Label.ensures.items) ∙ cut_entries c.args.self.now c.args.store.now c.truncate.new.self.items c.args.label (omega (arith, w)) (cut_at _ _ _ _ c.truncate.ensures.items n) c.requires

pub returns-in-Some-Called-clause-entry : goal.returns-in-Some-Called-clause-entry
returns-in-Some-Called-clause-entry c =
    let n : c.len.result ≡ length c.args.self.now.controls.items = omega arith in
    let w = label_within c.args.self.now c.args.store.now c.args.label c.requires in
    called_popped _ _ _ _ _ (rw c.in-Some-Called.field-0-is at c.in-Some-Called.ensures.items) ∙ cut_entries c.args.self.now c.args.store.now c.truncate.new.self.items c.args.label (omega (arith, w)) (cut_at _ _ _ _ c.truncate.ensures.items n) c.requires

pub returns-in-Some-Entry-clause-entry : goal.returns-in-Some-Entry-clause-entry
returns-in-Some-Entry-clause-entry c =
    let n : c.len.result ≡ length c.args.self.now.controls.items = omega arith in
    let w = label_within c.args.self.now c.args.store.now c.args.label c.requires in
    entry_popped _ _ _ (rw c.in-Some-Entry.field-0-is at c.in-Some-Entry.ensures.items) ∙ cut_entries c.args.self.now c.args.store.now c.truncate.new.self.items c.args.label (omega (arith, w)) (cut_at _ _ _ _ c.truncate.ensures.items n) c.requires
