use Rattle.std.proofs.Common.{sym, subst, ◌∙◌}
use Rattle.core_interp.specs.declared.machine.Machine.{Machine}
use Rattle.core_interp.specs.Session.{CanRun}
use Rattle.core_rows.proofs.Calling.{can_begin, can_resume, can_go_on}
use Rattle.core_rows.proofs.running.call.Goals as goal

pub run-requires-clause-can : goal.run-requires-clause-can
run-requires-clause-can c = can_begin _ _ _ _ _ c.in_ok-machine.ensures (c.is_callable.ensures c.if-not-is_callable.false) c.len.ensures

pub resume-requires : goal.resume-requires
resume-requires c =
    can_resume _ _ _ _ _ _ _ _ _ _ _ _ _ c.in-AtHost.is c.in_ok-pause.ensures c.in_ok-machine.ensures (c.is_callable.ensures c.if-not-is_callable.false) c.len.ensures (sym c.len-in-AtHost.ensures ∙ c.if-len-awaits.false ∙ c.awaits.ensures)

pub run-requires-in-AtHost-clause-can : goal.run-requires-in-AtHost-clause-can
run-requires-in-AtHost-clause-can c =
    subst (λ (x : Machine). CanRun x c.run.new.store) (sym c.resume.ensures)
    (can_go_on _ _ _ _ _ _ _ _ _ _ _ _ _ c.in-AtHost.is c.in_ok-pause.ensures c.in_ok-machine.ensures (c.is_callable.ensures c.if-not-is_callable.false) c.len.ensures (sym c.len-in-AtHost.ensures ∙ c.if-len-awaits.false ∙ c.awaits.ensures))
