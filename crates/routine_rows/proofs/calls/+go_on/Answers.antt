use Rattle.std.proofs.Common.{◌≡◌, ◌≤◌, length, sym, subst, ◌∙◌, arith}
use Rattle.core_store.specs.Fine.{IsFine}
use Rattle.core_interp.specs.declared.machine.Machine.{Machine}
use Rattle.routine_rows.specs.Going.{Goes}
use Rattle.routine_rows.proofs.Calling.{awaits, goes_on, same_scene}
use Rattle.routine_rows.proofs.calls.+go_on.Goals as goal

pub resume-requires : goal.resume-requires
resume-requires t c = awaits _ _ _ _ _ _ _ _ _ _ c.in-AtHost.is c.in_ok-pause.ensures c.requires.goes (sym c.len.ensures ∙ c.if-len-awaits.false ∙ c.awaits.ensures)

pub go_on-requires : goal.go_on-requires
go_on-requires t c = (
  omega (arith, c.decreases, c.in-len1-up.len_at_least),
  (
    subst (λ (x : Machine). Goes x c.run.new.store) (sym c.resume.ensures) (goes_on _ _ _ _ _ _ _ _ c.answer-item.result _ c.in-AtHost.is c.in_ok-pause.ensures c.requires.goes (sym c.len.ensures ∙ c.if-len-awaits.false ∙ c.awaits.ensures)),
    same_scene _ _ _ _ _ _ _ c.in_ok-pause.ensures c.requires.fine,
  ),
)
