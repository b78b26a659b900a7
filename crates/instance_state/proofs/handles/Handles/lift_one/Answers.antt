use Rattle.std.proofs.Common.{ℕ, All, List, sym, ap, ◌∙◌, subst}
use Rattle.handle_space.specs.HandleMap.{HandleMap}
use Rattle.handle_space.specs.Answers.{held_of}
use Rattle.instance_state.specs.declared.loan.Loan.{Loan}
use Rattle.instance_state.specs.Loans.{IsLentAs}
use Rattle.instance_state.proofs.Counting.{counted_take_own, counted_lend}
use Rattle.instance_state.proofs.Lent.{own_lent, borrow_lent}
use Rattle.instance_state.proofs.handles.Handles.lift_one.Goals.{in-Own-2+in_ok-push-in-Own-2+in_ok-push-in-Own-2-2, in-Borrow-2+in_ok-push-in-Borrow-2}
use Rattle.instance_state.proofs.handles.Handles.lift_one.Goals as goal

pub invariant_of-self-in_err-push-in-Own : goal.invariant_of-self-in_err-push-in-Own
invariant_of-self-in_err-push-in-Own c = counted_take_own _ _ _ _ _ _ c.self.invariant c.in_ok-rep-in-Own.ensures.taken

pub invariant_of-self-in-Own : goal.invariant_of-self-in-Own
invariant_of-self-in-Own c = counted_take_own _ _ _ _ _ _ c.self.invariant c.in_ok-rep-in-Own.ensures.taken

pub invariant_of-self-in_err-push-in-Own-2 : goal.invariant_of-self-in_err-push-in-Own-2
invariant_of-self-in_err-push-in-Own-2 c = counted_lend _ _ _ _ _ _ c.self.invariant c.in_ok-rep-in-Borrow.ensures.lent

pub invariant_of-self-in_err-push-in-Own-2-2 : goal.invariant_of-self-in_err-push-in-Own-2-2
invariant_of-self-in_err-push-in-Own-2-2 c = counted_lend _ _ _ _ _ _ c.self.invariant c.in_ok-rep-in-Borrow.ensures.lent

pub invariant_of-self-in_err-push-in-Borrow-2 : goal.invariant_of-self-in_err-push-in-Borrow-2
invariant_of-self-in_err-push-in-Borrow-2 c = counted_lend _ _ _ _ _ _ c.self.invariant c.in_ok-rep-in-Borrow.ensures.lent

pub invariant_of-self-in-Borrow : goal.invariant_of-self-in-Borrow
invariant_of-self-in-Borrow c = counted_lend _ _ _ _ _ _ c.self.invariant c.in_ok-rep-in-Borrow.ensures.lent

pub returns-after-branch-4-clause-lent : goal.returns-after-branch-4-clause-lent
returns-after-branch-4-clause-lent c h =
    let before : All (IsLentAs c.self.inside.table) c.args.loans.now.items = subst (λ (m : HandleMap ℕ). All (IsLentAs m) c.args.loans.now.items) (sym c.self.view_is) h in
    elim c.match-branch-4.branch [
      | in-Own-2+in_ok-push-in-Own-2+in_ok-push-in-Own-2-2 w ↦
          subst (λ (ls : List Loan). All (IsLentAs c.lend.new.self) ls) (sym (ap (λ v. v.items) w.loans-is ∙ w.in_ok-push-in-Own-2.ensures.items))
          (own_lent _ _ _ _ _ c.args.loans.now.items c.in_ok-rep-in-Borrow.ensures.lent (ap (λ t. (held_of t).owned) w.in-Own-2.is) before)
      | in-Borrow-2+in_ok-push-in-Borrow-2 w ↦
          subst (λ (ls : List Loan). All (IsLentAs c.lend.new.self) ls) (sym (ap (λ v. v.items) w.loans-is))
          (borrow_lent _ _ _ _ _ c.args.loans.now.items c.in_ok-rep-in-Borrow.ensures.lent before)
    ]
