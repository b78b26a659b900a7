use Rattle.std.proofs.Common.{◌≡◌, drop}
use Rattle.comp_worlds.specs.Passing.{unlend_all}
use Rattle.instance_state.specs.Loans.{indexes_of, AreLent}
use Rattle.instance_state.proofs.handles.Handles.end_loans.Given as goal

abbrev pub invariant-loop-loan : goal.invariant-loop-loan
invariant-loop-loan l = record {
  lent : AreLent l.loans l.fn.self → AreLent (drop l.loan-index l.loans) l.self;
  due : unlend_all (indexes_of (drop l.loan-index l.loans)) l.self ≡ unlend_all (indexes_of l.loans) l.fn.self;
}
