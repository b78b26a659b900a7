use Rattle.std.proofs.Common.{◌≡◌, ◌+◌, ◌*◌, drop}
use Rattle.std.specs.Prelude.{map}
use Rattle.adapter_code.specs.Code.{Stop, before, code_of}
use Rattle.adapter_code.specs.Run.{local_width, runs}
use Rattle.adapter_code.specs.Shown.{seen}
use Rattle.adapter_code.proofs.Codes.{size}
use Rattle.adapter_code.proofs.Running.{IsLeft, IsTurning}
use Rattle.adapter_code.proofs.evaluator.+eval.Given as goal

abbrev pub invariant-run_list-loop-statement : goal.invariant-run_list-loop-statement
invariant-run_list-loop-statement l = record {
  rest : IsLeft l.list (drop l.statement-index l.list) (seen l.initial.state) (seen l.state);
  wide : map local_width l.state.locals.items ≡ map local_width l.initial.state.locals.items;
}

abbrev pub invariant-repeat-loop-left : goal.invariant-repeat-loop-left
invariant-repeat-loop-left l = record {
  rest : IsTurning l.name (runs (code_of l.body)) l.initial.left l.left (seen l.initial.state) (seen l.state);
  wide : map local_width l.state.locals.items ≡ map local_width l.initial.state.locals.items;
}

abbrev pub decreases-repeat-loop-left : goal.decreases-repeat-loop-left
decreases-repeat-loop-left l = l.left

abbrev pub decreases-run_list : goal.decreases-run_list
decreases-run_list l = 4 * size (code_of l.list.now) + 1

abbrev pub decreases-repeat : goal.decreases-repeat
decreases-repeat l = 4 * size (code_of l.body.now) + 2

abbrev pub decreases-run_one : goal.decreases-run_one
decreases-run_one l = 4 * size (before l.statement.now Stop)
