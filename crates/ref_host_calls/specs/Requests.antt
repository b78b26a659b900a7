-- Requests as the definition has them.
use Rattle.std.specs.Prelude.{◌≡◌, ℕ, ◌+◌, ◌≤◌, List, Option}
use Rattle.wit_types.specs.PlainValue.{PlainValue}
use Rattle.host_port.specs.Calls.{PlainCall, plain_call}
use Rattle.reference_step.specs.Atoms.{atoms_of, result_atoms, weight, handles}
use Rattle.reference_step.specs.Listed.{Listed}
use Rattle.ref_answers.specs.Versions.{plain_found}
use Rattle.ref_guards.specs.Noted.{shown_all, parts_of_result}
use Rattle.ref_host_calls.specs.declared.request.Request.{Request}

abbrev pub listed_of : Request → Listed
listed_of q = plain_found q.found

abbrev pub call_of : Request → PlainCall
call_of q = plain_call q.call.now

-- the handles of an answer: their kinds and numbers
abbrev pub handles_in : Request → Option PlainValue → List (ℕ × ℕ)
handles_in q v = handles (result_atoms (listed_of q).function.ty.answer v)

-- what was noted is in the arguments, the call has that many bytes left, and the result's type is small enough to be noted
pub record IsNoted (q : Request) : Type 0 where
  pub noted : shown_all q.noted.now ≡ atoms_of (listed_of q).function.ty.params (call_of q).args
  pub left : weight (atoms_of (listed_of q).function.ty.params (call_of q).args) + q.left ≡ q.policy.now.transfer_limit
  pub small : parts_of_result (listed_of q).function.ty.answer ≤ 1000000
