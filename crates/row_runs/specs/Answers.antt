-- Answers of the host that pass as they are: what is asked of their types, and of functions of one handle that the host answers.
use Rattle.std.specs.Prelude.{◌≡◌, ℕ, ◌<◌, ◌≤◌, ◌==◌, ◌&&◌, true, false, List, [], Some, codes}
use Rattle.std.specs.Str.{bytes_eq}
use Rattle.wit_types.specs.Plain.{Name, Plain, PlainFunc, RecordType, AsTuple, End, More}
use Rattle.wit_types.specs.PlainValue.{PlainValues}
use Rattle.wit_types.specs.Layout.{alignment, size}
use Rattle.abi_layout.specs.Functions.{result_spills}
use Rattle.abi_layout.specs.Loading.{is_aligned}
use Rattle.policy_data.specs.declared.policy.Policy.{Policy}
use Rattle.reference_step.specs.Handles.{Live}
use Rattle.reference_step.specs.State.{View, Traps}
use Rattle.reference_step.specs.Rows.{row_of}
use Rattle.reference_step.specs.Rules.{has_places}
use Rattle.adapter_code.specs.Layout.{calls_len}
use Rattle.row_runs.specs.Passing.{answer_tuple, spills_over}
use Rattle.row_runs.specs.Fixed.{is_fixed, is_handle_free}
use Rattle.row_runs.specs.Asks.{ask_type}

-- what is asked of the answer's type, each of which is `refl` where it is written out
pub record IsPlainAnswer (ty : PlainFunc) (answer : Plain) : Type 0 where
  pub answers : ty.answer ≡ Some answer
  pub fixed : is_fixed (RecordType AsTuple (More [] answer End)) ≡ true
  pub handle_free : is_handle_free (RecordType AsTuple (More [] answer End)) ≡ true
  pub answer_free : is_handle_free answer ≡ true
  pub small : size (RecordType AsTuple (More [] answer End)) ≤ calls_len
  pub aligned : is_aligned 0 (alignment (RecordType AsTuple (More [] answer End))) ≡ true

-- what is asked of such a function, each of which is `refl` where it is written out
pub record AsksHost (interface : ℕ) (name self : Name) (kind : ℕ) (answer : Plain) (names : List Name) : Type 0 where
  pub kind_lt : kind < 14
  pub plain : IsPlainAnswer (ask_type self kind answer) answer
  pub spills : result_spills (ask_type self kind answer) ≡ true
  pub over : spills_over 1 (answer_tuple (ask_type self kind answer)) ≡ true
  pub traps : (v : View) (args : PlainValues) → row_of interface name v args ≡ Traps
  pub no_environment : (interface == 3 && bytes_eq name (codes "get-environment")) ≡ false
  pub no_folders : (interface == 19) ≡ false
  pub no_room : (p : Policy) (live : Live) → has_places p live (Some answer) ≡ true
