-- A handle that is lent stays until its loan ends.
use Rattle.std.specs.Prelude.{◌≡◌, ℕ, List, [], ◌∷◌, ◌++◌, Bool, Option, Some, None}
use Rattle.std.specs.List.{All, Contains}
use Rattle.wit_types.specs.Plain.{Plain}
use Rattle.wit_types.specs.PlainValue.{PlainValue}
use Rattle.wit_types.specs.declared.value.Value.{Value}
use Rattle.handle_space.specs.HandleMap.{HandleMap, empty}
use Rattle.abi_store.specs.Plan.{Plan}
use Rattle.comp_worlds.specs.Passing.{Handle, unlend_all}
use Rattle.comp_worlds.specs.Groups.{Options, Config}
use Rattle.comp_worlds.specs.Locals.{Local, enter, exit, close, reopen, makes, reads, removes, lifts, adds_handles}
use Rattle.comp_worlds.specs.Calls.{plainly}
use Rattle.instance_state.specs.declared.loan.Loan.{Loan}
use Rattle.instance_state.specs.Loans.{indexes_of, IsLentAs, AreLent}
use Rattle.instance_state.specs.Passed.{IsLiftedAs, IsLoweredAs}
use Rattle.call_moments.specs.Lending.{IsLending}

-- an operation on an instance leaves what is lent
abbrev pub LeavesLent : {A : Type 0} → (Config ℕ → Option (Local ℕ A)) → Type 0
LeavesLent {A} op = (c : Config ℕ) (l : Local ℕ A) (held : List Loan) → op c ≡ Some l → IsLending c.map held → IsLending l.config.map held

pub record HandlesStayWhileLent : Type 0 where
  pub none : IsLending empty []
  pub enters : LeavesLent enter
  pub exits : LeavesLent exit
  pub closes : LeavesLent close
  pub reopens : LeavesLent reopen
  pub makes : (owns : Bool) (resource : ℕ) (args : List ℕ) → LeavesLent (makes plainly owns resource args)
  pub reads : (owns : Bool) (resource : ℕ) (args : List ℕ) → LeavesLent (reads plainly owns resource args)
  pub drops : (resource : ℕ) (args : List ℕ) → LeavesLent (removes resource args)
  -- what is lent is not removed
  pub refuses : (c : Config ℕ) (held : List Loan) (l : Loan) (resource : ℕ) → IsLending c.map held → Contains held l → removes resource (l.index ∷ []) c ≡ None
  pub adds : (plain : ℕ → ℕ → Option ℕ) (handles : List (Handle ℕ)) → LeavesLent (adds_handles plain handles)
  -- values are lowered
  pub lowers : (ty : Plain) (v : PlainValue) (due_plan : PlainValue → Plan) (plain : ℕ → ℕ → Option ℕ) (handles : List (Handle ℕ)) (c new : Config ℕ) (plan : Plan) (held : List Loan) →
      IsLoweredAs ty v due_plan (adds_handles plain handles c) new plan → IsLending c.map held → IsLending new.map held
  -- values are lifted for a call, whose loans join the others
  pub lifts : (most : ℕ) (ty : Plain) (options : Options) (words : List ℕ) (c new : Config ℕ) (v : Value) (loans held : List Loan) →
      IsLiftedAs ty (lifts most ty options words c) new [] (indexes_of loans) v → All (IsLentAs new.map) loans → IsLending c.map held → IsLending new.map (loans ++ held)
  -- the loans of the innermost call end: each is lent as it ends
  pub ends : (m : HandleMap ℕ) (loans held : List Loan) → IsLending m (loans ++ held) → AreLent loans m × IsLending (unlend_all (indexes_of loans) m) held
