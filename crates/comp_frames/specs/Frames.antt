-- What is left of a group over a host where core code comes back: by why the code runs, and by the core code outside it, each piece of
-- which awaits the results of a canonical call. (This project's own: CanonicalABI.md gives canonical calls as Python generators, which
-- hold the same.)
use Rattle.std.specs.Prelude.{ℕ, List, [], ◌∷◌, Option, Some, None, Bool, true, false}
use Rattle.virt_base.specs.declared.core_type.CoreType.{CoreType}
use Rattle.core_store.specs.declared.value.CoreValue.{CoreValue}
use Rattle.core_store.specs.Words.{words, values_in}
use Rattle.core_store.specs.Config.{Reply}
use Rattle.wit_types.specs.PlainValue.{PlainValue}
use Rattle.abi_layout.specs.Functions.{lowered}
use Rattle.abi_layout.specs.Storing.{Lowered}
use Rattle.comp_worlds.specs.Acts.{Act, ◌>>◌, gives, traps}
use Rattle.comp_worlds.specs.Passing.{answer_tuple, most_results}
use Rattle.comp_worlds.specs.Groups.{Nesting, store_at, Options, Lifting, Target, type_of, Group, World, Due, Nothing, Served, Below, Answer, Ports}
use Rattle.comp_worlds.specs.Locals.{exit, reopen, lifts, ends_loans, has_no_borrow}
use Rattle.comp_worlds.specs.Calls.{on, below, store_of, lowers_result, post_returns}
use Rattle.comp_frames.specs.Running.{running}
use Rattle.comp_frames.specs.Left.{goes_granted}

-- ---- why core code runs

-- Core code called a function by a lowered one, and awaits its results: by these options, at this place if they go through memory, and
-- these indexes are lent for the call.
pub record Asker : Type 0 where
  pub target : Target
  pub options : Options
  pub place : ℕ
  pub loans : List ℕ

pub data Caller : Type 0 where
  FromOutside : Caller
  FromCode : (asker : Asker) → Caller

-- a call of a lifted function of an instance, in which that many calls are in progress
pub record Service : Type 0 where
  pub instance : ℕ
  pub lifting : Lifting
  pub caller : Caller
  pub depth : Nesting

-- what follows when all is stored: the lifted function runs, or the call is left that was answered
pub data Stored : Type 0 where
  Params : (service : Service) → Stored
  Result : (due : Due) → Stored

-- values of these flat types are stored, by these options
pub record Storing : Type 0 where
  pub options : Options
  pub depth : Nesting
  pub types : List CoreType
  pub next : Stored

-- where an answer goes once its call is left
pub data Back : Type 0 where
  ToOutside : (value : PlainValue) → Back
  ToCode : (results : List CoreValue) → Back

pub data Purpose : Type 0 where
  -- a start function
  Starts : Purpose
  -- the core function of a lifted function
  Serves : (service : Service) → Purpose
  -- `realloc`, with what was asked for and what is to be stored after that
  Grants : (storing : Storing) (align len : ℕ) (left : Lowered) → Purpose
  -- a post-return
  Returns : (back : Back) → Purpose
  -- a destructor, for which the instance was entered or was not
  Destroys : (visits : Bool) → Purpose

-- core code of an instance that awaits the results of a canonical call, with the number of calls in progress when it asked
pub record Awaiting (S : Type 0) : Type 0 where
  pub instance : ℕ
  pub purpose : Purpose
  pub now : ℕ
  pub resume : Reply → Act (World S) (List CoreValue)

-- the instance of the innermost code that awaits
abbrev pub instance_in : {S : Type 0} → List (Awaiting S) → ℕ
instance_in [] = 0
instance_in (f ∷ fs) = f.instance

-- ---- what is left. `back` is what is left where results come back to the code outside, which is of the instance `at`

module _ {S : Type 0} (G : Group) (p : Ports S) (d : Nesting) where
  -- the end: of a call from outside, with the tuple of its result
  abbrev pub Rest : Type 0
  Rest = Act (World S) (Option PlainValue)

  -- an answered call is left, where that many calls were in progress in its function
  abbrev pub is_left : Nesting → Due → Act (World S) (Unit {0})
  is_left e Nothing = gives tt
  is_left e (Below due) = below (p.leave e due)
  is_left e (Served k lifting results) = post_returns G p (running G p) e k results lifting.post >> λ _. on k exit

  module _ (at : ℕ) (back : List CoreValue → Rest) where
    abbrev pub goes_back : Back → Rest
    goes_back (ToOutside value) = gives (Some value)
    goes_back (ToCode results) = back results

    -- a call was answered
    abbrev pub is_answered : Caller → Nesting → Answer → Rest
    is_answered FromOutside e answer = is_left e answer.due >> λ _. gives (Some answer.passed.value)
    is_answered (FromCode asker) e answer =
        on at (ends_loans asker.loans) >> λ _.
        lowers_result G p (running G p) e at asker.options (answer_tuple (type_of asker.target)) asker.place answer.passed >> λ results.
        is_left e answer.due >> λ _.
        back (values_in 0 (lowered (type_of asker.target)).results results)

    -- the core function of a lifted function came back
    abbrev pub has_served : Service → List CoreValue → Rest
    has_served service results =
        on service.instance (lifts most_results (answer_tuple service.lifting.ty) service.lifting.options (words results)) >> λ l.
        on service.instance (has_no_borrow l.loans) >> λ _.
        is_answered service.caller service.depth (record { passed = l.passed; due = Served service.instance service.lifting results })

    -- all is stored
    abbrev pub goes_next : Storing → List ℕ → Stored → Rest
    goes_next storing flats (Params service) = running G p service.depth service.instance service.lifting.code (values_in 0 storing.types flats) >> has_served service
    goes_next storing flats (Result due) = is_left storing.depth due >> λ _. back (values_in 0 storing.types flats)

    abbrev pub is_stored : Storing → List ℕ → Rest
    is_stored storing flats = goes_next storing flats storing.next

    -- in an instance that is closed meanwhile this is done yet, which leaves the flat values
    abbrev pub is_storing : ℕ → Storing → Act (World S) (List ℕ) → Rest
    is_storing k storing x = x >> λ flats. on k reopen >> λ _. is_stored storing flats

    -- core code of the instance k came back
    abbrev pub comes_back : ℕ → Purpose → List CoreValue → Rest
    comes_back k Starts results = gives None
    comes_back k (Serves service) results = has_served service results
    comes_back k (Grants storing align len left) results = is_storing k storing (goes_granted G p (running G p) storing.depth k storing.options align len left (words results))
    comes_back k (Returns to) results = on k reopen >> λ _. on k exit >> λ _. goes_back to
    comes_back k (Destroys true) results = on k exit >> λ _. back []
    comes_back k (Destroys false) results = back []

  -- core code that awaits results gets them
  abbrev pub gets : Awaiting S → List CoreValue → Act (World S) (List CoreValue)
  gets f results = store_of f.instance >> λ store. f.resume (record { results = results; store = record (store_at d store) { nesting = f.now } })

  -- results come to the innermost code that awaits some
  abbrev pub resumes : List (Awaiting S) → List CoreValue → Rest
  resumes [] results = traps
  resumes (f ∷ fs) results = gets f results >> comes_back (instance_in fs) (resumes fs) f.instance f.purpose

  -- what is left where core code of the instance k came back, which ran for this purpose
  abbrev pub ends_in : List (Awaiting S) → ℕ → Purpose → List CoreValue → Rest
  ends_in fs k purpose = comes_back (instance_in fs) (resumes fs) k purpose
