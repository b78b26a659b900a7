-- What is seen of them. The numbers of steps are counted by hand: the module, each canonical call, each instruction.
use Rattle.std.specs.Prelude.{ℕ, ◌≡◌, List, [], ◌∷◌, pos, codes, Some, None}
use Rattle.wit_types.specs.PlainValue.{PlainValues, IntValue, StringValue, End as NoValues, More as Values}
use Rattle.host_port.specs.Calls.{PlainObservation, Returned, Trapped, Spent, TooDeep}
use Rattle.comp_worlds.specs.Groups.{Nested, Group}
use Rattle.comp_worlds.specs.Observed.{runs_calls, obs}
use Rattle.comp_worlds.specs.Acts.{observed_of}
use Rattle.link_rows.specs.Samples.{clock, now, tell, called, calls_of, a_number, get, call, reader, teller, taker, lender, dropper, callers, starter}

abbrev pub runs : Group → PlainValues → ℕ → List PlainObservation
runs G args n = obs G [] clock 5 (calls_of (codes "f") args ∷ []) n

abbrev pub returned : ℕ → PlainObservation
returned n = Returned (Some (IntValue (pos n)))

pub record ClockExamples : Type 0 where
  -- the module, the lifted function, `call` and the lowered function
  pub once : runs reader NoValues 4 ≡ called now NoValues ∷ returned 5 ∷ []
  pub fewer : runs reader NoValues 3 ≡ Spent ∷ []
  pub twice : obs reader [] clock 5 (calls_of (codes "f") NoValues ∷ calls_of (codes "f") NoValues ∷ []) 100 ≡ called now NoValues ∷ returned 5 ∷ called now NoValues ∷ returned 6 ∷ []
  -- at most as many calls in progress: the lifted function, its core function, the lowered function
  pub deep : observed_of (runs_calls (Nested 3 0) reader [] clock 5 (calls_of (codes "f") NoValues ∷ []) 100) ≡ called now NoValues ∷ returned 5 ∷ []
  pub deeper : observed_of (runs_calls (Nested 2 0) reader [] clock 5 (calls_of (codes "f") NoValues ∷ []) 100) ≡ TooDeep ∷ []
  -- the step comes first
  pub deeper_spent : observed_of (runs_calls (Nested 2 0) reader [] clock 5 (calls_of (codes "f") NoValues ∷ []) 4) ≡ Spent ∷ []

abbrev pub a_text : PlainValues
a_text = Values (StringValue (codes "abc")) NoValues

pub record ReallocExamples : Type 0 where
  -- an instance calls no import while it is closed
  pub refused : runs teller a_text 100 ≡ Trapped ∷ []
  -- the length of the text is what the function is called with
  pub granted : runs taker a_text 100 ≡ called tell (a_number 3) ∷ Returned None ∷ []

pub record BorrowExamples : Type 0 where
  -- a borrowed handle is dropped before the call returns
  pub dropped : runs (lender (get 0 ∷ call 0 ∷ [])) NoValues 100 ≡ Returned None ∷ []
  pub kept : runs (lender []) NoValues 100 ≡ Trapped ∷ []

pub record DestructorExamples : Type 0 where
  pub told : runs dropper NoValues 100 ≡ called tell (a_number 42) ∷ Returned None ∷ []

pub record EnteredExamples : Type 0 where
  -- an entered instance is not called back
  pub called_back : runs callers NoValues 100 ≡ Trapped ∷ []
  -- while it is made it is not entered; then the host's function, which is exported as it is, is called from outside
  pub started : runs starter NoValues 7 ≡ called now NoValues ∷ called now NoValues ∷ returned 6 ∷ []
  pub not_yet : runs starter NoValues 6 ≡ called now NoValues ∷ Spent ∷ []
