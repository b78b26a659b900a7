-- Whether a call reaches the host that is asked, test by test.
use Rattle.std.proofs.Common.{◌≡◌, Bool, true, false, ◌&&◌, Option, Some, None, sym, subst, true≢false, ◌∙◌}
use Rattle.host_port.specs.Calls.{PlainCall, PlainAnswer}
use Rattle.host_port.specs.Hosts.{HostStep, IsAnswerTo}
use Rattle.reference_step.specs.Listed.{Listed}
use Rattle.reference_step.specs.State.{Reference, view_of}
use Rattle.reference_step.specs.Steps.{calls, reference_step}
use Rattle.reference_host.specs.Sound.{IsSound}
use Rattle.reference_host.specs.Typed.{AnswersAreTypedWhereAsked, AsksTyped}
use Rattle.reference_host.proofs.RoomLemmas.{left, right}

-- after a test that failed nothing is asked
pub never : (P : Type 0) (a b : Bool) → a ≡ false → (a && b) ≡ true → P
never P a b fails is = absurd (true≢false (sym (left a b is) ∙ fails))

-- what holds after the tests that are left holds after one more
pub further : (P : Type 0) (a b : Bool) → (b ≡ true → P) → (a && b) ≡ true → P
further P a b go is = go (right a b is)

-- a call names one function
same_function : (o : Option Listed) (a b : Listed) → o ≡ Some a → o ≡ Some b → a ≡ b
same_function o a b is same = cc

pub named : (P : Listed → Type 0) (o : Option Listed) (found : Listed) → o ≡ Some found → P found → (f : Listed) → o ≡ Some f → P f
named P o found is holds f same = subst P (same_function o found f is same) holds

pub nameless : (P : Listed → Type 0) (o : Option Listed) → o ≡ None → (f : Listed) → o ≡ Some f → P f
nameless P o none f same = cc

pub call_typed : {S : Type 0} (h : HostStep S) (r : Reference S) (c : PlainCall) (a : PlainAnswer) → AnswersAreTypedWhereAsked h → IsSound (view_of r) → AsksTyped h r c → a ≡ (calls h r c).answer → IsAnswerTo c.answer a
unfolding reference_step
call_typed h r c a law sound asks is = subst (IsAnswerTo c.answer) (sym is) (law r c sound asks)
