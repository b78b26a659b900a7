-- What is done to a world in at most that many steps. (This project's own: CanonicalABI.md gives its functions as Python generators.)
use Rattle.std.specs.Prelude.{◌≡◌, ℕ, zero, suc, ◌+◌, List, [], ◌∷◌, ◌++◌}
use Rattle.host_port.specs.Calls.{PlainObservation, Trapped as ItTrapped, ScriptEnded as ItsScriptEnded, BadAnswer as ItsBadAnswer, Spent as IsSpent, TooDeep as IsTooDeep}

-- how a run ends before it is done
pub data End : Type 0 where
  Trapped : End
  ScriptEnded : End
  BadAnswer : End
  TooDeep : End

abbrev pub end_item : End → PlainObservation
end_item Trapped = ItTrapped
end_item ScriptEnded = ItsScriptEnded
end_item BadAnswer = ItsBadAnswer
end_item TooDeep = IsTooDeep

-- How it comes out, with what was seen meanwhile: it is done, with these steps left, in this world, and answers; or the whole
-- run ends; or a step is due and none is left.
pub data Out (W A : Type 0) : Type 0 where
  Next : (seen : List PlainObservation) (left : ℕ) (world : W) (answer : A) → Out W A
  Over : (seen : List PlainObservation) (last : End) → Out W A
  Spent : (seen : List PlainObservation) → Out W A

-- What is observed: the end of the run is the last item.
abbrev pub observed_of : {W A : Type 0} → Out W A → List PlainObservation
observed_of (Next o l w a) = o
observed_of (Over o e) = o ++ end_item e ∷ []
observed_of (Spent o) = o ++ IsSpent ∷ []

-- What is seen: the same without a last Spent, since with more steps it goes on.
abbrev pub seen_of : {W A : Type 0} → Out W A → List PlainObservation
seen_of (Next o l w a) = o
seen_of (Over o e) = o ++ end_item e ∷ []
seen_of (Spent o) = o

abbrev pub IsPrefixOf : List PlainObservation → List PlainObservation → Type 0
IsPrefixOf xs ys = (rest : List PlainObservation) × (xs ++ rest ≡ ys)

abbrev pub seen_before : {W A : Type 0} → List PlainObservation → Out W A → Out W A
seen_before o (Next o' l w a) = Next (o ++ o') l w a
seen_before o (Over o' e) = Over (o ++ o') e
seen_before o (Spent o') = Spent (o ++ o')

abbrev pub then_do : {W A B : Type 0} → Out W A → (A → W → ℕ → Out W B) → Out W B
then_do (Next o l w a) go = seen_before o (go a w l)
then_do (Over o e) go = Over o e
then_do (Spent o) go = Spent o

abbrev pub Act : Type 0 → Type 0 → Type 0
Act W A = W → ℕ → Out W A

infixr 2 ◌>>◌
-- one after the other
unfoldable pub ◌>>◌ : {W A B : Type 0} → Act W A → (A → Act W B) → Act W B
(x >> go) w n = then_do (x w n) go

unfoldable pub gives : {W A : Type 0} → A → Act W A
gives a w n = Next [] n w a

unfoldable pub traps : {W A : Type 0} → Act W A
traps w n = Over [] Trapped

unfoldable pub spent : {W A : Type 0} → Act W A
spent w n = Spent []

unfoldable pub takes_step : {W : Type 0} → Act W (Unit {0})
takes_step w zero = Spent []
takes_step w (suc n) = Next [] n w tt

-- in that many steps more
unfoldable pub with_more : {W A : Type 0} → ℕ → Act W A → Act W A
with_more used x w n = x w (used + n)

-- something is seen
unfoldable pub shows : {W : Type 0} → List PlainObservation → Act W (Unit {0})
shows o w n = Next o n w tt

-- ---- with more steps

-- with k steps more the same is done, and k more are left; or it goes on where none was left
abbrev pub Extends : {W A : Type 0} → ℕ → Out W A → Out W A → Type 0
Extends k (Next o l w a) y = y ≡ Next o (k + l) w a
Extends k (Over o e) y = y ≡ Over o e
Extends k (Spent o) y = IsPrefixOf o (seen_of y)

abbrev pub Grows : {W A : Type 0} → Act W A → Type 0
Grows {W} x = (w : W) (n k : ℕ) → Extends k (x w n) (x w (k + n))
