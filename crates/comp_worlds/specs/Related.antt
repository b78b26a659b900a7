-- When what is above cannot tell two things apart that meet its imports. Each side may give a handle another number.
use Rattle.std.specs.Prelude.{◌≡◌, ◌⊎◌, ℕ, List, [], ◌∷◌, length, map, Some, None, Bool, true, false}
use Rattle.wit_types.specs.Plain.{Name, Plain}
use Rattle.wit_types.specs.HasType.{is_of}
use Rattle.abi_layout.specs.Handles.{handles}
use Rattle.host_port.specs.Hosts.{HostStep}
use Rattle.comp_worlds.specs.Acts.{Out, Next, Over, Spent}
use Rattle.comp_worlds.specs.Passing.{Handle, Own, Borrow, kinds_in, Passed, params_tuple, answer_tuple, handles_of}
use Rattle.comp_worlds.specs.Groups.{Endless, Import, Options, Theirs, LoweredFunc, Owner, Group, Due, Answer, Origin, Inside, Outside, Ports}
use Rattle.comp_worlds.specs.Parts.{DropsSome}
use Rattle.comp_worlds.specs.Hosts.{hosted}
use Rattle.comp_worlds.specs.Observed.{State, first_state, are_made, Call, AreCallsOf, seen, SameObservations}

-- what a handle stands for in two worlds
pub record Both : Type 0 where
  pub one : ℕ
  pub two : ℕ

abbrev pub one_of : Both → ℕ
one_of b = b.one

abbrev pub two_of : Both → ℕ
two_of b = b.two

abbrev pub passed_over : {R Q : Type 0} → (R → Q) → Passed R → Passed Q
passed_over f p = record { value = p.value; reps = map f p.reps }

-- ---- handles that pass

-- this handle is given away
abbrev pub Gives : {R : Type 0} → List (Handle R) → ℕ → R → Type 0
Gives [] r x = ⊥
Gives (Own r' x' ∷ hs) r x = ((r' ≡ r) × (x' ≡ x)) ⊎ Gives hs r x
Gives (Borrow r' x' ∷ hs) r x = Gives hs r x

-- this handle is lent
abbrev pub Lends : {R : Type 0} → List (Handle R) → ℕ → R → Type 0
Lends [] r x = ⊥
Lends (Own r' x' ∷ hs) r x = Lends hs r x
Lends (Borrow r' x' ∷ hs) r x = ((r' ≡ r) × (x' ≡ x)) ⊎ Lends hs r x

-- P holds of each handle
abbrev pub EachHandle : {R : Type 0} → (ℕ → R → Type 0) → List (Handle R) → Type 0
EachHandle P [] = Unit {0}
EachHandle P (Own r x ∷ hs) = P r x × EachHandle P hs
EachHandle P (Borrow r x ∷ hs) = P r x × EachHandle P hs

-- each handle of a resource of `host` is given once
abbrev pub OnceEach : {R : Type 0} → (ℕ → Bool) → List (Handle R) → Type 0
OnceEach host [] = Unit {0}
OnceEach host (Own r x ∷ hs) = (host r ≡ true → Gives hs r x → ⊥) × OnceEach host hs
OnceEach host (Borrow r x ∷ hs) = OnceEach host hs

-- what is lent is not given too
abbrev pub LentApart : {R : Type 0} → (ℕ → Bool) → List (Handle R) → Type 0
LentApart {R} host hs = (r : ℕ) (x : R) → host r ≡ true → Lends hs r x → Gives hs r x → ⊥

-- ---- the premise of the law

-- two that are done alike, where P relates what they answer
abbrev pub Alike : {W A V B : Type 0} → (W → A → V → B → Type 0) → Out W A → Out V B → Type 0
Alike P (Next o l w a) (Next o' l' v b) = (o ≡ o') × P w a v b
Alike P (Over o e) (Over o' e') = (o ≡ o') × (e ≡ e')
Alike P (Next o l w a) (Over o' e) = ⊥
Alike P (Next o l w a) (Spent o') = ⊥
Alike P (Over o e) (Next o' l w a) = ⊥
Alike P (Over o e) (Spent o') = ⊥
Alike P (Spent o) y = ⊥

-- both are done after finitely many steps, and alike
abbrev pub Meet : {W A V B : Type 0} → (W → A → V → B → Type 0) → (ℕ → Out W A) → (ℕ → Out V B) → Type 0
Meet P x y = (n : ℕ) × (m : ℕ) × Alike P (x n) (y m)

-- a pair of handles that may be passed: of a resource of `host` a live one, else one number
pub record Good {S T : Type 0} (host : ℕ → Bool) (live : S → T → ℕ → Both → Type 0) (s : S) (t : T) (r : ℕ) (x : Both) : Type 0 where
  pub paired : host r ≡ true → live s t r x
  pub equal : host r ≡ false → x.one ≡ x.two

-- After a call that was given these handles and answers by this type: the answers are one up to pairs of handles; the handles that
-- stay are those before without those that were given, and those of the answer, which are new.
pub record Answered {S T : Type 0} (host : ℕ → Bool) (answered : S → Due → T → Due → Type 0) (live : S → T → ℕ → Both → Type 0) (s : S) (t : T) (given : List (Handle Both)) (ty : Plain) (s' : S) (a : Answer) (t' : T) (b : Answer) : Type 0 where
  pub answer : Passed Both
  pub is_first : a.passed ≡ passed_over one_of answer
  pub is_second : b.passed ≡ passed_over two_of answer
  pub stands : answered s' a.due t' b.due
  pub stay : (r : ℕ) (x : Both) → host r ≡ true → live s t r x → (Gives given r x → ⊥) → live s' t' r x
  pub come : (r : ℕ) (x : Both) → Gives (handles_of ty answer) r x → Good host live s' t' r x
  pub apart : OnceEach host (handles_of ty answer)
  pub fresh : (r : ℕ) (x : Both) → host r ≡ true → Gives (handles_of ty answer) r x → live s t r x → (Gives given r x → ⊥) → ⊥

pub record Left {S T : Type 0} (host : ℕ → Bool) (idle : S → T → Type 0) (live : S → T → ℕ → Both → Type 0) (s : S) (t : T) (s' : S) (t' : T) : Type 0 where
  pub stands : idle s' t'
  pub stay : (r : ℕ) (x : Both) → host r ≡ true → live s t r x → live s' t' r x

pub record Gone {S T : Type 0} (host : ℕ → Bool) (idle : S → T → Type 0) (live : S → T → ℕ → Both → Type 0) (s : S) (t : T) (gone : ℕ) (rep : Both) (s' : S) (t' : T) : Type 0 where
  pub stands : idle s' t'
  pub stay : (r : ℕ) (x : Both) → host r ≡ true → live s t r x → ((gone ≡ r) × (rep ≡ x) → ⊥) → live s' t' r x

-- Such calls of an import the group makes: core code where it lowers the import, and others where it exports it as it is.
abbrev pub Asks : Group → Origin → Import → Type 0
Asks G Inside f = (k : ℕ) × (n : ℕ) × (options : Options) × (G.canons k n ≡ Some (LoweredFunc (Theirs f) options))
Asks G Outside f = (interface : Name) × (function : Name) × (G.exports interface function ≡ Some (Theirs f))

-- Core code passes as many as its value has handles; from outside none pass.
abbrev pub PassesAll : {R : Type 0} → Origin → Plain → Passed R → Type 0
PassesAll Inside ty p = length p.reps ≡ length (kinds_in (handles ty p.value))
PassesAll Outside ty p = p.reps ≡ []

-- Each call that the group makes, each return from one, and each drop of a handle that the group drops and does not define is done on
-- both sides, alike, and keeps the relation. Other imports may be met as they like.
-- `idle` relates the two between calls, `answered` when an answer was given and not yet left; `live` are the pairs of handles of
-- the resources of `host`.
pub record Related {S T : Type 0} (G : Group) (host : ℕ → Bool) (p : Ports S) (q : Ports T) (idle : S → T → Type 0) (answered : S → Due → T → Due → Type 0) (live : S → T → ℕ → Both → Type 0) : Type 0 where
  pub asks : (from : Origin) (s : S) (t : T) (import : Import) (passed : Passed Both) → Asks G from import → idle s t → is_of (params_tuple import.ty) passed.value ≡ true → PassesAll from (params_tuple import.ty) passed →
      EachHandle (λ r x. Good host live s t r x) (handles_of (params_tuple import.ty) passed) → OnceEach host (handles_of (params_tuple import.ty) passed) → LentApart host (handles_of (params_tuple import.ty) passed) →
      Meet (λ s' a t' b. Answered host answered live s t (handles_of (params_tuple import.ty) passed) (answer_tuple import.ty) s' a t' b) (p.ask Endless from import (passed_over one_of passed) s) (q.ask Endless from import (passed_over two_of passed) t)
  pub leaves : (s : S) (due : Due) (t : T) (due' : Due) → answered s due t due' →
      Meet (λ s' a t' b. Left host idle live s t s' t') (p.leave Endless due s) (q.leave Endless due' t)
  pub drops : (s : S) (t : T) (r : ℕ) (x : Both) → DropsSome G r → G.owner r ≡ None → idle s t → Good host live s t r x →
      Meet (λ s' a t' b. Gone host idle live s t r x s' t') (p.drop Endless (G.imported r) x.one s) (q.drop Endless (G.imported r) x.two t)

-- the group defines no resource of `host`
abbrev pub OwnsNone : (ℕ → Bool) → Group → Type 0
OwnsNone host G = (r : ℕ) (o : Owner) → G.owner r ≡ Some o → host r ≡ false

-- ---- the law

-- the adapter is made, and stands to the first host as `idle` says
abbrev pub Opens : {S T : Type 0} → (adapter : List Group) → HostStep S → HostStep T → (S → State adapter T → Type 0) → S → T → Type 0
Opens adapter h h' idle s t = Meet (λ s' a t' b. idle s' t') (are_made Endless [] (hosted h) s) (are_made Endless adapter (hosted h') (first_state adapter t))

-- A group over the first host, and over the adapter over the second, is seen to do the same.
abbrev pub SeenAlike : {S T : Type 0} → (adapter : List Group) → HostStep S → HostStep T → (ℕ → Bool) → (S → State adapter T → Type 0) → Group → Type 0
SeenAlike {S} {T} adapter h h' host idle G =
    (calls : List Call) (s : S) (t : T) → OwnsNone host G → AreCallsOf G calls → Opens adapter h h' idle s t → SameObservations (seen G [] h s calls) (seen G adapter h' t calls)
