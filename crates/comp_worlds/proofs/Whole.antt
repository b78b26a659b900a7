-- A group made of two does what its parts do, the one over the other.
use Rattle.std.proofs.Common.{◌≡◌, ℕ, suc, ◌≤◌, ◌<◌, inl, inr, List, [], ◌∷◌, ◌++◌, Option, Some, None, refl, sym, ◌∙◌, ap, subst, arith, append_assoc}
use Rattle.std.specs.Option.{option_map}
use Rattle.host_port.specs.Calls.{PlainObservation, Returned, Spent as IsSpent}
use Rattle.host_port.specs.Hosts.{HostStep}
use Rattle.comp_worlds.specs.Acts.{Out, Next, Over, Spent, observed_of, seen_of, seen_before, then_do, Act, ◌>>◌, gives, shows}
use Rattle.comp_worlds.specs.Passing.{Passed, out_of_tuple}
use Rattle.comp_worlds.specs.Groups.{Nesting, Import, Target, Mine, Theirs, type_of, Func, LoweredFunc, ResourceNew, ResourceDrop, ResourceRep, Stage, Group, Config, World, Due, Nothing, Served, Below, Origin, Outside, Ports}
use Rattle.comp_worlds.specs.Calls.{set, below_end, below, Run, answers, during, leaves, drops, runs, deep_enough, answers_if, drops_given, group, does, does_all, is_made}
use Rattle.comp_worlds.specs.Hosts.{hosted}
use Rattle.comp_worlds.specs.Observed.{State, stack, first_state, are_made, Call, without_handles, asks_export, leaves_export, makes_calls, runs_calls}
use Rattle.comp_worlds.proofs.Joint.{set_all, set_here, set_there}
use Rattle.comp_worlds.specs.Parts.{target_to, owner_to, stages_to, IsImportOf, DropsSome, Joins, SameAsParts}
use Rattle.comp_worlds.proofs.Exact.{Equals, Exact, exact_then, exact_gives, exact_gives_first, exact_traps}
use Rattle.comp_worlds.proofs.Embedding.{Eq, DueTo, Answers_as, LeadsTo, KnownIn, InStep, exact_runs, exact_answers, exact_leaves, exact_drops, exact_all}
use Rattle.comp_worlds.proofs.Fair.{Left, Fair, host_fair, stack_fair, are_made_left, Under, exact_below, exact_itself}

-- 1. A part whose imports stay: the instances of A in AB, while those of B rest

-- the instances of A stand at `left`, and those at `right` are these
pub record Lefts {S : Type 0} (left right : ℕ → ℕ) (c : ℕ → Config ℕ) (w : World S) (u : World S) : Type 0 where
  pub lefts : (k : ℕ) → w.configs (left k) ≡ u.configs k
  pub rights : (k : ℕ) → w.configs (right k) ≡ c k
  pub under : w.below ≡ u.below

-- any import of A
abbrev Any_import : Import → Type 0
Any_import f = Unit {0}

module _ {S : Type 0} (A B AB : Group) (left right : ℕ → ℕ) (meets : Import → Target) (j : Joins A B AB left right meets) (p : Ports S) (fair : Fair p) where
  abbrev Known1 : ℕ → Type 0
  Known1 r = B.owner r ≡ None

  known1 : (k n : ℕ) → KnownIn Any_import Known1 (A.canons k n)
  known1 k n = at (A.canons k n) refl
    where
      at : (f : Option Func) → A.canons k n ≡ f → KnownIn Any_import Known1 f
      at None is = tt
      at (Some (LoweredFunc (Mine m lifting) options)) is = tt
      at (Some (LoweredFunc (Theirs f) options)) is = tt
      at (Some (ResourceNew r)) is = tt
      at (Some (ResourceDrop r)) is = j.drops r (k, n, is)
      at (Some (ResourceRep r)) is = tt

  leads1 : (t : Target) → LeadsTo Any_import t
  leads1 (Mine k lifting) = tt
  leads1 (Theirs f) = tt

  module _ (c : ℕ → Config ℕ) where
    abbrev OnLeft : World S → World S → Type 0
    OnLeft w u = Lefts left right c w u

    same_below : {X : Type 0} → (b : ℕ) (x : Act S X) → ((s : S) (n : ℕ) → Left n (x s n)) → (w u : World S) → OnLeft w u → Exact b (Eq OnLeft) (below x w) (below x u)
    same_below b x fair' w u r =
        exact_below b (Eq OnLeft) x x w u
        (subst (λ z. Exact b (λ s a t a'. Eq OnLeft (record { configs = w.configs; below = s }) a (record { configs = u.configs; below = t }) a') (x w.below) (x z)) r.under
        (exact_itself b _ (x w.below) (fair' w.below) (λ s a. (record { lefts = r.lefts; rights = r.rights; under = refl }, refl))))

    step1 : InStep A AB p p left Theirs OnLeft Under Any_import Known1
    step1 = record {
      here = λ k w u r. r.lefts k;
      put = λ k x w u r. record {
        lefts = set_all u.configs k x (λ i x'. set w.configs (left k) x (left i) ≡ x') (set_here w.configs (left k) x) (λ i d. set_there w.configs (left k) x (left i) (λ same. d (j.left_once i k same)) ∙ r.lefts i);
        rights = λ i. set_there w.configs (left k) x (right i) (λ same. j.apart k i (sym same)) ∙ r.rights i;
        under = r.under;
      };
      knows = known1;
      types = λ f used. refl;
      nests = λ d due t is. ap (during d) is;
      asks = λ b d from f passed w u used r.
          exact_gives_first b (Eq OnLeft) (Answers_as OnLeft Under) (below (p.ask d from f passed)) (below (p.ask d from f passed)) (λ a. record { passed = a.passed; due = Below a.due }) w u
          (λ w' a u' a' k. (k.0, ap (λ z. z.passed) k.1, ap (λ z. Below z.due) k.1))
          (same_below b (p.ask d from f passed) (fair.asks d from f passed) w u r);
      leaves = λ b d due t w u is r.
          subst (λ z. Exact b (Eq OnLeft) (leaves AB p (runs AB p b) d z w) (below (p.leave d t) u)) (sym is) (same_below b (p.leave d t) (fair.leaves d t) w u r);
      drops = λ b d r x w u known none r'.
          subst (λ z. Exact b (Eq OnLeft) (drops AB p (runs AB p b) d r x z w) (below (p.drop d (A.imported r) x) u)) (sym (j.below r known ∙ ap (option_map (owner_to left)) none))
          (subst (λ z. Exact b (Eq OnLeft) (below (p.drop d z x) w) (below (p.drop d (A.imported r) x) u)) (sym (j.names r none known)) (same_below b (p.drop d (A.imported r) x) (fair.drops d (A.imported r) x) w u r'));
    }

    -- A does in AB what it does alone, at any depth that suffices
    answers1 : (b m m' : ℕ) → b ≤ m → b ≤ m' → (d : Nesting) (from : Origin) (target : Target) (passed : Passed ℕ) (w u : World S) → OnLeft w u → Exact b (Answers_as OnLeft (DueTo left Under)) (answers AB p (runs AB p m) d from (target_to left Theirs target) passed w) (answers A p (runs A p m') d from target passed u)
    answers1 b m m' le le' d from target passed w u r = exact_answers A AB p p left Theirs OnLeft Under Any_import Known1 j.lefts step1 b m m' le (exact_runs A AB p p left Theirs OnLeft Under Any_import Known1 j.lefts step1 b m m' le le') d from target (leads1 target) passed w u r

    leaves1 : (b m m' : ℕ) → b ≤ m → b ≤ m' → (d : Nesting) (due due' : Due) (w u : World S) → DueTo left Under due due' → OnLeft w u → Exact b (Eq OnLeft) (leaves AB p (runs AB p m) d due w) (leaves A p (runs A p m') d due' u)
    leaves1 b m m' le le' d due due' w u is r = exact_leaves A AB p p left Theirs OnLeft Under Any_import Known1 j.lefts step1 b m m' le (exact_runs A AB p p left Theirs OnLeft Under Any_import Known1 j.lefts step1 b m m' le le') d due due' w u is r

    drops1 : (b m m' : ℕ) → b ≤ m → b ≤ m' → (d : Nesting) (r x : ℕ) → B.owner r ≡ None → (w u : World S) → OnLeft w u → Exact b (Eq OnLeft) (drops AB p (runs AB p m) d r x (AB.owner r) w) (drops A p (runs A p m') d r x (A.owner r) u)
    drops1 b m m' le le' d r x known w u r' = exact_drops A AB p p left Theirs OnLeft Under Any_import Known1 j.lefts step1 b m m' le (exact_runs A AB p p left Theirs OnLeft Under Any_import Known1 j.lefts step1 b m m' le le') d r x (A.owner r) refl known w u r'

during1 : (left : ℕ → ℕ) (d : Nesting) (due due' : Due) → DueTo left Under due due' → during d due ≡ during d due'
during1 left d due Nothing is = absurd is
during1 left d due (Served k lifting results) is = ap (during d) is
during1 left d due (Below t) is = ap (during d) is

-- 2. B in AB, over what is met by A

-- what is below runs as deep as it has steps
below_deep : {S X Y C : Type 0} → (b : ℕ) (P : World S → X → C → Y → Type 0) (Q : World S → X → World C → Y → Type 0) (x : ℕ → Out (World S) X) (y : ℕ → Act C Y) (v : World C) → ((w : World S) (a : X) (t : C) (b : Y) → P w a t b → Q w a (record { configs = v.configs; below = t }) b) → ((n : ℕ) → n < b → Equals n P (x n) (y (suc n) v.below n)) → Exact b Q x (below (deep_enough y) v)
unfolding below deep_enough
below_deep {S} {X} {Y} {C} b P Q x y v f h n lt = at (x n) (y (suc n) v.below n) (h n lt)
  where
    at : (u : Out (World S) X) (t : Out C Y) → Equals n P u t → Equals n Q u (below_end v t)
    at (Next o l w a) (Next o' l' t b') k = (k.0, k.1, k.2, f w a t b' k.3)
    at (Over o e) (Over o' e') k = k
    at (Spent o) (Spent o') k = k
    at (Next o l w a) (Over o' e) k = absurd k
    at (Next o l w a) (Spent o') k = absurd k
    at (Over o e) (Next o' l' t b') k = absurd k
    at (Over o e) (Spent o') k = absurd k
    at (Spent o) (Next o' l' t b') k = absurd k
    at (Spent o) (Over o' e) k = absurd k

both_deep : {W V X Y : Type 0} → (b : ℕ) (P : W → X → V → Y → Type 0) (x : ℕ → Act W X) (y : ℕ → Act V Y) (w : W) (v : V) → ((n : ℕ) → Equals n P (x (suc n) w n) (y (suc n) v n)) → Exact b P (deep_enough x w) (deep_enough y v)
unfolding deep_enough
both_deep b P x y w v h n lt = h n

-- imports and resources that B uses
abbrev Used2 : Group → Import → Type 0
Used2 B f = IsImportOf B f

module _ {S : Type 0} (A B AB : Group) (left right : ℕ → ℕ) (meets : Import → Target) (j : Joins A B AB left right meets) (p : Ports S) (fair : Fair p) where
  abbrev import2 : Import → Target
  import2 f = target_to left Theirs (meets f)

  abbrev Due2 : Due → Due → Type 0
  Due2 d t = DueTo left Under d t

  abbrev OnRight : World S → World (World S) → Type 0
  OnRight w v = Lefts left right v.configs w v.below

  known2 : (k n : ℕ) → KnownIn (Used2 B) (DropsSome B) (B.canons k n)
  known2 k n = at (B.canons k n) refl
    where
      at : (f : Option Func) → B.canons k n ≡ f → KnownIn (Used2 B) (DropsSome B) f
      at None is = tt
      at (Some (LoweredFunc (Mine m lifting) options)) is = tt
      at (Some (LoweredFunc (Theirs f) options)) is = inl (k, n, options, is)
      at (Some (ResourceNew r)) is = tt
      at (Some (ResourceDrop r)) is = (k, n, is)
      at (Some (ResourceRep r)) is = tt

  type_left : (t : Target) → type_of (target_to left Theirs t) ≡ type_of t
  type_left (Mine k lifting) = refl
  type_left (Theirs f) = refl

  step2 : InStep B AB p (group A p) right import2 OnRight Due2 (Used2 B) (DropsSome B)
  step2 = record {
    here = λ k w v r. r.rights k;
    put = λ k x w v r. record {
      lefts = λ i. set_there w.configs (right k) x (left i) (j.apart i k) ∙ r.lefts i;
      rights = set_all v.configs k x (λ i x'. set w.configs (right k) x (right i) ≡ x') (set_here w.configs (right k) x) (λ i d. set_there w.configs (right k) x (right i) (λ same. d (j.right_once i k same)) ∙ r.rights i);
      under = r.under;
    };
    knows = known2;
    types = λ f used. type_left (meets f) ∙ j.types f used;
    nests = during1 left;
    asks = λ b d from f passed w v used r.
        subst (λ o. Exact b (Answers_as OnRight Due2) (answers AB p (runs AB p b) d from (import2 f) passed w) (below (deep_enough (λ m. answers_if A p (runs A p m) d from o passed)) v)) (sym (j.given f used))
        (below_deep b (Answers_as (λ w' u'. Lefts left right v.configs w' u') Due2) (Answers_as OnRight Due2) (answers AB p (runs AB p b) d from (import2 f) passed w) (λ m. answers A p (runs A p m) d from (meets f) passed) v (λ w' a t b' k. k)
        (λ n lt. answers1 A B AB left right meets j p fair v.configs (suc n) b (suc n) (omega arith) (omega arith) d from (meets f) passed w v.below r n (omega arith)));
    leaves = λ b d due t w v is r.
        below_deep b (Eq (λ w' u'. Lefts left right v.configs w' u')) (Eq OnRight) (leaves AB p (runs AB p b) d due w) (λ m. leaves A p (runs A p m) d t) v (λ w' a t' b' k. k)
        (λ n lt. leaves1 A B AB left right meets j p fair v.configs (suc n) b (suc n) (omega arith) (omega arith) d due t w v.below is r n (omega arith));
    drops = λ b d r x w v known none r'.
        subst (λ o. Exact b (Eq OnRight) (drops AB p (runs AB p b) d r x (AB.owner r) w) (below (deep_enough (λ m. drops_given A p (runs A p m) d x o)) v)) (sym (j.resources r known none))
        (below_deep b (Eq (λ w' u'. Lefts left right v.configs w' u')) (Eq OnRight) (drops AB p (runs AB p b) d r x (AB.owner r) w) (λ m. drops A p (runs A p m) d r x (A.owner r)) v (λ w' a t b' k. k)
        (λ n lt. drops1 A B AB left right meets j p fair v.configs (suc n) b (suc n) (omega arith) (omega arith) d r x none w v.below r' n (omega arith)));
  }

  abbrev Owes : Due → Due → Type 0
  Owes d t = DueTo right Due2 d t

  asks2 : (b : ℕ) (d : Nesting) (call : Call) (w : World S) (v : World (World S)) → OnRight w v → Exact b (Answers_as OnRight Owes) (asks_export AB p d call w) (asks_export B (group A p) d call v)
  asks2 b d call w v r =
      both_deep b (Answers_as OnRight Owes) _ _ w v
      (λ n. subst (λ z. Equals n (Answers_as OnRight Owes) (answers_if AB p (runs AB p (suc n)) d Outside z (without_handles call) w n) (answers_if B (group A p) (runs B (group A p) (suc n)) d Outside (B.exports call.interface call.function) (without_handles call) v n)) (sym (j.exports call.interface call.function))
      (at n (B.exports call.interface call.function) refl n (omega arith)))
    where
      leads : (t : Target) → B.exports call.interface call.function ≡ Some t → LeadsTo (Used2 B) t
      leads (Mine k lifting) is = tt
      leads (Theirs f) is = inr (call.interface, call.function, is)

      at : (n : ℕ) (o : Option Target) → B.exports call.interface call.function ≡ o → Exact (suc n) (Answers_as OnRight Owes) (answers_if AB p (runs AB p (suc n)) d Outside (option_map (target_to right import2) o) (without_handles call) w) (answers_if B (group A p) (runs B (group A p) (suc n)) d Outside o (without_handles call) v)
      at n None is = exact_traps (suc n) (Answers_as OnRight Owes) w v
      at n (Some t) is = exact_answers B AB p (group A p) right import2 OnRight Due2 (Used2 B) (DropsSome B) j.rights step2 (suc n) (suc n) (suc n) (omega arith) (exact_runs B AB p (group A p) right import2 OnRight Due2 (Used2 B) (DropsSome B) j.rights step2 (suc n) (suc n) (suc n) (omega arith) (omega arith)) d Outside t (leads t is) (without_handles call) w v r

  leaves2 : (b : ℕ) (d : Nesting) (due due' : Due) (w : World S) (v : World (World S)) → Owes due due' → OnRight w v → Exact b (Eq OnRight) (leaves_export AB p d due w) (leaves_export B (group A p) d due' v)
  leaves2 b d due due' w v is r =
      both_deep b (Eq OnRight) _ _ w v
      (λ n. exact_leaves B AB p (group A p) right import2 OnRight Due2 (Used2 B) (DropsSome B) j.rights step2 (suc n) (suc n) (suc n) (omega arith) (exact_runs B AB p (group A p) right import2 OnRight Due2 (Used2 B) (DropsSome B) j.rights step2 (suc n) (suc n) (suc n) (omega arith) (omega arith)) d due due' w v is r n (omega arith))

  abbrev Any : World S → Unit {0} → World (World S) → Unit {0} → Type 0
  Any w a v b = Unit {0}

  exact_shows : (b : ℕ) (o : List PlainObservation) (w : World S) (v : World (World S)) → OnRight w v → Exact b (Eq OnRight) (shows o w) (shows o v)
  unfolding shows
  exact_shows b o w v r n lt = (refl, refl, omega arith, (r, refl))

  exact_calls : (b : ℕ) (d : Nesting) (calls : List Call) (w : World S) (v : World (World S)) → OnRight w v → Exact b Any (makes_calls AB p d calls w) (makes_calls B (group A p) d calls v)
  exact_calls b d [] w v r = exact_gives b Any tt tt w v tt
  exact_calls b d (call ∷ rest) w v r =
      exact_then b (Answers_as OnRight Owes) Any _ _ _ _ w v (asks2 b d call w v r)
      (λ w1 a v1 a' k.
      exact_then b (Eq OnRight) Any _ _ _ _ w1 v1 (leaves2 b d a.due a'.due w1 v1 k.2 k.0)
      (λ w2 x v2 y k2.
      exact_then b (Eq OnRight) Any _ _ _ _ w2 v2 (subst (λ z. Exact b (Eq OnRight) (shows (Returned (out_of_tuple z.value) ∷ []) w2) (shows (Returned (out_of_tuple a'.passed.value) ∷ []) v2)) (sym k.1) (exact_shows b (Returned (out_of_tuple a'.passed.value) ∷ []) w2 v2 k2.0))
      (λ w3 x' v3 y' k3. exact_calls b d rest w3 v3 k3.0)))

-- 3. The whole is made as its parts are

pub equals_observed : {W V X Y : Type 0} → (n : ℕ) (P : W → X → V → Y → Type 0) (x : Out W X) (y : Out V Y) → Equals n P x y → observed_of x ≡ observed_of y
equals_observed n P (Next o l w a) (Next o' l' v b) h = h.0
equals_observed n P (Over o e) (Over o' e') h = cc (h.0, h.1)
equals_observed n P (Spent o) (Spent o') h = ap (λ z. z ++ IsSpent ∷ []) h
equals_observed n P (Next o l w a) (Over o' e) h = absurd h
equals_observed n P (Next o l w a) (Spent o') h = absurd h
equals_observed n P (Over o e) (Next o' l' v b) h = absurd h
equals_observed n P (Over o e) (Spent o') h = absurd h
equals_observed n P (Spent o) (Next o' l' v b) h = absurd h
equals_observed n P (Spent o) (Over o' e) h = absurd h

pub equals_seen : {W V X Y : Type 0} → (n : ℕ) (P : W → X → V → Y → Type 0) (x : Out W X) (y : Out V Y) → Equals n P x y → seen_of x ≡ seen_of y
equals_seen n P (Next o l w a) (Next o' l' v b) h = h.0
equals_seen n P (Over o e) (Over o' e') h = cc (h.0, h.1)
equals_seen n P (Spent o) (Spent o') h = h
equals_seen n P (Next o l w a) (Over o' e) h = absurd h
equals_seen n P (Next o l w a) (Spent o') h = absurd h
equals_seen n P (Over o e) (Next o' l' v b) h = absurd h
equals_seen n P (Over o e) (Spent o') h = absurd h
equals_seen n P (Spent o) (Next o' l' v b) h = absurd h
equals_seen n P (Spent o) (Over o' e) h = absurd h

pub nothing_before : {W A : Type 0} → (x : Out W A) → seen_before [] x ≡ x
nothing_before (Next o l w a) = refl
nothing_before (Over o e) = refl
nothing_before (Spent o) = refl

before_before : {W A : Type 0} → (o o' : List PlainObservation) (x : Out W A) → seen_before (o ++ o') x ≡ seen_before o (seen_before o' x)
before_before o o' (Next o'' l w a) = ap (λ z. Next z l w a) (append_assoc o o' o'')
before_before o o' (Over o'' e) = ap (λ z. Over z e) (append_assoc o o' o'')
before_before o o' (Spent o'') = ap Spent (append_assoc o o' o'')

before_then : {W A B : Type 0} → (o : List PlainObservation) (x : Out W A) (go : A → W → ℕ → Out W B) → then_do (seen_before o x) go ≡ seen_before o (then_do x go)
before_then o (Next o' l w a) go = before_before o o' (go a w l)
before_then o (Over o' e) go = refl
before_then o (Spent o') go = refl

then_then : {W A B C : Type 0} → (x : Act W A) (f : A → Act W B) (g : B → Act W C) (w : W) (n : ℕ) → ((x >> f) >> g) w n ≡ (x >> λ a. f a >> g) w n
unfolding ◌>>◌
then_then {W} {A} x f g w n = at (x w n)
  where
    at : (u : Out W A) → then_do (then_do u f) g ≡ then_do u (λ a w' l. then_do (f a w' l) g)
    at (Next o l w' a) = before_then o (f a w' l) g
    at (Over o e) = refl
    at (Spent o) = refl

then_same : {W A B : Type 0} → (x : Act W A) (f g : A → Act W B) (w : W) (n : ℕ) → ((a : A) (w' : W) (l : ℕ) → f a w' l ≡ g a w' l) → (x >> f) w n ≡ (x >> g) w n
unfolding ◌>>◌
then_same {W} {A} x f g w n h = at (x w n)
  where
    at : (u : Out W A) → then_do u f ≡ then_do u g
    at (Next o l w' a) = ap (seen_before o) (h a w' l)
    at (Over o e) = refl
    at (Spent o) = refl

then_first : {W A B : Type 0} → (x y : Act W A) (f : A → Act W B) (w : W) (n : ℕ) → x w n ≡ y w n → (x >> f) w n ≡ (y >> f) w n
unfolding ◌>>◌
then_first x y f w n h = ap (λ u. then_do u f) h

below_then : {S A B : Type 0} → (x : Act S A) (f : A → Act S B) (v : World S) (n : ℕ) → below (x >> f) v n ≡ (below x >> λ a. below (f a)) v n
unfolding ◌>>◌ below
below_then {S} {A} {B} x f v n = at (x v.below n)
  where
    later : (o : List PlainObservation) (s : S) (u : Out S B) → below_end v (seen_before o u) ≡ seen_before o (below_end (record { configs = v.configs; below = s }) u)
    later o s (Next o' l s' b) = refl
    later o s (Over o' e) = refl
    later o s (Spent o') = refl

    at : (u : Out S A) → below_end v (then_do u f) ≡ then_do (below_end v u) (λ a v' l. below_end v' (f a v'.below l))
    at (Next o l s a) = later o s (f a s l)
    at (Over o e) = refl
    at (Spent o) = refl

all_append : {S : Type 0} → (G : Group) (p : Ports S) (run : Run S) (d : Nesting) (xs ys : List Stage) (w : World S) (n : ℕ) → does_all G p run d (xs ++ ys) w n ≡ (does_all G p run d xs >> λ _. does_all G p run d ys) w n
unfolding ◌>>◌ gives
all_append G p run d [] ys w n = sym (nothing_before (does_all G p run d ys w n))
all_append G p run d (x ∷ xs) ys w n =
    then_same (does G p run d x) (λ _. does_all G p run d (xs ++ ys)) (λ _. does_all G p run d xs >> λ _. does_all G p run d ys) w n (λ a w' l. all_append G p run d xs ys w' l)
    ∙ sym (then_then (does G p run d x) (λ _. does_all G p run d xs) (λ _. does_all G p run d ys) w n)

module _ {S : Type 0} (A B AB : Group) (left right : ℕ → ℕ) (meets : Import → Target) (j : Joins A B AB left right meets) (p : Ports S) (fair : Fair p) where
  abbrev WhileMade : World S → World (World S) → Type 0
  WhileMade w v = Lefts left right v.configs w v.below

  made3 : (b : ℕ) (d : Nesting) (w : World S) (v : World (World S)) → WhileMade w v → Exact b (Eq WhileMade) (is_made AB p d w) ((below (is_made A p d) >> λ _. is_made B (group A p) d) v)
  unfolding deep_enough
  made3 b d w v r n lt =
      subst (λ z. Equals n (Eq WhileMade) z ((below (is_made A p d) >> λ _. is_made B (group A p) d) v n))
      (sym (ap (λ l. does_all AB p (runs AB p (suc n)) d l w n) j.stages ∙ all_append AB p (runs AB p (suc n)) d (stages_to left A.stages) (stages_to right B.stages) w n))
      (exact_then (suc n) (Eq WhileMade) (Eq WhileMade) (does_all AB p (runs AB p (suc n)) d (stages_to left A.stages)) (λ _. does_all AB p (runs AB p (suc n)) d (stages_to right B.stages)) (below (is_made A p d)) (λ _. is_made B (group A p) d) w v
      (below_deep (suc n) (Eq (λ w' u'. Lefts left right v.configs w' u')) (Eq WhileMade) (does_all AB p (runs AB p (suc n)) d (stages_to left A.stages) w) (λ m. does_all A p (runs A p m) d A.stages) v (λ w' a t b' k. k)
      (λ n' lt'. exact_all A AB p p left Theirs (λ w' u'. Lefts left right v.configs w' u') Under Any_import (λ r'. B.owner r' ≡ None) j.lefts (step1 A B AB left right meets j p fair v.configs) (suc n') (suc n) (suc n') (omega arith) (omega arith) d A.stages w v.below r n' (omega arith)))
      (λ w' x v' y k n' lt'. exact_all B AB p (group A p) right (λ f. target_to left Theirs (meets f)) WhileMade (λ d' t. DueTo left Under d' t) (Used2 B) (DropsSome B) j.rights (step2 A B AB left right meets j p fair) (suc n') (suc n) (suc n') (omega arith) (omega arith) d B.stages w' v' k.0 n' (omega arith))
      n (omega arith))

-- a group of two parts over groups over a host
module _ {S : Type 0} (A B AB : Group) (left right : ℕ → ℕ) (meets : Import → Target) (j : Joins A B AB left right meets) (groups : List Group) (h : HostStep S) (s : S) (d : Nesting) where
  abbrev p4 : Ports (State groups S)
  p4 = stack groups (hosted h)

  fair4 : Fair p4
  fair4 = stack_fair groups (hosted h) (host_fair h)

  abbrev OnceMade : World (State groups S) → World (World (State groups S)) → Type 0
  OnceMade w v = Lefts left right v.configs w v.below

  abbrev Any4 : World (State groups S) → Unit {0} → World (World (State groups S)) → Unit {0} → Type 0
  Any4 w a v b = Unit {0}

  below_first : (b : ℕ) → Exact b (Eq OnceMade) (below (are_made d groups (hosted h)) (first_state (AB ∷ groups) s)) (below (below (are_made d groups (hosted h))) (first_state (B ∷ A ∷ groups) s))
  unfolding below
  below_first b n lt = at (are_made d groups (hosted h) (first_state groups s) n) (are_made_left d groups (hosted h) (host_fair h) (first_state groups s) n)
    where
      at : (u : Out (State groups S) (Unit {0})) → Left n u → Equals n (Eq OnceMade) (below_end (first_state (AB ∷ groups) s) u) (below_end (first_state (B ∷ A ∷ groups) s) (below_end (first_state (A ∷ groups) s) u))
      at (Next o l s' a) le = (refl, refl, le, (record { lefts = λ k. refl; rights = λ k. refl; under = refl }, refl))
      at (Over o e) le = (refl, refl)
      at (Spent o) le = refl

  parts : (n' : ℕ) → are_made d (B ∷ A ∷ groups) (hosted h) (first_state (B ∷ A ∷ groups) s) n' ≡ (below (below (are_made d groups (hosted h))) >> λ _. below (is_made A p4 d) >> λ _. is_made B (group A p4) d) (first_state (B ∷ A ∷ groups) s) n'
  parts n' =
      then_first (below (below (are_made d groups (hosted h)) >> λ _. is_made A p4 d)) (below (below (are_made d groups (hosted h))) >> λ _. below (is_made A p4 d))
      (λ _. is_made B (group A p4) d) (first_state (B ∷ A ∷ groups) s) n'
      (below_then (below (are_made d groups (hosted h))) (λ _. is_made A p4 d) (first_state (B ∷ A ∷ groups) s) n')
      ∙ then_then (below (below (are_made d groups (hosted h)))) (λ _. below (is_made A p4 d)) (λ _. is_made B (group A p4) d) (first_state (B ∷ A ∷ groups) s) n'

  made4 : (b : ℕ) → Exact b (Eq OnceMade) (are_made d (AB ∷ groups) (hosted h) (first_state (AB ∷ groups) s)) (are_made d (B ∷ A ∷ groups) (hosted h) (first_state (B ∷ A ∷ groups) s))
  made4 b n' lt' =
      subst (λ z. Equals n' (Eq OnceMade) (are_made d (AB ∷ groups) (hosted h) (first_state (AB ∷ groups) s) n') z) (sym (parts n'))
      (exact_then b (Eq OnceMade) (Eq OnceMade) _ _ _ _ (first_state (AB ∷ groups) s) (first_state (B ∷ A ∷ groups) s) (below_first b)
      (λ w a v b' k. made3 A B AB left right meets j p4 fair4 b d w v k.0) n' lt')

  exact_observed : (calls : List Call) (n : ℕ) → Equals n Any4 ((are_made d (AB ∷ groups) (hosted h) >> λ _. makes_calls AB p4 d calls) (first_state (AB ∷ groups) s) n) ((are_made d (B ∷ A ∷ groups) (hosted h) >> λ _. makes_calls B (group A p4) d calls) (first_state (B ∷ A ∷ groups) s) n)
  exact_observed calls n =
      exact_then (suc n) (Eq OnceMade) Any4 _ _ _ _ (first_state (AB ∷ groups) s) (first_state (B ∷ A ∷ groups) s) (made4 (suc n))
      (λ w a v b k. exact_calls A B AB left right meets j p4 fair4 (suc n) d calls w v k.0) n (omega arith)

  pub same_as_parts : (calls : List Call) (n : ℕ) → SameAsParts A B AB groups h s d calls n
  unfolding runs_calls
  same_as_parts calls n = record { observed = equals_observed n Any4 _ _ (exact_observed calls n); seen = equals_seen n Any4 _ _ (exact_observed calls n) }
