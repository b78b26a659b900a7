-- What the first act of several does, and how what was seen before joins what is seen later.
use Rattle.std.proofs.Common.{◌≡◌, ℕ, suc, List, [], ◌++◌, Option, Some, None, true, false, refl, sym, ◌∙◌, ap, append_assoc, append-nil}
use Rattle.core_store.specs.State.{State}
use Rattle.host_port.specs.Calls.{PlainObservation}
use Rattle.comp_worlds.specs.Acts.{End, Trapped, TooDeep, Out, Next, Over, Spent, seen_before, then_do, Act, ◌>>◌, gives, takes_step, shows}
use Rattle.comp_worlds.specs.Groups.{Nesting, has_room, Config, World}
use Rattle.comp_worlds.specs.Locals.{Local}
use Rattle.comp_worlds.specs.Calls.{with_config, on_end, on, below_end, below, store_of, if_room, finds_room, begins_call}
use Rattle.comp_worlds.proofs.Whole.{nothing_before}

-- ---- what was seen before

pub before_before : {W A : Type 0} → (o o' : List PlainObservation) (x : Out W A) → seen_before o (seen_before o' x) ≡ seen_before (o ++ o') x
before_before o o' (Next o'' l w a) = ap (λ z. Next z l w a) (sym (append_assoc o o' o''))
before_before o o' (Over o'' e) = ap (λ z. Over z e) (sym (append_assoc o o' o''))
before_before o o' (Spent o'') = ap Spent (sym (append_assoc o o' o''))

pub before_then : {W A B : Type 0} → (o : List PlainObservation) (x : Out W A) (go : A → W → ℕ → Out W B) → then_do (seen_before o x) go ≡ seen_before o (then_do x go)
before_then o (Next o' l w a) go = sym (before_before o o' (go a w l))
before_then o (Over o' e) go = refl
before_then o (Spent o') go = refl

pub before_over : {W A : Type 0} → (o : List PlainObservation) (e : End) → ◌≡◌ {A = Out W A} (seen_before o (Over [] e)) (Over o e)
before_over o e = ap (λ z. Over z e) (append-nil o)

pub before_spent : {W A : Type 0} → (o : List PlainObservation) → ◌≡◌ {A = Out W A} (seen_before o (Spent [])) (Spent o)
before_spent o = ap Spent (append-nil o)

pub before_next : {W A : Type 0} → (o : List PlainObservation) (l : ℕ) (w : W) (a : A) → seen_before o (Next [] l w a) ≡ Next o l w a
before_next o l w a = ap (λ z. Next z l w a) (append-nil o)

-- ---- one after the other

pub then_then : {W A B C : Type 0} → (x : Act W A) (f : A → Act W B) (g : B → Act W C) → ((x >> f) >> g) ≡ (x >> λ a. f a >> g)
unfolding ◌>>◌
then_then {W} {A} x f g = λ i w n. at (x w n) i
  where
    at : (u : Out W A) → then_do (then_do u f) g ≡ then_do u (λ a w' l. then_do (f a w' l) g)
    at (Next o l w' a) = before_then o (f a w' l) g
    at (Over o e) = refl
    at (Spent o) = refl

pub gives_then : {W A B : Type 0} → (a : A) (f : A → Act W B) → (gives a >> f) ≡ f a
unfolding ◌>>◌ gives
gives_then a f = λ i w n. nothing_before (f a w n) i

pub then_gives : {W A : Type 0} → (x : Act W A) → (x >> λ a. gives a) ≡ x
unfolding ◌>>◌ gives
then_gives {W} {A} x = λ i w n. at (x w n) i
  where
    at : (u : Out W A) → then_do u (λ a w' l. Next [] l w' a) ≡ u
    at (Next o l w' a) = before_next o l w' a
    at (Over o e) = refl
    at (Spent o) = refl

pub then_alike : {W A B : Type 0} → (x : Act W A) (f g : A → Act W B) → ((a : A) → f a ≡ g a) → (x >> f) ≡ (x >> g)
then_alike x f g h = λ i. x >> λ a. h a i

pub then_first : {W A B : Type 0} → (x y : Act W A) (f : A → Act W B) → x ≡ y → (x >> f) ≡ (y >> f)
then_first x y f h = λ i. h i >> f

-- in one world and another, with these steps and those
pub then_at : {W A B : Type 0} → (x y : Act W A) (f : A → Act W B) (w v : W) (n m : ℕ) → x w n ≡ y v m → (x >> f) w n ≡ (y >> f) v m
unfolding ◌>>◌
then_at x y f w v n m h = ap (λ u. then_do u f) h

pub below_then : {S A B : Type 0} → (x : Act S A) (f : A → Act S B) → below (x >> f) ≡ (below x >> λ a. below (f a))
unfolding ◌>>◌ below
below_then {S} {A} {B} x f = λ i v n. at v (x v.below n) i
  where
    later : (v : World S) (o : List PlainObservation) (s : S) (u : Out S B) → below_end v (seen_before o u) ≡ seen_before o (below_end (record { configs = v.configs; below = s }) u)
    later v o s (Next o' l s' b) = refl
    later v o s (Over o' e) = refl
    later v o s (Spent o') = refl

    at : (v : World S) (u : Out S A) → below_end v (then_do u f) ≡ then_do (below_end v u) (λ a v' l. below_end v' (f a v'.below l))
    at v (Next o l s a) = later v o s (f a s l)
    at v (Over o e) = refl
    at v (Spent o) = refl

-- ---- the first act

module _ {W A B : Type 0} (x : Act W A) (go : A → Act W B) (w : W) (n : ℕ) where
  pub after_next : (o : List PlainObservation) (l : ℕ) (w' : W) (a : A) → x w n ≡ Next o l w' a → (x >> go) w n ≡ seen_before o (go a w' l)
  unfolding ◌>>◌
  after_next o l w' a is = ap (λ u. then_do u go) is

  pub after_over : (o : List PlainObservation) (e : End) → x w n ≡ Over o e → (x >> go) w n ≡ Over o e
  unfolding ◌>>◌
  after_over o e is = ap (λ u. then_do u go) is

  pub after_spent : (o : List PlainObservation) → x w n ≡ Spent o → (x >> go) w n ≡ Spent o
  unfolding ◌>>◌
  after_spent o is = ap (λ u. then_do u go) is

  -- where nothing is seen
  pub after_unseen : (l : ℕ) (w' : W) (a : A) → x w n ≡ Next [] l w' a → (x >> go) w n ≡ go a w' l
  after_unseen l w' a is = after_next [] l w' a is ∙ nothing_before (go a w' l)

module _ {W A : Type 0} (go : Unit {0} → Act W A) (w : W) where
  pub step_spent : (takes_step >> go) w 0 ≡ Spent []
  unfolding ◌>>◌ takes_step
  step_spent = refl

  pub step_then : (n : ℕ) → (takes_step >> go) w (suc n) ≡ go tt w n
  unfolding ◌>>◌ takes_step
  step_then n = nothing_before (go tt w n)

  pub call_spent : (d : Nesting) → (begins_call d >> go) w 0 ≡ Spent []
  unfolding ◌>>◌ takes_step
  call_spent d = refl

  -- a call begins, where one more may be in progress
  pub call_then : (d : Nesting) (n : ℕ) → has_room d ≡ true → (begins_call d >> go) w (suc n) ≡ go tt w n
  unfolding ◌>>◌ takes_step finds_room
  call_then d n is = ap (λ r. then_do (seen_before [] (if_room r w n)) go) is ∙ nothing_before (go tt w n)

  -- or is too deep
  pub call_too_deep : (d : Nesting) (n : ℕ) → has_room d ≡ false → (begins_call d >> go) w (suc (suc n)) ≡ Over [] TooDeep
  unfolding ◌>>◌ takes_step finds_room
  call_too_deep d n is = ap (λ r. then_do (seen_before [] (if_room r w (suc n))) go) is

  pub call_too_late : (d : Nesting) → has_room d ≡ false → (begins_call d >> go) w 1 ≡ Spent []
  unfolding ◌>>◌ takes_step finds_room
  call_too_late d is = ap (λ r. then_do (seen_before [] (if_room r w 0)) go) is

  pub shows_then : (o : List PlainObservation) (n : ℕ) → (shows o >> go) w n ≡ seen_before o (go tt w n)
  unfolding ◌>>◌ shows
  shows_then o n = refl

module _ {S A B : Type 0} (w : World S) (n : ℕ) where
  pub on_some : (k : ℕ) (op : Config ℕ → Option (Local ℕ A)) (go : A → Act (World S) B) (l : Local ℕ A) → op (w.configs k) ≡ Some l → (on k op >> go) w n ≡ go l.answer (with_config w k l.config) n
  unfolding ◌>>◌ on
  on_some k op go l is = ap (λ o. then_do (on_end w k n o) go) is ∙ nothing_before (go l.answer (with_config w k l.config) n)

  pub on_none : (k : ℕ) (op : Config ℕ → Option (Local ℕ A)) (go : A → Act (World S) B) → op (w.configs k) ≡ None → (on k op >> go) w n ≡ Over [] Trapped
  unfolding ◌>>◌ on
  on_none k op go is = ap (λ o. then_do (on_end w k n o) go) is

  pub below_next : (x : Act S A) (go : A → Act (World S) B) (o : List PlainObservation) (l : ℕ) (s : S) (a : A) → x w.below n ≡ Next o l s a → (below x >> go) w n ≡ seen_before o (go a (record { configs = w.configs; below = s }) l)
  unfolding ◌>>◌ below
  below_next x go o l s a is = ap (λ u. then_do (below_end w u) go) is

  pub below_over : (x : Act S A) (go : A → Act (World S) B) (o : List PlainObservation) (e : End) → x w.below n ≡ Over o e → (below x >> go) w n ≡ Over o e
  unfolding ◌>>◌ below
  below_over x go o e is = ap (λ u. then_do (below_end w u) go) is

  pub below_spent : (x : Act S A) (go : A → Act (World S) B) (o : List PlainObservation) → x w.below n ≡ Spent o → (below x >> go) w n ≡ Spent o
  unfolding ◌>>◌ below
  below_spent x go o is = ap (λ u. then_do (below_end w u) go) is

pub store_then : {S A : Type 0} → (k : ℕ) (go : State → Act (World S) A) (w : World S) (n : ℕ) → (store_of k >> go) w n ≡ go (w.configs k).store w n
unfolding ◌>>◌ store_of
store_then k go w n = nothing_before (go (w.configs k).store w n)

-- ---- a whole run, of which this was seen, and what is left of it

module _ {W B : Type 0} (whole : Out W B) (o : List PlainObservation) where
  pub whole_same : (u v : Out W B) → whole ≡ seen_before o u → u ≡ v → whole ≡ seen_before o v
  whole_same u v is same = is ∙ ap (seen_before o) same

  pub whole_more : (o' : List PlainObservation) (u : Out W B) → whole ≡ seen_before o (seen_before o' u) → whole ≡ seen_before (o ++ o') u
  whole_more o' u is = is ∙ before_before o o' u

module _ {W A B : Type 0} (whole : Out W B) (o : List PlainObservation) (x : Act W A) (go : A → Act W B) (w : W) (n : ℕ) (is : whole ≡ seen_before o ((x >> go) w n)) where
  pub whole_next : (o' : List PlainObservation) (l : ℕ) (w' : W) (a : A) → x w n ≡ Next o' l w' a → whole ≡ seen_before (o ++ o') (go a w' l)
  whole_next o' l w' a next = whole_more whole o o' (go a w' l) (whole_same whole o _ _ is (after_next x go w n o' l w' a next))

  pub whole_over : (o' : List PlainObservation) (e : End) → x w n ≡ Over o' e → whole ≡ Over (o ++ o') e
  whole_over o' e over = whole_same whole o _ _ is (after_over x go w n o' e over)

  pub whole_spent : (o' : List PlainObservation) → x w n ≡ Spent o' → whole ≡ Spent (o ++ o')
  whole_spent o' none = whole_same whole o _ _ is (after_spent x go w n o' none)
