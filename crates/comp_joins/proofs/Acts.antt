-- What acts do to the stores of a group: they leave each as many items, step by step.
use Rattle.std.proofs.Common.{◌≡◌, ℕ, zero, suc, ◌+◌, ◌==◌, List, [], Option, Some, None, Bool, true, false, refl, ◌∙◌, ap}
use Rattle.std.proofs.lemmas.Bool.{eqb-true}
use Rattle.core_store.specs.State.{State}
use Rattle.host_port.specs.Calls.{PlainObservation}
use Rattle.comp_worlds.specs.Acts.{Out, Next, Over, Spent, seen_before, then_do, Act, ◌>>◌, gives, traps, spent, takes_step, with_more, shows}
use Rattle.comp_worlds.specs.Groups.{Nesting, has_room, Config, World}
use Rattle.comp_worlds.specs.Locals.{Local}
use Rattle.comp_worlds.specs.Calls.{pick, with_config, on_end, on, below_end, below, store_of, if_room, finds_room, begins_call, deep_enough}
use Rattle.comp_joins.specs.Made.{items_of, SameItems}

-- an operation on one instance leaves its store as many items
abbrev pub OpKept : {A : Type 0} → Config ℕ → Option (Local ℕ A) → Type 0
OpKept c None = Unit {0}
OpKept c (Some l) = items_of c.store ≡ items_of l.config.store

module _ {S : Type 0} where
  abbrev pub Kept : {A : Type 0} → World S → Out (World S) A → Type 0
  Kept w (Next o l w' a) = SameItems w w'
  Kept w (Over o e) = Unit {0}
  Kept w (Spent o) = Unit {0}

  abbrev pub Keeps : {A : Type 0} → Act (World S) A → Type 0
  Keeps x = (w : World S) (n : ℕ) → Kept w (x w n)

  pub same_world : (w : World S) → SameItems w w
  same_world w k = refl

  pub seen_kept : {A : Type 0} → (w : World S) (o : List PlainObservation) (x : Out (World S) A) → Kept w x → Kept w (seen_before o x)
  seen_kept w o (Next o' l w' a) h = h
  seen_kept w o (Over o' e) h = tt
  seen_kept w o (Spent o') h = tt

  pub kept_from : {A : Type 0} → (w v : World S) (x : Out (World S) A) → SameItems w v → Kept v x → Kept w x
  kept_from w v (Next o l w' a) same h = λ k. same k ∙ h k
  kept_from w v (Over o e) same h = tt
  kept_from w v (Spent o) same h = tt

  then_kept : {A B : Type 0} → (w : World S) (x : Out (World S) A) (go : A → Act (World S) B) → Kept w x → ((a : A) (v : World S) (l : ℕ) → SameItems w v → Kept v (go a v l)) → Kept w (then_do x go)
  then_kept w (Next o l v a) go h k = seen_kept w o (go a v l) (kept_from w v (go a v l) h (k a v l h))
  then_kept w (Over o e) go h k = tt
  then_kept w (Spent o) go h k = tt

  -- one act and then another, which is done where the first left
  pub then_from : {A B : Type 0} → (x : Act (World S) A) (go : A → Act (World S) B) (w : World S) (n : ℕ) → Kept w (x w n) → ((a : A) (v : World S) (l : ℕ) → SameItems w v → Kept v (go a v l)) → Kept w ((x >> go) w n)
  unfolding ◌>>◌
  then_from x go w n h k = then_kept w (x w n) go h k

  pub then_keeps : {A B : Type 0} → (x : Act (World S) A) (go : A → Act (World S) B) → Keeps x → ((a : A) → Keeps (go a)) → Keeps (x >> go)
  then_keeps x go h k w n = then_from x go w n (h w n) (λ a v l same. k a v l)

  pub gives_keeps : {A : Type 0} → (a : A) → Keeps (gives a)
  unfolding gives
  gives_keeps a w n = same_world w

  pub traps_keeps : (A : Type 0) → Keeps (traps {A = A})
  unfolding traps
  traps_keeps A w n = tt

  pub spent_keeps : (A : Type 0) → Keeps (spent {A = A})
  unfolding spent
  spent_keeps A w n = tt

  pub takes_keeps : Keeps takes_step
  unfolding takes_step
  takes_keeps w zero = tt
  takes_keeps w (suc n) = same_world w

  pub shows_keeps : (o : List PlainObservation) → Keeps (shows o)
  unfolding shows
  shows_keeps o w n = same_world w

  room_kept : (b : Bool) (w : World S) (n : ℕ) → Kept w (if_room b w n)
  room_kept true w n = same_world w
  room_kept false w zero = tt
  room_kept false w (suc n) = tt

  room_keeps : (d : Nesting) → Keeps (finds_room d)
  unfolding finds_room
  room_keeps d w n = room_kept (has_room d) w n

  pub begins_keeps : (d : Nesting) → Keeps (begins_call d)
  begins_keeps d = then_keeps takes_step (λ _. finds_room d) takes_keeps (λ a. room_keeps d)

  below_kept : {A : Type 0} → (w : World S) (x : Out S A) → Kept w (below_end w x)
  below_kept w (Next o l s a) = λ k. refl
  below_kept w (Over o e) = tt
  below_kept w (Spent o) = tt

  pub below_keeps : {A : Type 0} → (x : Act S A) → Keeps (below x)
  unfolding below
  below_keeps x w n = below_kept w (x w.below n)

  pub more_keeps : {A : Type 0} → (used : ℕ) (x : Act (World S) A) (w : World S) (n : ℕ) → Kept w (x w (used + n)) → Kept w (with_more used x w n)
  unfolding with_more
  more_keeps used x w n h = h

  pub deep_keeps : {A : Type 0} → (x : ℕ → Act (World S) A) → ((fuel : ℕ) → Keeps (x fuel)) → Keeps (deep_enough x)
  unfolding deep_enough
  deep_keeps x h w n = h (suc n) w n

  -- what is done with the store of an instance
  pub store_then : {A : Type 0} → (k : ℕ) (go : State → Act (World S) A) (w : World S) (n : ℕ) → Kept w (go (w.configs k).store w n) → Kept w ((store_of k >> go) w n)
  unfolding ◌>>◌ store_of
  store_then k go w n h = seen_kept w [] (go (w.configs k).store w n) h

  -- ---- an operation on one instance

  pub set_same : (w : World S) (k : ℕ) (c : Config ℕ) → items_of (w.configs k).store ≡ items_of c.store → SameItems w (with_config w k c)
  set_same w k c h m = go (m == k) refl
    where
      go : (b : Bool) → (m == k) ≡ b → items_of (w.configs m).store ≡ items_of (pick b c (w.configs m)).store
      go true e = ap (λ z. items_of (w.configs z).store) (eqb-true m k e) ∙ h
      go false e = refl

  op_kept : {A : Type 0} → (w : World S) (k n : ℕ) (o : Option (Local ℕ A)) → OpKept (w.configs k) o → Kept w (on_end w k n o)
  op_kept w k n None h = tt
  op_kept w k n (Some l) h = set_same w k l.config h

  pub on_keeps : {A : Type 0} → (k : ℕ) (op : Config ℕ → Option (Local ℕ A)) → ((c : Config ℕ) → OpKept c (op c)) → Keeps (on k op)
  unfolding on
  on_keeps k op h w n = op_kept w k n (op (w.configs k)) (h (w.configs k))
