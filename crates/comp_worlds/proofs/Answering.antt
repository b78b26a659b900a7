-- What is owed by a call that was answered, and what holds when a part of a group has run.
use Rattle.std.proofs.Common.{◌≡◌, ◌≢◌, ℕ, zero, suc, ◌||◌, inl, inr, List, [], ◌∷◌, length, Option, Some, None, Bool, true, false, not, cond, refl, sym, ◌∙◌, ap, subst, subst₂}
use Rattle.std.specs.Option.{option_map}
use Rattle.std.specs.List.{list_any}
use Rattle.wit_types.specs.Plain.{Plain, OwnType, BorrowType}
use Rattle.wit_types.specs.PlainValue.{PlainValue}
use Rattle.wit_types.specs.HasType.{is_of}
use Rattle.abi_layout.specs.Loading.{low_word, loads, lift_flat}
use Rattle.abi_layout.specs.Handles as abi
use Rattle.abi_layout.specs.Handles.{handles, with_numbers}
use Rattle.abi_layout.proofs.HandleLaws.{handles_keep, types_keep}
use Rattle.abi_layout.proofs.TypeLaws.{loads_typed, lifts_typed}
use Rattle.handle_space.specs.HandleMap.{Entry, HandleMap, Answered, Held, entry_at, without, lend, take, take_own}
use Rattle.handle_space.proofs.MapLaws.{take_is, entry_of_is}
use Rattle.comp_worlds.specs.Acts.{Act, ◌>>◌}
use Rattle.comp_worlds.specs.Passing.{Handle, Own, Borrow, reps_in, Kind, IsOwn, IsBorrow, and_kind, kinds_in, handles_by, handles_of, Passed, params_tuple, answer_tuple, Named, OwnAt, BorrowAt, and_named, named_in, Lifted, and_lifted, lift_handles, is_borrow, lift_words, spills_over, blank}
use Rattle.comp_worlds.specs.Groups.{Endless, Import, Options, Group, Config, World, Due, Nothing, Served, Below, Answer, Origin, Inside, Ports}
use Rattle.comp_worlds.specs.Locals.{Local, bytes_in, Args, args_of, lifts, only_one, what_is_owned, removed, removes}
use Rattle.comp_worlds.specs.Calls.{set, with_config}
use Rattle.comp_worlds.specs.Parts.{DropsSome}
use Rattle.comp_worlds.specs.Related.{Both, one_of, two_of, passed_over, Gives, Lends, EachHandle, OnceEach, LentApart, Good, Answered as HasAnswered, Left, Gone, Asks, PassesAll}
use Rattle.comp_worlds.proofs.Maps.{and_then_is, map_is, some_is, at, made_of, Has, Holds, Free, Keeps, keeps_trans, keeps_refl, without_at, without_keeps, found_is, EachOnce}
use Rattle.comp_worlds.proofs.Loans.{Clear, LiftedFrom, Lending, lift_lending, lift_from, counted_free}
use Rattle.comp_worlds.proofs.Natural.{config_over}
use Rattle.comp_worlds.proofs.Similar.{Similar, similar_then}
use Rattle.comp_worlds.proofs.Joint.{set_all}
use Rattle.comp_worlds.proofs.Meeting.{Keep, Met, met_set, fits_fewer}
use Rattle.comp_worlds.proofs.Closed.{also_is}

-- the second shows what the first shows, and the first what the second
pub record Simulates {S T : Type 0} (G : Group) (host : ℕ → Bool) (p : Ports S) (q : Ports T) (idle : S → T → Type 0) (answered : S → Due → T → Due → Type 0) (live : S → T → ℕ → Both → Type 0) : Type 0 where
  pub asks : (D : ℕ) (from : Origin) (s : S) (t : T) (import : Import) (passed : Passed Both) → Asks G from import → idle s t → is_of (params_tuple import.ty) passed.value ≡ true → PassesAll from (params_tuple import.ty) passed →
      EachHandle (λ r x. Good host live s t r x) (handles_of (params_tuple import.ty) passed) → OnceEach host (handles_of (params_tuple import.ty) passed) → LentApart host (handles_of (params_tuple import.ty) passed) →
      Similar D (λ s' a t' b. HasAnswered host answered live s t (handles_of (params_tuple import.ty) passed) (answer_tuple import.ty) s' a t' b) (λ d. p.ask Endless from import (passed_over one_of passed) s) (λ d. q.ask Endless from import (passed_over two_of passed) t)
  pub leaves : (D : ℕ) (s : S) (due : Due) (t : T) (due' : Due) → answered s due t due' →
      Similar D (λ s' a t' b. Left host idle live s t s' t') (λ d. p.leave Endless due s) (λ d. q.leave Endless due' t)
  pub drops : (D : ℕ) (s : S) (t : T) (r : ℕ) (x : Both) → DropsSome G r → G.owner r ≡ None → idle s t → Good host live s t r x →
      Similar D (λ s' a t' b. Gone host idle live s t r x s' t') (λ d. p.drop Endless (G.imported r) x.one s) (λ d. q.drop Endless (G.imported r) x.two t)

pub same_good : {S T : Type 0} → (host : ℕ → Bool) (live : S → T → ℕ → Both → Type 0) (s s' : S) (t t' : T) (r : ℕ) (x : Both) → Good host live s t r x → (host r ≡ true → live s t r x → live s' t' r x) → Good host live s' t' r x
same_good host live s s' t t' r x g f = record { paired = λ hr. f hr (g.paired hr); equal = g.equal }

pub gives_each : {R : Type 0} → (P : ℕ → R → Type 0) (hs : List (Handle R)) (r : ℕ) (x : R) → EachHandle P hs → Gives hs r x → P r x
gives_each P [] r x h g = absurd g
gives_each P (Own r' x' ∷ hs) r x h g = elim g [ inl e ↦ subst₂ P e.0 e.1 h.0 | inr g' ↦ gives_each P hs r x h.1 g' ]
gives_each P (Borrow r' x' ∷ hs) r x h g = gives_each P hs r x h.1 g

pub lends_each : {R : Type 0} → (P : ℕ → R → Type 0) (hs : List (Handle R)) (r : ℕ) (x : R) → EachHandle P hs → Lends hs r x → P r x
lends_each P [] r x h g = absurd g
lends_each P (Own r' x' ∷ hs) r x h g = lends_each P hs r x h.1 g
lends_each P (Borrow r' x' ∷ hs) r x h g = elim g [ inl e ↦ subst₂ P e.0 e.1 h.0 | inr g' ↦ lends_each P hs r x h.1 g' ]

-- two numbers are one or not
pub by_place : (k : ℕ) (Q : ℕ → Type 0) → Q k → ((m : ℕ) → m ≢ k → Q m) → (m : ℕ) → Q m
by_place k Q here there m = set_all (λ m. m) k k (λ m c. Q m) here there m

-- handles on their way from one instance to another: each may be passed, an own one is held nowhere and not kept, a lent one is kept
pub record IsPassing {S T : Type 0} (host : ℕ → Bool) (live : S → T → ℕ → Both → Type 0) (U : Keep) (J : ℕ → Config Both) (s : S) (t : T) (hs : List (Handle Both)) : Type 0 where
  pub each : EachHandle (λ r x. Good host live s t r x) hs
  pub once : OnceEach host hs
  pub away : (m i r : ℕ) (x : Both) → host r ≡ true → Gives hs r x → Holds (J m).map i r x → ⊥
  pub unguarded : (r : ℕ) (x : Both) → host r ≡ true → U r x → Gives hs r x → ⊥
  pub lends : (r : ℕ) (x : Both) → host r ≡ true → Lends hs r x → U r x

-- what is owed by two answers: they come from one lifted function, or from what is below
abbrev pub Owed : {S T : Type 0} → (S → T → Type 0) → (S → Due → T → Due → Type 0) → Due → Due → S → T → Type 0
Owed idle answered (Served k g flat) (Served k' g' flat') s t = idle s t × (k ≡ k') × (g ≡ g') × (flat ≡ flat')
Owed idle answered (Below due) (Below due') s t = answered s due t due'
Owed idle answered Nothing due' s t = ⊥
Owed idle answered (Served k g flat) Nothing s t = ⊥
Owed idle answered (Served k g flat) (Below due') s t = ⊥
Owed idle answered (Below due) Nothing s t = ⊥
Owed idle answered (Below due) (Served k g flat) s t = ⊥

-- each entry that is lent stays as it is
abbrev pub Locks : (ℕ → Bool) → (ℕ → Config Both) → (ℕ → Config Both) → Type 0
Locks host J J' = (r : ℕ) → host r ≡ true → (m j : ℕ) (e : Entry Both) → entry_at (J m).map j ≡ Some e → e.lent ≢ 0 → entry_at (J' m).map j ≡ Some e

-- a call was answered by a result of this type: what was lent is lent as it was, and nothing more is borrowed
pub record Replied {S T : Type 0} (host : ℕ → Bool) (live : S → T → ℕ → Both → Type 0) (idle : S → T → Type 0) (answered : S → Due → T → Due → Type 0) (U : Keep) (J : ℕ → Config Both) (ty : Plain) (w : World S) (a : Answer) (v : World T) (b : Answer) : Type 0 where
  pub passed : Passed Both
  pub is_first : a.passed ≡ passed_over one_of passed
  pub is_second : b.passed ≡ passed_over two_of passed
  pub joint : ℕ → Config Both
  pub met : Met host live (Owed idle answered a.due b.due) U joint w v
  pub come : (r : ℕ) (x : Both) → Gives (handles_of ty passed) r x → Good host live w.below v.below r x
  pub once : OnceEach host (handles_of ty passed)
  pub away : (m i r : ℕ) (x : Both) → host r ≡ true → Gives (handles_of ty passed) r x → Holds (joint m).map i r x → ⊥
  pub unguarded : (r : ℕ) (x : Both) → host r ≡ true → U r x → Gives (handles_of ty passed) r x → ⊥
  pub locks : Locks host J joint
  pub less : (m i r : ℕ) (x : Both) → Has false (joint m).map i r x → Has false (J m).map i r x

-- a part of the group has run
pub record Ran {S T A : Type 0} (host : ℕ → Bool) (live : S → T → ℕ → Both → Type 0) (idle : S → T → Type 0) (U : Keep) (J : ℕ → Config Both) (w : World S) (a : A) (v : World T) (b : A) : Type 0 where
  pub same : a ≡ b
  pub joint : ℕ → Config Both
  pub met : Met host live idle U joint w v
  pub locks : Locks host J joint
  pub less : (m i r : ℕ) (x : Both) → Has false (joint m).map i r x → Has false (J m).map i r x

pub met_stands : {S T : Type 0} → (host : ℕ → Bool) (live : S → T → ℕ → Both → Type 0) (below below' : S → T → Type 0) (U : Keep) (J : ℕ → Config Both) (w : World S) (v : World T) → Met host live below U J w v → below' w.below v.below → Met host live below' U J w v
met_stands host live below below' U J w v h st = record { one = h.one; two = h.two; stands = st; lives = h.lives; once = h.once; guard = h.guard; apart = h.apart; lent = h.lent; sound = h.sound }

-- nothing is borrowed anew where only the instance k has changed
pub less_at : (k : ℕ) (J J' : ℕ → Config Both) → ((m : ℕ) → m ≢ k → J' m ≡ J m) → ((i r : ℕ) (x : Both) → Has false (J' k).map i r x → Has false (J k).map i r x) → (m i r : ℕ) (x : Both) → Has false (J' m).map i r x → Has false (J m).map i r x
less_at k J J' others here m i r x h = by_place k (λ m. Has false (J' m).map i r x → Has false (J m).map i r x) (here i r x) (λ m d h. subst (λ c. Has false c.map i r x) (others m d) h) m h

-- and what is lent stays there
pub locks_at : (host : ℕ → Bool) (k : ℕ) (J J' : ℕ → Config Both) → ((m : ℕ) → m ≢ k → J' m ≡ J m) → ((r : ℕ) → host r ≡ true → (j : ℕ) (e : Entry Both) → entry_at (J k).map j ≡ Some e → e.lent ≢ 0 → entry_at (J' k).map j ≡ Some e) → Locks host J J'
locks_at host k J J' others here r hr m j e is n =
    by_place k (λ m. entry_at (J m).map j ≡ Some e → entry_at (J' m).map j ≡ Some e) (λ is'. here r hr j e is' n) (λ m d is'. ap (λ c. entry_at c.map j) (others m d) ∙ is') m is

-- where its map is the same
pub locks_same : (host : ℕ → Bool) (k : ℕ) (J J' : ℕ → Config Both) → ((m : ℕ) → m ≢ k → J' m ≡ J m) → (J' k).map ≡ (J k).map → Locks host J J'
locks_same host k J J' others same = locks_at host k J J' others (λ r hr j e is n. ap (λ t. entry_at t j) same ∙ is)

-- ---- an entry goes; the handle of an own one is then dropped

pub record RemovedFrom {R : Type 0} (c : Config R) (r : ℕ) (l : Local R (Option R)) : Type 0 where
  pub stays : (j : ℕ) (e : Entry R) → entry_at l.config.map j ≡ Some e → entry_at c.map j ≡ Some e
  pub keeps : Keeps c.map l.config.map
  pub came : (x : R) → l.answer ≡ Some x → (i : ℕ) × Free c.map i r x × ((e : Entry R) → entry_at l.config.map i ≡ Some e → ⊥)

owned_is : {R : Type 0} → (b : Bool) (y x : R) → cond b (Some y) None ≡ Some x → (b ≡ true) × (y ≡ x)
owned_is true y x h = (refl, some_is y x h)
owned_is false y x h = absurd (let q : None ≡ Some x = h in cc)

pub removes_from : {R : Type 0} → (r : ℕ) (args : List ℕ) (c : Config R) (l : Local R (Option R)) → removes r args c ≡ Some l → RemovedFrom c r l
removes_from {R} r args c l h =
    let a = also_is (not c.closed) _ l h in
    let b = and_then_is (λ i. option_map (removed c) (take c.map i r)) (only_one args) l a.1 in
    let d = map_is (removed c) (take c.map b.0 r) l b.2 in
    let t = take_is c.map b.0 r d.0 d.1 in
    let there = entry_of_is c.map b.0 r t.0 t.1 in
    let map_same : d.0.map ≡ without c.map b.0 = ap (λ z. z.map) t.3 in
    subst (RemovedFrom c r) d.2 (record {
      stays = λ j e is. (without_at c.map b.0 j e (ap (λ z. entry_at z j) (sym map_same) ∙ is)).1;
      keeps = keeps_trans c.map (without c.map b.0) d.0.map (without_keeps c.map b.0 t.0 there.0 t.2) (keeps_refl (without c.map b.0) d.0.map map_same);
      came = λ x is.
          let o = owned_is t.0.owned t.0.rep x (ap what_is_owned (sym (ap (λ z. z.answer) t.3)) ∙ is) in (
            b.0,
            found_is c.map b.0 r t.0 t.1 ∙ (λ k. Some (made_of (o.0 k) r (o.1 k) (t.2 k))),
            λ e is'. (without_at c.map b.0 b.0 e (ap (λ z. entry_at z b.0) (sym map_same) ∙ is')).0 refl,
          );
    })

pub after_ran : {S T A B C : Type 0} → (host : ℕ → Bool) (live : S → T → ℕ → Both → Type 0) (idle : S → T → Type 0) (D : ℕ) (U : Keep) (J : ℕ → Config Both) (Q : World S → B → World T → C → Type 0) (x : ℕ → Act (World S) A) (go : ℕ → A → Act (World S) B) (y : ℕ → Act (World T) A) (go' : ℕ → A → Act (World T) C) (w : World S) (v : World T) →
    Similar D (Ran host live idle U J) (λ d. x d w) (λ d. y d v) →
    ((w' : World S) (a : A) (v' : World T) → (s : Ran host live idle U J w' a v' a) → Similar D Q (λ d. go d a w') (λ d. go' d a v')) →
    Similar D Q (λ d. (x d >> go d) w) (λ d. (y d >> go' d) v)
after_ran host live idle D U J Q x go y go' w v first each =
    similar_then D (Ran host live idle U J) Q x go y go' w v first
    (λ w' a v' b s. subst (λ z. Similar D Q (λ d. go d a w') (λ d. go' d z v')) s.same
    (each w' a v' (record { same = refl; joint = s.joint; met = s.met; locks = s.locks; less = s.less })))

-- ---- what was lifted

-- lifted values with their handles
abbrev pub lifted_of : {R : Type 0} → Plain → Local R (Args R) → Lifted R
lifted_of ty l = record { handles = handles_of ty l.answer.passed; map = l.config.map; loans = l.answer.loans }

kinds_of : List Named → List Kind
kinds_of [] = []
kinds_of (OwnAt r i ∷ ns) = IsOwn r ∷ kinds_of ns
kinds_of (BorrowAt r i ∷ ns) = IsBorrow r ∷ kinds_of ns

kind_named : (ty : Plain) (i : ℕ) (ns : List Named) → kinds_of (and_named ty i ns) ≡ and_kind ty (kinds_of ns)
unfolding kinds_of
kind_named (OwnType r) i ns = refl
kind_named (BorrowType r) i ns = refl
kind_named _ i ns = refl

kinds_named : (hs : List abi.Handle) → kinds_of (named_in hs) ≡ kinds_in hs
unfolding kinds_of
kinds_named [] = refl
kinds_named (h ∷ hs) = kind_named h.ty h.number (named_in hs) ∙ ap (and_kind h.ty) (kinds_named hs)

kinds_numbered : (hs : List abi.Handle) (ns : List ℕ) → kinds_in (with_numbers hs ns) ≡ kinds_in hs
kinds_numbered [] ns = refl
kinds_numbered (h ∷ hs) ns = ap (and_kind h.ty) (kinds_numbered hs _)

by_kinds : {R : Type 0} → (ns : List Named) (m : HandleMap R) (l : Lifted R) → lift_handles ns m ≡ Some l → handles_by (kinds_of ns) (reps_in l.handles) ≡ l.handles
unfolding kinds_of
by_kinds [] m l h = subst (λ z. handles_by [] (reps_in z.handles) ≡ z.handles) (some_is (record { handles = []; map = m; loans = [] }) l h) refl
by_kinds {R} (OwnAt r i ∷ ns) m l h =
    let p = and_then_is (λ (a : Answered R R). option_map (and_lifted (Own r a.answer) false i) (lift_handles ns a.map)) (take_own m i r) l h in
    let q = map_is (and_lifted (Own r p.0.answer) false i) (lift_handles ns p.0.map) l p.2 in
    subst (λ z. handles_by (IsOwn r ∷ kinds_of ns) (reps_in z.handles) ≡ z.handles) q.2 (ap (λ z. Own r p.0.answer ∷ z) (by_kinds ns p.0.map q.0 q.1))
by_kinds {R} (BorrowAt r i ∷ ns) m l h =
    let p = and_then_is (λ (a : Answered R (Held R)). option_map (and_lifted (Borrow r a.answer.rep) a.answer.owned i) (lift_handles ns a.map)) (lend m i r) l h in
    let q = map_is (and_lifted (Borrow r p.0.answer.rep) p.0.answer.owned i) (lift_handles ns p.0.map) l p.2 in
    subst (λ z. handles_by (IsBorrow r ∷ kinds_of ns) (reps_in z.handles) ≡ z.handles) q.2 (ap (λ z. Borrow r p.0.answer.rep ∷ z) (by_kinds ns p.0.map q.0 q.1))

-- as many handles were lifted as were named
as_many : {R : Type 0} → (ns : List Named) (m : HandleMap R) (l : Lifted R) → lift_handles ns m ≡ Some l → length (reps_in l.handles) ≡ length (kinds_of ns)
unfolding kinds_of
as_many [] m l h = subst (λ z. length (reps_in z.handles) ≡ 0) (some_is (record { handles = []; map = m; loans = [] }) l h) refl
as_many {R} (OwnAt r i ∷ ns) m l h =
    let p = and_then_is (λ (a : Answered R R). option_map (and_lifted (Own r a.answer) false i) (lift_handles ns a.map)) (take_own m i r) l h in
    let q = map_is (and_lifted (Own r p.0.answer) false i) (lift_handles ns p.0.map) l p.2 in
    subst (λ z. length (reps_in z.handles) ≡ length (IsOwn r ∷ kinds_of ns)) q.2 (ap suc (as_many ns p.0.map q.0 q.1))
as_many {R} (BorrowAt r i ∷ ns) m l h =
    let p = and_then_is (λ (a : Answered R (Held R)). option_map (and_lifted (Borrow r a.answer.rep) a.answer.owned i) (lift_handles ns a.map)) (lend m i r) l h in
    let q = map_is (and_lifted (Borrow r p.0.answer.rep) p.0.answer.owned i) (lift_handles ns p.0.map) l p.2 in
    subst (λ z. length (reps_in z.handles) ≡ length (IsBorrow r ∷ kinds_of ns)) q.2 (ap suc (as_many ns p.0.map q.0 q.1))

words_typed : (most : ℕ) (ty : Plain) (memory words : List ℕ) (v : PlainValue) → lift_words most ty memory words ≡ Some v → is_of ty v ≡ true
words_typed most ty memory words v h = at_test (spills_over most ty) h
  where
    at_test : (b : Bool) → cond b (loads memory ty (low_word words 0)) (lift_flat memory ty words 0) ≡ Some v → is_of ty v ≡ true
    at_test true h' = loads_typed memory ty (low_word words 0) v h'
    at_test false h' = lifts_typed memory ty words 0 v h'

pub record LiftsFrom {R : Type 0} (host : ℕ → Bool) (ty : Plain) (c : Config R) (l : Local R (Args R)) : Type 0 where
  pub typed : is_of ty l.answer.passed.value ≡ true
  pub all : PassesAll Inside ty l.answer.passed
  pub lending : Lending c.map (lifted_of ty l)
  pub from : LiftedFrom host c.map (lifted_of ty l)

pub lifts_from : {R : Type 0} → (host : ℕ → Bool) (most : ℕ) (ty : Plain) (options : Options) (words : List ℕ) (c : Config R) (l : Local R (Args R)) → lifts most ty options words c ≡ Some l → EachOnce host c.map → Clear host c.map → LiftsFrom host ty c l
lifts_from {R} host most ty options words c l h once clear =
    let p = and_then_is (λ v. option_map (args_of ty v c) (lift_handles (named_in (handles ty v)) c.map)) (lift_words most ty (bytes_in options c.store) words) l h in
    let q = map_is (args_of ty p.0 c) (lift_handles (named_in (handles ty p.0)) c.map) l p.2 in
    let kinds : kinds_in (handles ty (blank ty p.0)) ≡ kinds_of (named_in (handles ty p.0)) = ap kinds_in (handles_keep ty p.0 []) ∙ kinds_numbered (handles ty p.0) [] ∙ sym (kinds_named (handles ty p.0)) in
    let same : handles_of ty (record { value = blank ty p.0; reps = reps_in q.0.handles }) ≡ q.0.handles = ap (λ ks. handles_by ks (reps_in q.0.handles)) kinds ∙ by_kinds (named_in (handles ty p.0)) c.map q.0 q.1 in
    let lifted : q.0 ≡ lifted_of ty (args_of ty p.0 c q.0) = ap (λ hs. record { handles = hs; map = q.0.map; loans = q.0.loans }) (sym same) in
    subst (LiftsFrom host ty c) q.2 (record {
      typed = types_keep ty p.0 [] ∙ words_typed most ty (bytes_in options c.store) words p.0 p.1;
      all = as_many (named_in (handles ty p.0)) c.map q.0 q.1 ∙ ap length (sym kinds);
      lending = subst (Lending c.map) lifted (lift_lending (named_in (handles ty p.0)) c.map q.0 q.1);
      from = subst (LiftedFrom host c.map) lifted (lift_from host (named_in (handles ty p.0)) c.map q.0 q.1 once clear);
    })

module _ {S T : Type 0} (host : ℕ → Bool) (live : S → T → ℕ → Both → Type 0) (below : S → T → Type 0) (U : Keep) (J : ℕ → Config Both) (w : World S) (v : World T) (h : Met host live below U J w v) (k : ℕ) where
  pub met_once : EachOnce host (J k).map
  met_once i j r x hr a b = (h.once k k i j r x hr a b).1

  pub met_clear : Clear host (J k).map
  met_clear i j r x hr f g = h.apart k j r x hr (h.lent k i r x hr f) g

  -- after values were lifted from the instance k
  pub met_lifts : (ty : Plain) (l : Local Both (Args Both)) → LiftsFrom host ty (J k) l → Met host live below U (set J k l.config) (with_config w k (config_over one_of l.config)) (with_config v k (config_over two_of l.config))
  met_lifts ty l f =
      met_set host live below U J w v h k l.config (config_over one_of l.config) (config_over two_of l.config) refl refl
      (fits_fewer host live below U J w v h k l.config (record { has = λ b i r x a. f.from.stays b i r x a; free = λ i r x a. counted_free (J k).map (lifted_of ty l) f.lending i r x a; sound = f.lending.sound }))

-- where nothing is borrowed
pub unlent : {R : Type 0} → (xs : List (Option (Entry R))) (i r : ℕ) (x : R) (n : ℕ) → list_any is_borrow xs ≡ false → at xs i ≡ Some (made_of false r x n) → ⊥
unlent [] i r x n none h = let q : None ≡ Some (made_of false r x n) = h in cc
unlent (None ∷ xs) zero r x n none h = let q : None ≡ Some (made_of false r x n) = h in cc
unlent (None ∷ xs) (suc i) r x n none h = unlent xs i r x n none h
unlent (Some e ∷ xs) zero r x n none h = clash e.owned (list_any is_borrow xs) (ap (λ z. z.owned) (some_is e (made_of false r x n) h)) none
  where
    clash : (b c : Bool) → b ≡ false → (not b || c) ≡ false → ⊥
    clash true c p q = cc
    clash false c p q = cc
unlent (Some e ∷ xs) (suc i) r x n none h = unlent xs i r x n (rest e.owned (list_any is_borrow xs) none) h
  where
    rest : (b c : Bool) → (not b || c) ≡ false → c ≡ false
    rest true c q = q
    rest false c q = absurd (cc)
