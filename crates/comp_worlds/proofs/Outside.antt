-- Groups are made, and calls come from outside, over two worlds that cannot be told apart.
use Rattle.std.proofs.Common.{◌≡◌, ℕ, zero, suc, List, [], ◌∷◌, Option, Some, None, Result, Ok, Err, Bool, true, false, refl, sym, ◌∙◌, ap, subst, subst₂}
use Rattle.std.specs.Option.{option_map}
use Rattle.core_store.specs.State.{State as Store}
use Rattle.wit_types.specs.PlainValue.{RecordValue}
use Rattle.wit_types.specs.HasType.{are_of}
use Rattle.host_port.specs.Calls.{PlainObservation, Returned}
use Rattle.host_port.specs.Hosts.{HostStep}
use Rattle.handle_space.specs.HandleMap.{entry_at, empty}
use Rattle.comp_worlds.specs.Acts.{◌>>◌, shows}
use Rattle.comp_worlds.specs.Passing.{Kind, handles_by, answer_tuple, out_of_tuple}
use Rattle.comp_worlds.specs.Groups.{Endless, Target, Mine, Theirs, type_of, Stage, Provides, Makes, Begins, Group, Config, World, Due, Answer, Outside, Ports}
use Rattle.comp_worlds.specs.Locals.{Local, done, with_store, provides, makes_module}
use Rattle.comp_worlds.specs.Calls.{on, runs, answers_if, starts, does, does_all, is_made, at_rest}
use Rattle.comp_worlds.specs.Hosts.{hosted}
use Rattle.comp_worlds.specs.Observed.{State, stack, first_state, are_made, Call, AreCallsOf, without_handles, asks_export, makes_calls, runs_calls}
use Rattle.comp_worlds.specs.Related.{Both, one_of, two_of, Related, Asks, OwnsNone, Opens, SeenAlike}
use Rattle.comp_worlds.proofs.Embedding.{LeadsTo}
use Rattle.comp_worlds.proofs.Maps.{some_is, Has}
use Rattle.comp_worlds.proofs.Natural.{config_over, makes_module_over}
use Rattle.comp_worlds.proofs.Similar.{Flip, matches_seen, Similar, similar_then, similar_weaken, similar_gives, then_step, similar_step}
use Rattle.comp_worlds.proofs.Joint.{similar_below, similar_deep}
use Rattle.comp_worlds.proofs.Meeting.{Keep, Met, none_fewer, Shut, shut_on, fits_fewer}
use Rattle.comp_worlds.proofs.Answering.{Simulates, IsPassing, Replied, after_ran}
use Rattle.comp_worlds.proofs.Answered.{similar_answers, similar_leaves}
use Rattle.comp_worlds.proofs.Calling.{runs_on}
use Rattle.comp_worlds.proofs.Meets.{meet_similar, related_simulates}
use Rattle.comp_worlds.proofs.ObservedGrowing.{host_grows, stack_grows, are_made_longer}

-- nothing is kept
abbrev nothing : Keep
nothing r x = ⊥

no_handles : {R : Type 0} → (ks : List Kind) → handles_by {R = R} ks [] ≡ []
no_handles [] = refl
no_handles (k ∷ ks) = refl

empty_none : {R : Type 0} → (i : ℕ) → entry_at (empty {R = R}) i ≡ None
empty_none zero = refl
empty_none (suc i) = refl

module_stays : {R : Type 0} → (make : Store → Result Store Store) (c : Config R) (l : Local R (Unit {0})) → makes_module make c ≡ Some l → (s : Store) × (with_store c s ≡ l.config)
module_stays {R} make c l h = at (make c.store) h
  where
    at : (o : Result Store Store) → elim o as (λ z. Option (Local R (Unit {0}))) [ Ok s ↦ Some (done (with_store c s)) | Err s ↦ None ] ≡ Some l → (s : Store) × (with_store c s ≡ l.config)
    at (Ok s) h' = (s, ap (λ z. z.config) (some_is (done (with_store c s)) l h'))
    at (Err s) h' = absurd (let q : None ≡ Some l = h' in cc)

abbrev Shown : {S T : Type 0} → S → T → S → Unit {0} → T → Unit {0} → Type 0
Shown s t s' a t' b = (s' ≡ s) × (t' ≡ t)

similar_shows : {S T : Type 0} → (D : ℕ) (o : List PlainObservation) (s : S) (t : T) → Similar D (Shown s t) (λ d. shows o s) (λ d. shows o t)
unfolding shows
similar_shows D o s t = record {
  first = λ n. (n, (refl, (refl, refl)));
  second = λ n. (n, (refl, (refl, refl)));
  grows = λ D' n k le. refl;
  grows' = λ D' n k le. refl;
}

abbrev Any : {S T : Type 0} → S → Unit {0} → T → Unit {0} → Type 0
Any s a t b = Unit {0}

module _ {S T : Type 0} (G : Group) (p : Ports S) (q : Ports T) (idle : S → T → Type 0) (answered : S → Due → T → Due → Type 0) (live : S → T → ℕ → Both → Type 0) (host : ℕ → Bool) (none : OwnsNone host G) (rel : Simulates G host p q idle answered live) where
  -- the instances are one up to what handles stand for, and nothing is on its way
  abbrev Rests : World S → World T → Type 0
  Rests w v = (J : ℕ → Config Both) × Met host live idle nothing J w v

  abbrev Done : {A : Type 0} → World S → A → World T → A → Type 0
  Done w a v b = Rests w v

  -- ---- the making

  shut_rests : {A : Type 0} → (D k : ℕ) (J : ℕ → Config Both) (e c : Bool) (x : ℕ → ℕ → _) (y : ℕ → ℕ → _) → Similar D (Shut {A = A} host live idle nothing k J (J k).map e c) x y → Similar D (Done {A = A}) x y
  shut_rests D k J e c x y s = similar_weaken D _ _ x y s (λ w a v b r. (r.joint, r.met))

  -- only the store of an instance changes
  similar_changes : (D k : ℕ) (one two : Config ℕ → Option (Local ℕ (Unit {0}))) (both : Config Both → Option (Local Both (Unit {0}))) →
      ((c : Config Both) → one (config_over one_of c) ≡ option_map (λ (l : Local Both (Unit {0})). record { config = config_over one_of l.config; answer = l.answer }) (both c)) →
      ((c : Config Both) → two (config_over two_of c) ≡ option_map (λ (l : Local Both (Unit {0})). record { config = config_over two_of l.config; answer = l.answer }) (both c)) →
      ((c : Config Both) (l : Local Both (Unit {0})) → both c ≡ Some l → (s : Store) × (with_store c s ≡ l.config)) →
      (J : ℕ → Config Both) (w : World S) (v : World T) → Met host live idle nothing J w v → Similar D (Done {A = Unit {0}}) (λ d. on k one w) (λ d. on k two v)
  similar_changes D k one two both e1 e2 stays J w v h =
      shut_rests D k J (J k).entered (J k).closed _ _
      (shut_on host live idle nothing J w v h k D one two (both (J k)) (J k).map (J k).entered (J k).closed (e1 (J k)) (e2 (J k))
      (λ l is. let r = stays (J k) l is in
      (fits_fewer host live idle nothing J w v h k l.config (none_fewer (J k).map l.config.map (ap (λ c. c.map) (sym r.1))), ap (λ c. c.map) (sym r.1), ap (λ c. c.entered) (sym r.1), ap (λ c. c.closed) (sym r.1))))

  similar_starts : (D k : ℕ) (start : Option ℕ) (w : World S) (v : World T) → Rests w v → Similar D (Done {A = Unit {0}}) (λ d. starts G p (runs G p d) Endless k start w) (λ d. starts G q (runs G q d) Endless k start v)
  similar_starts D k None w v st = similar_gives D Done tt tt w v st
  similar_starts D k (Some f) w v st =
      after_ran host live idle D nothing st.0 (Done {A = Unit {0}}) _ _ _ _ w v (runs_on G p q idle answered live host none rel D k f [] nothing st.0 w v st.1)
      (λ w' a v' s. similar_gives D Done tt tt w' v' (s.joint, s.met))

  similar_does : (D : ℕ) (stage : Stage) (w : World S) (v : World T) → Rests w v → Similar D (Done {A = Unit {0}}) (λ d. does G p (runs G p d) Endless stage w) (λ d. does G q (runs G q d) Endless stage v)
  similar_does D (Provides k ty number) w v st =
      similar_changes D k (provides ty number) (provides ty number) (provides ty number) (λ c. refl) (λ c. refl) (λ c l is. (_, ap (λ z. z.config) (some_is _ l is))) st.0 w v st.1
  similar_does D (Makes k make start) w v st =
      then_step D Done _ _ w v
      (similar_then D (Done {A = Unit {0}}) (Done {A = Unit {0}}) _ _ _ _ w v
      (similar_changes D k (makes_module make) (makes_module make) (makes_module make) (makes_module_over one_of make) (makes_module_over two_of make) (module_stays make) st.0 w v st.1)
      (λ w' a v' b s. similar_starts D k start w' v' s))
  similar_does D Begins w v st = similar_step D Done w v st

  similar_all : (D : ℕ) (stages : List Stage) (w : World S) (v : World T) → Rests w v → Similar D (Done {A = Unit {0}}) (λ d. does_all G p (runs G p d) Endless stages w) (λ d. does_all G q (runs G q d) Endless stages v)
  similar_all D [] w v st = similar_gives D Done tt tt w v st
  similar_all D (stage ∷ stages) w v st =
      similar_then D (Done {A = Unit {0}}) (Done {A = Unit {0}}) _ _ _ _ w v (similar_does D stage w v st) (λ w' a v' b s. similar_all D stages w' v' s)

  pub similar_made : (D : ℕ) (w : World S) (v : World T) → Rests w v → Similar D (Done {A = Unit {0}}) (λ d. is_made G p Endless w) (λ d. is_made G q Endless v)
  similar_made D w v st = similar_deep Done _ _ w v (λ D'. similar_all D' G.stages w v st) D

  pub at_first : (s : S) (t : T) → idle s t → Rests (record { configs = λ k. at_rest; below = s }) (record { configs = λ k. at_rest; below = t })
  at_first s t st = (
    λ m. at_rest,
    record {
      one = λ m. refl;
      two = λ m. refl;
      stands = st;
      lives = λ b m i r x a. absurd (holds_none b i r x a);
      once = λ m m' i i' r x hr a b. absurd (holds_none true i r x a);
      guard = λ r x hr u. absurd u;
      apart = λ m i r x hr u a. u;
      lent = λ m i r x hr a. absurd (holds_none false i r x a);
      sound = λ r hr m. tt;
    },
  )
    where
      holds_none : (b : Bool) (i r : ℕ) (x : Both) → Has b (empty {R = Both}) i r x → ⊥
      holds_none b i r x a = let q : None ≡ Some _ = sym (empty_none i) ∙ a.1 in cc

  -- ---- calls

  abbrev Replies : Target → World S → Answer → World T → Answer → Type 0
  Replies target w a v b = (J : ℕ → Config Both) × Replied host live idle answered nothing J (answer_tuple (type_of target)) w a v b

  similar_asks : (call : Call) (target : Target) → G.exports call.interface call.function ≡ Some target → are_of (type_of target).params call.args ≡ true → (D : ℕ) (w : World S) (v : World T) → Rests w v →
      Similar D (Replies target) (λ d. asks_export G p Endless call w) (λ d. asks_export G q Endless call v)
  similar_asks call target is typed D w v st =
      similar_deep (Replies target) _ _ w v (λ D'.
      subst (λ o. Similar D' (Replies target) (λ d. answers_if G p (runs G p d) Endless Outside o (without_handles call) w) (λ d. answers_if G q (runs G q d) Endless Outside o (without_handles call) v)) (sym is)
      (similar_weaken D' _ _ _ _
      (similar_answers G p q idle answered live host none rel D' (runs_on G p q idle answered live host none rel D') nothing st.0 w v st.1 Outside (record { value = RecordValue call.args; reps = [] }) target (asked target is) typed refl
      (subst (IsPassing host live nothing st.0 w.below v.below) (sym (no_handles _))
      (record { each = tt; once = tt; away = λ m i r x hr g a. g; unguarded = λ r x hr u g. u; lends = λ r x hr n. n })))
      (λ w' a v' b s. (st.0, s)))) D
    where
      asked : (t : Target) → G.exports call.interface call.function ≡ Some t → LeadsTo (Asks G Outside) t
      asked (Mine k lifting) is' = tt
      asked (Theirs f) is' = (call.interface, call.function, is')

  pub similar_calls : (D : ℕ) (calls : List Call) → AreCallsOf G calls → (w : World S) (v : World T) → Rests w v → Similar D Any (λ d. makes_calls G p Endless calls w) (λ d. makes_calls G q Endless calls v)
  similar_calls D [] each w v st = similar_gives D Any tt tt w v tt
  similar_calls D (call ∷ rest) each w v st =
      let target = each.0.0 in
      similar_then D (Replies target) Any _ _ _ _ w v (similar_asks call target each.0.1 each.0.2 D w v st)
      (λ w1 a v1 b s1.
      let r = s1.1 in
      let e : out_of_tuple a.passed.value ≡ out_of_tuple b.passed.value = ap (λ z. out_of_tuple z.value) r.is_first ∙ sym (ap (λ z. out_of_tuple z.value) r.is_second) in
      similar_then D (Done {A = Unit {0}}) Any _ _ _ _ w1 v1
      (similar_deep Done _ _ w1 v1 (λ D'. similar_weaken D' _ _ _ _ (similar_leaves G p q idle answered live host none rel D' a.due b.due nothing r.joint w1 v1 r.met) (λ w' x v' y s. (s.joint, s.met))) D)
      (λ w2 x v2 y st2.
      similar_then D (Shown w2 v2) Any _ _ _ _ w2 v2
      (subst (λ z. Similar D (Shown w2 v2) (λ d. shows (Returned (out_of_tuple a.passed.value) ∷ []) w2) (λ d. shows (Returned z ∷ []) v2)) e (similar_shows D (Returned (out_of_tuple a.passed.value) ∷ []) w2 v2))
      (λ w3 x' v3 y' h3. subst₂ (λ u z. Similar D Any (λ d. makes_calls G p Endless rest u) (λ d. makes_calls G q Endless rest z)) (sym h3.0) (sym h3.1) (similar_calls D rest each.1 w2 v2 st2))))

-- ---- from the making on

module _ {S T : Type 0} (adapter : List Group) (h : HostStep S) (h' : HostStep T) (host : ℕ → Bool) (idle : S → State adapter T → Type 0) (answered : S → Due → State adapter T → Due → Type 0) (live : S → State adapter T → ℕ → Both → Type 0) (G : Group) (rel : Related G host (hosted h) (stack adapter (hosted h')) idle answered live) where
  simulates : Simulates G host (hosted h) (stack adapter (hosted h')) idle answered live
  simulates = related_simulates G host (hosted h) (stack adapter (hosted h')) idle answered live (host_grows h) (stack_grows (hosted h') (host_grows h') adapter) rel

  abbrev Made : World S → Unit {0} → World (State adapter T) → Unit {0} → Type 0
  Made w a v b = (J : ℕ → Config Both) × Met host live idle nothing J w v

  from_start : OwnsNone host G → (calls : List Call) → AreCallsOf G calls → (s : S) (t : T) → Opens adapter h h' idle s t →
      Similar 0 Any (λ d. (are_made Endless (G ∷ []) (hosted h) >> λ _. makes_calls G (hosted h) Endless calls) (first_state (G ∷ []) s)) (λ d. (are_made Endless (G ∷ adapter) (hosted h') >> λ _. makes_calls G (stack adapter (hosted h')) Endless calls) (first_state (G ∷ adapter) t))
  from_start none calls each s t opens =
      similar_then 0 Made Any _ _ _ _ (first_state (G ∷ []) s) (first_state (G ∷ adapter) t)
      (similar_then 0 Made Made _ _ _ _ (first_state (G ∷ []) s) (first_state (G ∷ adapter) t)
      (similar_below 0 (λ s' a t' b. idle s' t') Made (are_made Endless [] (hosted h)) (are_made Endless adapter (hosted h')) (first_state (G ∷ []) s) (first_state (G ∷ adapter) t)
      (meet_similar 0 (λ s' a t' b. idle s' t') (are_made Endless [] (hosted h) s) (are_made Endless adapter (hosted h') (first_state adapter t))
      (λ n k. (are_made_longer (hosted h) (host_grows h) Endless []).each s n k) (λ n k. (are_made_longer (hosted h') (host_grows h') Endless adapter).each (first_state adapter t) n k) opens)
      (λ s' a t' b st. at_first G (hosted h) (stack adapter (hosted h')) idle answered live host none simulates s' t' st))
      (λ w a v b st. similar_made G (hosted h) (stack adapter (hosted h')) idle answered live host none simulates 0 w v st))
      (λ w a v b st. similar_calls G (hosted h) (stack adapter (hosted h')) idle answered live host none simulates 0 calls each w v st)

  pub seen_alike : SeenAlike adapter h h' host idle G
  unfolding runs_calls
  seen_alike calls s t none each opens =
      let k = from_start none calls each s t opens in record {
        first = λ n. let r = k.first n in (r.0, matches_seen Any _ _ r.1);
        second = λ n. let r = k.second n in (r.0, matches_seen (Flip Any) _ _ r.1);
      }
