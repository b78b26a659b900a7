-- Core code of a group calls, drops, and runs to its end.
use Rattle.std.proofs.Common.{◌≡◌, ◌≢◌, ℕ, zero, suc, ◌⊎◌, inl, inr, List, [], ◌∷◌, ◌++◌, Option, Some, None, Bool, true, false, not, map, refl, sym, ◌∙◌, ap, subst, subst₂}
use Rattle.std.specs.Option.{option_map}
use Rattle.core_store.specs.State.{State}
use Rattle.core_store.specs.declared.value.CoreValue.{CoreValue}
use Rattle.core_store.specs.declared.value.CoreValue.TheVariants as values
use Rattle.core_store.specs.Words.{words, values_in}
use Rattle.core_store.specs.Config.{Reply}
use Rattle.wit_types.specs.Plain.{Plain}
use Rattle.abi_layout.specs.Functions.{lowered}
use Rattle.handle_space.specs.HandleMap.{Entry, HandleMap, Answered, entry_at, own_entry, add}
use Rattle.comp_worlds.specs.Acts.{Act, ◌>>◌, gives}
use Rattle.comp_worlds.specs.Passing.{Handle, Own, Borrow, Passed, params_tuple, answer_tuple, handles_of, unlend_all, most_params}
use Rattle.comp_worlds.specs.Groups.{Nesting, Endless, store_at, Options, Target, Mine, Theirs, type_of, Func, LoweredFunc, ResourceNew, ResourceDrop, ResourceRep, Owner, Group, Config, World, Due, Nothing, Served, Below, Answer, Inside, Ports}
use Rattle.comp_worlds.specs.Locals.{Local, done, also, with_map, with_store, is_open, enter, Args, lifts, ends_loans, adds_handles, only_one, Numbers, new_entry, makes, reads, removes}
use Rattle.comp_worlds.specs.Calls.{set, with_config, on, Pause, Finished, Question, owns, unborrowed, plainly, lowers_result, answers, during, place_in, leaves, destructs, visits, drops, destructs_own, drops_by, drops_if, performs, goes_on, drives, runs}
use Rattle.comp_worlds.specs.Parts.{DropsSome}
use Rattle.comp_worlds.specs.Related.{Both, one_of, two_of, passed_over, Gives, Lends, EachHandle, Good, Gone, Asks, OwnsNone}
use Rattle.comp_worlds.proofs.Embedding.{LeadsTo, KnownIn}
use Rattle.comp_worlds.proofs.Maps.{and_then_is, map_is, some_is, made_of, Has, Holds, Free, add_from, added_has, added_free, AddedAll, add_all_from, add_all_none, add_all_once}
use Rattle.comp_worlds.proofs.Loans.{each_handle_map, unlend_stays, unlend_sound, given_back, lent_still}
use Rattle.comp_worlds.proofs.Natural.{config_over, local_over, args_over, itself, pairs, is_open_over, enter_over, lifts_over, ends_loans_over, makes_over, removes_over}
use Rattle.comp_worlds.proofs.Similar.{Similar, similar_then, similar_weaken, similar_gives, similar_spent, similar_deeper, similar_more, then_call, similar_traps, Never, similar_stop}
use Rattle.comp_worlds.proofs.Joint.{set_all, set_here, set_there, similar_on, then_on, then_on_some, similar_below, similar_core, similar_store}
use Rattle.comp_worlds.proofs.Meeting.{Keep, Met, Fits, none_fewer, Shut, shut_set, met_set, fits_fewer, after_shut}
use Rattle.comp_worlds.proofs.Closed.{also_is, shut_out, own_none, similar_reads, Exited, similar_exit}
use Rattle.comp_worlds.proofs.Answering.{Simulates, same_good, by_place, IsPassing, Owed, Replied, Locks, locks_at, locks_same, Ran, less_at, RemovedFrom, removes_from, after_ran, lifted_of, LiftsFrom, lifts_from, met_once, met_clear, met_lifts}
use Rattle.comp_worlds.proofs.Answered.{adds_is, LoweredIn, similar_result, Runs, similar_answers, similar_leaves}

each_any : {R : Type 0} → (P : ℕ → R → Type 0) → ((r : ℕ) (x : R) → P r x) → (hs : List (Handle R)) → EachHandle P hs
each_any P f [] = tt
each_any P f (Own r x ∷ hs) = (f r x, each_any P f hs)
each_any P f (Borrow r x ∷ hs) = (f r x, each_any P f hs)

clash : (b : Bool) → b ≡ true → b ≡ false → ⊥
clash true e e' = cc
clash false e e' = cc

not_true : true ≡ false → ⊥
not_true e = cc

-- without a limit nothing is counted
during_endless : (due : Due) → during Endless due ≡ Endless
during_endless Nothing = refl
during_endless (Served k lifting results) = refl
during_endless (Below due) = during_endless due

makes_from : {R : Type 0} → (ns : Numbers R) (own : Bool) (r : ℕ) (args : List ℕ) (c : Config R) (l : Local R (List ℕ)) → makes ns own r args c ≡ Some l → (own ≡ true) × (n : ℕ) × (a : Answered R ℕ) × (add c.map (own_entry r (ns.made n)) ≡ Some a) × (with_map c a.map ≡ l.config)
makes_from ns own r args c l h =
    let a = also_is own _ l h in
    let b = also_is (not c.closed) _ l a.1 in
    let p = and_then_is (λ n. option_map (new_entry c) (add c.map (own_entry r (ns.made n)))) (only_one args) l b.1 in
    let q = map_is (new_entry c) (add c.map (own_entry r (ns.made p.0))) l p.2 in
    (a.0, p.0, q.0, q.1, ap (λ z. z.config) q.2)

-- core code asks what the group lowers, and drops what it drops
known_in : (G : Group) (k n : ℕ) (f : Option Func) → G.canons k n ≡ f → KnownIn (Asks G Inside) (DropsSome G) f
known_in G k n None is = tt
known_in G k n (Some (LoweredFunc (Mine m lifting) options)) is = tt
known_in G k n (Some (LoweredFunc (Theirs f) options)) is = (k, n, options, is)
known_in G k n (Some (ResourceNew r)) is = tt
known_in G k n (Some (ResourceDrop r)) is = (k, n, is)
known_in G k n (Some (ResourceRep r)) is = tt

module _ {S T : Type 0} (G : Group) (p : Ports S) (q : Ports T) (idle : S → T → Type 0) (answered : S → Due → T → Due → Type 0) (live : S → T → ℕ → Both → Type 0) (host : ℕ → Bool) (none : OwnsNone host G) (rel : Simulates G host p q idle answered live) where
  module _ (U : Keep) (J : ℕ → Config Both) (w : World S) (v : World T) (h : Met host live idle U J w v) (k : ℕ) where
    abbrev Runs_on : {A : Type 0} → World S → A → World T → A → Type 0
    Runs_on w' a v' b = Ran host live idle U J w' a v' b

    -- the rest of a call once its arguments were lifted
    module _ (D : ℕ) (hyp : Runs G p q idle answered live host none rel D) (target : Target) (options : Options) (args : List ℕ) (l : Local Both (Args Both)) (f : LiftsFrom host (params_tuple (type_of target)) (J k) l) where
      abbrev pty : Plain
      pty = params_tuple (type_of target)

      abbrev aty : Plain
      aty = answer_tuple (type_of target)

      abbrev hs : List (Handle Both)
      hs = handles_of pty l.answer.passed

      abbrev J2 : ℕ → Config Both
      J2 = set J k l.config

      abbrev w2 : World S
      w2 = with_config w k (config_over one_of l.config)

      abbrev v2 : World T
      v2 = with_config v k (config_over two_of l.config)

      -- what is lent in this call is kept, too
      abbrev U2 : Keep
      U2 r x = U r x ⊎ Lends hs r x

      here2 : J2 k ≡ l.config
      here2 = set_here J k l.config

      there2 : (m : ℕ) → m ≢ k → J2 m ≡ J m
      there2 = set_there J k l.config

      h2' : Met host live idle U J2 w2 v2
      h2' = met_lifts host live idle U J w v h k pty l f

      lent_there : (m i r : ℕ) (x : Both) (b : Bool) (j : ℕ) → host r ≡ true → m ≢ k → Has b (J k).map j r x → Free (J m).map i r x → ⊥
      lent_there m i r x true j hr d a g = d (h.once m k i j r x hr (0, g) a).0
      lent_there m i r x false j hr d a g = h.apart m i r x hr (h.lent k j r x hr a) g

      h2 : Met host live idle U2 J2 w2 v2
      h2 = record {
        one = h2'.one;
        two = h2'.two;
        stands = h2'.stands;
        lives = h2'.lives;
        once = h2'.once;
        guard = λ r x hr u. elim u [ inl u' ↦ h.guard r x hr u' | inr n ↦ let a = f.from.lent r x n in (h.lives a.0 k a.1 r x a.2).paired hr ];
        apart = λ m i r x hr u. elim u [
          | inl u' ↦ h2'.apart m i r x hr u'
          | inr n ↦ by_place k (λ m'. Free (J2 m').map i r x → ⊥)
              (λ a. f.from.locked r x hr n i (subst (λ c. Free c.map i r x) here2 a))
              (λ m' d a. let b = f.from.lent r x n in lent_there m' i r x b.0 b.1 hr d b.2 (subst (λ c. Free c.map i r x) (there2 m' d) a)) m
        ];
        lent = λ m i r x hr a. inl (h2'.lent m i r x hr a);
        sound = h2'.sound;
      }

      pass2 : IsPassing host live U2 J2 w2.below v2.below hs
      pass2 = record {
        each = each_handle_map _ (λ r x. Good host live w.below v.below r x) hs (λ r x a. h.lives a.0 k a.1 r x a.2) f.from.held;
        once = f.from.apart;
        away = λ m i r x hr g. by_place k (λ m'. Holds (J2 m').map i r x → ⊥)
            (λ a. f.from.gone i r x hr g (subst (λ c. Holds c.map i r x) here2 a))
            (λ m' d a. let gave = f.from.gave r x g in d (h.once m' k i gave.0 r x hr (subst (λ c. Holds c.map i r x) (there2 m' d) a) (0, gave.1)).0) m;
        unguarded = λ r x hr u g. elim u [ inl u' ↦ let gave = f.from.gave r x g in h.apart k gave.0 r x hr u' gave.1 | inr n ↦ f.from.lent_apart r x hr n g ];
        lends = λ r x hr n. inr n;
      }

      -- and once it was answered
      module _ (w3 : World S) (a : Answer) (v3 : World T) (b : Answer) (r : Replied host live idle answered U2 J2 aty w3 a v3 b) where
        abbrev rhs : List (Handle Both)
        rhs = handles_of aty r.passed

        abbrev J3 : ℕ → Config Both
        J3 = r.joint

        abbrev below3 : S → T → Type 0
        below3 s t = Owed idle answered a.due b.due s t

        h3 : Met host live below3 U J3 w3 v3
        h3 = record {
          one = r.met.one;
          two = r.met.two;
          stands = r.met.stands;
          lives = r.met.lives;
          once = r.met.once;
          guard = λ r' x hr u. r.met.guard r' x hr (inl u);
          apart = λ m i r' x hr u. r.met.apart m i r' x hr (inl u);
          lent = λ m i r' x hr held. h2'.lent m i r' x hr (r.less m i r' x held);
          sound = r.met.sound;
        }

        -- what was lent in this call is lent still
        kept3 : (r' : ℕ) → host r' ≡ true → (i : ℕ) (e : Entry Both) → entry_at l.config.map i ≡ Some e → e.lent ≢ 0 → entry_at (J3 k).map i ≡ Some e
        kept3 r' hr i e is n = r.locks r' hr k i e (ap (λ c. entry_at c.map i) here2 ∙ is) n

        abbrev c4 : Config Both
        c4 = with_map (J3 k) (unlend_all l.answer.loans (J3 k).map)

        abbrev J4 : ℕ → Config Both
        J4 = set J3 k c4

        abbrev w4 : World S
        w4 = with_config w3 k (config_over one_of c4)

        abbrev v4 : World T
        v4 = with_config v3 k (config_over two_of c4)

        back4 : (b' : Bool) (i r' : ℕ) (x : Both) → Has b' c4.map i r' x → Has b' (J3 k).map i r' x
        back4 b' i r' x held = unlend_stays l.answer.loans (J3 k).map b' i r' x held

        h4 : Met host live below3 U J4 w4 v4
        h4 = met_set host live below3 U J3 w3 v3 h3 k c4 (config_over one_of c4) (config_over two_of c4) refl refl (record {
          lives = λ b' i r' x held. h3.lives b' k i r' x (back4 b' i r' x held);
          once = λ i j r' x hr x1 x2. (h3.once k k i j r' x hr (back4 true i r' x x1) (back4 true j r' x x2)).1;
          off = λ m i j r' x hr d x1 x2. d (h3.once m k i j r' x hr x1 (back4 true j r' x x2)).0;
          apart = λ i r' x hr u free. elim (given_back (J k).map (lifted_of pty l) (h.sound r' hr k) f.lending (J3 k).map (λ i' e is n. kept3 r' hr i' e is n) i r' x free)
              [ inl now ↦ h3.apart k i r' x hr u now | inr before ↦ h.apart k i r' x hr u before ];
          lent = λ i r' x hr held. h3.lent k i r' x hr (back4 false i r' x held);
          sound = λ r' hr. unlend_sound l.answer.loans (J3 k).map (h3.sound r' hr k);
        })

        here4 : J4 k ≡ c4
        here4 = set_here J3 k c4

        away4 : (m i r' : ℕ) (x : Both) → host r' ≡ true → Gives rhs r' x → Holds (J4 m).map i r' x → ⊥
        away4 m i r' x hr g = by_place k (λ m'. Holds (J4 m').map i r' x → ⊥)
            (λ held. r.away k i r' x hr g (back4 true i r' x (subst (λ c. Holds c.map i r' x) here4 held)))
            (λ m' d held. r.away m' i r' x hr g (subst (λ c. Holds c.map i r' x) (set_there J3 k c4 m' d) held)) m

        fits5 : (l5 : Local Both (List ℕ)) → adds_handles unborrowed rhs (J4 k) ≡ Some l5 → Fits host live U J4 w4.below v4.below k l5.config
        fits5 l5 is =
            let d5 = adds_is unborrowed rhs (J4 k) l5 is in
            let F = add_all_from unborrowed rhs (J4 k).map d5.0 d5.1 in
            let E = add_all_none rhs (J4 k).map d5.0 d5.1 in
            subst (Fits host live U J4 w4.below v4.below k) d5.2 (record {
              lives = lives5 d5.0.map F E;
              once = add_all_once host unborrowed rhs (J4 k).map d5.0 d5.1 (met_once host live below3 U J4 w4 v4 h4 k) r.once (λ j r' x hr g held. away4 k j r' x hr g held);
              off = λ m i j r' x hr d x1 x2. elim (F.holds j r' x x2) [ inl old ↦ d (h4.once m k i j r' x hr x1 old).0 | inr g ↦ away4 m i r' x hr g x1 ];
              apart = λ i r' x hr u free. elim (F.free i r' x free) [ inl old ↦ h4.apart k i r' x hr u old | inr g ↦ r.unguarded r' x hr (inl u) g ];
              lent = λ i r' x hr held. h4.lent k i r' x hr (E i r' x held);
              sound = λ r' hr. F.keeps.sound (h4.sound r' hr k);
            })
          where
            lives5 : (t : HandleMap Both) → AddedAll rhs (J4 k).map t → ((i r' : ℕ) (x : Both) → Has false t i r' x → Has false (J4 k).map i r' x) → (b' : Bool) (i r' : ℕ) (x : Both) → Has b' t i r' x → Good host live w3.below v3.below r' x
            lives5 t F E true i r' x held = elim (F.holds i r' x held) [ inl old ↦ h4.lives true k i r' x old | inr g ↦ r.come r' x g ]
            lives5 t F E false i r' x held = h4.lives false k i r' x (E i r' x held)

        locks4 : Locks host J J4
        locks4 r' hr m i e is n =
            by_place k (λ m'. entry_at (J m').map i ≡ Some e → entry_at (J4 m').map i ≡ Some e)
            (λ is'. ap (λ c. entry_at c.map i) here4 ∙ lent_still (J k).map (lifted_of pty l) (h.sound r' hr k) f.lending (J3 k).map (λ i' e' is'' n'. kept3 r' hr i' e' is'' n') i e is' n)
            (λ m' d is'. ap (λ c. entry_at c.map i) (set_there J3 k c4 m' d) ∙ r.locks r' hr m' i e (ap (λ c. entry_at c.map i) (there2 m' d) ∙ is') n) m is

        finishes_at : (n1 n2 : Nesting) → n1 ≡ Endless → n2 ≡ Endless → (p1 p2 : Passed ℕ) → p1 ≡ passed_over one_of r.passed → p2 ≡ passed_over two_of r.passed → Similar D (Runs_on {A = List CoreValue})
            (λ d. (lowers_result G p (runs G p d) n1 k options aty (place_in (type_of target) args) p1 >> λ results. leaves G p (runs G p d) Endless a.due >> λ _. gives (values_in 0 (lowered (type_of target)).results results)) w4)
            (λ d. (lowers_result G q (runs G q d) n2 k options aty (place_in (type_of target) args) p2 >> λ results. leaves G q (runs G q d) Endless b.due >> λ _. gives (values_in 0 (lowered (type_of target)).results results)) v4)
        finishes_at n1 n2 is1 is2 p1 p2 same1 same2 =
            subst₂ (λ x y. Similar D (Runs_on {A = List CoreValue})
            (λ d. (lowers_result G p (runs G p d) x k options aty (place_in (type_of target) args) p1 >> λ results. leaves G p (runs G p d) Endless a.due >> λ _. gives (values_in 0 (lowered (type_of target)).results results)) w4)
            (λ d. (lowers_result G q (runs G q d) y k options aty (place_in (type_of target) args) p2 >> λ results. leaves G q (runs G q d) Endless b.due >> λ _. gives (values_in 0 (lowered (type_of target)).results results)) v4)) (sym is1) (sym is2)
            (subst₂ (λ x y. Similar D (Runs_on {A = List CoreValue})
            (λ d. (lowers_result G p (runs G p d) Endless k options aty (place_in (type_of target) args) x >> λ results. leaves G p (runs G p d) Endless a.due >> λ _. gives (values_in 0 (lowered (type_of target)).results results)) w4)
            (λ d. (lowers_result G q (runs G q d) Endless k options aty (place_in (type_of target) args) y >> λ results. leaves G q (runs G q d) Endless b.due >> λ _. gives (values_in 0 (lowered (type_of target)).results results)) v4)) (sym same1) (sym same2)
            (similar_then D (LoweredIn G p q host live none below3 U D k unborrowed rhs J4) Runs_on _ _ _ _ w4 v4
            (similar_result G p q host live none below3 U D k options aty (place_in (type_of target) args) r.passed unborrowed unborrowed unborrowed (each_any _ (λ r' x. refl) rhs) (each_any _ (λ r' x. refl) rhs) J4 w4 v4 h4 fits5)
            (λ w5 results v5 results' lowered5.
            let s5 = lowered5.2 in
            let d5 = adds_is unborrowed rhs (J4 k) lowered5.0 lowered5.1 in
            let F = add_all_from unborrowed rhs (J4 k).map d5.0 d5.1 in
            let E = add_all_none rhs (J4 k).map d5.0 d5.1 in
            let map5 : (s5.joint k).map ≡ d5.0.map = s5.map_is ∙ ap (λ c. c.map) (sym d5.2) in
            similar_then D (Ran {A = Unit {0}} host live idle U s5.joint) Runs_on _ _ _ _ w5 v5
            (similar_leaves G p q idle answered live host none rel D a.due b.due U s5.joint w5 v5 s5.met)
            (λ w6 x v6 y s6. similar_gives D Runs_on (values_in 0 (lowered (type_of target)).results results) (values_in 0 (lowered (type_of target)).results results') w6 v6 (record {
              same = ap (values_in 0 (lowered (type_of target)).results) s5.same;
              joint = s6.joint;
              met = s6.met;
              locks = λ r' hr m i e is n.
                  s6.locks r' hr m i e
                  (locks_at host k J4 s5.joint s5.others (λ r'' hr'' i' e' is' n'. ap (λ z. entry_at z i') map5 ∙ F.keeps.lent (h4.sound r'' hr'' k) i' e' is' n') r' hr m i e (locks4 r' hr m i e is n) n) n;
              less = λ m i r' x held.
                  less_at k J J2 there2 (λ i' r'' x' a'. f.from.stays false i' r'' x' (subst (λ c. Has false c.map i' r'' x') here2 a')) m i r' x
                  (r.less m i r' x
                  (less_at k J3 J4 (set_there J3 k c4) (λ i' r'' x' a'. back4 false i' r'' x' (subst (λ c. Has false c.map i' r'' x') here4 a')) m i r' x
                  (less_at k J4 s5.joint s5.others (λ i' r'' x' a'. E i' r'' x' (subst (λ z. Has false z i' r'' x') map5 a')) m i r' x
                  (s6.less m i r' x held))));
            })))))

        finishes : Similar D (Runs_on {A = List CoreValue})
            (λ d. (on k (ends_loans l.answer.loans) >> λ _. lowers_result G p (runs G p d) (during Endless a.due) k options aty (place_in (type_of target) args) a.passed >> λ results. leaves G p (runs G p d) Endless a.due >> λ _. gives (values_in 0 (lowered (type_of target)).results results)) w3)
            (λ d. (on k (ends_loans l.answer.loans) >> λ _. lowers_result G q (runs G q d) (during Endless b.due) k options aty (place_in (type_of target) args) b.passed >> λ results. leaves G q (runs G q d) Endless b.due >> λ _. gives (values_in 0 (lowered (type_of target)).results results)) v3)
        finishes =
            then_on_some D Runs_on k itself itself (ends_loans l.answer.loans) (ends_loans l.answer.loans) _ _ w3 v3 (done c4)
            (ap (ends_loans l.answer.loans) (r.met.one k) ∙ ends_loans_over one_of l.answer.loans (J3 k)) (ap (ends_loans l.answer.loans) (r.met.two k) ∙ ends_loans_over two_of l.answer.loans (J3 k))
            (finishes_at (during Endless a.due) (during Endless b.due) (during_endless a.due) (during_endless b.due) a.passed b.passed r.is_first r.is_second)

    -- a call of a lowered function
    calls_on : (D : ℕ) → Runs G p q idle answered live host none rel D → (target : Target) → LeadsTo (Asks G Inside) target → (options : Options) (args : List ℕ) → Similar D (Runs_on {A = List CoreValue})
        (λ d. (on k (lifts most_params (params_tuple (type_of target)) options args) >> λ l. answers G p (runs G p d) Endless Inside target l.passed >> λ answer. on k (ends_loans l.loans) >> λ _. lowers_result G p (runs G p d) (during Endless answer.due) k options (answer_tuple (type_of target)) (place_in (type_of target) args) answer.passed >> λ results. leaves G p (runs G p d) Endless answer.due >> λ _. gives (values_in 0 (lowered (type_of target)).results results)) w)
        (λ d. (on k (lifts most_params (params_tuple (type_of target)) options args) >> λ l. answers G q (runs G q d) Endless Inside target l.passed >> λ answer. on k (ends_loans l.loans) >> λ _. lowers_result G q (runs G q d) (during Endless answer.due) k options (answer_tuple (type_of target)) (place_in (type_of target) args) answer.passed >> λ results. leaves G q (runs G q d) Endless answer.due >> λ _. gives (values_in 0 (lowered (type_of target)).results results)) v)
    calls_on D hyp target asked options args =
        let ty = params_tuple (type_of target) in
        then_on D Runs_on k (args_over one_of) (args_over two_of) (lifts most_params ty options args) (lifts most_params ty options args) _ _ w v (lifts most_params ty options args (J k))
        (ap (lifts most_params ty options args) (h.one k) ∙ lifts_over one_of most_params ty options args (J k)) (ap (lifts most_params ty options args) (h.two k) ∙ lifts_over two_of most_params ty options args (J k))
        (λ l e.
        let f = lifts_from host most_params ty options args (J k) l e (met_once host live idle U J w v h k) (met_clear host live idle U J w v h k) in
        similar_then D (Replied host live idle answered (U2 D hyp target options args l f) (J2 D hyp target options args l f) (answer_tuple (type_of target))) Runs_on _ _ _ _ (w2 D hyp target options args l f) (v2 D hyp target options args l f)
        (similar_answers G p q idle answered live host none rel D hyp (U2 D hyp target options args l f) (J2 D hyp target options args l f) (w2 D hyp target options args l f) (v2 D hyp target options args l f) (h2 D hyp target options args l f) Inside l.answer.passed target asked f.typed f.all (pass2 D hyp target options args l f))
        (λ w3 a v3 b r. finishes D hyp target options args l f w3 a v3 b r))

    -- only the instance k has changed, and not its map
    ran_shut : {A : Type 0} → (D : ℕ) (entered closed : Bool) (x : ℕ → ℕ → _) (y : ℕ → ℕ → _) → Similar D (Shut {A = A} host live idle U k J (J k).map entered closed) x y → Similar D (Runs_on {A = A}) x y
    ran_shut D entered closed x y s =
        similar_weaken D _ _ x y s (λ w' a v' b r. record {
          same = r.same;
          joint = r.joint;
          met = r.met;
          locks = locks_same host k J r.joint r.others r.map_is;
          less = less_at k J r.joint r.others (λ i r' x' held. subst (λ z. Has false z i r' x') r.map_is held);
        })

    ran_done : {A : Type 0} → (D : ℕ) (a : A) → Similar D (Runs_on {A = A}) (λ d. gives a w) (λ d. gives a v)
    ran_done D a = similar_gives D _ a a w v (record { same = refl; joint = J; met = h; locks = λ r hr m i e is n. is; less = λ m i r x held. held })

    -- a destructor runs in the instance that is entered
    ran_destructs : (D : ℕ) → Runs G p q idle answered live host none rel D → (x : ℕ) (post : Option ℕ) → Similar D (Runs_on {A = Unit {0}}) (λ d. destructs G p (runs G p d) Endless k x post w) (λ d. destructs G q (runs G q d) Endless k x post v)
    ran_destructs D hyp x None = ran_done D tt
    ran_destructs D hyp x (Some f) =
        then_call D Runs_on _ _ w v
        (after_ran host live idle D U J Runs_on _ _ _ _ w v (hyp k f (values.I32 x ∷ []) U J w v h)
        (λ w' results v' s. similar_gives D Runs_on tt tt w' v' (record { same = refl; joint = s.joint; met = s.met; locks = s.locks; less = s.less })))

    ran_own : (D : ℕ) → Runs G p q idle answered live host none rel D → (x : ℕ) (o : Option Owner) → Similar D (Runs_on {A = Unit {0}}) (λ d. destructs_own G p (runs G p d) Endless k x o w) (λ d. destructs_own G q (runs G q d) Endless k x o v)
    ran_own D hyp x None = ran_done D tt
    ran_own D hyp x (Some o) = ran_destructs D hyp x o.destructor

    ran_makes : (D : ℕ) (r : ℕ) (args : List ℕ) → Similar D (Runs_on {A = List ℕ}) (λ d. on k (makes plainly (owns G k r) r args) w) (λ d. on k (makes plainly (owns G k r) r args) v)
    ran_makes D r args =
        similar_on D Runs_on k itself itself (makes plainly (owns G k r) r args) (makes plainly (owns G k r) r args) w v (makes pairs (owns G k r) r args (J k))
        (ap (makes plainly (owns G k r) r args) (h.one k) ∙ makes_over one_of pairs plainly (λ n. refl) (owns G k r) r args (J k))
        (ap (makes plainly (owns G k r) r args) (h.two k) ∙ makes_over two_of pairs plainly (λ n. refl) (owns G k r) r args (J k))
        (λ l e. let f = makes_from pairs (owns G k r) r args (J k) l e in made l f.0 f.1 f.2 f.3 f.4)
      where
        made : (l : Local Both (List ℕ)) → owns G k r ≡ true → (n : ℕ) (a : Answered Both ℕ) → add (J k).map (own_entry r (pairs.made n)) ≡ Some a → with_map (J k) a.map ≡ l.config → Runs_on (with_config w k (config_over one_of l.config)) l.answer (with_config v k (config_over two_of l.config)) l.answer
        made l own n a e is =
            let x : Both = record { one = n; two = n } in
            let no_host : host r ≡ false = own_none host G none k r own in
            let c : Config Both = with_map (J k) a.map in
            let F = add_from (J k).map (own_entry r x) a e in
            let has : (b : Bool) (i r' : ℕ) (x' : Both) → Has b a.map i r' x' → Has b (J k).map i r' x' ⊎ ((F.place ≡ i) × ((true ≡ b) × (r ≡ r') × (x ≡ x'))) = λ b i r' x' y. added_has (J k).map a.map (own_entry r x) F b i r' x' y in
            let fits : Fits host live U J w.below v.below k c = record {
              lives = λ b i r' x' y. elim (has b i r' x' y) [
                | inl old ↦ h.lives b k i r' x' old
                | inr new ↦ record { paired = λ hr. absurd (clash (host r) (ap host new.1.1 ∙ hr) no_host); equal = λ hr. ap (λ z. z.one) (sym new.1.2) ∙ ap (λ z. z.two) new.1.2 }
              ];
              once = λ i j r' x' hr hi hj. elim (has true i r' x' hi) [
                | inl oi ↦ elim (has true j r' x' hj) [ inl oj ↦ met_once host live idle U J w v h k i j r' x' hr oi oj | inr new ↦ absurd (clash (host r) (ap host new.1.1 ∙ hr) no_host) ]
                | inr new ↦ absurd (clash (host r) (ap host new.1.1 ∙ hr) no_host)
              ];
              off = λ m i i' r' x' hr d y z. elim (has true i' r' x' z) [ inl old ↦ d (h.once m k i i' r' x' hr y old).0 | inr new ↦ clash (host r) (ap host new.1.1 ∙ hr) no_host ];
              apart = λ i r' x' hr u y. elim (added_free (J k).map a.map (own_entry r x) F i r' x' y) [ inl old ↦ h.apart k i r' x' hr u old | inr new ↦ clash (host r) (ap host new.1 ∙ hr) no_host ];
              lent = λ i r' x' hr y. elim (has false i r' x' y) [ inl old ↦ h.lent k i r' x' hr old | inr new ↦ absurd (not_true new.1.0) ];
              sound = λ r' hr. F.keeps.sound (h.sound r' hr k);
            } in
            subst (λ z. Runs_on (with_config w k (config_over one_of z)) l.answer (with_config v k (config_over two_of z)) l.answer) is
            (let s = shut_set host live idle U J w v h k l.answer c (config_over one_of c) (config_over two_of c) refl refl fits in record {
              same = refl;
              joint = s.joint;
              met = s.met;
              locks = locks_at host k J s.joint s.others (λ r' hr i e' is' n'. ap (λ z. entry_at z i) s.map_is ∙ F.keeps.lent (h.sound r' hr k) i e' is' n');
              less = less_at k J s.joint s.others (λ i r' x' y. elim (has false i r' x' (subst (λ z. Has false z i r' x') s.map_is y)) [ inl old ↦ old | inr new ↦ absurd (not_true new.1.0) ]);
            })

  -- an instance is entered for a destructor
  similar_visits : (D : ℕ) → Runs G p q idle answered live host none rel D → (o : Owner) (x : ℕ) (U : Keep) (J : ℕ → Config Both) (w : World S) (v : World T) (h : Met host live idle U J w v) (b : Bool) → (J o.instance).entered ≡ b →
      Similar D (Ran {A = Unit {0}} host live idle U J) (λ d. visits G p (runs G p d) Endless o x w) (λ d. visits G q (runs G q d) Endless o x v)
  similar_visits D hyp o x U J w v h true is =
      let m = o.instance in
      similar_stop D _ _ _ _ _ w v
      (similar_on D Never m itself itself enter enter w v (enter (J m)) (ap enter (h.one m) ∙ enter_over one_of (J m)) (ap enter (h.two m) ∙ enter_over two_of (J m))
      (λ l e. shut_out (J m).entered _ l is e))
  similar_visits D hyp o x U J w v h false is =
      let m = o.instance in
      let c : Config Both = record { store = (J m).store; map = (J m).map; entered = true; closed = (J m).closed } in
      let good : enter (J m) ≡ Some (done c) = ap (λ b. also (not b) (Some (done c))) is in
      let here = set_here J m c in
      let h1 = met_set host live idle U J w v h m c (config_over one_of c) (config_over two_of c) refl refl (fits_fewer host live idle U J w v h m c (none_fewer _ _ refl)) in
      then_on_some D _ m itself itself enter enter _ _ w v (done c)
      (ap enter (h.one m) ∙ enter_over one_of (J m) ∙ ap (option_map (local_over one_of itself)) good)
      (ap enter (h.two m) ∙ enter_over two_of (J m) ∙ ap (option_map (local_over two_of itself)) good)
      (after_ran host live idle D U (set J m c) _ _ _ _ _ _ _
      (ran_destructs U (set J m c) (with_config w m (config_over one_of c)) (with_config v m (config_over two_of c)) h1 m D hyp x o.destructor)
      (λ w' a v' s.
      similar_weaken D (Exited G p q host live none idle U m s.joint) _ _ _ (similar_exit G p q host live none idle U D m s.joint w' v' s.met)
      (λ w'' a' v'' b' e. record {
        same = refl;
        joint = e.1.joint;
        met = e.1.met;
        locks = λ r' hr n i e' is' n'.
            locks_same host m s.joint e.1.joint e.1.others e.1.map_is r' hr n i e'
            (s.locks r' hr n i e' (locks_same host m J (set J m c) (set_there J m c) (ap (λ z. z.map) here) r' hr n i e' is' n') n') n';
        less = λ n i r' x' held.
            less_at m J (set J m c) (set_there J m c) (λ i' r'' x'' a'. subst (λ z. Has false z.map i' r'' x'') here a') n i r' x'
            (s.less n i r' x'
            (less_at m s.joint e.1.joint e.1.others (λ i' r'' x'' a'. subst (λ z. Has false z i' r'' x'') e.1.map_is a') n i r' x' held));
      })))

  -- a handle is dropped which is held nowhere and not kept
  similar_drops : (D : ℕ) → Runs G p q idle answered live host none rel D → (r : ℕ) → DropsSome G r → (x : Both) (U : Keep) (J : ℕ → Config Both) (w : World S) (v : World T) (h : Met host live idle U J w v) → Good host live w.below v.below r x → ((m i : ℕ) → host r ≡ true → Holds (J m).map i r x → ⊥) → (host r ≡ true → U r x → ⊥) → (o : Option Owner) → G.owner r ≡ o →
      Similar D (Ran {A = Unit {0}} host live idle U J) (λ d. drops G p (runs G p d) Endless r (one_of x) o w) (λ d. drops G q (runs G q d) Endless r (two_of x) o v)
  similar_drops D hyp r dropped x U J w v h good away unguarded None is =
      similar_below D (λ s a t b. Gone host idle live w.below v.below r x s t) _ (p.drop Endless (G.imported r) (one_of x)) (q.drop Endless (G.imported r) (two_of x)) w v (rel.drops D w.below v.below r x dropped is h.stands good)
      (λ s a t b k. record {
        same = refl;
        joint = J;
        met = record {
          one = h.one;
          two = h.two;
          stands = k.stands;
          lives = λ b' m i r' x' held. same_good host live w.below s v.below t r' x' (h.lives b' m i r' x' held) (λ hr l. k.stay r' x' hr l (λ e. gone b' m i r' x' hr held e.0 e.1));
          once = h.once;
          guard = λ r' x' hr u. k.stay r' x' hr (h.guard r' x' hr u) (λ e. unguarded (ap host e.0 ∙ hr) (subst₂ U (sym e.0) (sym e.1) u));
          apart = h.apart;
          lent = h.lent;
          sound = h.sound;
        };
        locks = λ r' hr m i e is' n. is';
        less = λ m i r' x' held. held;
      })
    where
      gone : (b' : Bool) (m i r' : ℕ) (x' : Both) → host r' ≡ true → Has b' (J m).map i r' x' → r ≡ r' → x ≡ x' → ⊥
      gone true m i r' x' hr held e e' = away m i (ap host e ∙ hr) (subst₂ (λ a b. Holds (J m).map i a b) (sym e) (sym e') held)
      gone false m i r' x' hr held e e' = unguarded (ap host e ∙ hr) (subst₂ U (sym e) (sym e') (h.lent m i r' x' hr held))
  similar_drops D hyp r dropped x U J w v h good away unguarded (Some o) is =
      subst (λ n. Similar D (Ran {A = Unit {0}} host live idle U J) (λ d. visits G p (runs G p d) Endless o (one_of x) w) (λ d. visits G q (runs G q d) Endless o n v)) (good.equal (none r o is))
      (similar_visits D hyp o (one_of x) U J w v h (J o.instance).entered refl)

  module _ (U : Keep) (J : ℕ → Config Both) (w : World S) (v : World T) (h : Met host live idle U J w v) (k : ℕ) (D : ℕ) (hyp : Runs G p q idle answered live host none rel D) where
    abbrev Ran_on : {A : Type 0} → World S → A → World T → A → Type 0
    Ran_on w' a v' b = Ran host live idle U J w' a v' b

    -- an entry is gone from the instance k
    module _ (r : ℕ) (dropped : DropsSome G r) (l : Local Both (Option Both)) (f : RemovedFrom (J k) r l) where
      abbrev Jd : ℕ → Config Both
      Jd = set J k l.config

      abbrev wd : World S
      wd = with_config w k (config_over one_of l.config)

      abbrev vd : World T
      vd = with_config v k (config_over two_of l.config)

      fewer_d : (b : Bool) (i r' : ℕ) (x : Both) → Has b l.config.map i r' x → Has b (J k).map i r' x
      fewer_d b i r' x a = (a.0, f.stays i _ a.1)

      hd : Met host live idle U Jd wd vd
      hd = met_set host live idle U J w v h k l.config (config_over one_of l.config) (config_over two_of l.config) refl refl
          (fits_fewer host live idle U J w v h k l.config (record { has = fewer_d; free = λ i r' x a. f.stays i _ a; sound = f.keeps.sound }))

      less_d : (m i r' : ℕ) (x : Both) → Has false (Jd m).map i r' x → Has false (J m).map i r' x
      less_d = less_at k J Jd (set_there J k l.config) (λ i r' x a. fewer_d false i r' x (subst (λ c. Has false c.map i r' x) (set_here J k l.config) a))

      ran_d : {A : Type 0} → (w' : World S) (a : A) (v' : World T) (b : A) → Ran host live idle U Jd w' a v' b → Ran_on w' a v' b
      ran_d w' a v' b s = record {
        same = s.same;
        joint = s.joint;
        met = s.met;
        locks = λ r' hr m i e is n.
            s.locks r' hr m i e (locks_at host k J Jd (set_there J k l.config) (λ r'' hr' i' e' is' n'. ap (λ c. entry_at c.map i') (set_here J k l.config) ∙ f.keeps.lent (h.sound r'' hr' k) i' e' is' n') r' hr m i e is n) n;
        less = λ m i r' x held. less_d m i r' x (s.less m i r' x held);
      }

      drops_one : (x : Both) → l.answer ≡ Some x → (b : Bool) → owns G k r ≡ b →
          Similar D (Ran {A = Unit {0}} host live idle U Jd) (λ d. drops_by G p (runs G p d) Endless k r (one_of x) b wd) (λ d. drops_by G q (runs G q d) Endless k r (two_of x) b vd)
      drops_one x is true own =
          let came = f.came x is in
          subst (λ n. Similar D (Ran {A = Unit {0}} host live idle U Jd) (λ d. destructs_own G p (runs G p d) Endless k (one_of x) (G.owner r) wd) (λ d. destructs_own G q (runs G q d) Endless k n (G.owner r) vd))
          ((h.lives true k came.0 r x (0, came.1)).equal (own_none host G none k r own))
          (ran_own U Jd wd vd hd k D hyp (one_of x) (G.owner r))
      drops_one x is false own =
          let came = f.came x is in
          similar_drops D hyp r dropped x U Jd wd vd hd (h.lives true k came.0 r x (0, came.1))
          (λ m i hr. by_place k (λ m'. Holds (Jd m').map i r x → ⊥)
          (λ a. let a' = subst (λ c. Holds c.map i r x) (set_here J k l.config) a in
          let same = (h.once k k i came.0 r x hr (fewer_d true i r x a') (0, came.1)).1 in
          came.2 (made_of true r x a'.0) (subst (λ j. entry_at l.config.map j ≡ Some (made_of true r x a'.0)) same a'.1))
          (λ m' d a. d (h.once m' k i came.0 r x hr (subst (λ c. Holds c.map i r x) (set_there J k l.config m' d) a) (0, came.1)).0) m)
          (λ hr u. h.apart k came.0 r x hr u came.1)
          (G.owner r) refl

      drops_some : (o : Option Both) → l.answer ≡ o → Similar D (Ran_on {A = List CoreValue}) (λ d. drops_if G p (runs G p d) Endless k r (option_map one_of o) wd) (λ d. drops_if G q (runs G q d) Endless k r (option_map two_of o) vd)
      drops_some None is = similar_gives D _ [] [] wd vd (ran_d wd [] vd [] (record { same = refl; joint = Jd; met = hd; locks = λ r' hr m i e is' n. is'; less = λ m i r' x held. held }))
      drops_some (Some x) is =
          after_ran host live idle D U Jd Ran_on _ _ _ _ wd vd (drops_one x is (owns G k r) refl)
          (λ w' a v' s. similar_gives D Ran_on [] [] w' v' (ran_d w' [] v' [] (record { same = refl; joint = s.joint; met = s.met; locks = s.locks; less = s.less })))

    -- a number becomes a result
    ran_gives : {A B : Type 0} → (g : A → B) (x : ℕ → Act (World S) A) (y : ℕ → Act (World T) A) → Similar D (Ran_on {A = A}) (λ d. x d w) (λ d. y d v) → Similar D (Ran_on {A = B}) (λ d. (x d >> λ a. gives (g a)) w) (λ d. (y d >> λ a. gives (g a)) v)
    ran_gives g x y s =
        after_ran host live idle D U J Ran_on x _ y _ w v s
        (λ w' a v' s'. similar_gives D Ran_on (g a) (g a) w' v' (record { same = refl; joint = s'.joint; met = s'.met; locks = s'.locks; less = s'.less }))

    -- a question is answered
    ran_performs : (args : List ℕ) (f : Option Func) → KnownIn (Asks G Inside) (DropsSome G) f → Similar D (Ran_on {A = List CoreValue}) (λ d. performs G p (runs G p d) Endless k args f w) (λ d. performs G q (runs G q d) Endless k args f v)
    ran_performs args None known = similar_traps D Ran_on w v
    ran_performs args (Some (LoweredFunc target options)) known =
        then_on D Ran_on k itself itself is_open is_open _ _ w v (is_open (J k)) (ap is_open (h.one k) ∙ is_open_over one_of (J k)) (ap is_open (h.two k) ∙ is_open_over two_of (J k))
        (λ l e.
        let is : l.config ≡ J k = sym (ap (λ z. z.config) (some_is (done (J k)) l (also_is (not (J k).closed) (Some (done (J k))) l e).1)) in
        let each : (m : ℕ) → set J k l.config m ≡ J m = set_all J k l.config (λ m c. c ≡ J m) is (λ m d. refl) in
        let h1 = met_set host live idle U J w v h k l.config (config_over one_of l.config) (config_over two_of l.config) refl refl (fits_fewer host live idle U J w v h k l.config (none_fewer _ _ (ap (λ c. c.map) is))) in
        similar_weaken D _ Ran_on _ _
        (calls_on U (set J k l.config) (with_config w k (config_over one_of l.config)) (with_config v k (config_over two_of l.config)) h1 k D hyp target known options args)
        (λ w' a v' b s. record {
          same = s.same;
          joint = s.joint;
          met = s.met;
          locks = λ r hr m i e' is' n. s.locks r hr m i e' (ap (λ c. entry_at c.map i) (each m) ∙ is') n;
          less = λ m i r x held. subst (λ c. Has false c.map i r x) (each m) (s.less m i r x held);
        }))
    ran_performs args (Some (ResourceNew r)) known = ran_gives (map values.I32) (λ d. on k (makes plainly (owns G k r) r args)) (λ d. on k (makes plainly (owns G k r) r args)) (ran_makes U J w v h k D r args)
    ran_performs args (Some (ResourceRep r)) known =
        ran_gives (map values.I32) (λ d. on k (reads plainly (owns G k r) r args)) (λ d. on k (reads plainly (owns G k r) r args))
        (ran_shut U J w v h k D (J k).entered (J k).closed _ _ (similar_reads G p q host live none idle U D J w v h k r args))
    ran_performs args (Some (ResourceDrop r)) known =
        then_on D Ran_on k (option_map one_of) (option_map two_of) (removes r args) (removes r args) _ _ w v (removes r args (J k))
        (ap (removes r args) (h.one k) ∙ removes_over one_of r args (J k)) (ap (removes r args) (h.two k) ∙ removes_over two_of r args (J k))
        (λ l e. drops_some r known l (removes_from r args (J k) l e) l.answer refl)

  abbrev Drives : ℕ → Type 1
  Drives D = (k f : ℕ) (args : List CoreValue) (store : State) (replies : List Reply) (U : Keep) (J : ℕ → Config Both) (w : World S) (v : World T) → Met host live idle U J w v →
      Similar D (Ran {A = List CoreValue} host live idle U J) (λ d. drives G p d Endless k f args store replies w) (λ d. drives G q d Endless k f args store replies v)

  runs_at : (D : ℕ) → Drives D → Runs G p q idle answered live host none rel D
  runs_at D each k f args U J w v h =
      similar_store D _ k _ _ w v (J k).store (ap (λ c. c.store) (h.one k)) (ap (λ c. c.store) (h.two k)) (each k f args (store_at Endless (J k).store) [] U J w v h)

  -- core code goes on from a pause
  module _ (U : Keep) (J : ℕ → Config Both) (k : ℕ) (D : ℕ) (hyp : Runs G p q idle answered live host none rel D) (f : ℕ) (args : List CoreValue) (store : State) (replies : List Reply) where
    goes : ((replies' : List Reply) (J' : ℕ → Config Both) (w' : World S) (v' : World T) → Met host live idle U J' w' v' → Similar D (Ran {A = List CoreValue} host live idle U J') (λ d. drives G p d Endless k f args store replies' w') (λ d. drives G q d Endless k f args store replies' v')) →
        (w' : World S) (pause : Pause) (v' : World T) → Shut host live idle U k J (J k).map (J k).entered (J k).closed w' pause v' pause →
        Similar D (Ran {A = List CoreValue} host live idle U J) (λ d. goes_on G p (runs G p d) (λ reply. drives G p d Endless k f args store (replies ++ reply ∷ [])) Endless k pause w') (λ d. goes_on G q (runs G q d) (λ reply. drives G q d Endless k f args store (replies ++ reply ∷ [])) Endless k pause v')
    goes again w' (Finished results) v' s =
        similar_gives D _ results results w' v' (record { same = refl; joint = s.joint; met = s.met; locks = locks_same host k J s.joint s.others s.map_is; less = less_at k J s.joint s.others (λ i r x held. subst (λ z. Has false z i r x) s.map_is held) })
    goes again w' (Question number asked now used) v' s =
        then_call D _ _ _ w' v'
        (after_ran host live idle D U s.joint (Ran {A = List CoreValue} host live idle U J) _ _ _ _ w' v'
        (ran_performs U s.joint w' v' s.met k D hyp (words asked) (G.canons k number) (known_in G k number (G.canons k number) refl))
        (λ w'' results v'' s2. similar_store D _ k _ _ w'' v'' (s2.joint k).store (ap (λ c. c.store) (s2.met.one k)) (ap (λ c. c.store) (s2.met.two k))
        (similar_more D _ used _ _ w'' v''
        (similar_weaken D (Ran {A = List CoreValue} host live idle U s2.joint) _ _ _
        (again (replies ++ record { results = results; store = record (store_at Endless (s2.joint k).store) { nesting = now } } ∷ []) s2.joint w'' v'' s2.met)
        (λ w3 a v3 b s3. record {
          same = s3.same;
          joint = s3.joint;
          met = s3.met;
          locks = λ r hr m i e is n. s3.locks r hr m i e (s2.locks r hr m i e (locks_same host k J s.joint s.others s.map_is r hr m i e is n) n) n;
          less = λ m i r x held. less_at k J s.joint s.others (λ i' r' x' a'. subst (λ z. Has false z i' r' x') s.map_is a') m i r x (s2.less m i r x (s3.less m i r x held));
        })))))

  -- core code does the same in both, from its beginning on
  drives_on : (D : ℕ) → Drives D
  drives_on zero k f args store replies U J w v h = similar_spent zero (Ran {A = List CoreValue} host live idle U J) _ _ w v refl refl
  drives_on (suc D) k f args store replies U J w v h =
      similar_deeper D (Ran {A = List CoreValue} host live idle U J) _ _
      (after_shut host live D idle U k J (J k).map (J k).entered (J k).closed (Ran {A = List CoreValue} host live idle U J) _ _ _ _ w v
      (similar_core D (Shut host live idle U k J (J k).map (J k).entered (J k).closed) k store f args replies w v (λ s pause.
      let c : Config Both = with_store (J k) s in
      let m = shut_set host live idle U J w v h k pause c (with_store (w.configs k) s) (with_store (v.configs k) s) (ap (λ z. with_store z s) (h.one k)) (ap (λ z. with_store z s) (h.two k)) (fits_fewer host live idle U J w v h k c (none_fewer (J k).map c.map refl)) in
      record { same = refl; joint = m.joint; met = m.met; others = m.others; map_is = m.map_is; entered_is = m.entered_is; closed_is = m.closed_is }))
      (λ w' pause v' s. goes U J k D (λ m g args' U' J' w'' v'' h'. runs_at D (drives_on D) m g args' U' J' w'' v'' h') f args store replies (λ replies' J'' w'' v'' h''. drives_on D k f args store replies' U J'' w'' v'' h'') w' pause v' s))

  pub runs_on : (D : ℕ) → Runs G p q idle answered live host none rel D
  runs_on D = runs_at D (drives_on D)
