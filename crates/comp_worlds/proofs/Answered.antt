-- A call is answered, and left.
use Rattle.std.proofs.Common.{◌≡◌, ◌≢◌, ℕ, ◌+◌, ◌&&◌, inl, inr, List, [], ◌∷◌, Option, Some, Bool, true, false, not, refl, sym, ◌∙◌, ap, subst, arith}
use Rattle.std.specs.Option.{option_map}
use Rattle.core_store.specs.declared.value.CoreValue.{CoreValue}
use Rattle.core_store.specs.Words.{words, values_in}
use Rattle.wit_types.specs.Plain.{Plain}
use Rattle.wit_types.specs.HasType.{is_of}
use Rattle.wit_types.specs.Layout.{alignment, size}
use Rattle.abi_layout.specs.Functions.{core_params}
use Rattle.abi_layout.specs.Handles.{renumbered}
use Rattle.handle_space.specs.HandleMap.{HandleMap, Answered, entry_at}
use Rattle.comp_worlds.specs.Acts.{Act, ◌>>◌, gives}
use Rattle.comp_worlds.specs.Passing.{Handle, Passed, params_tuple, answer_tuple, handles_of, has_borrow, add_handles, most_results, spills_over, lower_params, lower_result}
use Rattle.comp_worlds.specs.Groups.{Endless, Options, Lifting, Target, Mine, Theirs, type_of, Import, Group, Config, World, Due, Nothing, Served, Below, Answer, Origin, Ports}
use Rattle.comp_worlds.specs.Locals.{Local, done, also, with_map, enter, Args, lifts, lends_nothing, has_no_borrow, adds_handles, has_place}
use Rattle.comp_worlds.specs.Calls.{number_if, set, with_config, on, owns, borrowed, plainly, lowers_closed, lowers_params, finds_place, answers, leaves, runs}
use Rattle.comp_worlds.specs.Related.{Both, one_of, two_of, passed_over, Gives, EachHandle, Good, Answered as HasAnswered, Left, Asks, PassesAll, OwnsNone}
use Rattle.comp_worlds.proofs.Embedding.{LeadsTo}
use Rattle.comp_worlds.proofs.Maps.{map_is, some_is, relent, Has, Holds, AddedAll, add_all_from, add_all_once}
use Rattle.comp_worlds.proofs.Loans.{each_handle_map, count}
use Rattle.comp_worlds.proofs.Natural.{handles_over, config_over, local_over, args_over, itself, pairs, handles_of_over, enter_over, has_no_borrow_over, lifts_over, adds_handles_over, has_place_over}
use Rattle.comp_worlds.proofs.Similar.{Similar, similar_then, similar_weaken, similar_gives, then_call, Never, similar_stop}
use Rattle.comp_worlds.proofs.Joint.{set_all, set_here, set_there, similar_on, then_on, then_on_some, similar_below}
use Rattle.comp_worlds.proofs.Meeting.{Keep, Met, Fits, none_fewer, Shut, met_set, fits_fewer, shut_on, then_shut}
use Rattle.comp_worlds.proofs.Closed.{also_is, shut_out, own_none, shut_done, similar_closed, Exited, similar_exits}
use Rattle.comp_worlds.proofs.Answering.{Simulates, same_good, gives_each, lends_each, by_place, IsPassing, Owed, Replied, Locks, locks_at, locks_same, Ran, met_stands, less_at, after_ran, LiftsFrom, lifts_from, met_once, met_clear, met_lifts, unlent}

pub adds_is : {R : Type 0} → (b : ℕ → R → Option ℕ) (hs : List (Handle R)) (c : Config R) (l : Local R (List ℕ)) → adds_handles b hs c ≡ Some l → (a : Answered R (List ℕ)) × (add_handles b hs c.map ≡ Some a) × (with_map c a.map ≡ l.config)
adds_is b hs c l h = let d = map_is _ (add_handles b hs c.map) l h in (d.0, d.1, ap (λ z. z.config) d.2)

place_stays : {R : Type 0} → (options : Options) (align len at : ℕ) (c : Config R) (l : Local R (Unit {0})) → has_place options align len at c ≡ Some l → c ≡ l.config
place_stays options align len at c l h = ap (λ z. z.config) (some_is (done c) l (also_is _ (Some (done c)) l h).1)

both_true : (a b : Bool) → (a && not b) ≡ true → (a ≡ true) × (b ≡ false)
both_true true true h = absurd (cc)
both_true true false h = (refl, refl)
both_true false b h = absurd (cc)

no_loans : (loans : List ℕ) → lends_nothing loans ≡ true → loans ≡ []
no_loans [] h = refl
no_loans (i ∷ is) h = absurd (cc)

module _ {S T : Type 0} (G : Group) (p : Ports S) (q : Ports T) (host : ℕ → Bool) (live : S → T → ℕ → Both → Type 0) (none : OwnsNone host G) (below : S → T → Type 0) (U : Keep) (D k : ℕ) where
  -- values were lowered: the map has their handles
  abbrev pub LoweredIn : (ℕ → Both → Option ℕ) → List (Handle Both) → (ℕ → Config Both) → World S → List ℕ → World T → List ℕ → Type 0
  LoweredIn b hs J w a v a' = (l : Local Both (List ℕ)) × (adds_handles b hs (J k) ≡ Some l) × Shut host live below U k J l.config.map (J k).entered false w a v a'

  -- handles are added, and then
  adds_then : (b1 b2 : ℕ → ℕ → Option ℕ) (b : ℕ → Both → Option ℕ) (hs : List (Handle Both)) (hs1 hs2 : List (Handle ℕ)) → hs1 ≡ handles_over one_of hs → hs2 ≡ handles_over two_of hs →
      EachHandle (λ r x. b1 r (one_of x) ≡ b r x) hs → EachHandle (λ r x. b2 r (two_of x) ≡ b r x) hs →
      (J : ℕ → Config Both) (w : World S) (v : World T) (h : Met host live below U J w v) → ((l : Local Both (List ℕ)) → adds_handles b hs (J k) ≡ Some l → Fits host live U J w.below v.below k l.config) →
      (go : ℕ → List ℕ → Act (World S) (List ℕ)) (go' : ℕ → List ℕ → Act (World T) (List ℕ)) →
      ((indexes : List ℕ) (t : HandleMap Both) (J' : ℕ → Config Both) (w' : World S) (v' : World T) → Met host live below U J' w' v' → (J' k).map ≡ t → (J' k).entered ≡ (J k).entered → Similar D (Shut {A = List ℕ} host live below U k J' t (J k).entered false) (λ d. go d indexes w') (λ d. go' d indexes v')) →
      Similar D (LoweredIn b hs J) (λ d. (on k (adds_handles b1 hs1) >> go d) w) (λ d. (on k (adds_handles b2 hs2) >> go' d) v)
  adds_then b1 b2 b hs hs1 hs2 is1 is2 e1 e2 J w v h fits go go' each =
      then_on D (LoweredIn b hs J) k itself itself (adds_handles b1 hs1) (adds_handles b2 hs2) go go' w v (adds_handles b hs (J k))
      (ap (adds_handles b1 hs1) (h.one k) ∙ ap (λ z. adds_handles b1 z (config_over one_of (J k))) is1 ∙ adds_handles_over one_of b b1 hs (J k) e1)
      (ap (adds_handles b2 hs2) (h.two k) ∙ ap (λ z. adds_handles b2 z (config_over two_of (J k))) is2 ∙ adds_handles_over two_of b b2 hs (J k) e2)
      (λ l is.
      let J' = set J k l.config in
      let here = set_here J k l.config in
      let w' = with_config w k (config_over one_of l.config) in
      let v' = with_config v k (config_over two_of l.config) in
      let h' = met_set host live below U J w v h k l.config (config_over one_of l.config) (config_over two_of l.config) refl refl (fits l is) in
      similar_weaken D (Shut {A = List ℕ} host live below U k J' l.config.map (J k).entered false) (LoweredIn b hs J) _ _
      (each l.answer l.config.map J' w' v' h' (ap (λ c. c.map) here) (ap (λ c. c.entered) here ∙ sym (ap (λ c. c.entered) (adds_is b hs (J k) l is).2)))
      (λ w'' a v'' a' s. (l, is, record { same = s.same; joint = s.joint; met = s.met; others = λ m d. s.others m d ∙ set_there J k l.config m d; map_is = s.map_is; entered_is = s.entered_is; closed_is = s.closed_is })))

  pub similar_params : (options : Options) (ty : Plain) (passed : Passed Both) (b : ℕ → Both → Option ℕ) → EachHandle (λ r x. borrowed G plainly k r (one_of x) ≡ b r x) (handles_of ty passed) → EachHandle (λ r x. borrowed G plainly k r (two_of x) ≡ b r x) (handles_of ty passed) →
      (J : ℕ → Config Both) (w : World S) (v : World T) (h : Met host live below U J w v) → ((l : Local Both (List ℕ)) → adds_handles b (handles_of ty passed) (J k) ≡ Some l → Fits host live U J w.below v.below k l.config) →
      Similar D (LoweredIn b (handles_of ty passed) J) (λ d. lowers_params G p (runs G p d) Endless k options ty (passed_over one_of passed) w) (λ d. lowers_params G q (runs G q d) Endless k options ty (passed_over two_of passed) v)
  similar_params options ty passed b e1 e2 J w v h fits =
      adds_then (borrowed G plainly k) (borrowed G plainly k) b (handles_of ty passed) _ _ (handles_of_over one_of ty passed) (handles_of_over two_of ty passed) e1 e2 J w v h fits _ _
      (λ indexes t J' w' v' h' e3 e4. similar_closed G p q host live none below U D k options 0 (lower_params ty (renumbered ty passed.value indexes)) J' t (J k).entered w' v' h' e3 e4)

  finds_similar : (b : Bool) (options : Options) (ty : Plain) (at : ℕ) (J : ℕ → Config Both) (t : HandleMap Both) (e : Bool) (w : World S) (v : World T) → Met host live below U J w v → (J k).map ≡ t → (J k).entered ≡ e →
      Similar D (Shut {A = Unit {0}} host live below U k J t e (J k).closed) (λ d. finds_place G p (runs G p d) b k options ty at w) (λ d. finds_place G q (runs G q d) b k options ty at v)
  finds_similar false options ty at J t e w v h e1 e2 = shut_done G p q host live none below U D k J t e (J k).closed w v h e1 e2 refl tt
  finds_similar true options ty at J t e w v h e1 e2 =
      shut_on host live below U J w v h k D (has_place options (alignment ty) (size ty) at) (has_place options (alignment ty) (size ty) at) (has_place options (alignment ty) (size ty) at (J k)) t e (J k).closed
      (has_place_over one_of options (alignment ty) (size ty) at (J k)) (has_place_over two_of options (alignment ty) (size ty) at (J k))
      (λ l is. let r = place_stays options (alignment ty) (size ty) at (J k) l is in
      (fits_fewer host live below U J w v h k l.config (none_fewer (J k).map l.config.map (ap (λ c. c.map) (sym r))), ap (λ c. c.map) (sym r) ∙ e1, ap (λ c. c.entered) (sym r) ∙ e2, ap (λ c. c.closed) (sym r)))

  pub similar_result : (options : Options) (ty : Plain) (at : ℕ) (passed : Passed Both) (b1 b2 : ℕ → ℕ → Option ℕ) (b : ℕ → Both → Option ℕ) → EachHandle (λ r x. b1 r (one_of x) ≡ b r x) (handles_of ty passed) → EachHandle (λ r x. b2 r (two_of x) ≡ b r x) (handles_of ty passed) →
      (J : ℕ → Config Both) (w : World S) (v : World T) (h : Met host live below U J w v) → ((l : Local Both (List ℕ)) → adds_handles b (handles_of ty passed) (J k) ≡ Some l → Fits host live U J w.below v.below k l.config) →
      Similar D (LoweredIn b (handles_of ty passed) J)
      (λ d. (on k (adds_handles b1 (handles_of ty (passed_over one_of passed))) >> λ indexes. finds_place G p (runs G p d) (spills_over most_results ty) k options ty at >> λ _. lowers_closed G p (runs G p d) Endless k options at (lower_result ty (renumbered ty passed.value indexes))) w)
      (λ d. (on k (adds_handles b2 (handles_of ty (passed_over two_of passed))) >> λ indexes. finds_place G q (runs G q d) (spills_over most_results ty) k options ty at >> λ _. lowers_closed G q (runs G q d) Endless k options at (lower_result ty (renumbered ty passed.value indexes))) v)
  similar_result options ty at passed b1 b2 b e1 e2 J w v h fits =
      adds_then b1 b2 b (handles_of ty passed) _ _ (handles_of_over one_of ty passed) (handles_of_over two_of ty passed) e1 e2 J w v h fits _ _
      (λ indexes t J' w' v' h' e3 e4.
      then_shut host live D below U k J' t t (J k).entered (J k).entered (J' k).closed false _ _ _ _ w' v'
      (finds_similar (spills_over most_results ty) options ty at J' t (J k).entered w' v' h' e3 e4)
      (λ w'' x v'' s. similar_closed G p q host live none below U D k options at (lower_result ty (renumbered ty passed.value indexes)) s.joint t (J k).entered w'' v'' s.met s.map_is s.entered_is))

module _ {S T : Type 0} (G : Group) (p : Ports S) (q : Ports T) (idle : S → T → Type 0) (answered : S → Due → T → Due → Type 0) (live : S → T → ℕ → Both → Type 0) (host : ℕ → Bool) (none : OwnsNone host G) (rel : Simulates G host p q idle answered live) where
  -- core code does the same at depth D
  abbrev pub Runs : ℕ → Type 1
  Runs D = (k f : ℕ) (args : List CoreValue) (U : Keep) (J : ℕ → Config Both) (w : World S) (v : World T) → Met host live idle U J w v → Similar D (Ran {A = List CoreValue} host live idle U J) (λ d. runs G p d Endless k f args w) (λ d. runs G q d Endless k f args v)

  module _ (D : ℕ) (hyp : Runs D) (U : Keep) (J : ℕ → Config Both) (w : World S) (v : World T) (h : Met host live idle U J w v) (from : Origin) (passed : Passed Both) where
    module _ (import : Import) (asked : Asks G from import) (typed : is_of (params_tuple import.ty) passed.value ≡ true) (all : PassesAll from (params_tuple import.ty) passed) (pass : IsPassing host live U J w.below v.below (handles_of (params_tuple import.ty) passed)) where
      abbrev asked_with : List (Handle Both)
      asked_with = handles_of (params_tuple import.ty) passed

      abbrev Asked : World S → Answer → World T → Answer → Type 0
      Asked w' a v' b = ((m : ℕ) → w'.configs m ≡ w.configs m) × ((m : ℕ) → v'.configs m ≡ v.configs m) × HasAnswered host answered live w.below v.below asked_with (answer_tuple import.ty) w'.below a v'.below b

      abbrev Import_replies : World S → Answer → World T → Answer → Type 0
      Import_replies w' a v' b = Replied host live idle answered U J (answer_tuple import.ty) w' a v' b

      import_stays : (b : Bool) (m i r' : ℕ) (x : Both) → host r' ≡ true → Has b (J m).map i r' x → Gives asked_with r' x → ⊥
      import_stays true m i r' x hr a g = pass.away m i r' x hr g a
      import_stays false m i r' x hr a g = pass.unguarded r' x hr (h.lent m i r' x hr a) g

      theirs : Similar D Import_replies (λ d. answers G p (runs G p d) Endless from (Theirs import) (passed_over one_of passed) w) (λ d. answers G q (runs G q d) Endless from (Theirs import) (passed_over two_of passed) v)
      theirs =
          similar_then D Asked Import_replies _ _ _ _ w v
          (similar_below D (λ s a t b. HasAnswered host answered live w.below v.below asked_with (answer_tuple import.ty) s a t b) Asked (p.ask Endless from import (passed_over one_of passed)) (q.ask Endless from import (passed_over two_of passed)) w v
          (rel.asks D from w.below v.below import passed asked h.stands typed all pass.each pass.once (λ r x hr n g. pass.unguarded r x hr (pass.lends r x hr n) g))
          (λ s a t b k. (λ m. refl, λ m. refl, k)))
          (λ w' a v' b k. let r = k.2 in similar_gives D Import_replies _ _ w' v' (record {
            passed = r.answer;
            is_first = r.is_first;
            is_second = r.is_second;
            joint = J;
            met = record {
              one = λ m. k.0 m ∙ h.one m;
              two = λ m. k.1 m ∙ h.two m;
              stands = r.stands;
              lives = λ b m i r' x a. same_good host live w.below w'.below v.below v'.below r' x (h.lives b m i r' x a) (λ hr l. r.stay r' x hr l (λ g. import_stays b m i r' x hr a g));
              once = h.once;
              guard = λ r' x hr u. r.stay r' x hr (h.guard r' x hr u) (λ g. pass.unguarded r' x hr u g);
              apart = h.apart;
              lent = h.lent;
              sound = h.sound;
            };
            come = r.come;
            once = r.apart;
            away = λ m i r' x hr g a. r.fresh r' x hr g ((h.lives true m i r' x a).paired hr) (λ g'. pass.away m i r' x hr g' a);
            unguarded = λ r' x hr u g. r.fresh r' x hr g (h.guard r' x hr u) (λ g'. pass.unguarded r' x hr u g');
            locks = λ r' hr m i e is n. is;
            less = λ m i r' x a. a;
          }))

    module _ (k : ℕ) (lifting : Lifting) (pass : IsPassing host live U J w.below v.below (handles_of (params_tuple lifting.ty) passed)) where
      abbrev hs : List (Handle Both)
      hs = handles_of (params_tuple lifting.ty) passed

      abbrev rty : Plain
      rty = answer_tuple lifting.ty

      abbrev Replies : World S → Answer → World T → Answer → Type 0
      Replies w' a v' b = Replied host live idle answered U J rty w' a v' b

      borrow_two : EachHandle (λ r x. borrowed G plainly k r (two_of x) ≡ borrowed G pairs k r x) hs
      borrow_two = each_handle_map (λ r x. Good host live w.below v.below r x) _ hs (λ r x good. number_same r x (owns G k r) refl good) pass.each
        where
          number_same : (r : ℕ) (x : Both) (b : Bool) → owns G k r ≡ b → Good host live w.below v.below r x → number_if b x.two ≡ number_if b x.one
          number_same r x true own good = ap Some (sym (good.equal (own_none host G none k r own)))
          number_same r x false own good = refl

      borrow_one : EachHandle (λ r x. borrowed G plainly k r (one_of x) ≡ borrowed G pairs k r x) hs
      borrow_one = each_handle_map (λ r x. Good host live w.below v.below r x) _ hs (λ r x good. refl) pass.each

      abbrev c1 : Config Both
      c1 = record { store = (J k).store; map = (J k).map; entered = true; closed = (J k).closed }

      abbrev J1 : ℕ → Config Both
      J1 = set J k c1

      abbrev w1 : World S
      w1 = with_config w k (config_over one_of c1)

      abbrev v1 : World T
      v1 = with_config v k (config_over two_of c1)

      h1 : Met host live idle U J1 w1 v1
      h1 = met_set host live idle U J w v h k c1 (config_over one_of c1) (config_over two_of c1) refl refl (fits_fewer host live idle U J w v h k c1 (none_fewer _ _ refl))

      away1 : (m i r : ℕ) (x : Both) → host r ≡ true → Gives hs r x → Holds (J1 m).map i r x → ⊥
      away1 m i r x hr g a = pass.away m i r x hr g (subst (λ t. Holds t i r x) (set_all J k c1 (λ m' c. c.map ≡ (J m').map) refl (λ m' d. refl) m) a)

      fits2 : (l : Local Both (List ℕ)) → adds_handles (borrowed G pairs k) hs (J1 k) ≡ Some l → Fits host live U J1 w1.below v1.below k l.config
      fits2 l is =
          let a = adds_is (borrowed G pairs k) hs (J1 k) l is in
          let F = add_all_from (borrowed G pairs k) hs (J1 k).map a.0 a.1 in
          subst (Fits host live U J1 w1.below v1.below k) a.2 (record {
            lives = lives2 a.0.map F;
            once = add_all_once host (borrowed G pairs k) hs (J1 k).map a.0 a.1 (met_once host live idle U J1 w1 v1 h1 k) pass.once (λ j r x hr g held. away1 k j r x hr g held);
            off = λ m i i' r x hr d held b. elim (F.holds i' r x b) [ inl old ↦ d (h1.once m k i i' r x hr held old).0 | inr g ↦ away1 m i r x hr g held ];
            apart = λ i r x hr u held. elim (F.free i r x held) [ inl old ↦ h1.apart k i r x hr u old | inr g ↦ pass.unguarded r x hr u g ];
            lent = λ i r x hr held. elim (F.lent i r x held) [ inl old ↦ h1.lent k i r x hr old | inr n ↦ pass.lends r x hr n ];
            sound = λ r hr. F.keeps.sound (h1.sound r hr k);
          })
        where
          lives2 : (t : HandleMap Both) → AddedAll hs (J1 k).map t → (b : Bool) (i r : ℕ) (x : Both) → Has b t i r x → Good host live w.below v.below r x
          lives2 t F true i r x a = elim (F.holds i r x a) [ inl old ↦ h1.lives true k i r x old | inr g ↦ gives_each _ hs r x pass.each g ]
          lives2 t F false i r x a = elim (F.lent i r x a) [ inl old ↦ h1.lives false k i r x old | inr n ↦ lends_each _ hs r x pass.each n ]

      -- the results were lifted, and no borrowed handle may be left
      replies : (results : List CoreValue) (J3 : ℕ → Config Both) (w3 : World S) (v3 : World T) → (h3 : Met host live idle U J3 w3 v3) → Locks host J J3 → ((m i r : ℕ) (x : Both) → m ≢ k → Has false (J3 m).map i r x → Has false (J m).map i r x) →
          (l : Local Both (Args Both)) → LiftsFrom host rty (J3 k) l → (b : Bool) → (lends_nothing l.answer.loans && not (has_borrow (set J3 k l.config k).map)) ≡ b →
          Similar D Replies (λ d. (on k (has_no_borrow l.answer.loans) >> λ _. gives (record { passed = passed_over one_of l.answer.passed; due = Served k lifting results })) (with_config w3 k (config_over one_of l.config))) (λ d. (on k (has_no_borrow l.answer.loans) >> λ _. gives (record { passed = passed_over two_of l.answer.passed; due = Served k lifting results })) (with_config v3 k (config_over two_of l.config)))
      replies results J3 w3 v3 h3 locks less l f false is =
          let h4 = met_lifts host live idle U J3 w3 v3 h3 k rty l f in
          similar_stop D Replies _ _ _ _ _ _
          (similar_on D Never k itself itself (has_no_borrow l.answer.loans) (has_no_borrow l.answer.loans) _ _ (has_no_borrow l.answer.loans (set J3 k l.config k))
          (ap (has_no_borrow l.answer.loans) (h4.one k) ∙ has_no_borrow_over one_of l.answer.loans (set J3 k l.config k)) (ap (has_no_borrow l.answer.loans) (h4.two k) ∙ has_no_borrow_over two_of l.answer.loans (set J3 k l.config k))
          (λ l' e. let t = also_is _ (Some (done (set J3 k l.config k))) l' e in let x : true ≡ false = sym t.0 ∙ is in cc))
      replies results J3 w3 v3 h3 locks less l f true is =
          let h4 = met_lifts host live idle U J3 w3 v3 h3 k rty l f in
          let parts = both_true (lends_nothing l.answer.loans) (has_borrow (set J3 k l.config k).map) is in
          let plain : l.answer.loans ≡ [] = no_loans l.answer.loans parts.0 in
          let c5 = set J3 k l.config k in
          let h5 = met_set host live idle U (set J3 k l.config) _ _ h4 k c5 (config_over one_of c5) (config_over two_of c5) refl refl (fits_fewer host live idle U (set J3 k l.config) _ _ h4 k c5 (none_fewer _ _ refl)) in
          let here : set (set J3 k l.config) k c5 k ≡ l.config = set_here (set J3 k l.config) k c5 ∙ set_here J3 k l.config in
          let there : (m : ℕ) → m ≢ k → set (set J3 k l.config) k c5 m ≡ J3 m = λ m d. set_there (set J3 k l.config) k c5 m d ∙ set_there J3 k l.config m d in
          let good : has_no_borrow l.answer.loans c5 ≡ Some (done c5) = ap (λ b. also b (Some (done c5))) is in
          then_on_some D Replies k itself itself (has_no_borrow l.answer.loans) (has_no_borrow l.answer.loans) _ _ _ _ (done c5)
          (ap (has_no_borrow l.answer.loans) (h4.one k) ∙ has_no_borrow_over one_of l.answer.loans c5 ∙ ap (option_map (local_over one_of itself)) good)
          (ap (has_no_borrow l.answer.loans) (h4.two k) ∙ has_no_borrow_over two_of l.answer.loans c5 ∙ ap (option_map (local_over two_of itself)) good)
          (similar_gives D Replies _ _ _ _ (record {
            passed = l.answer.passed;
            is_first = refl;
            is_second = refl;
            joint = set (set J3 k l.config) k c5;
            met = met_stands host live idle (Owed idle answered (Served k lifting results) (Served k lifting results)) U _ _ _ h5 (h5.stands, refl, refl, refl);
            come = λ r x given. gives_each _ (handles_of rty l.answer.passed) r x (each_handle_map _ (λ r' x'. Good host live w3.below v3.below r' x') (handles_of rty l.answer.passed) (λ r' x' held. h3.lives held.0 k held.1 r' x' held.2) f.from.held) given;
            once = f.from.apart;
            away = λ m i r x hr given. by_place k (λ m'. Holds (set (set J3 k l.config) k c5 m').map i r x → ⊥)
                (λ a. f.from.gone i r x hr given (subst (λ c. Holds c.map i r x) here a))
                (λ m' d a. let gave = f.from.gave r x given in d (h3.once m' k i gave.0 r x hr (subst (λ c. Holds c.map i r x) (there m' d) a) (0, gave.1)).0) m;
            unguarded = λ r x hr u given. let gave = f.from.gave r x given in h3.apart k gave.0 r x hr u gave.1;
            locks = λ r hr m i e there_is n.
                locks_at host k J3 (set (set J3 k l.config) k c5) there
                (λ r' hr' i' e' is' n'. ap (λ c. entry_at c.map i') here ∙ f.lending.there (h3.sound r' hr' k) i' e' is' n' ∙ ap (λ xs. Some (relent e' (e'.lent + count i' xs))) plain ∙ ap (λ z. Some (relent e' z)) (omega arith)) r hr m i e (locks r hr m i e there_is n) n;
            less = λ m i r x. by_place k (λ m'. Has false (set (set J3 k l.config) k c5 m').map i r x → Has false (J m').map i r x)
                (λ a. let b = subst (λ c. Has false c.map i r x) (set_here (set J3 k l.config) k c5) a in absurd (unlent c5.map.entries i r x b.0 parts.1 b.1))
                (λ m' d a. less m' i r x d (subst (λ c. Has false c.map i r x) (there m' d) a)) m;
          }))

      mine : (b : Bool) → (J k).entered ≡ b → Similar D Replies (λ d. answers G p (runs G p d) Endless from (Mine k lifting) (passed_over one_of passed) w) (λ d. answers G q (runs G q d) Endless from (Mine k lifting) (passed_over two_of passed) v)
      mine true is =
          then_call D Replies _ _ w v
          (similar_stop D Replies _ _ _ _ w v
          (similar_on D Never k itself itself enter enter w v (enter (J k)) (ap enter (h.one k) ∙ enter_over one_of (J k)) (ap enter (h.two k) ∙ enter_over two_of (J k))
          (λ l e. shut_out (J k).entered _ l is e)))
      mine false is =
          let good : enter (J k) ≡ Some (done c1) = ap (λ b. also (not b) (Some (done c1))) is in
          let here1 : J1 k ≡ c1 = set_here J k c1 in
          then_call D Replies _ _ w v
          (then_on_some D Replies k itself itself enter enter _ _ w v (done c1)
          (ap enter (h.one k) ∙ enter_over one_of (J k) ∙ ap (option_map (local_over one_of itself)) good)
          (ap enter (h.two k) ∙ enter_over two_of (J k) ∙ ap (option_map (local_over two_of itself)) good)
          (similar_then D (LoweredIn G p q host live none idle U D k (borrowed G pairs k) hs J1) Replies _ _ _ _ w1 v1
          (similar_params G p q host live none idle U D k lifting.options (params_tuple lifting.ty) passed (borrowed G pairs k) borrow_one borrow_two J1 w1 v1 h1 fits2)
          (λ w2 args v2 args' lowered.
          let s2 = lowered.2 in
          let a2 = adds_is (borrowed G pairs k) hs (J1 k) lowered.0 lowered.1 in
          let F = add_all_from (borrowed G pairs k) hs (J1 k).map a2.0 a2.1 in
          let map2 : (s2.joint k).map ≡ a2.0.map = s2.map_is ∙ ap (λ c. c.map) (sym a2.2) in
          after_ran host live idle D U s2.joint Replies _ _ _ _ w2 v2
          (subst (λ z. Similar D (Ran {A = List CoreValue} host live idle U s2.joint) (λ d. runs G p d Endless k lifting.code (values_in 0 (core_params lifting.ty) args) w2) (λ d. runs G q d Endless k lifting.code (values_in 0 (core_params lifting.ty) z) v2)) s2.same
          (hyp k lifting.code (values_in 0 (core_params lifting.ty) args) U s2.joint w2 v2 s2.met))
          (λ w3 results v3 s3.
          then_on D Replies k (args_over one_of) (args_over two_of) (lifts most_results rty lifting.options (words results)) (lifts most_results rty lifting.options (words results)) _ _ w3 v3 (lifts most_results rty lifting.options (words results) (s3.joint k))
          (ap (lifts most_results rty lifting.options (words results)) (s3.met.one k) ∙ lifts_over one_of most_results rty lifting.options (words results) (s3.joint k))
          (ap (lifts most_results rty lifting.options (words results)) (s3.met.two k) ∙ lifts_over two_of most_results rty lifting.options (words results) (s3.joint k))
          (λ l e. replies results s3.joint w3 v3 s3.met
          (λ r hr m i x there n.
          let at1 = locks_same host k J J1 (set_there J k c1) (ap (λ c. c.map) here1) r hr m i x there n in
          let at2 = locks_at host k J1 s2.joint s2.others (λ r' hr' i' x' is' n'. ap (λ t. entry_at t i') map2 ∙ F.keeps.lent (h1.sound r' hr' k) i' x' is' n') r hr m i x at1 n in
          s3.locks r hr m i x at2 n)
          (λ m i r x d a. subst (λ c. Has false c.map i r x) (s2.others m d ∙ set_there J k c1 m d) (s3.less m i r x a))
          l (lifts_from host most_results rty lifting.options (words results) (s3.joint k) l e (met_once host live idle U s3.joint w3 v3 s3.met k) (met_clear host live idle U s3.joint w3 v3 s3.met k))
          (lends_nothing l.answer.loans && not (has_borrow (set s3.joint k l.config k).map)) refl)))))

    -- a call is answered
    pub similar_answers : (target : Target) → LeadsTo (Asks G from) target → is_of (params_tuple (type_of target)) passed.value ≡ true → PassesAll from (params_tuple (type_of target)) passed → IsPassing host live U J w.below v.below (handles_of (params_tuple (type_of target)) passed) →
        Similar D (λ w' a v' b. Replied host live idle answered U J (answer_tuple (type_of target)) w' a v' b) (λ d. answers G p (runs G p d) Endless from target (passed_over one_of passed) w) (λ d. answers G q (runs G q d) Endless from target (passed_over two_of passed) v)
    similar_answers (Mine k lifting) asked typed all pass = mine k lifting pass (J k).entered refl
    similar_answers (Theirs import) asked typed all pass = theirs import asked typed all pass

  -- an answered call is left
  pub similar_leaves : (D : ℕ) (due due' : Due) (U : Keep) (J : ℕ → Config Both) (w : World S) (v : World T) → Met host live (Owed idle answered due due') U J w v →
      Similar D (Ran {A = Unit {0}} host live idle U J) (λ d. leaves G p (runs G p d) Endless due w) (λ d. leaves G q (runs G q d) Endless due' v)
  similar_leaves D (Served k g flat) (Served k' g' flat') U J w v h =
      subst (λ z. Similar D (Ran {A = Unit {0}} host live idle U J) (λ d. leaves G p (runs G p d) Endless (Served k g flat) w) (λ d. leaves G q (runs G q d) Endless (Served z g' flat') v)) h.stands.1
      (subst (λ z. Similar D (Ran {A = Unit {0}} host live idle U J) (λ d. leaves G p (runs G p d) Endless (Served k g flat) w) (λ d. leaves G q (runs G q d) Endless (Served k z flat') v)) h.stands.2
      (subst (λ z. Similar D (Ran {A = Unit {0}} host live idle U J) (λ d. leaves G p (runs G p d) Endless (Served k g flat) w) (λ d. leaves G q (runs G q d) Endless (Served k g z) v)) h.stands.3
      (similar_weaken D (Exited G p q host live none idle U k J) _ _ _ (similar_exits G p q host live none idle U D k flat g.post J w v (met_stands host live _ idle U J w v h h.stands.0))
      (λ w' a v' b s. record {
        same = refl;
        joint = s.1.joint;
        met = s.1.met;
        locks = locks_same host k J s.1.joint s.1.others s.1.map_is;
        less = less_at k J s.1.joint s.1.others (λ i r x a. subst (λ t. Has false t i r x) s.1.map_is a);
      }))))
  similar_leaves D (Below due) (Below due') U J w v h =
      similar_below D (λ s a t b. Left host idle live w.below v.below s t) _ (p.leave Endless due) (q.leave Endless due') w v (rel.leaves D w.below due v.below due' h.stands)
      (λ s a t b k. record {
        same = refl;
        joint = J;
        met = record {
          one = h.one;
          two = h.two;
          stands = k.stands;
          lives = λ b m i r x held. same_good host live w.below s v.below t r x (h.lives b m i r x held) (λ hr l. k.stay r x hr l);
          once = h.once;
          guard = λ r x hr u. k.stay r x hr (h.guard r x hr u);
          apart = h.apart;
          lent = h.lent;
          sound = h.sound;
        };
        locks = λ r hr m i e is n. is;
        less = λ m i r x held. held;
      })
  similar_leaves D Nothing due' U J w v h = absurd h.stands
  similar_leaves D (Served k g flat) Nothing U J w v h = absurd h.stands
  similar_leaves D (Served k g flat) (Below due') U J w v h = absurd h.stands
  similar_leaves D (Below due) Nothing U J w v h = absurd h.stands
  similar_leaves D (Below due) (Served k g flat) U J w v h = absurd h.stands
