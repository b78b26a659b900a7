-- What holds of the instances of a group in two worlds, while a part of it runs.
use Rattle.std.proofs.Common.{◌≡◌, ◌≢◌, ℕ, ◌==◌, Option, Some, Bool, true, false, refl, sym, ◌∙◌, ap, subst}
use Rattle.std.specs.Option.{option_map}
use Rattle.handle_space.specs.HandleMap.{HandleMap}
use Rattle.comp_worlds.specs.Acts.{Act, ◌>>◌}
use Rattle.comp_worlds.specs.Groups.{Config, World}
use Rattle.comp_worlds.specs.Locals.{Local}
use Rattle.comp_worlds.specs.Calls.{pick, set, with_config, on}
use Rattle.comp_worlds.specs.Related.{Both, one_of, two_of, Good}
use Rattle.comp_worlds.proofs.Maps.{Has, Holds, Free, Sound, EachOnce}
use Rattle.comp_worlds.proofs.Natural.{config_over, local_over, itself}
use Rattle.comp_worlds.proofs.Similar.{Similar, similar_then, similar_weaken}
use Rattle.comp_worlds.proofs.Joint.{set_all, set_here, set_there, similar_on}

-- The pairs of handles that are kept for the part that runs: nothing that it does can give them away.
abbrev pub Keep : Type 1
Keep = ℕ → Both → Type 0

-- The instances are one up to what handles stand for: J. Each handle held is live, and held once; what is borrowed is kept
pub record Met {S T : Type 0} (host : ℕ → Bool) (live : S → T → ℕ → Both → Type 0) (below : S → T → Type 0) (U : Keep) (J : ℕ → Config Both) (w : World S) (v : World T) : Type 0 where
  pub one : (m : ℕ) → w.configs m ≡ config_over one_of (J m)
  pub two : (m : ℕ) → v.configs m ≡ config_over two_of (J m)
  pub stands : below w.below v.below
  pub lives : (b : Bool) (m i r : ℕ) (x : Both) → Has b (J m).map i r x → Good host live w.below v.below r x
  pub once : (m m' i i' r : ℕ) (x : Both) → host r ≡ true → Holds (J m).map i r x → Holds (J m').map i' r x → (m ≡ m') × (i ≡ i')
  pub guard : (r : ℕ) (x : Both) → host r ≡ true → U r x → live w.below v.below r x
  pub apart : (m i r : ℕ) (x : Both) → host r ≡ true → U r x → Free (J m).map i r x → ⊥
  pub lent : (m i r : ℕ) (x : Both) → host r ≡ true → Has false (J m).map i r x → U r x
  pub sound : (r : ℕ) → host r ≡ true → (m : ℕ) → Sound (J m).map

-- an instance that may stand at a place
pub record Fits {S T : Type 0} (host : ℕ → Bool) (live : S → T → ℕ → Both → Type 0) (U : Keep) (J : ℕ → Config Both) (s : S) (t : T) (k : ℕ) (c : Config Both) : Type 0 where
  pub lives : (b : Bool) (i r : ℕ) (x : Both) → Has b c.map i r x → Good host live s t r x
  pub once : EachOnce host c.map
  pub off : (m i i' r : ℕ) (x : Both) → host r ≡ true → m ≢ k → Holds (J m).map i r x → Holds c.map i' r x → ⊥
  pub apart : (i r : ℕ) (x : Both) → host r ≡ true → U r x → Free c.map i r x → ⊥
  pub lent : (i r : ℕ) (x : Both) → host r ≡ true → Has false c.map i r x → U r x
  pub sound : (r : ℕ) → host r ≡ true → Sound c.map

-- what is there was there
pub record Fewer {R : Type 0} (t t' : HandleMap R) : Type 0 where
  pub has : (b : Bool) (i r : ℕ) (x : R) → Has b t' i r x → Has b t i r x
  pub free : (i r : ℕ) (x : R) → Free t' i r x → Free t i r x
  pub sound : Sound t → Sound t'

pub none_fewer : {R : Type 0} → (t t' : HandleMap R) → t' ≡ t → Fewer t t'
none_fewer t t' e = record { has = λ b i r x h. subst (λ z. Has b z i r x) e h; free = λ i r x h. subst (λ z. Free z i r x) e h; sound = λ s. subst Sound (sym e) s }

-- only the instance k has changed, and has this table and these flags now
pub record Shut {S T A : Type 0} (host : ℕ → Bool) (live : S → T → ℕ → Both → Type 0) (below : S → T → Type 0) (U : Keep) (k : ℕ) (J : ℕ → Config Both) (t : HandleMap Both) (entered closed : Bool) (w : World S) (a : A) (v : World T) (b : A) : Type 0 where
  pub same : a ≡ b
  pub joint : ℕ → Config Both
  pub met : Met host live below U joint w v
  pub others : (m : ℕ) → m ≢ k → joint m ≡ J m
  pub map_is : (joint k).map ≡ t
  pub entered_is : (joint k).entered ≡ entered
  pub closed_is : (joint k).closed ≡ closed

module _ {S T : Type 0} (host : ℕ → Bool) (live : S → T → ℕ → Both → Type 0) where
  module _ (below : S → T → Type 0) (U : Keep) (J : ℕ → Config Both) (w : World S) (v : World T) (h : Met host live below U J w v) (k : ℕ) where
    pub met_set : (c : Config Both) (c1 c2 : Config ℕ) → c1 ≡ config_over one_of c → c2 ≡ config_over two_of c → Fits host live U J w.below v.below k c → Met host live below U (set J k c) (with_config w k c1) (with_config v k c2)
    met_set c c1 c2 e1 e2 f = record {
      one = λ m. over_set one_of w.configs c1 e1 h.one m;
      two = λ m. over_set two_of v.configs c2 e2 h.two m;
      stands = h.stands;
      lives = λ b m. set_all J k c (λ m' c'. (i r : ℕ) (x : Both) → Has b c'.map i r x → Good host live w.below v.below r x) (f.lives b) (λ m' d. h.lives b m') m;
      once = λ m m'. set_all J k c
          (λ n c'. (i i' r : ℕ) (x : Both) → host r ≡ true → Holds c'.map i r x → Holds (set J k c m').map i' r x → (n ≡ m') × (i ≡ i'))
          (set_all J k c (λ n' c'. (i i' r : ℕ) (x : Both) → host r ≡ true → Holds c.map i r x → Holds c'.map i' r x → (k ≡ n') × (i ≡ i'))
          (λ i i' r x hr a b. (refl, f.once i i' r x hr a b))
          (λ n' d i i' r x hr a b. absurd (f.off n' i' i r x hr d b a)) m')
          (λ n d. set_all J k c (λ n' c'. (i i' r : ℕ) (x : Both) → host r ≡ true → Holds (J n).map i r x → Holds c'.map i' r x → (n ≡ n') × (i ≡ i'))
          (λ i i' r x hr a b. absurd (f.off n i i' r x hr d a b))
          (λ n' d' i i' r x hr a b. h.once n n' i i' r x hr a b) m')
          m;
      guard = h.guard;
      apart = λ m. set_all J k c (λ m' c'. (i r : ℕ) (x : Both) → host r ≡ true → U r x → Free c'.map i r x → ⊥) f.apart (λ m' d. h.apart m') m;
      lent = λ m. set_all J k c (λ m' c'. (i r : ℕ) (x : Both) → host r ≡ true → Has false c'.map i r x → U r x) f.lent (λ m' d. h.lent m') m;
      sound = λ r hr m. set_all J k c (λ m' c'. Sound c'.map) (f.sound r hr) (λ m' d. h.sound r hr m') m;
    }
      where
        over_pick : {Q : Type 0} → (g : Both → Q) (b : Bool) (x y : Config Both) → pick b (config_over g x) (config_over g y) ≡ config_over g (pick b x y)
        over_pick g true x y = refl
        over_pick g false x y = refl

        over_set : (g : Both → ℕ) (configs : ℕ → Config ℕ) (c' : Config ℕ) → c' ≡ config_over g c → ((m : ℕ) → configs m ≡ config_over g (J m)) → (m : ℕ) → set configs k c' m ≡ config_over g (set J k c m)
        over_set g configs c' e each m = ap (λ z. pick (m == k) z (configs m)) e ∙ ap (pick (m == k) (config_over g c)) (each m) ∙ over_pick g (m == k) c (J m)

    pub fits_fewer : (c : Config Both) → Fewer (J k).map c.map → Fits host live U J w.below v.below k c
    fits_fewer c f = record {
      lives = λ b i r x a. h.lives b k i r x (f.has b i r x a);
      once = λ i i' r x hr a b. (h.once k k i i' r x hr (f.has true i r x a) (f.has true i' r x b)).1;
      off = λ m i i' r x hr d a b. d (h.once m k i i' r x hr a (f.has true i' r x b)).0;
      apart = λ i r x hr u a. h.apart k i r x hr u (f.free i r x a);
      lent = λ i r x hr a. h.lent k i r x hr (f.has false i r x a);
      sound = λ r hr. f.sound (h.sound r hr k);
    }

    -- the instance k becomes this one
    pub shut_set : {A : Type 0} → (a : A) (c : Config Both) (c1 c2 : Config ℕ) → c1 ≡ config_over one_of c → c2 ≡ config_over two_of c → Fits host live U J w.below v.below k c → Shut host live below U k J c.map c.entered c.closed (with_config w k c1) a (with_config v k c2) a
    shut_set a c c1 c2 e1 e2 f = record {
      same = refl;
      joint = set J k c;
      met = met_set c c1 c2 e1 e2 f;
      others = set_there J k c;
      map_is = ap (λ z. z.map) (set_here J k c);
      entered_is = ap (λ z. z.entered) (set_here J k c);
      closed_is = ap (λ z. z.closed) (set_here J k c);
    }

    -- an operation on the instance k that answers the same in both
    pub shut_on : {A : Type 0} → (D : ℕ) (one two : Config ℕ → Option (Local ℕ A)) (o : Option (Local Both A)) (t : HandleMap Both) (entered closed : Bool) →
        one (config_over one_of (J k)) ≡ option_map (local_over one_of itself) o → two (config_over two_of (J k)) ≡ option_map (local_over two_of itself) o →
        ((l : Local Both A) → o ≡ Some l → Fits host live U J w.below v.below k l.config × (l.config.map ≡ t) × (l.config.entered ≡ entered) × (l.config.closed ≡ closed)) →
        Similar D (Shut {A = A} host live below U k J t entered closed) (λ d. on k one w) (λ d. on k two v)
    shut_on D one two o t entered closed e1 e2 each =
        similar_on D _ k itself itself one two w v o (ap one (h.one k) ∙ e1) (ap two (h.two k) ∙ e2)
        (λ l is. let f = each l is in let s = shut_set l.answer l.config (config_over one_of l.config) (config_over two_of l.config) refl refl f.0 in record {
          same = refl;
          joint = s.joint;
          met = s.met;
          others = s.others;
          map_is = s.map_is ∙ f.1;
          entered_is = s.entered_is ∙ f.2;
          closed_is = s.closed_is ∙ f.3;
        })

  -- a change of one instance, and then another
  pub then_shut : {A B : Type 0} → (D : ℕ) (below : S → T → Type 0) (U : Keep) (k : ℕ) (J : ℕ → Config Both) (t t' : HandleMap Both) (e e' c c' : Bool) (x : ℕ → Act (World S) A) (go : ℕ → A → Act (World S) B) (y : ℕ → Act (World T) A) (go' : ℕ → A → Act (World T) B) (w : World S) (v : World T) →
      Similar D (Shut host live below U k J t e c) (λ d. x d w) (λ d. y d v) →
      ((w' : World S) (a : A) (v' : World T) → (s : Shut host live below U k J t e c w' a v' a) → Similar D (Shut host live below U k s.joint t' e' c') (λ d. go d a w') (λ d. go' d a v')) →
      Similar D (Shut host live below U k J t' e' c') (λ d. (x d >> go d) w) (λ d. (y d >> go' d) v)
  then_shut D below U k J t t' e e' c c' x go y go' w v first each =
      similar_then D (Shut host live below U k J t e c) (Shut host live below U k J t' e' c') x go y go' w v first
      (λ w' a v' b s. subst (λ z. Similar D (Shut host live below U k J t' e' c') (λ d. go d a w') (λ d. go' d z v')) s.same
      (similar_weaken D (Shut host live below U k s.joint t' e' c') (Shut host live below U k J t' e' c') _ _
      (each w' a v' (record { same = refl; joint = s.joint; met = s.met; others = s.others; map_is = s.map_is; entered_is = s.entered_is; closed_is = s.closed_is }))
      (λ w'' a' v'' b' r. record { same = r.same; joint = r.joint; met = r.met; others = λ m d. r.others m d ∙ s.others m d; map_is = r.map_is; entered_is = r.entered_is; closed_is = r.closed_is })))

  -- a change of one instance, and then anything
  pub after_shut : {A B C : Type 0} → (D : ℕ) (below : S → T → Type 0) (U : Keep) (k : ℕ) (J : ℕ → Config Both) (t : HandleMap Both) (e c : Bool) (Q : World S → B → World T → C → Type 0) (x : ℕ → Act (World S) A) (go : ℕ → A → Act (World S) B) (y : ℕ → Act (World T) A) (go' : ℕ → A → Act (World T) C) (w : World S) (v : World T) →
      Similar D (Shut host live below U k J t e c) (λ d. x d w) (λ d. y d v) →
      ((w' : World S) (a : A) (v' : World T) → (s : Shut host live below U k J t e c w' a v' a) → Similar D Q (λ d. go d a w') (λ d. go' d a v')) →
      Similar D Q (λ d. (x d >> go d) w) (λ d. (y d >> go' d) v)
  after_shut D below U k J t e c Q x go y go' w v first each =
      similar_then D (Shut host live below U k J t e c) Q x go y go' w v first
      (λ w' a v' b s. subst (λ z. Similar D Q (λ d. go d a w') (λ d. go' d z v')) s.same
      (each w' a v' (record { same = refl; joint = s.joint; met = s.met; others = s.others; map_is = s.map_is; entered_is = s.entered_is; closed_is = s.closed_is })))
