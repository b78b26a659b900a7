-- What runs in a closed instance: core code of its own, which reads numbers of its own handles, and nothing else.
use Rattle.std.proofs.Common.{◌≡◌, ℕ, zero, suc, ◌+◌, List, [], ◌∷◌, ◌++◌, Option, Some, None, Bool, true, false, not, map, slice_index, refl, sym, ◌∙◌, ap, subst}
use Rattle.std.specs.Option.{option_map}
use Rattle.std.proofs.lemmas.Bool.{eqb-true}
use Rattle.core_memory.specs.Number.{bytes_of}
use Rattle.core_store.specs.State.{State}
use Rattle.core_store.specs.declared.value.CoreValue.{CoreValue}
use Rattle.core_store.specs.declared.value.CoreValue.TheVariants as values
use Rattle.core_store.specs.Words.{words}
use Rattle.core_store.specs.Config.{Reply}
use Rattle.abi_layout.specs.Storing.{Step, Ask, Write, Place, Refuse, Lowered}
use Rattle.handle_space.specs.HandleMap.{HandleMap, rep_of}
use Rattle.comp_worlds.specs.Acts.{◌>>◌, gives}
use Rattle.comp_worlds.specs.Groups.{Endless, store_at, Options, Func, LoweredFunc, ResourceNew, ResourceDrop, ResourceRep, Owner, Group, Config, World, Ports}
use Rattle.comp_worlds.specs.Locals.{Local, gives_in, done, also, with_store, is_open, exit, close, reopen, is_granted, with_bytes, writes, base_of, flat_word, only_one, Numbers, one_word, makes, reads, removes}
use Rattle.comp_worlds.specs.Calls.{on, Pause, Finished, Question, Run, owned_by, owns, plainly, asks_for, stores, lowers_closed, post_returns, performs, goes_on, drives, runs}
use Rattle.comp_worlds.specs.Related.{Both, one_of, two_of, OwnsNone}
use Rattle.comp_worlds.proofs.Maps.{and_then_is, map_is, some_is}
use Rattle.comp_worlds.proofs.Natural.{config_over, local_over, itself, pairs, is_open_over, is_granted_over, writes_over, makes_over, reads_over, removes_over}
use Rattle.comp_worlds.proofs.Similar.{Similar, similar_then, similar_weaken, similar_gives, similar_spent, similar_deeper, similar_more, then_call, similar_traps, Never, similar_stop}
use Rattle.comp_worlds.proofs.Joint.{similar_on, similar_core, similar_store}
use Rattle.comp_worlds.proofs.Meeting.{Keep, Met, Fits, none_fewer, Shut, shut_set, shut_on, fits_fewer, then_shut}

pub also_is : {A : Type 0} → (b : Bool) (o : Option A) (a : A) → also b o ≡ Some a → (b ≡ true) × (o ≡ Some a)
also_is true o a h = (refl, h)
also_is false o a h = absurd (let q : None ≡ Some a = h in cc)

pub shut_out : {A : Type 0} → (c : Bool) (o : Option A) (a : A) → c ≡ true → also (not c) o ≡ Some a → ⊥
shut_out true o a e h = let q : None ≡ Some a = h in cc
shut_out false o a e h = cc

reads_stays : {R : Type 0} → (ns : Numbers R) (own : Bool) (r : ℕ) (args : List ℕ) (c : Config R) (l : Local R (List ℕ)) → reads ns own r args c ≡ Some l → l.config ≡ c
reads_stays {R} ns own r args c l h =
    let a = also_is own _ l h in
    let b = and_then_is (λ i. option_map (λ x. one_word c (ns.number x)) (rep_of c.map i r)) (only_one args) l a.1 in
    let d = map_is (λ x. one_word c (ns.number x)) (rep_of c.map b.0 r) l b.2 in
    sym (ap (λ z. z.config) d.2)

writes_stays : {R : Type 0} → (options : Options) (at : ℕ) (bytes : List ℕ) (c : Config R) (l : Local R (Unit {0})) → writes options at bytes c ≡ Some l → (s : State) × (l.config ≡ with_store c s)
writes_stays options at bytes c l h =
    let d = map_is (λ memory. done (with_store c (with_bytes c.store memory at bytes))) options.memory l h in
    (with_bytes c.store d.0 at bytes, sym (ap (λ z. z.config) d.2))

granted_stays : {R : Type 0} → (options : Options) (align len : ℕ) (results : List ℕ) (c : Config R) (l : Local R ℕ) → is_granted options align len results c ≡ Some l → l.config ≡ c
granted_stays options align len results c l h =
    let b = and_then_is _ (only_one results) l h in
    let a = also_is _ (Some (gives_in b.0 c)) l b.2 in
    sym (ap (λ z. z.config) (some_is (gives_in b.0 c) l a.1))

-- the instance k is closed, and has this map
pub record IsClosed (k : ℕ) (J : ℕ → Config Both) (t : HandleMap Both) (entered : Bool) : Type 0 where
  pub map_is : (J k).map ≡ t
  pub entered_is : (J k).entered ≡ entered
  pub closed_is : (J k).closed ≡ true

pub owned : (o : Option Owner) (k : ℕ) → owned_by o k ≡ true → (x : Owner) × (o ≡ Some x) × (x.instance ≡ k)
owned None k e = absurd (cc)
owned (Some x) k e = (x, refl, eqb-true x.instance k e)

pub own_none : (host : ℕ → Bool) (G : Group) → OwnsNone host G → (k r : ℕ) → owns G k r ≡ true → host r ≡ false
own_none host G none k r own = let x = owned (G.owner r) k own in none r x.0 x.1

module _ {S T : Type 0} (G : Group) (p : Ports S) (q : Ports T) (host : ℕ → Bool) (live : S → T → ℕ → Both → Type 0) (none : OwnsNone host G) where
  reads_two : (below : S → T → Type 0) (U : Keep) (J : ℕ → Config Both) (w : World S) (v : World T) → Met host live below U J w v → (k r : ℕ) (args : List ℕ) → reads plainly (owns G k r) r args (config_over two_of (J k)) ≡ option_map (local_over two_of itself) (reads pairs (owns G k r) r args (J k))
  reads_two below U J w v h k r args = reads_over two_of pairs plainly (owns G k r) r args (J k) (λ b i x own has. sym ((h.lives b k i r x has).equal (own_none host G none k r own)))

  reads_one : (J : ℕ → Config Both) (k r : ℕ) (args : List ℕ) → reads plainly (owns G k r) r args (config_over one_of (J k)) ≡ option_map (local_over one_of itself) (reads pairs (owns G k r) r args (J k))
  reads_one J k r args = reads_over one_of pairs plainly (owns G k r) r args (J k) (λ b i x own has. refl)

  module _ (below : S → T → Type 0) (U : Keep) where
    -- a number of an own handle is read, and nothing changes
    pub similar_reads : (D : ℕ) (J : ℕ → Config Both) (w : World S) (v : World T) → Met host live below U J w v → (k r : ℕ) (args : List ℕ) →
        Similar D (Shut host live below U k J (J k).map (J k).entered (J k).closed) (λ d. on k (reads plainly (owns G k r) r args) w) (λ d. on k (reads plainly (owns G k r) r args) v)
    similar_reads D J w v h k r args =
        shut_on host live below U J w v h k D (reads plainly (owns G k r) r args) (reads plainly (owns G k r) r args) (reads pairs (owns G k r) r args (J k)) (J k).map (J k).entered (J k).closed
        (reads_one J k r args) (reads_two below U J w v h k r args)
        (λ l is. let e = reads_stays pairs (owns G k r) r args (J k) l is in
        (fits_fewer host live below U J w v h k l.config (none_fewer (J k).map l.config.map (ap (λ c. c.map) e)), ap (λ c. c.map) e, ap (λ c. c.entered) e, ap (λ c. c.closed) e))

    module _ (k : ℕ) (t : HandleMap Both) (entered : Bool) where
      abbrev Stays : {A : Type 0} → (ℕ → Config Both) → World S → A → World T → A → Type 0
      Stays J w a v b = Shut host live below U k J t entered true w a v b

      stays_as : {A : Type 0} → (D : ℕ) (J : ℕ → Config Both) → IsClosed k J t entered → (x : ℕ → ℕ → _) (y : ℕ → ℕ → _) → Similar D (Shut {A = A} host live below U k J (J k).map (J k).entered (J k).closed) x y → Similar D (Stays {A = A} J) x y
      stays_as D J is x y h = similar_weaken D _ _ x y h (λ w a v b s. record { same = s.same; joint = s.joint; met = s.met; others = s.others; map_is = s.map_is ∙ is.map_is; entered_is = s.entered_is ∙ is.entered_is; closed_is = s.closed_is ∙ is.closed_is })

      still_closed : {A : Type 0} → (J : ℕ → Config Both) (w : World S) (a : A) (v : World T) (b : A) → (s : Stays J w a v b) → IsClosed k s.joint t entered
      still_closed J w a v b s = record { map_is = s.map_is; entered_is = s.entered_is; closed_is = s.closed_is }

      -- nothing changes
      stays_done : {A : Type 0} → (D : ℕ) (J : ℕ → Config Both) (w : World S) (v : World T) → Met host live below U J w v → IsClosed k J t entered → (a : A) → Similar D (Stays J) (λ d. gives a w) (λ d. gives a v)
      stays_done D J w v h is a = similar_gives D _ a a w v (record { same = refl; joint = J; met = h; others = λ m d. refl; map_is = is.map_is; entered_is = is.entered_is; closed_is = is.closed_is })

      closed_performs : (D : ℕ) (run : ℕ → Run S) (run' : ℕ → Run T) (args : List ℕ) (f : Option Func) (J : ℕ → Config Both) (w : World S) (v : World T) → Met host live below U J w v → IsClosed k J t entered →
          Similar D (Stays {A = List CoreValue} J) (λ d. performs G p (run d) Endless k args f w) (λ d. performs G q (run' d) Endless k args f v)
      closed_performs D run run' args None J w v h is = similar_traps D _ w v
      closed_performs D run run' args (Some (LoweredFunc target options)) J w v h is =
          similar_stop D _ _ _ _ _ w v
          (similar_on D Never k itself itself is_open is_open w v (is_open (J k)) (ap is_open (h.one k) ∙ is_open_over one_of (J k)) (ap is_open (h.two k) ∙ is_open_over two_of (J k))
          (λ l e. shut_out (J k).closed (Some (done (J k))) l is.closed_is e))
      closed_performs D run run' args (Some (ResourceNew r)) J w v h is =
          similar_stop D _ _ _ _ _ w v
          (similar_on D Never k itself itself (makes plainly (owns G k r) r args) (makes plainly (owns G k r) r args) w v (makes pairs (owns G k r) r args (J k))
          (ap (makes plainly (owns G k r) r args) (h.one k) ∙ makes_over one_of pairs plainly (λ n. refl) (owns G k r) r args (J k))
          (ap (makes plainly (owns G k r) r args) (h.two k) ∙ makes_over two_of pairs plainly (λ n. refl) (owns G k r) r args (J k))
          (λ l e. shut_out (J k).closed _ l is.closed_is (also_is (owns G k r) _ l e).1))
      closed_performs D run run' args (Some (ResourceDrop r)) J w v h is =
          similar_stop D _ _ _ _ _ w v
          (similar_on D Never k (option_map one_of) (option_map two_of) (removes r args) (removes r args) w v (removes r args (J k))
          (ap (removes r args) (h.one k) ∙ removes_over one_of r args (J k)) (ap (removes r args) (h.two k) ∙ removes_over two_of r args (J k))
          (λ l e. shut_out (J k).closed _ l is.closed_is e))
      closed_performs D run run' args (Some (ResourceRep r)) J w v h is =
          then_shut host live D below U k J t t entered entered true true _ _ _ _ w v
          (stays_as D J is _ _ (similar_reads D J w v h k r args))
          (λ w' ws v' s. stays_done D s.joint w' v' s.met (still_closed J w' ws v' ws s) (map values.I32 ws))

      closed_drives : (D : ℕ) (f : ℕ) (args : List CoreValue) (store : State) (replies : List Reply) (J : ℕ → Config Both) (w : World S) (v : World T) → Met host live below U J w v → IsClosed k J t entered →
          Similar D (Stays {A = List CoreValue} J) (λ d. drives G p d Endless k f args store replies w) (λ d. drives G q d Endless k f args store replies v)
      closed_drives zero f args store replies J w v h is = similar_spent zero (Stays J) _ _ w v refl refl
      closed_drives (suc D) f args store replies J w v h is =
          similar_deeper D (Stays J) _ _
          (then_shut host live D below U k J t t entered entered true true _ _ _ _ w v
          (similar_core D (Stays J) k store f args replies w v (λ s pause.
          let c = with_store (J k) s in
          let m = shut_set host live below U J w v h k pause c (with_store (w.configs k) s) (with_store (v.configs k) s) (ap (λ z. with_store z s) (h.one k)) (ap (λ z. with_store z s) (h.two k)) (fits_fewer host live below U J w v h k c (none_fewer (J k).map c.map refl)) in
          record { same = refl; joint = m.joint; met = m.met; others = m.others; map_is = m.map_is ∙ is.map_is; entered_is = m.entered_is ∙ is.entered_is; closed_is = m.closed_is ∙ is.closed_is }))
          (λ w' pause v' s. at (λ replies' J'' w'' v'' h'' is''. closed_drives D f args store replies' J'' w'' v'' h'' is'') pause s.joint w' v' s.met (still_closed J w' pause v' pause s)))
        where
          at : ((replies' : List Reply) (J'' : ℕ → Config Both) (w'' : World S) (v'' : World T) → Met host live below U J'' w'' v'' → IsClosed k J'' t entered → Similar D (Stays {A = List CoreValue} J'') (λ d. drives G p d Endless k f args store replies' w'') (λ d. drives G q d Endless k f args store replies' v'')) →
              (pause : Pause) (J' : ℕ → Config Both) (w' : World S) (v' : World T) → Met host live below U J' w' v' → IsClosed k J' t entered →
              Similar D (Stays {A = List CoreValue} J') (λ d. goes_on G p (runs G p d) (λ reply. drives G p d Endless k f args store (replies ++ reply ∷ [])) Endless k pause w') (λ d. goes_on G q (runs G q d) (λ reply. drives G q d Endless k f args store (replies ++ reply ∷ [])) Endless k pause v')
          at again (Finished results) J' w' v' h' is' = stays_done D J' w' v' h' is' results
          at again (Question number asked now used) J' w' v' h' is' =
              then_call D _ _ _ w' v'
              (then_shut host live D below U k J' t t entered entered true true _ _ _ _ w' v'
              (closed_performs D (λ d. runs G p d) (λ d. runs G q d) (words asked) (G.canons k number) J' w' v' h' is')
              (λ w'' results v'' s. similar_store D _ k _ _ w'' v'' (s.joint k).store (ap (λ c. c.store) (s.met.one k)) (ap (λ c. c.store) (s.met.two k))
              (similar_more D _ used _ _ w'' v''
              (again (replies ++ record { results = results; store = record (store_at Endless (s.joint k).store) { nesting = now } } ∷ []) s.joint w'' v'' s.met (still_closed J' w'' results v'' results s)))))

      pub closed_runs : (D : ℕ) (f : ℕ) (args : List CoreValue) (J : ℕ → Config Both) (w : World S) (v : World T) → Met host live below U J w v → IsClosed k J t entered →
          Similar D (Stays {A = List CoreValue} J) (λ d. runs G p d Endless k f args w) (λ d. runs G q d Endless k f args v)
      closed_runs D f args J w v h is =
          similar_store D _ k _ _ w v (J k).store (ap (λ c. c.store) (h.one k)) (ap (λ c. c.store) (h.two k)) (closed_drives D f args (store_at Endless (J k).store) [] J w v h is)

      closed_asks : (D : ℕ) (f : Option ℕ) (align len : ℕ) (J : ℕ → Config Both) (w : World S) (v : World T) → Met host live below U J w v → IsClosed k J t entered →
          Similar D (Stays {A = List CoreValue} J) (λ d. asks_for G p (runs G p d) Endless k f align len w) (λ d. asks_for G q (runs G q d) Endless k f align len v)
      closed_asks D None align len J w v h is = similar_traps D _ w v
      closed_asks D (Some f) align len J w v h is = then_call D _ _ _ w v (closed_runs D f _ J w v h is)

      -- bytes are written
      closed_writes : (D : ℕ) (options : Options) (at : ℕ) (bytes : List ℕ) (J : ℕ → Config Both) (w : World S) (v : World T) → Met host live below U J w v → IsClosed k J t entered →
          Similar D (Stays {A = Unit {0}} J) (λ d. on k (writes options at bytes) w) (λ d. on k (writes options at bytes) v)
      closed_writes D options at bytes J w v h is =
          shut_on host live below U J w v h k D (writes options at bytes) (writes options at bytes) (writes options at bytes (J k)) t entered true (writes_over one_of options at bytes (J k)) (writes_over two_of options at bytes (J k))
          (λ l e. let r = writes_stays options at bytes (J k) l e in
          (fits_fewer host live below U J w v h k l.config (none_fewer (J k).map l.config.map (ap (λ c. c.map) r.1)), ap (λ c. c.map) r.1 ∙ is.map_is, ap (λ c. c.entered) r.1 ∙ is.entered_is, ap (λ c. c.closed) r.1 ∙ is.closed_is))

      -- the steps of storing
      closed_stores : (D : ℕ) (options : Options) (target : ℕ) (steps : List Step) (answers : List ℕ) (J : ℕ → Config Both) (w : World S) (v : World T) → Met host live below U J w v → IsClosed k J t entered →
          Similar D (Stays {A = List ℕ} J) (λ d. stores G p (runs G p d) Endless k options target answers steps w) (λ d. stores G q (runs G q d) Endless k options target answers steps v)
      closed_stores D options target [] answers J w v h is = stays_done D J w v h is answers
      closed_stores D options target (Ask align len ∷ steps) answers J w v h is =
          then_shut host live D below U k J t t entered entered true true _ _ _ _ w v (closed_asks D options.realloc align len J w v h is)
          (λ w1 results v1 s1.
          then_shut host live D below U k s1.joint t t entered entered true true _ _ _ _ w1 v1
          (shut_on host live below U s1.joint w1 v1 s1.met k D (is_granted options align len (words results)) (is_granted options align len (words results)) (is_granted options align len (words results) (s1.joint k)) t entered true
          (is_granted_over one_of options align len (words results) (s1.joint k)) (is_granted_over two_of options align len (words results) (s1.joint k))
          (λ l e. let r = granted_stays options align len (words results) (s1.joint k) l e in
          (fits_fewer host live below U s1.joint w1 v1 s1.met k l.config (none_fewer (s1.joint k).map l.config.map (ap (λ c. c.map) r)), ap (λ c. c.map) r ∙ s1.map_is, ap (λ c. c.entered) r ∙ s1.entered_is, ap (λ c. c.closed) r ∙ s1.closed_is)))
          (λ w2 at v2 s2. closed_stores D options target steps (answers ++ at ∷ []) s2.joint w2 v2 s2.met (still_closed s1.joint w2 at v2 at s2)))
      closed_stores D options target (Write base offset bytes ∷ steps) answers J w v h is =
          then_shut host live D below U k J t t entered entered true true _ _ _ _ w v (closed_writes D options (base_of target answers base + offset) bytes J w v h is)
          (λ w1 x v1 s1. closed_stores D options target steps answers s1.joint w1 v1 s1.met (still_closed J w1 x v1 x s1))
      closed_stores D options target (Place base offset request ∷ steps) answers J w v h is =
          then_shut host live D below U k J t t entered entered true true _ _ _ _ w v (closed_writes D options (base_of target answers base + offset) (bytes_of 4 (slice_index answers request)) J w v h is)
          (λ w1 x v1 s1. closed_stores D options target steps answers s1.joint w1 v1 s1.met (still_closed J w1 x v1 x s1))
      closed_stores D options target (Refuse ∷ steps) answers J w v h is = similar_traps D _ w v

    -- nothing more is done
    pub shut_done : {A : Type 0} → (D k : ℕ) (J : ℕ → Config Both) (t : HandleMap Both) (entered closed : Bool) (w : World S) (v : World T) → Met host live below U J w v → (J k).map ≡ t → (J k).entered ≡ entered → (J k).closed ≡ closed → (a : A) → Similar D (Shut host live below U k J t entered closed) (λ d. gives a w) (λ d. gives a v)
    shut_done D k J t entered closed w v h e1 e2 e3 a = similar_gives D _ a a w v (record { same = refl; joint = J; met = h; others = λ m d. refl; map_is = e1; entered_is = e2; closed_is = e3 })

    similar_reopen : (D k : ℕ) (J : ℕ → Config Both) (t : HandleMap Both) (e : Bool) (w : World S) (v : World T) → (h : Met host live below U J w v) → (J k).map ≡ t → (J k).entered ≡ e → Similar D (Shut host live below U k J t e false) (λ d. on k reopen w) (λ d. on k reopen v)
    similar_reopen D k J t e w v h e1 e2 =
        shut_on host live below U J w v h k D reopen reopen (reopen (J k)) t e false refl refl
        (λ l is. subst (λ z. Fits host live U J w.below v.below k z.config × (z.config.map ≡ t) × (z.config.entered ≡ e) × (z.config.closed ≡ false)) (some_is _ l is)
        (fits_fewer host live below U J w v h k _ (none_fewer _ _ refl), e1, e2, refl))

    similar_close : (D k : ℕ) (J : ℕ → Config Both) (t : HandleMap Both) (e : Bool) (w : World S) (v : World T) → (h : Met host live below U J w v) → (J k).map ≡ t → (J k).entered ≡ e → Similar D (Shut host live below U k J t e true) (λ d. on k close w) (λ d. on k close v)
    similar_close D k J t e w v h e1 e2 =
        shut_on host live below U J w v h k D close close (close (J k)) t e true refl refl
        (λ l is. subst (λ z. Fits host live U J w.below v.below k z.config × (z.config.map ≡ t) × (z.config.entered ≡ e) × (z.config.closed ≡ true)) (some_is _ l is)
        (fits_fewer host live below U J w v h k _ (none_fewer _ _ refl), e1, e2, refl))

    -- values are stored
    pub similar_closed : (D k : ℕ) (options : Options) (target : ℕ) (lowered : Lowered) (J : ℕ → Config Both) (t : HandleMap Both) (e : Bool) (w : World S) (v : World T) → (h : Met host live below U J w v) → (J k).map ≡ t → (J k).entered ≡ e →
        Similar D (Shut {A = List ℕ} host live below U k J t e false) (λ d. lowers_closed G p (runs G p d) Endless k options target lowered w) (λ d. lowers_closed G q (runs G q d) Endless k options target lowered v)
    similar_closed D k options target lowered J t e w v h e1 e2 =
        then_shut host live D below U k J t t e e true false _ _ _ _ w v (similar_close D k J t e w v h e1 e2)
        (λ w2 x v2 s2.
        then_shut host live D below U k s2.joint t t e e true false _ _ _ _ w2 v2
        (closed_stores k t e D options target lowered.steps [] s2.joint w2 v2 s2.met (record { map_is = s2.map_is; entered_is = s2.entered_is; closed_is = s2.closed_is }))
        (λ w3 answers v3 s3.
        then_shut host live D below U k s3.joint t t e e false false _ _ _ _ w3 v3 (similar_reopen D k s3.joint t e w3 v3 s3.met s3.map_is s3.entered_is)
        (λ w4 y v4 s4. shut_done D k s4.joint t e false w4 v4 s4.met s4.map_is s4.entered_is s4.closed_is (map (flat_word answers) lowered.flats))))

    -- only the instance k has changed: it is closed or open, and not entered
    abbrev pub Exited : ℕ → (ℕ → Config Both) → World S → Unit {0} → World T → Unit {0} → Type 0
    Exited k J w a v b = (closed : Bool) × Shut host live below U k J (J k).map false closed w a v b

    pub similar_exit : (D k : ℕ) (J : ℕ → Config Both) (w : World S) (v : World T) → (h : Met host live below U J w v) → Similar D (Exited k J) (λ d. on k exit w) (λ d. on k exit v)
    similar_exit D k J w v h =
        similar_weaken D _ _ _ _
        (shut_on host live below U J w v h k D exit exit (exit (J k)) (J k).map false (J k).closed refl refl
        (λ l is. subst (λ z. Fits host live U J w.below v.below k z.config × (z.config.map ≡ (J k).map) × (z.config.entered ≡ false) × (z.config.closed ≡ (J k).closed)) (some_is _ l is)
        (fits_fewer host live below U J w v h k _ (none_fewer _ _ refl), refl, refl, refl)))
        (λ w' a v' b s. ((J k).closed, s))

    exit_after : (D k : ℕ) (J : ℕ → Config Both) (e c : Bool) (w : World S) (a : Unit {0}) (v : World T) (b : Unit {0}) → Shut host live below U k J (J k).map e c w a v b → Similar D (Exited k J) (λ d. on k exit w) (λ d. on k exit v)
    exit_after D k J e c w a v b s =
        similar_weaken D (Exited k s.joint) (Exited k J) _ _ (similar_exit D k s.joint w v s.met)
        (λ w' a' v' b' r. (r.0, record { same = r.1.same; joint = r.1.joint; met = r.1.met; others = λ m d. r.1.others m d ∙ s.others m d; map_is = r.1.map_is ∙ s.map_is; entered_is = r.1.entered_is; closed_is = r.1.closed_is }))

    -- the post-return, and the end of a call
    pub similar_exits : (D k : ℕ) (results : List CoreValue) (post : Option ℕ) (J : ℕ → Config Both) (w : World S) (v : World T) → (h : Met host live below U J w v) → Similar D (Exited k J) (λ d. (post_returns G p (runs G p d) Endless k results post >> λ _. on k exit) w) (λ d. (post_returns G q (runs G q d) Endless k results post >> λ _. on k exit) v)
    similar_exits D k results None J w v h =
        similar_then D (Shut host live below U k J (J k).map (J k).entered (J k).closed) (Exited k J) _ _ _ _ w v (shut_done D k J (J k).map (J k).entered (J k).closed w v h refl refl refl tt)
        (λ w1 a v1 b s. exit_after D k J (J k).entered (J k).closed w1 a v1 b s)
    similar_exits D k results (Some f) J w v h =
        let t = (J k).map in
        let e = (J k).entered in
        similar_then D (Shut host live below U k J t e false) (Exited k J) _ _ _ _ w v
        (then_call D _ _ _ w v
        (then_shut host live D below U k J t t e e true false _ _ _ _ w v (similar_close D k J t e w v h refl refl)
        (λ w1 x v1 s1.
        then_shut host live D below U k s1.joint t t e e true false _ _ _ _ w1 v1
        (closed_runs k t e D f results s1.joint w1 v1 s1.met (record { map_is = s1.map_is; entered_is = s1.entered_is; closed_is = s1.closed_is }))
        (λ w2 y v2 s2. similar_reopen D k s2.joint t e w2 v2 s2.met s2.map_is s2.entered_is))))
        (λ w3 a v3 b s. exit_after D k J e false w3 a v3 b s)
