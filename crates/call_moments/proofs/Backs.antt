-- Results come back to the innermost code.
use Rattle.std.proofs.Common.{◌++◌, ◌≡◌, ℕ, ◌==◌, List, [], ◌∷◌, Bool, true, false, refl, sym, ap, ◌∙◌, subst, arith}
use Rattle.std.proofs.Math.Path.{fun_ext}
use Rattle.std.proofs.lemmas.Bool.Decides.{nat_tests}
use Rattle.core_store.specs.State.{State}
use Rattle.core_store.specs.declared.value.CoreValue.{CoreValue}
use Rattle.core_store.specs.Scene.{CameBack}
use Rattle.instance_state.specs.declared.calls.CoreCall.{CoreCall}
use Rattle.core_interp.specs.Session.{resumed}
use Rattle.host_port.specs.Hosts.{HostStep}
use Rattle.comp_worlds.specs.Acts.{Out, then_do, Act, ◌>>◌}
use Rattle.comp_worlds.specs.Groups.{store_at, Group, World}
use Rattle.comp_worlds.specs.Calls.{pick, store_of}
use Rattle.comp_worlds.specs.Hosts.{hosted}
use Rattle.comp_frames.specs.Pausing.{IsRunBy}
use Rattle.comp_frames.specs.Frames.{Awaiting, instance_in, comes_back, gets, resumes, ends_in}
use Rattle.comp_frames.specs.Frames as defined
use Rattle.call_moments.specs.declared.frame.Frame.{Frame}
use Rattle.call_moments.specs.CodeLaws.{nested, HasResults}
use Rattle.call_moments.proofs.Coding.{code_gets_results}
use Rattle.call_moments.specs.Shown.{purpose_of}
use Rattle.call_moments.specs.Standing.{Calls, with_calls, with_store, Stands, AllStand}
use Rattle.call_moments.specs.FrameLaws.{ResultsComeBack, CodeBeginsInside}

here : (k : ℕ) → (k == k) ≡ true
here k = grind (arith, nat_tests)

pick_twice : {A : Type 0} (b : Bool) (x y z : A) → pick b x (pick b y z) ≡ pick b x z
pick_twice true x y z = refl
pick_twice false x y z = refl

calls_twice : (calls : Calls) (k : ℕ) (cs ds : List CoreCall) → with_calls (with_calls calls k cs) k ds ≡ with_calls calls k ds
calls_twice calls k cs ds = fun_ext (λ m. pick_twice (m == k) ds cs (calls m))

module _ {S : Type 0} (h : HostStep S) (G : Group) (stores : ℕ → State) (k nesting : ℕ) where
  -- the store of one instance has another number of calls in progress
  abbrev after : ℕ → State
  after = with_store stores k (record (stores k) { nesting = nesting })

  same_back : (m x : ℕ) (b : Bool) (since : State) → (m == k) ≡ b → CameBack since (record (stores m) { nesting = x }) → CameBack since (record (pick b (record (stores k) { nesting = nesting }) (stores m)) { nesting = x })
  same_back m x true since e back = let same : m ≡ k = grind (arith, nat_tests) in subst (λ j. CameBack since (record (stores j) { nesting = x })) same back
  same_back m x false since e back = back

  stands_on : (f : Frame) (c : CoreCall) (a : Awaiting S) → Stands h G stores f c a → Stands h G after f c a
  stands_on f c a s = record {
    instance = s.instance;
    purpose = s.purpose;
    now = s.now;
    begun = s.begun;
    since = s.since;
    resumes = s.resumes;
    back = same_back f.instance c.nesting (f.instance == k) s.since refl s.back;
  }

  all_stand : (calls : Calls) (fs : List Frame) (waiting : List (Awaiting S)) → AllStand h G stores calls fs waiting → AllStand h G after calls fs waiting
  all_stand calls [] [] s = s
  all_stand calls [] (a ∷ waiting) s = s
  all_stand calls (f ∷ fs) [] s = s
  all_stand calls (f ∷ fs) (a ∷ waiting) s = (s.0, s.1, s.2, stands_on f s.1 a s.3, all_stand (with_calls calls f.instance s.0) fs waiting s.4)

module _ {S : Type 0} (h : HostStep S) (G : Group) where
  -- the frame's own names for what awaits
  come_back_at : (d : ℕ) (a : Awaiting S) (waiting : List (Awaiting S)) (k now : ℕ) (purpose : defined.Purpose) (results : List CoreValue) (code : Act (World S) (List CoreValue)) (w : World S) (n : ℕ) →
      gets G (hosted h) (nested d) a results w n ≡ code w n → a.instance ≡ k → a.purpose ≡ purpose → resumes G (hosted h) (nested d) (a ∷ waiting) results w n ≡ (code >> ends_in G (hosted h) (nested d) waiting k purpose) w n
  unfolding ◌>>◌
  come_back_at d a waiting k now purpose results code w n e i p =
      ap (λ (u : Out (World S) (List CoreValue)). then_do u (comes_back G (hosted h) (nested d) (instance_in waiting) (resumes G (hosted h) (nested d) waiting) a.instance a.purpose)) e
      ∙ ap (λ (j : ℕ). then_do (code w n) (comes_back G (hosted h) (nested d) (instance_in waiting) (resumes G (hosted h) (nested d) waiting) j a.purpose)) i
      ∙ ap (λ (q : defined.Purpose). then_do (code w n) (comes_back G (hosted h) (nested d) (instance_in waiting) (resumes G (hosted h) (nested d) waiting) k q)) p

  pub results_come : ResultsComeBack h G
  results_come d stores calls f fs a waiting old new results store_is calls_are deep all many resumed_so =
      let rest = all.0 in
      let c = all.1 in
      let s = all.3 in
      let got : HasResults h G s.begun f.instance rest c old results a.resume new =
      code_gets_results h G s.begun f.instance rest c s.since old new results a.resume deep (calls_are ∙ all.2) s.resumes (many rest c all.2) (subst (λ (t : State). CameBack s.since (record t { nesting = c.nesting })) (sym store_is) s.back) resumed_so in
      let new_store : new.store ≡ record (stores f.instance) { nesting = c.nesting } = (resumed_so rest c (calls_are ∙ all.2)).store ∙ ap (λ (t : State). record t { nesting = c.nesting }) store_is in
      record {
        code = a.resume (record { results = results; store = new.store });
        goes = record {
          rest = rest;
          call = record { machine = resumed c.machine results; nesting = c.nesting };
          begun = s.begun;
          last = ap (λ b. pick b new.calls (calls f.instance)) (here f.instance) ∙ got.last;
          runs = subst (λ (t : State). IsRunBy G (hosted h) (nested s.begun) f.instance (resumed c.machine results) t (a.resume (record { results = results; store = new.store }))) (sym (ap (λ b. pick b new.store (stores f.instance)) (here f.instance))) got.runs;
          others =
              subst (λ (t : State). AllStand h G (with_store stores f.instance t) (with_calls (with_calls calls f.instance new.calls) f.instance rest) fs waiting) (sym new_store)
              (subst (λ (cs : Calls). AllStand h G (with_store stores f.instance (record (stores f.instance) { nesting = c.nesting })) cs fs waiting) (sym (calls_twice calls f.instance new.calls rest))
              (all_stand h G stores f.instance c.nesting (with_calls calls f.instance rest) fs waiting all.4));
        };
        is = λ w n e. come_back_at d a waiting f.instance c.nesting (purpose_of f.purpose) results (a.resume (record { results = results; store = new.store })) w n (
            ap (λ (j : ℕ). (store_of j >> λ (store : State). a.resume (record { results = results; store = record (store_at (nested d) store) { nesting = a.now } })) w n) s.instance
            ∙ ap (λ (x : ℕ). (store_of f.instance >> λ (store : State). a.resume (record { results = results; store = record (store_at (nested d) store) { nesting = x } })) w n) s.now
            ∙ got.is w n e) s.instance s.purpose;
      }

pick_same : {A : Type 0} (b : Bool) (x y : A) → (b ≡ true → x ≡ y) → pick b x y ≡ y
pick_same true x y e = e refl
pick_same false x y e = refl

module _ {S : Type 0} (h : HostStep S) (G : Group) where
  same_calls : (calls : Calls) (k : ℕ) → with_calls calls k (calls k) ≡ calls
  same_calls calls k = fun_ext (λ m. pick_same (m == k) (calls k) (calls m) (λ e. let same : m ≡ k = grind (arith, nat_tests) in ap calls (sym same)))

  pub code_begins_inside : CodeBeginsInside h G
  code_begins_inside stores calls frame fs waiting f args nesting old new store_is calls_are all begun new_is = record {
    rest = calls frame.instance;
    call = record { machine = begun.machine; nesting = nesting };
    begun = nesting;
    last = ap (λ b. pick b new.calls (calls frame.instance)) (here frame.instance) ∙ begun.last ∙ ap (λ (cs : List CoreCall). cs ++ record { machine = begun.machine; nesting = nesting } ∷ []) calls_are;
    runs = subst (λ (t : State). IsRunBy G (hosted h) (nested nesting) frame.instance begun.machine t begun.code) (sym (ap (λ b. pick b new.store (stores frame.instance)) (here frame.instance))) begun.runs;
    others =
        subst (λ (t : State). AllStand h G (with_store stores frame.instance t) (with_calls (with_calls calls frame.instance new.calls) frame.instance (calls frame.instance)) fs waiting) (sym (new_is ∙ ap (λ (t : State). record t { nesting = nesting }) store_is))
        (subst (λ (cs : Calls). AllStand h G (with_store stores frame.instance (record (stores frame.instance) { nesting = nesting })) cs fs waiting) (sym (calls_twice calls frame.instance new.calls (calls frame.instance) ∙ same_calls calls frame.instance))
        (all_stand h G stores frame.instance nesting calls fs waiting all));
  }
