-- The innermost core code gets results, or core code begins inside it, and goes on.
use Rattle.std.proofs.Common.{◌≡◌, ◌++◌, ◌==◌, ℕ, Bool, List, [], ◌∷◌, length, set, reverse, Option, Some, None, Ok, Err, true, false, refl, sym, ap, subst, ◌∙◌, arith}
use Rattle.std.specs.Prelude.{Result, slice_get, IsSomeAnd, IsErrAnd}
use Rattle.std.proofs.Math.Path.{fun_ext}
use Rattle.std.proofs.lemmas.Bool.Decides.{nat_tests}
use Rattle.std.proofs.lemmas.List.{reverse-append}
use Rattle.core_store.specs.State.{State}
use Rattle.core_store.specs.declared.value.CoreValue.{CoreValue}
use Rattle.core_store.specs.Scene.{Scene, scene_of, results_at}
use Rattle.core_interp.specs.Session.{IsCallable, awaited, resumed}
use Rattle.core_memory.specs.declared.fault.StoreFault.{StoreFault}
use Rattle.core_memory.specs.declared.fault.StoreFault.TheVariants as faults
use Rattle.call_moments.specs.declared.end.Stop.{Stop}
use Rattle.call_moments.specs.Stops.{stop_of_store}
use Rattle.instance_state.specs.declared.calls.CoreCall.{CoreCall}
use Rattle.instance_state.specs.Ready.{Runs}
use Rattle.instance_state.specs.Done.{Begun, Begins, Resumes, Resumed}
use Rattle.wit_types.specs.PlainValue.{PlainValue}
use Rattle.host_port.specs.Hosts.{HostStep}
use Rattle.comp_worlds.specs.Acts.{Out, seen_before, Act, ◌>>◌}
use Rattle.comp_worlds.specs.Groups.{Group, Config, World}
use Rattle.comp_worlds.specs.Locals.{with_store}
use Rattle.comp_worlds.specs.Calls.{pick, with_config}
use Rattle.comp_worlds.specs.Hosts.{hosted}
use Rattle.comp_worlds.proofs.Fair.{host_fair}
use Rattle.comp_frames.specs.Running.{running, stored}
use Rattle.comp_frames.specs.Pausing.{IsRunBy}
use Rattle.comp_frames.proofs.Heads.{then_at}
use Rattle.comp_frames.proofs.Pausing.{pauses_lead}
use Rattle.comp_frames.specs.Frames.{Awaiting, resumes, ends_in}
use Rattle.comp_frames.specs.Frames as defined
use Rattle.instance_state.specs.declared.instance.Instance.{Instance}
use Rattle.instance_state.specs.Shown.{config_of}
use Rattle.call_moments.specs.declared.frame.Frame.{Frame}
use Rattle.call_moments.specs.declared.frame.Purpose.{Purpose}
use Rattle.call_moments.specs.Configs.{configs_of, world_of}
use Rattle.call_moments.proofs.Worlds.{same_place, config_at, changed}
use Rattle.call_moments.specs.CodeLaws.{nested, HasBegun}
use Rattle.call_moments.proofs.Coding.{code_begins}
use Rattle.call_moments.specs.Shown.{purpose_of}
use Rattle.call_moments.specs.Standing.{Calls, with_calls, with_store as with_state, AllStand, Goes}
use Rattle.call_moments.specs.FrameLaws.{GoOn}
use Rattle.call_moments.specs.Held.{loans_behind, AllLend}
use Rattle.call_moments.proofs.LawsEnding.{last_first}
use Rattle.call_moments.proofs.Backs.{results_come, code_begins_inside}
use Rattle.call_moments.specs.Fits.{scenes_of, answers_in, answers_of, Fits}
use Rattle.call_moments.specs.Waiting.{due_behind, instance_of, WillAnswer, FrameFits, AllAwait, AllRoomy}
use Rattle.call_moments.specs.Leads.{Moment, stores_of, calls_of, maps_of, sizes_of, so_far, Same, OneGoes, Waits, GoesOn, Ends}
use Rattle.call_moments.specs.Functions.{IsInnermost, CanBegin, LeadsOn}
use Rattle.call_moments.proofs.Instances.{same_last, no_last, store_here, calls_here, scene_here, stores_set, calls_set, maps_same, scenes_set, sizes_same, one_goes}
use Rattle.call_moments.proofs.Following.{with_instance}

pick_twice : {A : Type 0} (b : Bool) (x y z : A) → pick b x (pick b y z) ≡ pick b x z
pick_twice true x y z = refl
pick_twice false x y z = refl

pub calls_twice : (calls : Calls) (k : ℕ) (cs ds : List CoreCall) → with_calls (with_calls calls k cs) k ds ≡ with_calls calls k ds
calls_twice calls k cs ds = fun_ext (λ m. pick_twice (m == k) ds cs (calls m))

pick_same : {A : Type 0} (b : Bool) (x y : A) → (b ≡ true → x ≡ y) → pick b x y ≡ y
pick_same true x y e = e refl
pick_same false x y e = refl

pub same_calls : (calls : Calls) (k : ℕ) → with_calls calls k (calls k) ≡ calls
same_calls calls k = fun_ext (λ n. pick_same (n == k) (calls k) (calls n) (λ e. let same : n ≡ k = grind (arith, nat_tests) in ap calls (sym same)))

module _ {S : Type 0} (h : HostStep S) (G : Group) (m : Moment S) (k : ℕ) (i j : Instance) (found : slice_get m.instances k ≡ Some i) (shown : config_of j ≡ with_store (config_of i) j.code.store) where
  abbrev is : List Instance
  is = m.instances

  abbrev is' : List Instance
  is' = set m.instances k j

  same_maps : maps_of is' ≡ maps_of is
  same_maps = maps_same is k i found j (ap (λ (c : Config ℕ). c.map) shown)

  -- what stands in the world for the store of code that goes on is not looked at
  same_code : (begun : ℕ) (x : CoreCall) (s : State) (code : Act (World S) (List CoreValue)) → IsRunBy G (hosted h) (nested begun) k x.machine s code → code (world_of is m.kept.state) m.budget ≡ code (world_of is' m.kept.state) m.budget
  same_code begun x s code runs =
      let w : World S = world_of is m.kept.state in
      let c : with_store (configs_of is k) j.code.store ≡ config_of j = ap (λ (e : Config ℕ). with_store e j.code.store) (config_at is k i j found) ∙ sym shown in
      sym ((pauses_lead G (hosted h) (host_fair h)).aside (nested begun) k x.machine s code runs j.code.store w m.budget)
      ∙ ap (λ v. code v m.budget) (ap (with_config w k) c ∙ changed is k i j found m.kept.state)

  -- where code of the instance goes on, and its store has the same items
  module _ (f : Frame) (fs : List Frame) (waiting : List (Awaiting S)) (code : Act (World S) (List CoreValue)) (at : f.instance ≡ k)
      (goes : Goes h G (stores_of is') (calls_of is') f fs code waiting) where
    code_there : code (world_of is m.kept.state) m.budget ≡ code (world_of is' m.kept.state) m.budget
    code_there = same_code goes.begun goes.call (stores_of is' f.instance) code (subst (λ n. IsRunBy G (hosted h) (nested goes.begun) n goes.call.machine (stores_of is' f.instance) code) at goes.runs)

    pub left_there : (go : List CoreValue → Act (World S) (Option PlainValue)) → so_far m (code >> go) ≡ so_far (with_instance m k j) (code >> go)
    left_there go = ap (seen_before m.kept.seen) (then_at code code go (world_of is m.kept.state) (world_of is' m.kept.state) m.budget m.budget code_there)

  module _ (f : Frame) (fs : List Frame) (at : f.instance ≡ k) (frames : reverse m.frames ≡ f ∷ fs) (results : List CoreValue) (resumed_so : Resumes i.code results j.code (Ok tt)) where
    same_scenes : scene_of j.code.store ≡ scene_of i.code.store → scenes_of is' ≡ scenes_of is
    same_scenes e = scenes_set is k i j found e

    -- the frame, by the instance that it names
    resume_here : (waiting : List (Awaiting S)) → Waits h G m waiting [] (Some (length results)) → f.instance ≡ k → AllStand h G (stores_of is) (calls_of is) (f ∷ fs) waiting → AllAwait (scenes_of is) (calls_of is) (f ∷ fs) (Some (length results)) →
        GoesOn h G (so_far m (resumes G (hosted h) (nested 0) waiting results)) (with_instance m k j)
    resume_here [] w e stand await = absurd stand
    resume_here (a ∷ waiting) w e stand await =
        let outer : List CoreCall = await.0 in
        let inner : CoreCall = await.1 in
        let found_f : slice_get is f.instance ≡ Some i = ap (slice_get is) e ∙ found in
        let last_i : i.code.calls ≡ outer ++ inner ∷ [] = sym (calls_here is f.instance i found_f) ∙ await.2 in
        let got : Resumed outer inner i.code results j.code = resumed_so outer inner last_i in
        let many : (rest : List CoreCall) (c : CoreCall) → calls_of is f.instance ≡ rest ++ c ∷ [] → length results ≡ awaited c.machine =
        λ rest c l. sym await.3 ∙ ap (λ (x : CoreCall). awaited x.machine) (same_last outer rest inner c (sym await.2 ∙ l)).1 in
        let deep : i.code.store.deepest ≡ Some 65536 = w.fits.deepest f.instance (scene_of i.code.store) (scene_here is f.instance i found_f) in
        let went : GoOn h G 0 (with_state (stores_of is) f.instance j.code.store) (with_calls (calls_of is) f.instance j.code.calls) f fs a waiting i.code.store results =
        results_come h G 0 (stores_of is) (calls_of is) f fs a waiting i.code j.code results (sym (store_here is f.instance i found_f)) (sym (calls_here is f.instance i found_f)) deep stand many resumed_so in
        let stores_are : stores_of is' ≡ with_state (stores_of is) f.instance j.code.store = stores_set is k i found j ∙ ap (λ n. with_state (stores_of is) n j.code.store) (sym e) in
        let calls_are : calls_of is' ≡ with_calls (calls_of is) f.instance j.code.calls = calls_set is k i found j ∙ ap (λ n. with_calls (calls_of is) n j.code.calls) (sym e) in
        let goes : Goes h G (stores_of is') (calls_of is') f fs went.code waiting =
        subst (λ cs. Goes h G (stores_of is') cs f fs went.code waiting) (sym calls_are) (subst (λ ss. Goes h G ss (with_calls (calls_of is) f.instance j.code.calls) f fs went.code waiting) (sym stores_are) went.goes) in
        let call : CoreCall = record { machine = resumed inner.machine results; nesting = inner.nesting } in
        let new_calls : calls_of is' f.instance ≡ outer ++ call ∷ [] = ap (calls_of is') e ∙ calls_here is' k j (same_place is k i j found) ∙ got.calls in
        let lasts = same_last goes.rest outer goes.call call (sym goes.last ∙ new_calls) in
        let scenes : scenes_of is' ≡ scenes_of is = same_scenes (ap scene_of got.store) in
        record {
          fits = subst (λ ss. Fits G m.group ss) (sym scenes) w.fits;
          frame = f;
          outer = fs;
          frames = frames;
          going = subst (λ n. OneGoes is' n) (sym e) (one_goes is k i found j w.still got.going);
          code = went.code;
          waiting = waiting;
          goes = goes;
          frame_fits =
              subst (λ ss. FrameFits ss f goes.call fs) (sym scenes)
              (subst (λ (c : CoreCall). FrameFits (scenes_of is) f c fs) (sym lasts.1) (record { purpose = await.4.purpose; answers = await.4.answers }));
          await =
              subst (λ ss. AllAwait ss (with_calls (calls_of is') f.instance goes.rest) fs (due_behind f.purpose)) (sym scenes)
              (subst (λ (cs : List CoreCall). AllAwait (scenes_of is) (with_calls (calls_of is') f.instance cs) fs (due_behind f.purpose)) (sym lasts.0)
              (subst (λ (cs : Calls). AllAwait (scenes_of is) cs fs (due_behind f.purpose)) (sym (ap (λ (cs : Calls). with_calls cs f.instance outer) calls_are ∙ calls_twice (calls_of is) f.instance j.code.calls outer)) await.5));
          room = subst (λ ss. AllRoomy ss (f ∷ fs)) (sym (sizes_same is k i found j (ap (λ s. s.memories) got.store))) (subst (λ xs. AllRoomy (sizes_of is) xs) frames w.room);
          lend = subst (λ ms. AllLend ms [] (f ∷ fs)) (sym same_maps) (subst (λ xs. AllLend (maps_of is) [] xs) frames w.lend);
          is =
              ap (seen_before m.kept.seen) (went.is (world_of is m.kept.state) m.budget (store_here is f.instance i found_f))
              ∙ left_there f fs waiting went.code e goes (ends_in G (hosted h) (nested 0) waiting f.instance (purpose_of f.purpose));
        }

    pub resume_goes : (waiting : List (Awaiting S)) → Waits h G m waiting [] (Some (length results)) → GoesOn h G (so_far m (resumes G (hosted h) (nested 0) waiting results)) (with_instance m k j)
    resume_goes waiting w =
        resume_here waiting w at (subst (λ xs. AllStand h G (stores_of is) (calls_of is) xs waiting) frames w.stand)
        (subst (λ xs. AllAwait (scenes_of is) (calls_of is) xs (Some (length results))) frames w.await)

  -- ---- code begins

  module _ (purpose : Purpose) (f : ℕ) (args : List CoreValue) (calls : ℕ) (begun : Begun i.code f args calls j.code) where
    abbrev frame : Frame
    frame = record { instance = k; purpose = purpose }

    abbrev outer : List Frame
    outer = reverse m.frames

    with_scene : scenes_of is' ≡ scenes_of is
    with_scene = scenes_set is k i j found (ap scene_of begun.store)

    answers_at : (x : ℕ) → answers_of (scenes_of is) k x ≡ results_at (scene_of i.code.store) x
    answers_at x = ap (answers_in x) (scene_here is k i found)

    -- the machine runs the function that began
    entered : answers_of (scenes_of is) k begun.machine.entry ≡ answers_of (scenes_of is) k f
    entered =
        answers_at begun.machine.entry
        ∙ (subst (λ (w : Scene). results_at w begun.machine.entry ≡ results_at w f) (ap scene_of begun.store) begun.follows.due)
        ∙ sym (answers_at f)

    pub begin_goes : (waiting : List (Awaiting S)) → Waits h G m waiting (loans_behind purpose) (due_behind purpose) → CanBegin (scenes_of is) (sizes_of is) (instance_of outer) k f (length args) purpose →
        GoesOn h G (so_far m (running G (hosted h) (nested calls) k f args >> ends_in G (hosted h) (nested 0) waiting k (purpose_of purpose))) (record (with_instance m k j) { frames = m.frames ++ frame ∷ [] })
    begin_goes waiting w can =
        let deep : i.code.store.deepest ≡ Some 65536 = w.fits.deepest k (scene_of i.code.store) (scene_here is k i found) in
        let has : HasBegun h G k f args calls i.code j.code = code_begins h G k f args calls i.code j.code deep begun in
        let inside : Goes h G (with_state (stores_of is) k j.code.store) (with_calls (calls_of is) k j.code.calls) frame outer has.code waiting =
        code_begins_inside h G (stores_of is) (calls_of is) frame outer waiting f args calls i.code j.code (sym (store_here is k i found)) (sym (calls_here is k i found)) w.stand has begun.store in
        let goes : Goes h G (stores_of is') (calls_of is') frame outer has.code waiting =
        subst (λ cs. Goes h G (stores_of is') cs frame outer has.code waiting) (sym (calls_set is k i found j))
        (subst (λ ss. Goes h G ss (with_calls (calls_of is) k j.code.calls) frame outer has.code waiting) (sym (stores_set is k i found j)) inside) in
        let call : CoreCall = record { machine = begun.machine; nesting = calls } in
        let lasts = same_last goes.rest i.code.calls goes.call call (sym goes.last ∙ calls_here is' k j (same_place is k i j found) ∙ begun.calls) in
        let there : with_calls (calls_of is') k i.code.calls ≡ calls_of is =
        ap (λ (cs : Calls). with_calls cs k i.code.calls) (calls_set is k i found j) ∙ calls_twice (calls_of is) k j.code.calls i.code.calls
        ∙ ap (with_calls (calls_of is) k) (sym (calls_here is k i found)) ∙ same_calls (calls_of is) k in
        record {
          fits = subst (λ ss. Fits G m.group ss) (sym with_scene) w.fits;
          frame = frame;
          outer = outer;
          frames = reverse-append m.frames (frame ∷ []);
          going = one_goes is k i found j w.still begun.going;
          code = has.code;
          waiting = waiting;
          goes = goes;
          frame_fits =
              subst (λ ss. FrameFits ss frame goes.call outer) (sym with_scene)
              (subst (λ (c : CoreCall). FrameFits (scenes_of is) frame c outer) (sym lasts.1)
              (record { purpose = can.fits; answers = subst (WillAnswer (scenes_of is) purpose) (sym entered) can.answers }));
          await =
              subst (λ ss. AllAwait ss (with_calls (calls_of is') k goes.rest) outer (due_behind purpose)) (sym with_scene)
              (subst (λ (cs : List CoreCall). AllAwait (scenes_of is) (with_calls (calls_of is') k cs) outer (due_behind purpose)) (sym lasts.0)
              (subst (λ (cs : Calls). AllAwait (scenes_of is) cs outer (due_behind purpose)) (sym there) w.await));
          room = subst (λ ss. AllRoomy ss (frame ∷ outer)) (sym (sizes_same is k i found j (ap (λ s. s.memories) begun.store))) (can.room, w.room);
          lend = subst (λ ms. AllLend ms [] (frame ∷ outer)) (sym same_maps) (last_first.begins (maps_of is) frame outer w.lend);
          is =
              ap (seen_before m.kept.seen)
              (then_at (running G (hosted h) (nested calls) k f args) has.code (ends_in G (hosted h) (nested 0) waiting k (purpose_of purpose)) (world_of is m.kept.state) (world_of is m.kept.state) m.budget m.budget
              (has.is (world_of is m.kept.state) m.budget (store_here is k i found)))
              ∙ left_there frame outer waiting has.code refl goes (ends_in G (hosted h) (nested 0) waiting k (purpose_of purpose));
        }

-- the innermost code goes on with results
pub resume_leads : {S : Type 0} (h : HostStep S) (G : Group) (m : Moment S) (k : ℕ) (i j : Instance) → slice_get m.instances k ≡ Some i → config_of j ≡ with_store (config_of i) j.code.store → IsInnermost (reverse m.frames) (Ok k) →
    (results : List CoreValue) → Resumes i.code results j.code (Ok tt) → (waiting : List (Awaiting S)) → Waits h G m waiting [] (Some (length results)) →
    Same m (with_instance m k j) × GoesOn h G (so_far m (resumes G (hosted h) (nested 0) waiting results)) (with_instance m k j)
resume_leads {S} h G m k i j found shown inside results resumed_so waiting w = go (reverse m.frames) refl inside
  where
    scene_is : (fs : List Frame) → IsInnermost fs (Ok k) → AllAwait (scenes_of m.instances) (calls_of m.instances) fs (Some (length results)) → scene_of j.code.store ≡ scene_of i.code.store
    scene_is [] inner a = absurd inner
    scene_is (f ∷ fs) inner a = ap scene_of (resumed_so a.0 a.1 (sym (calls_here m.instances k i found) ∙ ap (calls_of m.instances) inner ∙ a.2)).store

    go : (fs : List Frame) → reverse m.frames ≡ fs → IsInnermost fs (Ok k) → Same m (with_instance m k j) × GoesOn h G (so_far m (resumes G (hosted h) (nested 0) waiting results)) (with_instance m k j)
    go [] same inner = absurd inner
    go (f ∷ fs) same inner = (
      record { group = refl; scenes = scenes_set m.instances k i j found (scene_is (reverse m.frames) inside w.await) },
      resume_goes h G m k i j found shown f fs (sym inner) same results resumed_so waiting w,
    )

module _ {S : Type 0} (h : HostStep S) (G : Group) (m : Moment S) (k : ℕ) (i j : Instance) (found : slice_get m.instances k ≡ Some i) (purpose : Purpose) (f : ℕ) (args : List CoreValue) (waiting : List (Awaiting S))
    (w : Waits h G m waiting (loans_behind purpose) (due_behind purpose)) (can : CanBegin (scenes_of m.instances) (sizes_of m.instances) (instance_of (reverse m.frames)) k f (length args) purpose) where
  -- code begins, and goes on
  pub begin_leads : config_of j ≡ with_store (config_of i) j.code.store → (calls : ℕ) → Begun i.code f args calls j.code → (frames : List Frame) → frames ≡ m.frames ++ record { instance = k; purpose = purpose } ∷ [] →
      Same m (record (with_instance m k j) { frames = frames })
      × GoesOn h G (so_far m (running G (hosted h) (nested calls) k f args >> ends_in G (hosted h) (nested 0) waiting k (purpose_of purpose))) (record (with_instance m k j) { frames = frames })
  begin_leads shown calls begun frames e =
      subst (λ (fs : List Frame). Same m (record (with_instance m k j) { frames = fs })
      × GoesOn h G (so_far m (running G (hosted h) (nested calls) k f args >> ends_in G (hosted h) (nested 0) waiting k (purpose_of purpose))) (record (with_instance m k j) { frames = fs })) (sym e) (
        record { group = refl; scenes = scenes_set m.instances k i j found (ap scene_of begun.store) },
        begin_goes h G m k i j found shown purpose f args calls begun waiting w can,
      )

  -- it may begin, so that only memory can be wanting
  pub begin_fails : {A : Type 0} (whole : Out (World S) A) (new : Moment S) (calls : ℕ) (code : Runs) (fault : StoreFault) (stop : Stop) → Begins i.code f args calls code (Err fault) → stop ≡ stop_of_store fault → Ends h G whole new stop
  begin_fails whole new calls code faults.Trap stop b e =
      let takes : IsSomeAnd (Some (scene_of i.code.store)) (λ (v : Scene). IsCallable (slice_get v.functions f) (length args)) =
      subst (λ (o : Option Scene). IsSomeAnd o (λ (v : Scene). IsCallable (slice_get v.functions f) (length args))) (scene_here m.instances k i found) can.takes in
      let loud : i.code.going ≡ true = b takes in
      let quiet : i.code.going ≡ false = w.still k i found in
      absurd (cc)
  begin_fails whole new calls code faults.NoMemory stop b e = subst (λ s. Ends h G whole new s) (sym e) tt

pub fails_on : {S : Type 0} (h : HostStep S) (G : Group) (whole : Out (World S) (Option PlainValue)) (old new : Moment S) (fault : StoreFault) (result : Result (Unit {0}) Stop) → IsErrAnd result (λ stop. stop ≡ stop_of_store fault) → Ends h G whole new (stop_of_store fault) →
    LeadsOn h G whole old result new
fails_on h G whole old new fault (Ok u) e l = absurd e
fails_on h G whole old new fault (Err stop) e l = subst (λ s. Ends h G whole new s) (sym e) l
