-- The innermost core code goes on to its next pause: its end, a question, or the end of the run.
use Rattle.std.proofs.Common.{◌≡◌, ◌≤◌, ◌<◌, ◌==◌, ◌+◌, ◌-◌, ℕ, Bool, List, [], ◌∷◌, ◌++◌, length, set, reverse, Option, Some, None, Ok, Err, true, false, refl, sym, ap, subst, ◌∙◌, append-nil, arith}
use Rattle.std.specs.Prelude.{Result, IsErrAnd, slice_get, replicate}
use Rattle.std.proofs.lemmas.Bool.Decides.{nat_tests}
use Rattle.std.proofs.lemmas.List.{length-replicate, reverse-reverse}
use Rattle.std.proofs.lemmas.Option.{slice_get_within}
use Rattle.virt_base.specs.declared.core_type.CoreType.{CoreType}
use Rattle.core_store.specs.State.{State}
use Rattle.core_store.specs.Config.{Reply}
use Rattle.core_store.specs.Words.{words, HaveTypes}
use Rattle.core_store.specs.Scene.{Scene, scene_of, results_at, CameBack}
use Rattle.core_store.specs.declared.value.CoreValue.{CoreValue}
use Rattle.core_store.specs.declared.value.CoreValue.TheVariants as values
use Rattle.core_store.proofs.Stores.{grew_self}
use Rattle.core_interp.specs.declared.machine.Machine.{Machine}
use Rattle.core_interp.specs.declared.machine.Pause.{Pause}
use Rattle.core_interp.specs.declared.machine.Pause.TheVariants as pauses
use Rattle.core_interp.specs.Session.{Asked, Says, Follows, IsAnswer, awaited, resumed}
use Rattle.instance_state.specs.declared.calls.CoreCall.{CoreCall}
use Rattle.instance_state.specs.Ready.{Runs, IsAt}
use Rattle.instance_state.specs.Done.{Goes as RunsGo, Ran, stays_by, goes_by, left_if}
use Rattle.wit_types.specs.PlainValue.{PlainValue}
use Rattle.host_port.specs.Hosts.{HostStep, Kept}
use Rattle.comp_worlds.specs.Acts.{Trapped, TooDeep, Out, Next, Over, Spent, seen_before, Act, ◌>>◌}
use Rattle.comp_worlds.specs.Groups.{Nesting, deeper, Group, Config, World}
use Rattle.comp_worlds.specs.Locals.{with_store}
use Rattle.comp_worlds.specs.Calls.{with_config, begins_call, performs}
use Rattle.comp_worlds.specs.Hosts.{hosted}
use Rattle.comp_frames.proofs.Heads.{after_unseen, after_over, after_spent, then_at}
use Rattle.comp_frames.specs.Running.{running, stored}
use Rattle.comp_frames.specs.Pausing.{IsRunBy, LeadsTo, asks}
use Rattle.comp_frames.specs.Frames.{Awaiting, resumes, ends_in}
use Rattle.comp_frames.proofs.Steps.{calls_go_back}
use Rattle.instance_state.specs.declared.instance.Instance.{Instance}
use Rattle.instance_state.specs.Shown.{config_of}
use Rattle.call_moments.specs.declared.end.Stop.{Stop}
use Rattle.call_moments.specs.declared.end.Stop.TheVariants as stops
use Rattle.call_moments.specs.declared.frame.Flow.{Flow}
use Rattle.call_moments.specs.declared.frame.Frame.{Frame}
use Rattle.call_moments.specs.Grouped.{canon_in}
use Rattle.call_moments.specs.CodeLaws.{nested, HasPaused, AwaitsSince}
use Rattle.call_moments.specs.Configs.{world_of}
use Rattle.call_moments.specs.Held.{AllLend, loans_behind}
use Rattle.call_moments.specs.MemoryLaws.{NoShorter}
use Rattle.call_moments.specs.Shown.{purpose_of}
use Rattle.call_moments.specs.Standing.{Calls, with_calls, Stands, AllStand}
use Rattle.call_moments.proofs.Coding.{code_goes}
use Rattle.call_moments.proofs.LawsEnding.{last_first}
use Rattle.call_moments.proofs.Whole.{never_shrink}
use Rattle.call_moments.proofs.Worlds.{same_place, config_at, changed}
use Rattle.call_moments.specs.Fits.{scenes_of, core_type_of, answers_in, answers_of, Fits, IsProvided}
use Rattle.call_moments.specs.Waiting.{due_behind, instance_of, PurposeFits, WillAnswer, FrameFits, AllAwait, AllRoomy}
use Rattle.call_moments.specs.Leads.{Moment, stores_of, calls_of, maps_of, sizes_of, so_far, Same, AreStill, OneGoes, Waits, GoesOn, Ends, Leads}
use Rattle.call_moments.specs.Functions.{IsInnermost, behind, back_to}
use Rattle.call_moments.specs.Canonical.{AnswersCode, EndsCode, GoesToPause}
use Rattle.call_moments.proofs.Awaits.{all_stand_on}
use Rattle.call_moments.proofs.Instances.{same_last, store_here, calls_here, scene_here, calls_set, stores_set, maps_same, scene_same, scenes_set, still_as, found_by}
use Rattle.call_moments.proofs.Following.{with_instance, leads_by, ends_by}
use Rattle.call_moments.proofs.KeepingLaws.{sizes_grown, room_of, all_roomy}
use Rattle.call_moments.proofs.Resuming.{calls_twice, same_calls}
use Rattle.call_moments.proofs.Results.{innermost_is}
use Rattle.call_moments.proofs.Serves.{ends_as}

-- some results, that many
abbrev some_results : ℕ → List CoreValue
some_results n = replicate n (values.I32 0)

-- the innermost call is of one machine
same_machine : (outer : List CoreCall) (m n : Machine) (x : ℕ) → outer ++ record { machine = m; nesting = x } ∷ [] ≡ outer ++ record { machine = n; nesting = x } ∷ [] → m ≡ n
same_machine outer m n x e = ap (λ (c : CoreCall). c.machine) (same_last outer outer (record { machine = m; nesting = x }) (record { machine = n; nesting = x }) e).1

module _ {S : Type 0} (h : HostStep S) (old : Moment S) where
  pub pause_nowhere : (stop : Stop) → IsInnermost (reverse old.frames) (Err stop) → (result : Result Flow Stop) (new : Moment S) → GoesToPause h old result new
  pause_nowhere stop inner result new = λ G whole g. absurd (subst (λ fs. IsInnermost fs (Err stop)) g.frames inner)

  at_frame : (k : ℕ) → IsInnermost (reverse old.frames) (Ok k) → (f : Frame) (fs : List Frame) → reverse old.frames ≡ f ∷ fs → k ≡ f.instance
  at_frame k inner f fs e = subst (λ xs. IsInnermost xs (Ok k)) e inner

  pub pause_there : (k : ℕ) → IsInnermost (reverse old.frames) (Ok k) → length old.instances ≤ k → (result : Result Flow Stop) (new : Moment S) → GoesToPause h old result new
  pause_there k inner le result new = λ G whole g.
      let found = found_by old.instances g.frame.instance g.goes.rest g.goes.call g.goes.last in
      let lt : g.frame.instance < length old.instances = slice_get_within old.instances g.frame.instance found.0 found.1 in
      let same : k ≡ g.frame.instance = at_frame k inner g.frame g.outer g.frames in
      absurd (omega (arith, lt, same, le))

  module _ (k : ℕ) (inner : IsInnermost (reverse old.frames) (Ok k)) (i j : Instance) (found : slice_get old.instances k ≡ Some i) (shown : config_of j ≡ with_store (config_of i) j.code.store) (pause : Pause) (after : ℕ) (went : RunsGo i.code old.budget pause j.code after) where
    abbrev is' : List Instance
    is' = set old.instances k j

    -- the moment at the pause
    abbrev pub mid : Moment S
    mid = record (with_instance old k j) { budget = after }

    module _ (G : Group) (whole : Out (World S) (Option PlainValue)) (g : GoesOn h G whole old) where
      abbrev call : CoreCall
      call = g.goes.call

      abbrev rest : List CoreCall
      rest = g.goes.rest

      here : k ≡ g.frame.instance
      here = at_frame k inner g.frame g.outer g.frames

      last : i.code.calls ≡ rest ++ call ∷ []
      last = sym (calls_here old.instances k i found) ∙ ap (calls_of old.instances) here ∙ g.goes.last

      loud : i.code.going ≡ true
      loud = g.going k i found ∙ subst (λ n. (k == n) ≡ true) here (let e : (k == k) ≡ true = grind (arith, nat_tests) in e)

      ran : Ran rest call i.code.store old.budget pause j.code.calls j.code.store after
      ran = (went rest call last loud).0

      store_is : stores_of old.instances g.frame.instance ≡ i.code.store
      store_is = ap (stores_of old.instances) (sym here) ∙ store_here old.instances k i found

      runs : IsRunBy G (hosted h) (nested g.goes.begun) k call.machine i.code.store g.code
      runs = subst (λ n. IsRunBy G (hosted h) (nested g.goes.begun) n call.machine i.code.store g.code) (sym here) (subst (λ s. IsRunBy G (hosted h) (nested g.goes.begun) g.frame.instance call.machine s g.code) store_is g.goes.runs)

      paused : HasPaused h G (nested g.goes.begun) k g.code rest old.budget pause j.code after
      paused = code_goes h G (nested g.goes.begun) k g.code rest call i.code j.code old.budget after pause last loud runs went

      is_at : IsAt call.machine i.code.store
      is_at = record { first = runs.first; function = runs.function; args = runs.args; used = runs.used; taken = runs.taken; follows = runs.follows }

      scene : scene_of j.code.store ≡ scene_of i.code.store
      scene = sym ran.pauses.scene

      scenes : scenes_of is' ≡ scenes_of old.instances
      scenes = scenes_set old.instances k i j found scene

      pub same : Same old mid
      same = record { group = refl; scenes = scenes }

      -- what is after the code
      abbrev behind_it : List CoreValue → Act (World S) (Option PlainValue)
      behind_it = ends_in G (hosted h) (nested 0) g.waiting g.frame.instance (purpose_of g.frame.purpose)

      abbrev before : World S
      before = world_of old.instances old.kept.state

      world_is : stored before k j.code.store ≡ world_of is' old.kept.state
      world_is =
          ap (λ (c : Config ℕ). with_config before k (with_store c j.code.store)) (config_at old.instances k i j found) ∙ ap (λ (c : Config ℕ). with_config before k c) (sym shown) ∙ changed old.instances k i j found old.kept.state

      -- ---- the run ends
      over_so : (e : _) → g.code before old.budget ≡ Over [] e → whole ≡ Over old.kept.seen e
      over_so e is = g.is ∙ ap (seen_before old.kept.seen) (after_over g.code behind_it before old.budget [] e is) ∙ ap (λ o. Over o e) (append-nil old.kept.seen)

      spent_so : g.code before old.budget ≡ Spent [] → whole ≡ Spent old.kept.seen
      spent_so is = g.is ∙ ap (seen_before old.kept.seen) (after_spent g.code behind_it before old.budget [] is) ∙ ap (λ o. Spent o) (append-nil old.kept.seen)

      -- ---- what stays
      maps : maps_of is' ≡ maps_of old.instances
      maps = maps_same old.instances k i found j (ap (λ (c : Config ℕ). c.map) shown)

      fits : Fits G old.group (scenes_of is')
      fits = subst (λ ss. Fits G old.group ss) (sym scenes) g.fits

      -- it is still, as all others are
      stills : j.code.going ≡ false → AreStill is'
      stills quiet = still_as old.instances k i found j (subst (λ n. OneGoes old.instances n) (sym here) g.going) quiet

      -- the calls outside
      calls_are : (m : List CoreCall) → with_calls (calls_of is') k m ≡ with_calls (calls_of old.instances) k m
      calls_are m = ap (λ (cs : Calls). with_calls cs k m) (calls_set old.instances k i found j) ∙ calls_twice (calls_of old.instances) k j.code.calls m

      others : AllStand h G (stores_of is') (with_calls (calls_of is') k rest) g.outer g.waiting
      others =
          subst (λ cs. AllStand h G (stores_of is') cs g.outer g.waiting) (sym (calls_are rest))
          (all_stand_on h G (stores_of old.instances) (stores_of is') (scene_same old.instances k i found j scene) (with_calls (calls_of old.instances) k rest) g.outer g.waiting
          (subst (λ n. AllStand h G (stores_of old.instances) (with_calls (calls_of old.instances) n rest) g.outer g.waiting) (sym here) g.goes.others))

      awaits : AllAwait (scenes_of is') (with_calls (calls_of is') k rest) g.outer (due_behind g.frame.purpose)
      awaits =
          subst (λ cs. AllAwait (scenes_of is') cs g.outer (due_behind g.frame.purpose)) (sym (calls_are rest))
          (subst (λ ss. AllAwait ss (with_calls (calls_of old.instances) k rest) g.outer (due_behind g.frame.purpose)) (sym scenes)
          (subst (λ n. AllAwait (scenes_of old.instances) (with_calls (calls_of old.instances) n rest) g.outer (due_behind g.frame.purpose)) (sym here) g.await))

      calls_now : calls_of is' k ≡ j.code.calls
      calls_now = calls_here is' k j (same_place old.instances k i j found)

      lends : AllLend (maps_of is') [] (g.frame ∷ g.outer)
      lends = subst (λ ms. AllLend ms [] (g.frame ∷ g.outer)) (sym maps) g.lend

      -- the results of the function that began the call
      entry_is : results_at (scene_of i.code.store) call.machine.entry ≡ results_at (scene_of runs.first) runs.function
      entry_is = runs.follows.due

      answers_at : (x : ℕ) → answers_of (scenes_of old.instances) k x ≡ results_at (scene_of i.code.store) x
      answers_at x = ap (answers_in x) (scene_here old.instances k i found)

    -- ---- the call ends

    pub pause_done : (results : List CoreValue) → pause ≡ pauses.Done results → (result : Result Flow Stop) (new : Moment S) → EndsCode h mid results result new → GoesToPause h old result new
    pause_done results e result new ends = λ G whole g.
        let p = paused G whole g in
        let m = ran G whole g in
        let lead : LeadsTo G (hosted h) (nested g.goes.begun) k g.code old.budget after (pauses.Done results) p.machine j.code.store = subst (λ x. LeadsTo G (hosted h) (nested g.goes.begun) k g.code old.budget after x p.machine j.code.store) e p.leads in
        let says : Says (runs G whole g).first (runs G whole g).function (runs G whole g).args (runs G whole g).used ((runs G whole g).taken + (old.budget - after)) after (pauses.Done results) m.machine j.code.store =
        subst (λ x. Says (runs G whole g).first (runs G whole g).function (runs G whole g).args (runs G whole g).used ((runs G whole g).taken + (old.budget - after)) after x m.machine j.code.store) e
        (m.pauses.says (runs G whole g).first (runs G whole g).function (runs G whole g).args (runs G whole g).used (runs G whole g).taken (runs G whole g).follows) in
        let longer : NoShorter i.code.store j.code.store =
        never_shrink.ends (rest G whole g) (call G whole g) i.code j.code old.budget after results (last G whole g) (loud G whole g) (is_at G whole g) (subst (λ x. RunsGo i.code old.budget x j.code after) e went) in
        let outside : j.code.calls ≡ rest G whole g = subst (λ x. j.code.calls ≡ left_if (stays_by x) (rest G whole g) p.machine j.code.store.nesting) e p.last in
        let quiet : j.code.going ≡ false = subst (λ x. j.code.going ≡ goes_by x) e p.going in
        let grown : AllRoomy (sizes_of is') (g.frame ∷ g.outer) = all_roomy (sizes_of old.instances) (sizes_of is') (sizes_grown old.instances k i found j longer) (g.frame ∷ g.outer) g.room in
        let inside : with_calls (calls_of is') k (rest G whole g) ≡ calls_of is' = ap (with_calls (calls_of is') k) (sym outside ∙ sym (calls_now G whole g)) ∙ same_calls (calls_of is') k in
        leads_by h G whole (so_far mid (behind h G g.waiting g.frame.instance (purpose_of g.frame.purpose) results)) old mid new result
        (g.is
        ∙ ap (seen_before old.kept.seen)
        (after_unseen g.code (behind_it G whole g) (before G whole g) old.budget after (stored (before G whole g) k j.code.store) results (lead (before G whole g)) ∙ ap (λ v. behind_it G whole g results v after) (world_is G whole g)))
        (same G whole g)
        (ends G g.waiting g.frame g.outer (answers_of (scenes_of is') k (call G whole g).machine.entry) g.frames
        (slice_get_within is' g.frame.instance j (subst (λ n. slice_get is' n ≡ Some j) (here G whole g) (same_place old.instances k i j found)))
        (record {
          fits = fits G whole g;
          still = stills G whole g quiet;
          stand =
              subst (λ fs. AllStand h G (stores_of is') (calls_of is') fs g.waiting) (sym (reverse-reverse g.outer))
              (subst (λ cs. AllStand h G (stores_of is') cs g.outer g.waiting) inside (others G whole g));
          await =
              subst (λ fs. AllAwait (scenes_of is') (calls_of is') fs (due_behind g.frame.purpose)) (sym (reverse-reverse g.outer))
              (subst (λ cs. AllAwait (scenes_of is') cs g.outer (due_behind g.frame.purpose)) inside (awaits G whole g));
          room = subst (λ fs. AllRoomy (sizes_of is') fs) (sym (reverse-reverse g.outer)) grown.1;
          lend = subst (λ fs. AllLend (maps_of is') (loans_behind g.frame.purpose) fs) (sym (reverse-reverse g.outer)) (last_first.over (maps_of is') g.frame g.outer (lends G whole g));
        })
        (subst (λ ss. PurposeFits ss (instance_of g.outer) g.frame.instance g.frame.purpose) (sym (scenes G whole g)) g.frame_fits.purpose)
        grown.0
        (subst (λ ss. WillAnswer ss g.frame.purpose (answers_of ss k (call G whole g).machine.entry)) (sym (scenes G whole g))
        (subst (λ n. WillAnswer (scenes_of old.instances) g.frame.purpose (answers_of (scenes_of old.instances) n (call G whole g).machine.entry)) (sym (here G whole g)) g.frame_fits.answers))
        (subst (λ ss. HaveTypes (answers_of ss k (call G whole g).machine.entry) results) (sym (scenes G whole g))
        (subst (λ ts. HaveTypes ts results) (sym (answers_at G whole g (call G whole g).machine.entry ∙ entry_is G whole g)) says.1)))

    -- ---- the run ends

    pub pause_trapped : pause ≡ pauses.Trapped → (new : Moment S) → new.kept ≡ old.kept → GoesToPause h old (Err stops.Trapped) new
    pause_trapped e new kept = λ G whole g.
        let p = paused G whole g in
        let lead : LeadsTo G (hosted h) (nested g.goes.begun) k g.code old.budget after pauses.Trapped p.machine j.code.store = subst (λ x. LeadsTo G (hosted h) (nested g.goes.begun) k g.code old.budget after x p.machine j.code.store) e p.leads in
        over_so G whole g Trapped (lead (before G whole g)) ∙ ap (λ (x : Kept S). Over x.seen Trapped) (sym kept)

    pub pause_deep : pause ≡ pauses.TooDeep → (new : Moment S) → new.kept ≡ old.kept → GoesToPause h old (Err stops.TooDeep) new
    pause_deep e new kept = λ G whole g.
        let p = paused G whole g in
        let lead : LeadsTo G (hosted h) (nested g.goes.begun) k g.code old.budget after pauses.TooDeep p.machine j.code.store = subst (λ x. LeadsTo G (hosted h) (nested g.goes.begun) k g.code old.budget after x p.machine j.code.store) e p.leads in
        over_so G whole g TooDeep (lead (before G whole g)) ∙ ap (λ (x : Kept S). Over x.seen TooDeep) (sym kept)

    pub pause_spent : pause ≡ pauses.Spent → (new : Moment S) → new.kept ≡ old.kept → GoesToPause h old (Err stops.Spent) new
    pause_spent e new kept = λ G whole g.
        let p = paused G whole g in
        let lead : LeadsTo G (hosted h) (nested g.goes.begun) k g.code old.budget after pauses.Spent p.machine j.code.store = subst (λ x. LeadsTo G (hosted h) (nested g.goes.begun) k g.code old.budget after x p.machine j.code.store) e p.leads in
        spent_so G whole g (lead.0 (before G whole g)) ∙ ap (λ (x : Kept S). Spent x.seen) (sym kept)

    -- ---- a question

    pub pause_asks : (number : ℕ) (args : List CoreValue) → pause ≡ pauses.AtHost number args → (result : Result Flow Stop) (new : Moment S) → AnswersCode h mid k number j.code.store.nesting args result new → GoesToPause h old result new
    pause_asks number args e result new answers = λ G whole g.
        let p = paused G whole g in
        let m = ran G whole g in
        let r = runs G whole g in
        let d : Nesting = nested g.goes.begun in
        let lead : LeadsTo G (hosted h) d k g.code old.budget after (pauses.AtHost number args) p.machine j.code.store = subst (λ x. LeadsTo G (hosted h) d k g.code old.budget after x p.machine j.code.store) e p.leads in
        let says : Says r.first r.function r.args r.used (r.taken + (old.budget - after)) after (pauses.AtHost number args) m.machine j.code.store =
        subst (λ x. Says r.first r.function r.args r.used (r.taken + (old.budget - after)) after x m.machine j.code.store) e (m.pauses.says r.first r.function r.args r.used r.taken r.follows) in
        let asked : Asked number args m.machine j.code.store = says.1 in
        let longer : NoShorter i.code.store j.code.store =
        never_shrink.asks (rest G whole g) (call G whole g) i.code j.code old.budget after number args (last G whole g) (loud G whole g) (is_at G whole g) (subst (λ x. RunsGo i.code old.budget x j.code after) e went) in
        let now : CoreCall = record { machine = p.machine; nesting = j.code.store.nesting } in
        let calls : j.code.calls ≡ rest G whole g ++ now ∷ [] = subst (λ x. j.code.calls ≡ left_if (stays_by x) (rest G whole g) p.machine j.code.store.nesting) e p.last in
        let same_now : p.machine ≡ m.machine = same_machine (rest G whole g) p.machine m.machine j.code.store.nesting (sym calls ∙ subst (λ x. j.code.calls ≡ left_if (stays_by x) (rest G whole g) m.machine j.code.store.nesting) e m.calls) in
        let quiet : j.code.going ≡ false = subst (λ x. j.code.going ≡ goes_by x) e p.going in
        let back : CameBack j.code.store j.code.store = record { grew = grew_self j.code.store; nesting = refl } in
        let reply : Reply = record { results = some_results (awaited m.machine); store = j.code.store } in
        let goes_again : Follows r.first r.function r.args (r.used ++ reply ∷ []) (r.taken + (old.budget - after)) (resumed m.machine reply.results) j.code.store = says.2 reply (record { results = length-replicate (awaited m.machine) (values.I32 0); back = back }) in
        let entry : results_at (scene_of j.code.store) p.machine.entry ≡ results_at (scene_of i.code.store) (call G whole g).machine.entry = ap (λ (x : Machine). results_at (scene_of j.code.store) x.entry) same_now ∙ goes_again.due ∙ sym (entry_is G whole g) in
        let there : slice_get is' k ≡ Some j = same_place old.instances k i j found in
        let provided : IsProvided (canon_in old.group.canons.items) k number asked.ty = (fits G whole g).provided k asked.function number (scene_of j.code.store) asked.ty (scene_here is' k j there) asked.function_is in
        let await : Awaiting S = record { instance = k; purpose = purpose_of g.frame.purpose; now = j.code.store.nesting; resume = lead.0 } in
        let here_f : k ≡ g.frame.instance = here G whole g in
        let calls_f : calls_of is' g.frame.instance ≡ rest G whole g ++ now ∷ [] = ap (calls_of is') (sym here_f) ∙ calls_now G whole g ∙ calls in
        let answers_p : (ss : List Scene) → ss ≡ scenes_of old.instances → answers_of ss k p.machine.entry ≡ answers_of ss k (call G whole g).machine.entry =
        λ ss s. (ap (λ (x : List Scene). answers_of x k p.machine.entry) s ∙ answers_at G whole g p.machine.entry ∙ ap (λ w. results_at w p.machine.entry) (sym (scene G whole g)) ∙ entry ∙ sym (answers_at G whole g (call G whole g).machine.entry) ∙ ap (λ (x : List Scene). answers_of x k (call G whole g).machine.entry) (sym s)) in
        leads_by h G whole _ old mid new result
        (g.is
        ∙ ap (seen_before old.kept.seen)
        (then_at g.code (asks G (hosted h) d k number args j.code.store.nesting lead.0) (behind_it G whole g) (before G whole g) (stored (before G whole g) k j.code.store) old.budget after (lead.1 (before G whole g))
        ∙ ap (λ v. (asks G (hosted h) d k number args j.code.store.nesting lead.0 >> behind_it G whole g) v after) (world_is G whole g)
        ∙ ap (λ n. (asks G (hosted h) d k number args j.code.store.nesting lead.0 >> ends_in G (hosted h) (nested 0) g.waiting n (purpose_of g.frame.purpose)) (world_of is' old.kept.state) after) (sym here_f))
        ∙ ap (λ (x : Act (World S) (Option PlainValue)). so_far mid x) ((calls_go_back G h (nested 0)).asked g.waiting k number args (purpose_of g.frame.purpose) j.code.store.nesting lead.0))
        (same G whole g)
        (answers G (await ∷ g.waiting) provided.func provided.is
        (record {
          fits = fits G whole g;
          still = stills G whole g quiet;
          stand =
              subst (λ fs. AllStand h G (stores_of is') (calls_of is') fs (await ∷ g.waiting)) (sym g.frames) (
                rest G whole g,
                now,
                calls_f,
                record {
                  instance = here_f;
                  purpose = refl;
                  now = refl;
                  begun = g.goes.begun;
                  since = j.code.store;
                  resumes = subst (λ n. AwaitsSince h G d n p.machine j.code.store lead.0) here_f lead.2;
                  back = subst (λ s. CameBack j.code.store (record s { nesting = j.code.store.nesting })) (sym (ap (stores_of is') (sym here_f) ∙ store_here is' k j there)) back;
                },
                subst (λ n. AllStand h G (stores_of is') (with_calls (calls_of is') n (rest G whole g)) g.outer g.waiting) here_f (others G whole g),
              );
          await =
              subst (λ fs. AllAwait (scenes_of is') (calls_of is') fs (Some (length (core_type_of provided.func).results))) (sym g.frames) (
                rest G whole g,
                now,
                calls_f,
                ap awaited same_now ∙ sym asked.awaited.due ∙ ap length provided.results,
                record {
                  purpose = subst (λ ss. PurposeFits ss (instance_of g.outer) g.frame.instance g.frame.purpose) (sym (scenes G whole g)) g.frame_fits.purpose;
                  answers =
                      subst (λ n. WillAnswer (scenes_of is') g.frame.purpose (answers_of (scenes_of is') n p.machine.entry)) here_f
                      (subst (λ ts. WillAnswer (scenes_of is') g.frame.purpose ts) (sym (answers_p (scenes_of is') (scenes G whole g)))
                      (subst (λ ss. WillAnswer ss g.frame.purpose (answers_of ss k (call G whole g).machine.entry)) (sym (scenes G whole g))
                      (subst (λ n. WillAnswer (scenes_of old.instances) g.frame.purpose (answers_of (scenes_of old.instances) n (call G whole g).machine.entry)) (sym here_f) g.frame_fits.answers)));
                },
                subst (λ n. AllAwait (scenes_of is') (with_calls (calls_of is') n (rest G whole g)) g.outer (due_behind g.frame.purpose)) here_f (awaits G whole g),
              );
          room = subst (λ fs. AllRoomy (sizes_of is') fs) (sym g.frames) (all_roomy (sizes_of old.instances) (sizes_of is') (sizes_grown old.instances k i found j longer) (g.frame ∷ g.outer) g.room);
          lend = subst (λ fs. AllLend (maps_of is') [] fs) (sym g.frames) (lends G whole g);
        })
        (here_f ∙ sym (ap instance_of g.frames))
        (subst (λ ts. HaveTypes ts args) provided.params asked.typed))
