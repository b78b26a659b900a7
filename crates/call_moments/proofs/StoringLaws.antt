-- One step of storing: the plan goes on in its instance, and then room is asked for, or all is stored, or the run traps.
use Rattle.std.proofs.Common.{◌≡◌, ◌⊎◌, inl, inr, ◌≤◌, ◌<◌, ℕ, List, [], ◌∷◌, length, map, set, reverse, Option, Some, None, Ok, Err, Bool, true, false, refl, sym, ap, subst, ◌∙◌, arith, append-nil}
use Rattle.std.proofs.lemmas.List.{length-map}
use Rattle.std.specs.Prelude.{Result, IsErrAnd, slice_get}
use Rattle.core_memory.specs.Linear.{Linear}
use Rattle.core_store.specs.State.{State, memory_at}
use Rattle.core_store.specs.Scene.{scene_of}
use Rattle.core_store.specs.declared.value.CoreValue.{CoreValue}
use Rattle.core_store.specs.Words.{words, values_in}
use Rattle.core_store.proofs.Keeping.{same_memory}
use Rattle.instance_state.specs.Done.{Stores as RunsStore}
use Rattle.wit_types.specs.PlainValue.{PlainValue}
use Rattle.abi_layout.specs.Storing.{FlatItem, Lowered}
use Rattle.abi_store.specs.Plan as plans
use Rattle.abi_store.specs.Plan.{Halt, Asks, Ends, Traps, Plan, Asked, goes_on, is_due, number_in, core_values}
use Rattle.abi_store.specs.Targets.{Stops}
use Rattle.abi_store.specs.declared.target.StoreStep.{StoreStep}
use Rattle.abi_store.specs.declared.target.StoreStep.TheVariants as steps
use Rattle.host_port.specs.Hosts.{HostStep, Kept}
use Rattle.comp_worlds.specs.Acts.{Trapped, Out, Over, Act, ◌>>◌, traps}
use Rattle.comp_worlds.specs.Groups.{Group, Config, World}
use Rattle.comp_worlds.specs.Locals.{with_store, done, reopen}
use Rattle.comp_worlds.specs.Calls.{on, asks_for}
use Rattle.comp_worlds.specs.Hosts.{hosted}
use Rattle.comp_frames.specs.Running.{running}
use Rattle.comp_frames.specs.Within.{IsRoomy}
use Rattle.comp_frames.specs.Left.{store_with, does_due, goes_granted}
use Rattle.comp_frames.proofs.Halts.{keeps_within}
use Rattle.comp_frames.specs.Frames.{Awaiting, instance_in, is_storing, is_stored, goes_next}
use Rattle.instance_state.specs.declared.instance.Instance.{Instance}
use Rattle.instance_state.specs.Shown.{config_of}
use Rattle.instance_state.specs.Passed.{options_of, IsInStore}
use Rattle.call_moments.specs.declared.end.Stop.{Stop}
use Rattle.call_moments.specs.declared.end.Stop.TheVariants as stops
use Rattle.call_moments.specs.declared.frame.Flow.{Flow}
use Rattle.call_moments.specs.declared.frame.Storing.{Storing}
use Rattle.call_moments.specs.CodeLaws.{nested}
use Rattle.call_moments.specs.Held.{loans_next}
use Rattle.call_moments.specs.MemoryLaws.{NoShorter}
use Rattle.call_moments.specs.Shown.{depth_of, storing_of, next_of}
use Rattle.call_moments.proofs.Lending.{handles_stay}
use Rattle.call_moments.proofs.Whole.{never_shrink}
use Rattle.call_moments.proofs.Worlds.{same_place}
use Rattle.call_moments.specs.Fits.{scenes_of, HasMemory}
use Rattle.call_moments.specs.Waiting.{due_next, instance_of, AsksRoom, NextFits, StoringFits}
use Rattle.call_moments.specs.Leads.{Moment, sizes_of, so_far, Waits, Leads}
use Rattle.call_moments.specs.Functions.{ComesLater, CanStore, Stores, AsksFor, IsStored, storing_so, back_to}
use Rattle.call_moments.proofs.Instances.{store_here}
use Rattle.call_moments.proofs.Following.{with_instance, leads_by, after_does}
use Rattle.call_moments.proofs.KeepingLaws.{sizes_grown, same_code, waits_code}
use Rattle.call_moments.proofs.Planned.{left_from, memory_in}
use Rattle.call_moments.proofs.Rooms.{plan_asks}
use Rattle.call_moments.proofs.Serves.{stays}
use Rattle.call_moments.proofs.StoreSteps.{in_store, reach, asks_anywhere, set_twice, halts_count, count_values, halts_there, goes_in_memory, goes_without}

traps_here : {S : Type 0} (m : Moment S) → so_far m (traps {A = Option PlainValue}) ≡ Over m.kept.seen Trapped
unfolding traps
traps_here m = ap (λ o. Over o Trapped) (append-nil m.kept.seen)

module _ {S : Type 0} (h : HostStep S) (s : Storing) (old : Moment S) (answer : Option ℕ) where
  -- its instance is there
  pub storing_there : length old.instances ≤ s.instance → (new : Moment S) (result : Result Flow Stop) → Stores h old s answer result new
  storing_there le new result = λ G waiting can writes later.
      let lt : s.instance < length old.instances = subst (λ n. s.instance < n) (length-map old.instances (λ (i : Instance). scene_of i.code.store)) can.fits.there in
      absurd (omega arith)

  module _ (i : Instance) (found : slice_get old.instances s.instance ≡ Some i) where
    -- and the memory to which it comes
    pub storing_reaches : s.writes ≡ true → (IsInStore s.options.memory i.code.store → ⊥) → (new : Moment S) (result : Result Flow Stop) → Stores h old s answer result new
    storing_reaches w out new result = λ G waiting can writes later. absurd (out (in_store old.instances s.instance i found s.options (writes w)))

    module _ (j : Instance) (shown : config_of j ≡ with_store (config_of i) j.code.store) (at : ℕ) (named : IsInStore s.options.memory i.code.store → s.options.memory ≡ Some at) (left : Plan) (step : StoreStep)
        (st : RunsStore i.code s.plan at answer left j.code (Ok step)) where
      abbrev k : ℕ
      k = s.instance

      abbrev mid : Moment S
      mid = with_instance old k j

      -- where the plan halts
      abbrev halt_at : Halt
      halt_at = goes_on s.plan.due s.plan.left answer (memory_at i.code.store at)

      abbrev pub StopsAt : Halt → Type 0
      StopsAt halt = Stops halt s.plan.types step left (memory_at j.code.store at)

      stored_so : (halt : Halt) → StopsAt halt → j.code.store ≡ store_with i.code.store at (memory_in halt)
      stored_so halt t = st.0.1 ∙ ap (store_with i.code.store at) (halts_there halt s.plan.types step left (memory_at j.code.store at) t)

      scene_stays : scene_of j.code.store ≡ scene_of i.code.store
      scene_stays = sym ((same_memory i.code.store at (memory_at j.code.store at)).scene ∙ ap scene_of (sym st.0.1))

      longer : NoShorter i.code.store j.code.store
      longer = never_shrink.stores i.code j.code s.plan left at answer step st

      module _ (G : Group) (waiting : List (Awaiting S)) (can : CanStore h G waiting old s) (writes : s.writes ≡ true → HasMemory (scenes_of old.instances) k (options_of s.options))
          (later : s.writes ≡ false → (s.plan.due ≡ plans.Nothing) × ComesLater s.plan.left.steps) where
        -- what comes once all is stored
        abbrev then_on : List ℕ → Act (World S) (Option PlainValue)
        then_on flats = on k reopen >> λ _. is_stored G (hosted h) (nested 0) (instance_in waiting) (back_to h G waiting) (storing_of s) flats

        abbrev left_so : Halt → Act (World S) (Option PlainValue)
        left_so halt = left_from G (hosted h) (running G (hosted h)) (depth_of s.depth) k (options_of s.options) halt then_on

        abbrev whole : Out (World S) (Option PlainValue)
        whole = so_far old (storing_so h G waiting s (does_due G (hosted h) (running G (hosted h)) (depth_of s.depth) k (options_of s.options) s.plan.due s.plan.left answer))

        quiet : (IsInStore s.options.memory i.code.store → ⊥) → (b : Bool) → s.writes ≡ b → (s.plan.due ≡ plans.Nothing) × ComesLater s.plan.left.steps
        quiet out true e = absurd (out (in_store old.instances k i found s.options (writes e)))
        quiet out false e = later e

        asks_none : (IsInStore s.options.memory i.code.store → ⊥) → AsksRoom s.plan.due s.plan.left.steps → s.options.realloc ≡ None
        asks_none out asks = absurd (out (in_store old.instances k i found s.options (can.fits.memory asks)))

        -- how long a memory is
        size_here : (x : ℕ) → sizes_of old.instances k x ≡ length (memory_at i.code.store x).bytes
        size_here x = ap (λ (v : State). length (memory_at v x).bytes) (store_here old.instances k i found)

        room_here : (x : ℕ) → s.options.memory ≡ Some x → IsRoomy (length (memory_at i.code.store x).bytes) s.plan.due s.plan.left
        room_here x e = subst (λ n. IsRoomy n s.plan.due s.plan.left) (size_here x) (can.room x e)

        near : (halt : Halt) → halt_at ≡ halt → StopsAt halt → IsInStore s.options.memory i.code.store → whole ≡ so_far mid (left_so halt)
        near halt is t x =
            goes_in_memory G (hosted h) (running G (hosted h)) (depth_of s.depth) k at old i j found shown (options_of s.options) (named x) s.plan.due s.plan.left answer then_on (subst (λ o. IsInStore o i.code.store) (named x) x) (room_here at (named x)) halt is
            (stored_so halt t)

        far : (halt : Halt) → halt_at ≡ halt → StopsAt halt → (IsInStore s.options.memory i.code.store → ⊥) → whole ≡ so_far mid (left_so halt)
        far halt is t out =
            let waits = quiet out s.writes refl in
            goes_without G (hosted h) (running G (hosted h)) (depth_of s.depth) k at old i j found shown (options_of s.options) s.plan.due s.plan.left answer then_on waits.0 waits.1 halt is (stored_so halt t) (asks_none out)

        goes_so : (halt : Halt) → halt_at ≡ halt → StopsAt halt → whole ≡ so_far mid (left_so halt)
        goes_so halt is t = elim (reach s.options.memory i.code.store) [ inl x ↦ near halt is t x | inr x ↦ far halt is t x ]

        waits_mid : Waits h G mid waiting (loans_next s.then) (due_next s.plan.types s.then)
        waits_mid = waits_code h G old k i j found scene_stays st.1 st.2 (ap (λ (c : Config ℕ). c.map) shown) longer waiting (loans_next s.then) (due_next s.plan.types s.then) can.waits

        -- the run traps
        traps_at : (halt : Halt) → halt_at ≡ halt → StopsAt halt → step ≡ steps.Trap → whole ≡ Over old.kept.seen Trapped
        traps_at (Asks align len after memory) is t e = absurd (let not_so : steps.NeedsRealloc 0 0 align len ≡ steps.Trap = sym t.0 ∙ e in cc)
        traps_at (Ends flats memory) is t e = absurd (let not_so : steps.Done (core_values s.plan.types flats) ≡ steps.Trap = sym t.0 ∙ e in cc)
        traps_at (Traps memory) is t e = goes_so (Traps memory) is t ∙ traps_here mid

        -- all is stored, and the instance is opened again
        done_at : (halt : Halt) → halt_at ≡ halt → StopsAt halt → (flat : List CoreValue) → step ≡ steps.Done flat → (opened : Instance) → reopen (config_of j) ≡ Some (done (config_of opened)) → opened.code ≡ j.code → (new : Moment S) (result : Result Flow Stop) →
            IsStored h (with_instance old k opened) s.then flat result new → Leads h G whole mid result new
        done_at (Asks align len after memory) is t flat e opened o c new result stored = absurd (let not_so : steps.NeedsRealloc 0 0 align len ≡ steps.Done flat = sym t.0 ∙ e in cc)
        done_at (Traps memory) is t flat e opened o c new result stored = absurd (let not_so : steps.Trap ≡ steps.Done flat = sym t.0 ∙ e in cc)
        done_at (Ends flats memory) is t flat e opened o c new result stored =
            let same : steps.Done (core_values s.plan.types flats) ≡ steps.Done flat = sym t.0 ∙ e in
            let values : core_values s.plan.types flats ≡ flat = cc in
            let many : length flats ≡ length s.plan.types = halts_count s.plan.due s.plan.left answer (memory_at i.code.store at) (Ends flats memory) is ∙ can.fits.count in
            let twice : with_instance mid k opened ≡ with_instance old k opened = ap (λ xs. record old { instances = xs }) (set_twice old.instances k j opened) in
            leads_by h G whole (so_far mid (then_on (map number_in flats))) mid mid new result (goes_so (Ends flats memory) is t) (stays h mid)
            (after_does h G waiting (loans_next s.then) (due_next s.plan.types s.then) mid (with_instance old k opened) new result waits_mid reopen handles_stay.reopens k
            (goes_next G (hosted h) (nested 0) (instance_in waiting) (back_to h G waiting) (storing_of s) (map number_in flats) (next_of s.then))
            (record { before = j; after = opened; found = same_place old.instances k i j found; goes = o; code = c; is = sym twice })
            (λ w2 same2. stored G waiting (storing_of s) (map number_in flats) w2
            (subst (λ ss. NextFits ss (instance_of (reverse old.frames)) (depth_of s.depth) s.plan.types s.then) (sym (same2.scenes ∙ (same_code h G old k i j found scene_stays).scenes)) can.fits.next)
            (ap length (sym values) ∙ count_values s.plan.types flats many)
            (sym (can.fits.numbers flats) ∙ values)))

        module _ (writes' : Bool) (due' : is_due left.due ≡ true → writes' ≡ true) where
          abbrev pub asking : Storing
          asking = record { instance = k; plan = left; options = s.options; depth = s.depth; writes = writes'; then = s.then; due = due' }

          module _ (align len : ℕ) (after : Lowered) (memory : Linear) (is : halt_at ≡ Asks align len after memory) (t : StopsAt (Asks align len after memory)) where
            left_is : left ≡ record { due = Asked align len; left = after; types = s.plan.types }
            left_is = t.1

            -- what is left stays within the memory
            grown : (x : ℕ) → length (memory_at i.code.store x).bytes ≤ sizes_of mid.instances k x
            grown x = subst (λ n. n ≤ sizes_of mid.instances k x) (size_here x) (sizes_grown old.instances k i found j longer k x)

            roomy_at : (x : ℕ) (new : Linear) → s.options.memory ≡ Some x → goes_on s.plan.due s.plan.left answer (memory_at i.code.store x) ≡ Asks align len after new → IsRoomy (sizes_of mid.instances k x) (Asked align len) after
            roomy_at x new e to = (keeps_within s.plan.due s.plan.left after answer align len (sizes_of mid.instances k x) (memory_at i.code.store x) new (room_here x e) to (grown x)).0

            roomy : (x : ℕ) → s.options.memory ≡ Some x → IsRoomy (sizes_of mid.instances k x) (Asked align len) after
            roomy x e = elim (reach s.options.memory i.code.store) [ inl y ↦ here y | inr out ↦ there out ]
              where
                here : IsInStore s.options.memory i.code.store → IsRoomy (sizes_of mid.instances k x) (Asked align len) after
                here y =
                    let both : Some x ≡ Some at = sym e ∙ named y in
                    let same : x ≡ at = cc in
                    roomy_at x memory e (ap (λ n. goes_on s.plan.due s.plan.left answer (memory_at i.code.store n)) same ∙ is)

                there : (IsInStore s.options.memory i.code.store → ⊥) → IsRoomy (sizes_of mid.instances k x) (Asked align len) after
                there out =
                    let waits = quiet out s.writes refl in
                    roomy_at x (memory_at i.code.store x) e (asks_anywhere s.plan.due s.plan.left answer (memory_at i.code.store at) memory align len after waits.0 waits.1 is (memory_at i.code.store x))

            can_ask : CanStore h G waiting mid asking
            can_ask = record {
              waits = subst (λ (q : Plan). Waits h G mid waiting (loans_next s.then) (due_next q.types s.then)) (sym left_is) waits_mid;
              fits = subst (λ ss. StoringFits ss (instance_of (reverse old.frames)) asking) (sym (same_code h G old k i j found scene_stays).scenes) (record {
                there = can.fits.there;
                next = subst (λ (q : Plan). NextFits (scenes_of old.instances) (instance_of (reverse old.frames)) (depth_of s.depth) q.types s.then) (sym left_is) can.fits.next;
                realloc = can.fits.realloc;
                memory = λ asks. can.fits.memory (plan_asks s.plan.due s.plan.left answer (memory_at i.code.store at) memory align len after is);
                count = subst (λ (q : Plan). length q.left.flats ≡ length q.types) (sym left_is) (halts_count s.plan.due s.plan.left answer (memory_at i.code.store at) (Asks align len after memory) is ∙ can.fits.count);
                numbers = subst (λ (q : Plan). (flats : List FlatItem) → core_values q.types flats ≡ values_in 0 q.types (map number_in flats)) (sym left_is) can.fits.numbers;
              });
              room = λ x e. subst (λ (q : Plan). IsRoomy (sizes_of mid.instances k x) q.due q.left) (sym left_is) (roomy x e);
            }

            -- what comes after room that is asked for, by a plan
            abbrev asks_by : Plan → Out (World S) (Option PlainValue)
            asks_by q =
                so_far mid (is_storing G (hosted h) (nested 0) (instance_in waiting) (back_to h G waiting) k (record { options = options_of s.options; depth = depth_of s.depth; types = q.types; next = next_of s.then })
                (asks_for G (hosted h) (running G (hosted h)) (depth_of s.depth) k s.options.realloc align len >> λ results.
                goes_granted G (hosted h) (running G (hosted h)) (depth_of s.depth) k (options_of s.options) align len q.left (words results)))

            asks_so : (new : Moment S) (result : Result Flow Stop) → AsksFor h mid asking align len result new → Leads h G whole mid result new
            asks_so new result asks =
                leads_by h G whole (asks_by left) mid mid new result (goes_so (Asks align len after memory) is t ∙ sym (ap asks_by left_is)) (stays h mid) (asks G waiting can_ask (ap (λ (q : Plan). q.due) left_is))

          asks_at : (halt : Halt) → halt_at ≡ halt → StopsAt halt → (place size align len : ℕ) → step ≡ steps.NeedsRealloc place size align len → (new : Moment S) (result : Result Flow Stop) → AsksFor h mid asking align len result new → Leads h G whole mid result new
          asks_at (Ends flats memory) is t place size align len e new result asks = absurd (let not_so : steps.Done (core_values s.plan.types flats) ≡ steps.NeedsRealloc place size align len = sym t.0 ∙ e in cc)
          asks_at (Traps memory) is t place size align len e new result asks = absurd (let not_so : steps.Trap ≡ steps.NeedsRealloc place size align len = sym t.0 ∙ e in cc)
          asks_at (Asks a l after memory) is t place size align len e new result asks =
              let same : steps.NeedsRealloc 0 0 a l ≡ steps.NeedsRealloc place size align len = sym t.0 ∙ e in
              let aligns : align ≡ a = cc in
              let lens : len ≡ l = cc in
              asks_so a l after memory is t new result (subst (λ n. AsksFor h mid asking n l result new) aligns (subst (λ n. AsksFor h mid asking align n result new) lens asks))

      pub step_traps : step ≡ steps.Trap → (new : Moment S) → new.kept ≡ old.kept → Stores h old s answer (Err stops.Trapped) new
      step_traps e new same = λ G waiting can writes later. traps_at G waiting can writes later halt_at refl st.0.0 e ∙ ap (λ (x : Kept S). Over x.seen Trapped) (sym same)

      pub step_done : (flat : List CoreValue) → step ≡ steps.Done flat → (opened : Instance) → reopen (config_of j) ≡ Some (done (config_of opened)) → opened.code ≡ j.code → (new : Moment S) (result : Result Flow Stop) →
          IsStored h (with_instance old k opened) s.then flat result new → Stores h old s answer result new
      step_done flat e opened o c new result stored = λ G waiting can writes later.
          leads_by h G (whole G waiting can writes later) (whole G waiting can writes later) old mid new result refl (same_code h G old k i j found scene_stays) (done_at G waiting can writes later halt_at refl st.0.0 flat e opened o c new result stored)

      pub step_asks : (place size align len : ℕ) → step ≡ steps.NeedsRealloc place size align len → (writes' : Bool) (due' : is_due left.due ≡ true → writes' ≡ true) (new : Moment S) (result : Result Flow Stop) →
          AsksFor h mid (record { instance = k; plan = left; options = s.options; depth = s.depth; writes = writes'; then = s.then; due = due' }) align len result new → Stores h old s answer result new
      step_asks place size align len e writes' due' new result asks = λ G waiting can writes later.
          leads_by h G (whole G waiting can writes later) (whole G waiting can writes later) old mid new result refl (same_code h G old k i j found scene_stays)
          (asks_at G waiting can writes later writes' due' halt_at refl st.0.0 place size align len e new result asks)

      pub step_fails : (stop : Stop) (new : Moment S) → stop ≡ stops.NoMemory → Stores h old s answer (Err stop) new
      step_fails stop new e = subst (λ x. Stores h old s answer (Err x) new) (sym e) (λ G waiting can writes later. tt)
