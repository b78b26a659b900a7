-- What is asked from outside comes out as is defined.
use Rattle.std.proofs.Common.{◌≡◌, ◌++◌, ℕ, zero, suc, Bool, List, [], ◌∷◌, length, map, reverse, Option, Some, None, Ok, Err, true, false, refl, sym, ap, subst, ◌∙◌, append-nil}
use Rattle.std.specs.Prelude.{Result, IsErrAnd, option_map}
use Rattle.std.specs.Option.{option_and_then}
use Rattle.std.specs.Global.{Global}
use Rattle.std.specs.declared.rc.Rc.{Rc}
use Rattle.std.proofs.Math.Path.{fun_ext}
use Rattle.wit_types.specs.Plain.{Plain, PlainFunc}
use Rattle.wit_types.specs.PlainValue.{PlainValue, PlainValues, RecordValue, plain_value}
use Rattle.wit_types.specs.declared.value.Value.{Value}
use Rattle.abi_layout.specs.Handles.{handles, renumbered}
use Rattle.host_port.specs.Calls.{plain_option}
use Rattle.host_port.specs.Hosts.{HostStep, Kept}
use Rattle.comp_worlds.specs.Acts.{End, Trapped, ScriptEnded, BadAnswer, TooDeep, Out, Next, Over, Spent, seen_before, then_do, Act, ◌>>◌, gives, takes_step}
use Rattle.comp_worlds.specs.Passing.{Passed, params_tuple, answer_tuple, blank, out_of_tuple}
use Rattle.comp_worlds.specs.Groups.{Nesting, Endless, Nested, Group, Lifting, Target, Mine, Theirs, type_of, Import, World, Answer, Origin, Inside, Outside, Ports, has_room}
use Rattle.comp_worlds.specs.Calls.{below, below_end, begins_call, finds_room, if_room, too_deep, answers, leaves, starts}
use Rattle.comp_worlds.specs.Hosts.{passed_by, hosted, reacts}
use Rattle.comp_frames.proofs.Heads.{before_then, before_next, then_then, then_alike, gives_then, below_then}
use Rattle.comp_frames.specs.Running.{running}
use Rattle.comp_frames.specs.Frames.{Awaiting, instance_in}
use Rattle.comp_frames.specs.Laws.{calls_lifted}
use Rattle.comp_frames.specs.Frames as defined
use Rattle.comp_frames.proofs.Steps.{calls_from_outside as outside_laws}
use Rattle.instance_state.specs.Targets.{target_of, lifting_of}
use Rattle.instance_state.specs.declared.target.Lifting.{Lifting as CodeLifting}
use Rattle.call_moments.specs.Steps.{BeginsCall}
use Rattle.call_moments.specs.declared.depth.Depth.{Depth}
use Rattle.call_moments.specs.declared.end.Stop.{Stop}
use Rattle.call_moments.specs.declared.end.Stop.TheVariants as stops
use Rattle.call_moments.specs.declared.frame.Flow.{Flow}
use Rattle.call_moments.specs.declared.frame.Flow.TheVariants as flows
use Rattle.call_moments.specs.declared.frame.Caller.TheVariants as callers
use Rattle.call_moments.specs.declared.frame.Purpose.TheVariants as purposes
use Rattle.call_moments.specs.CodeLaws.{nested}
use Rattle.call_moments.specs.Configs.{world_of}
use Rattle.call_moments.specs.Held.{AllLend}
use Rattle.call_moments.specs.Shown.{depth_of}
use Rattle.call_moments.specs.Standing.{AllStand}
use Rattle.call_moments.proofs.Own.{numbers, own_numbers}
use Rattle.call_moments.specs.Fits.{scenes_of, Takes, TargetFits}
use Rattle.call_moments.specs.Waiting.{HoldsNone, instance_of, AllAwait, AllRoomy}
use Rattle.call_moments.specs.Leads.{Moment, stores_of, calls_of, maps_of, sizes_of, so_far, Same, Waits, GoesOn, IsAtRest, IsDone, Ends, Leads}
use Rattle.call_moments.specs.Functions.{CanBegin, CodeBegins, CallsLifted, LeadsOn, run, behind, back_to}
use Rattle.call_moments.specs.Canonical.{AsksHost, GoesToPause, GoesToEnd}
use Rattle.call_moments.specs.Outside.{CanCall, ComesOut, calls_from_outside, RunsStart, RunsCall}
use Rattle.call_moments.proofs.Following.{same_after, ends_by, begin_then, begin_ends}

-- ---- an answer that is made of another one

module _ {S A B : Type 0} (h : HostStep S) (G : Group) (m : Moment S) (x : Act (World S) A) (f : A → B) where
  -- what is done after what was seen
  with_answer : so_far m (x >> λ a. gives (f a)) ≡ then_do (so_far m x) (λ a. gives (f a))
  unfolding ◌>>◌
  with_answer = sym (before_then m.kept.seen (x (world_of m.instances m.kept.state) m.budget) (λ a. gives (f a)))

  given : (o : List _) (left : ℕ) (w : World S) (a : A) → then_do (Next o left w a) (λ b. gives (f b)) ≡ Next o left w (f a)
  unfolding gives
  given o left w a = before_next o left w (f a)

  pub next_with : (o : List _) (left : ℕ) (w : World S) (a : A) → so_far m x ≡ Next o left w a → so_far m (x >> λ a. gives (f a)) ≡ Next o left w (f a)
  next_with o left w a e = with_answer ∙ ap (λ y. then_do y (λ b. gives (f b))) e ∙ given o left w a

  over_with : (o : List _) (e : End) → so_far m x ≡ Over o e → so_far m (x >> λ a. gives (f a)) ≡ Over o e
  over_with o e is = with_answer ∙ ap (λ y. then_do y (λ b. gives (f b))) is

  pub ends_with : (new : Moment S) (stop : Stop) → Ends h G (so_far m x) new stop → Ends h G (so_far m (x >> λ a. gives (f a))) new stop
  ends_with new stops.Trapped e = over_with new.kept.seen Trapped e
  ends_with new stops.ScriptEnded e = over_with new.kept.seen ScriptEnded e
  ends_with new stops.BadAnswer e = over_with new.kept.seen BadAnswer e
  ends_with new stops.TooDeep e = over_with new.kept.seen TooDeep e
  ends_with new stops.Spent e = with_answer ∙ ap (λ y. then_do y (λ b. gives (f b))) e
  ends_with new stops.NoMemory e = tt

-- ---- nothing is in progress

module _ {S : Type 0} (h : HostStep S) (G : Group) (m : Moment S) (r : IsAtRest h G m) where
  none : reverse m.frames ≡ []
  none = ap reverse r.frames

  pub rest_waits : Waits h G m [] [] None
  rest_waits = record {
    fits = r.fits;
    still = r.still;
    stand = subst (λ fs. AllStand h G (stores_of m.instances) (calls_of m.instances) fs []) (sym none) r.calls;
    await = subst (λ fs. AllAwait (scenes_of m.instances) (calls_of m.instances) fs None) (sym none) tt;
    room = subst (λ fs. AllRoomy (sizes_of m.instances) fs) (sym none) tt;
    lend = subst (λ fs. AllLend (maps_of m.instances) [] fs) (sym none) r.lend;
  }

-- ---- it goes on to the end

module _ {S : Type 0} (h : HostStep S) where
  pub comes_err : {A B : Type 0} (of : A → B) (G : Group) (whole : Out (World S) B) (old new : Moment S) (stop : Stop) (result : Result A Stop) → IsErrAnd result (λ s. s ≡ stop) → Ends h G whole new stop → ComesOut h of G whole old result new
  comes_err of G whole old new stop (Ok a) e l = absurd e
  comes_err of G whole old new stop (Err s) e l = subst (λ x. Ends h G whole new x) (sym e) l

  -- so far it went on
  abbrev pub WentOn : Moment S → Moment S → Type 0
  WentOn old now = (G : Group) (whole : Out (World S) (Option PlainValue)) → GoesOn h G whole old → Same old now × GoesOn h G whole now

  pub went_nowhere : (m : Moment S) → WentOn m m
  went_nowhere m = λ G whole g. (record { group = refl; scenes = refl }, g)

  pub went_further : (old now new : Moment S) → WentOn old now → GoesToPause h now (Ok flows.Goes) new → WentOn old new
  went_further old now new w p = λ G whole g.
      let a = w G whole g in
      let b = p G whole a.1 in
      (same_after old now new a.0 b.0, b.1)

  pub went_to_end : (old now new : Moment S) (flow : Flow) (value : Option Value) → WentOn old now → flow ≡ flows.Done value → GoesToPause h now (Ok flow) new → GoesToEnd h old (Ok value) new
  went_to_end old now new flow value w e p = λ G whole g.
      let a = w G whole g in
      let b : Same now new × IsDone h G whole new (option_map plain_value value) = subst (λ x. Leads h G whole now (Ok x) new) e (p G whole a.1) in
      (same_after old now new a.0 b.0, b.1)

  pub went_wrong : (old now new : Moment S) (stop : Stop) (result : Result (Option Value) Stop) → WentOn old now → GoesToPause h now (Err stop) new → IsErrAnd result (λ s. s ≡ stop) → GoesToEnd h old result new
  went_wrong old now new stop (Ok v) w p e = absurd e
  went_wrong old now new stop (Err s) w p e = subst (λ x. GoesToEnd h old (Err x) new) (sym e) (λ G whole g. p G whole (w G whole g).1)

  -- ---- a start function

  module _ (old : Moment S) (k f : ℕ) (depth : Depth) (outermost : depth.calls ≡ 0) where
    abbrev runs : (G : Group) → Act (World S) (Option PlainValue)
    runs G = run h G (nested 0) k f [] >> behind h G [] k defined.Starts

    begins_so : (result : Result (Unit {0}) Stop) (mid : Moment S) → CodeBegins h old k f [] depth purposes.Starts result mid → (G : Group) → IsAtRest h G old → Takes (scenes_of old.instances) k f 0 → LeadsOn h G (so_far old (runs G)) old result mid
    begins_so result mid begins G r takes =
        subst (λ n. LeadsOn h G (so_far old (run h G (nested n) k f [] >> behind h G [] k defined.Starts)) old result mid) outermost
        (begins G [] (rest_waits h G old r) (record { takes = takes; fits = tt; answers = tt; room = tt }))

    -- what is defined is that, and then nothing is answered
    start_so : (G : Group) → starts G (hosted h) (running G (hosted h)) (nested 0) k (Some f) ≡ (runs G >> λ _. gives tt)
    start_so G = sym (then_then (run h G (nested 0) k f []) (behind h G [] k defined.Starts) (λ _. gives tt) ∙ then_alike (run h G (nested 0) k f []) _ _ (λ results. gives_then None (λ _. gives tt)))

    pub start_stops : (args : List _) → args ≡ [] → (new : Moment S) (stop : Stop) (result : Result (Unit {0}) Stop) → CodeBegins h old k f args depth purposes.Starts (Err stop) new → IsErrAnd result (λ s. s ≡ stop) → RunsStart h old k f result new
    start_stops args a new stop result begins e = λ G r takes.
        comes_err (λ u. u) G _ old new stop result e
        (ends_by h G _ _ new stop (ap (so_far old) (start_so G)) (ends_with h G old (runs G) (λ _. tt) new stop (begins_so (Err stop) new (subst (λ xs. CodeBegins h old k f xs depth purposes.Starts (Err stop) new) a begins) G r takes)))

    pub start_wrong : (args : List _) → args ≡ [] → (mid new : Moment S) (stop : Stop) (result : Result (Unit {0}) Stop) → CodeBegins h old k f args depth purposes.Starts (Ok tt) mid → GoesToEnd h mid (Err stop) new → IsErrAnd result (λ s. s ≡ stop) → RunsStart h old k f result new
    start_wrong args a mid new stop result begins ends e = λ G r takes.
        let b = begins_so (Ok tt) mid (subst (λ xs. CodeBegins h old k f xs depth purposes.Starts (Ok tt) mid) a begins) G r takes in
        comes_err (λ u. u) G _ old new stop result e
        (ends_by h G _ _ new stop (ap (so_far old) (start_so G)) (ends_with h G old (runs G) (λ _. tt) new stop (ends G (so_far old (runs G)) b.1)))

    pub start_done : (args : List _) → args ≡ [] → (mid new : Moment S) (value : Option Value) → CodeBegins h old k f args depth purposes.Starts (Ok tt) mid → GoesToEnd h mid (Ok value) new → RunsStart h old k f (Ok tt) new
    start_done args a mid new value begins ends = λ G r takes.
        let b = begins_so (Ok tt) mid (subst (λ xs. CodeBegins h old k f xs depth purposes.Starts (Ok tt) mid) a begins) G r takes in
        let d = ends G (so_far old (runs G)) b.1 in (
          same_after old mid new b.0 d.0,
          d.1.rest,
          ap (so_far old) (start_so G) ∙ next_with h G old (runs G) (λ _. tt) new.kept.seen new.budget (world_of new.instances new.kept.state) (option_map plain_value value) d.1.is,
        )

-- ---- a call

-- a tuple's value
abbrev out_of : Option PlainValue → Option PlainValue
out_of o = option_and_then out_of_tuple o

module _ {S : Type 0} (h : HostStep S) (G : Group) where
  -- what is defined answers with the tuple's value
  call_so : (target : Target) (args : PlainValues) →
      calls_from_outside h G target args
      ≡ ((answers G (hosted h) (running G (hosted h)) (nested 0) Outside target (record { value = RecordValue args; reps = [] }) >> λ answer.
      leaves G (hosted h) (running G (hosted h)) (nested 0) answer.due >> λ _. gives (Some answer.passed.value)) >> λ o. gives (out_of o))
  call_so target args =
      sym (then_then (answers G (hosted h) (running G (hosted h)) (nested 0) Outside target (record { value = RecordValue args; reps = [] })) _ (λ o. gives (out_of o))
      ∙ then_alike (answers G (hosted h) (running G (hosted h)) (nested 0) Outside target (record { value = RecordValue args; reps = [] })) _ _ (λ answer.
      then_then (leaves G (hosted h) (running G (hosted h)) (nested 0) answer.due) _ (λ o. gives (out_of o))
      ∙ then_alike (leaves G (hosted h) (running G (hosted h)) (nested 0) answer.due) _ _ (λ _. gives_then (Some answer.passed.value) (λ o. gives (out_of o)))))

-- a value without handles is what passes
without : (ty : Plain) (v : PlainValue) → HoldsNone ty → blank ty v ≡ v
without ty v none = ap (λ hs. renumbered ty v (numbers hs)) (sym (none v)) ∙ own_numbers ty v

passes_alone : (ty : Plain) (v : PlainValue) → HoldsNone ty → passed_by ty v ≡ record { value = v; reps = [] }
passes_alone ty v none = ap (λ x. record { value = x; reps = numbers (handles ty v) }) (without ty v none) ∙ ap (λ hs. record { value = v; reps = numbers hs }) (none v)

module _ {S : Type 0} (h : HostStep S) (old : Moment S) (args : PlainValues) where
  abbrev tuple_of_args : PlainValue
  tuple_of_args = RecordValue args

  -- ---- of an instance's function
  module _ (callee : ℕ) (rc : Rc CodeLifting Global) (depth : Depth) (outermost : depth.calls ≡ 0) where
    abbrev lifting : Lifting
    lifting = lifting_of rc.value

    abbrev whole : (G : Group) → Act (World S) (Option PlainValue)
    whole G = calls_lifted G h (nested 0) 0 (back_to h G []) defined.FromOutside (nested 0) callee lifting (passed_by (params_tuple lifting.ty) tuple_of_args)

    own_so : (G : Group) → HoldsNone (params_tuple lifting.ty) → so_far old (calls_from_outside h G (Mine callee lifting) args) ≡ so_far old (whole G >> λ o. gives (out_of o))
    own_so G none =
        ap (so_far old)
        (call_so h G (Mine callee lifting) args
        ∙ ap (λ (x : Act (World S) (Option PlainValue)). x >> λ o. gives (out_of o)) ((outside_laws G h (nested 0)).lifted 0 (back_to h G []) (nested 0) callee lifting (record { value = tuple_of_args; reps = [] }))
        ∙ ap (λ p. calls_lifted G h (nested 0) 0 (back_to h G []) defined.FromOutside (nested 0) callee lifting p >> λ o. gives (out_of o)) (sym (passes_alone (params_tuple lifting.ty) tuple_of_args none)))

    -- it begins, and goes on or is over
    lifted_so : (value : PlainValue) → value ≡ tuple_of_args → (result : Result Flow Stop) (mid : Moment S) → CallsLifted h old callee lifting callers.Outside depth value result mid → (G : Group) → IsAtRest h G old → CanCall G old (Mine callee lifting) args →
        Leads h G (so_far old (whole G)) old result mid
    lifted_so value e result mid leads G r can =
        let there : CallsLifted h old callee lifting callers.Outside depth tuple_of_args result mid = subst (λ v. CallsLifted h old callee lifting callers.Outside depth v result mid) e leads in
        subst (λ n. Leads h G (so_far old (calls_lifted G h (nested 0) 0 (back_to h G []) defined.FromOutside (nested n) callee lifting (passed_by (params_tuple lifting.ty) tuple_of_args))) old result mid) outermost
        (there G [] (rest_waits h G old r) can.fits.0 can.answer can.fits.1 can.typed)

    pub own_stops : (value : PlainValue) → value ≡ tuple_of_args → (new : Moment S) (stop : Stop) (result : Result (Option Value) Stop) → CallsLifted h old callee lifting callers.Outside depth value (Err stop) new → IsErrAnd result (λ s. s ≡ stop) →
        RunsCall h old (Mine callee lifting) args result new
    own_stops value v new stop result leads e = λ G r can.
        comes_err h plain_option G _ old new stop result e (ends_by h G _ _ new stop (own_so G can.params) (ends_with h G old (whole G) out_of new stop (lifted_so value v (Err stop) new leads G r can)))

    -- the answer is there at once
    pub own_done : (value : PlainValue) → value ≡ tuple_of_args → (new : Moment S) (flow : Flow) (o answer : Option Value) → CallsLifted h old callee lifting callers.Outside depth value (Ok flow) new → flow ≡ flows.Done o → plain_option answer ≡ out_of (option_map plain_value o) →
        RunsCall h old (Mine callee lifting) args (Ok answer) new
    own_done value v new flow o answer leads f e = λ G r can.
        let d : Same old new × IsDone h G (so_far old (whole G)) new (option_map plain_value o) = subst (λ x. Leads h G (so_far old (whole G)) old (Ok x) new) f (lifted_so value v (Ok flow) new leads G r can) in
        (d.0, d.1.rest, own_so G can.params ∙ next_with h G old (whole G) out_of new.kept.seen new.budget (world_of new.instances new.kept.state) (option_map plain_value o) d.1.is ∙ ap (λ a. Next new.kept.seen new.budget (world_of new.instances new.kept.state) a) (sym e))

    -- or after core code
    module _ (value : PlainValue) (v : value ≡ tuple_of_args) (mid : Moment S) (flow : Flow) (leads : CallsLifted h old callee lifting callers.Outside depth value (Ok flow) mid) (f : flow ≡ flows.Goes) where
      goes_so : (G : Group) → IsAtRest h G old → CanCall G old (Mine callee lifting) args → Same old mid × GoesOn h G (so_far old (whole G)) mid
      goes_so G r can = subst (λ x. Leads h G (so_far old (whole G)) old (Ok x) mid) f (lifted_so value v (Ok flow) mid leads G r can)

      pub own_wrong : (new : Moment S) (stop : Stop) (result : Result (Option Value) Stop) → GoesToEnd h mid (Err stop) new → IsErrAnd result (λ s. s ≡ stop) → RunsCall h old (Mine callee lifting) args result new
      own_wrong new stop result ends e = λ G r can.
          comes_err h plain_option G _ old new stop result e (ends_by h G _ _ new stop (own_so G can.params) (ends_with h G old (whole G) out_of new stop (ends G (so_far old (whole G)) (goes_so G r can).1)))

      pub own_ends : (new : Moment S) (o answer : Option Value) → GoesToEnd h mid (Ok o) new → plain_option answer ≡ out_of (option_map plain_value o) → RunsCall h old (Mine callee lifting) args (Ok answer) new
      own_ends new o answer ends e = λ G r can.
          let g = goes_so G r can in
          let d = ends G (so_far old (whole G)) g.1 in (
            same_after old mid new g.0 d.0,
            d.1.rest,
            own_so G can.params ∙ next_with h G old (whole G) out_of new.kept.seen new.budget (world_of new.instances new.kept.state) (option_map plain_value o) d.1.is ∙ ap (λ a. Next new.kept.seen new.budget (world_of new.instances new.kept.state) a) (sym e),
          )

-- ---- of the host

gives_at : {S A : Type 0} (m : Moment S) (a : A) → so_far m (gives a) ≡ Next m.kept.seen m.budget (world_of m.instances m.kept.state) a
unfolding gives
gives_at m a = before_next m.kept.seen m.budget (world_of m.instances m.kept.state) a

module _ {S : Type 0} where
  room_below : (b : Bool) (w : World S) (n : ℕ) → below_end w (if_room b w.below n) ≡ if_room b w n
  room_below true w n = refl
  room_below false w zero = refl
  room_below false w (suc n) = refl

  begins_at : (d : Nesting) (w : World S) (n : ℕ) → below (begins_call d) w n ≡ begins_call d w n
  unfolding ◌>>◌ below takes_step finds_room
  begins_at d w zero = refl
  begins_at d w (suc n) = step (has_room d)
    where
      step : (b : Bool) → below_end w (seen_before [] (if_room b w.below n)) ≡ seen_before [] (if_room b w n)
      step true = refl
      step false = deep n
        where
          deep : (l : ℕ) → below_end w (seen_before [] (too_deep l)) ≡ seen_before [] (too_deep l)
          deep zero = refl
          deep (suc l) = refl

  begins_below : (d : Nesting) → ◌≡◌ {A = Act (World S) (Unit {0})} (below (begins_call d)) (begins_call d)
  begins_below d = fun_ext (λ w. fun_ext (λ n. begins_at d w n))

module _ {S : Type 0} (h : HostStep S) (old : Moment S) (args : PlainValues) (import : Import) where
  abbrev tuple_in : PlainValue
  tuple_in = RecordValue args

  -- it is called, after the step of the call
  abbrev asks_it : Act (World S) (Option PlainValue)
  asks_it = below ((hosted h).ask (nested 0) Inside import (passed_by (params_tuple import.ty) tuple_in)) >> λ a. gives (Some a.passed.value)

  host_so : (G : Group) → HoldsNone (params_tuple import.ty) → so_far old (calls_from_outside h G (Theirs import) args) ≡ so_far old ((begins_call (nested 0) >> λ _. asks_it) >> λ o. gives (out_of o))
  host_so G none =
      let p : Passed ℕ = record { value = tuple_in; reps = [] } in
      ap (so_far old)
      (call_so h G (Theirs import) args
      ∙ ap (λ (x : Act (World S) (Option PlainValue)). x >> λ o. gives (out_of o))
      ((outside_laws G h (nested 0)).imported (nested 0) import p
      ∙ ap (λ (x : Act (World S) Answer). x >> λ a. gives (Some a.passed.value)) (below_then (begins_call (nested 0)) (λ _. reacts h import p) ∙ ap (λ (y : Act (World S) (Unit {0})). y >> λ _. below (reacts h import p)) (begins_below (nested 0)))
      ∙ then_then (begins_call (nested 0)) (λ _. below (reacts h import p)) (λ a. gives (Some a.passed.value))
      ∙ ap (λ q. begins_call (nested 0) >> λ _. below (reacts h import q) >> λ a. gives (Some a.passed.value)) (sym (passes_alone (params_tuple import.ty) tuple_in none))))

  pub host_stops : (new : Moment S) (stop : Stop) (result : Result (Option Value) Stop) → BeginsCall old.budget 0 new.budget (Err stop) → new.kept ≡ old.kept → IsErrAnd result (λ s. s ≡ stop) → RunsCall h old (Theirs import) args result new
  host_stops new stop result b same e = λ G r can.
      comes_err h plain_option G _ old new stop result e (ends_by h G _ _ new stop (host_so G can.params) (ends_with h G old (begins_call (nested 0) >> λ _. asks_it) out_of new stop (begin_ends h G old new 0 new.budget stop (λ _. asks_it) same b)))

  module _ (mid : Moment S) (depth : Depth) (b : BeginsCall old.budget 0 mid.budget (Ok depth)) (is : mid ≡ record old { budget = mid.budget }) (value : PlainValue) (v : value ≡ tuple_in) where
    begun_so : (G : Group) → so_far old (begins_call (nested 0) >> λ _. asks_it) ≡ so_far mid asks_it
    begun_so G = begin_then h G old 0 mid.budget depth (λ _. asks_it) b ∙ ap (λ m. so_far m asks_it) (sym is)

    pub host_ends : (new : Moment S) (stop : Stop) (result : Result (Option Value) Stop) → AsksHost h mid import value (Err stop) new → IsErrAnd result (λ s. s ≡ stop) → RunsCall h old (Theirs import) args result new
    host_ends new stop result asks e = λ G r can.
        comes_err h plain_option G _ old new stop result e
        (ends_by h G _ _ new stop (host_so G can.params)
        (ends_with h G old (begins_call (nested 0) >> λ _. asks_it) out_of new stop
        (ends_by h G _ _ new stop (begun_so G) (subst (λ x. AsksHost h mid import x (Err stop) new) v asks G (nested 0) (λ a. gives (Some a.passed.value))))))

    pub host_answers : (new : Moment S) (tuple : Value) (answer : Option Value) → AsksHost h mid import value (Ok tuple) new → plain_option answer ≡ out_of (Some (plain_value tuple)) → RunsCall h old (Theirs import) args (Ok answer) new
    host_answers new tuple answer asks e = λ G r can.
        let there = subst (λ x. AsksHost h mid import x (Ok tuple) new) v asks in
        let mid_same : Same old mid = subst (λ m. Same old m) (sym is) (record { group = refl; scenes = refl }) in
        let new_same : Same mid new = subst (λ m. Same mid m) (sym there.2) (record { group = refl; scenes = refl }) in
        let rest : IsAtRest h G mid = subst (λ m. IsAtRest h G m) (sym is) (record { fits = r.fits; still = r.still; calls = r.calls; frames = r.frames; lend = r.lend }) in
        let rest_new : IsAtRest h G new = subst (λ m. IsAtRest h G m) (sym there.2) (record { fits = rest.fits; still = rest.still; calls = rest.calls; frames = rest.frames; lend = rest.lend }) in
        let comes : so_far mid asks_it ≡ Next new.kept.seen new.budget (world_of new.instances new.kept.state) (Some (blank (answer_tuple import.ty) (plain_value tuple))) = there.0 (nested 0) (λ a. gives (Some a.passed.value)) ∙ gives_at new _ in (
          same_after old mid new mid_same new_same,
          rest_new,
          host_so G can.params
              ∙ next_with h G old (begins_call (nested 0) >> λ _. asks_it) out_of new.kept.seen new.budget (world_of new.instances new.kept.state) (Some (blank (answer_tuple import.ty) (plain_value tuple))) (begun_so G ∙ comes)
              ∙ ap (λ x. Next new.kept.seen new.budget (world_of new.instances new.kept.state) (out_of (Some x))) (without (answer_tuple import.ty) (plain_value tuple) can.answer)
              ∙ ap (λ a. Next new.kept.seen new.budget (world_of new.instances new.kept.state) a) (sym e),
        )
