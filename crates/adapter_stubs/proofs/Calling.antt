-- What a call of a stub's function does.
use Rattle.std.proofs.Common.{◌≡◌, ℕ, ◌+◌, ◌<◌, ◌≤◌, ◌^◌, List, [], ◌∷◌, ◌++◌, Bool, true, false, Option, Some, None, All, map, length, take, drop, replicate, refl, sym, ap, ◌∙◌, subst, arith, inl, inr, append_assoc}
use Rattle.std.proofs.lemmas.List.{length-append, length-map, length-replicate, length-take-le, length-drop}
use Rattle.std.proofs.lemmas.List.Elements.{All-nil}
use Rattle.std.proofs.lemmas.Option.{slice_get_within}
use Rattle.std.proofs.Math.Path.{fun_ext}
use Rattle.std.proofs.Math.Nat.{le-max_left, le-max_right}
use Rattle.std.specs.Prelude.{◌⊎◌, if◌then◌else◌, slice_get}
use Rattle.virt_base.specs.declared.core_type.CoreType.{CoreType}
use Rattle.virt_base.specs.declared.core_type.CoreType.TheVariants.{I32}
use Rattle.wasm_ast.specs.declared.instr.Instr.{Instr}
use Rattle.wasm_ast.specs.declared.instr.Instr.TheVariants.{End}
use Rattle.core_store.specs.Tree.{tree}
use Rattle.core_store.specs.Locals.{each_local}
use Rattle.core_store.specs.State.{memory_at}
use Rattle.core_store.specs.Words.{words, word_of, values_in}
use Rattle.core_store.specs.Config.{Reply, Outcome, Done, Asks, Spent, Trapped, Out, Over, then_do, bare}
use Rattle.core_store.specs.Eval.{left_store, block_end, call_end, finish, exec, go, eval}
use Rattle.handle_space.specs.HandleMap.{HandleMap}
use Rattle.adapter_code.specs.declared.statement.Width.{Width}
use Rattle.adapter_code.specs.declared.statement.Width.TheVariants.{Narrow}
use Rattle.adapter_code.specs.declared.state.CodeEnd.{CodeEnd}
use Rattle.adapter_code.specs.declared.state.CodeEnd.TheVariants.{Answer as Answers', Trap as Traps'}
use Rattle.adapter_code.specs.Code.{Code, code_of}
use Rattle.adapter_code.specs.Run.{State, RoutineRun, local_width, local_at, number_at, set_local, routine_run}
use Rattle.adapter_code.specs.WellFormed.{HasWidth}
use Rattle.adapter_code.proofs.Places.{has_width, has_place}
use Rattle.adapter_compile.specs.declared.calls.HandleCalls.{HandleCalls}
use Rattle.adapter_compile.specs.Instructions.{routine_code}
use Rattle.adapter_compile.specs.Bounds.{nesting}
use Rattle.adapter_compile.specs.Handles.{Numbers, IsOutside, HasCalls, Follows}
use Rattle.adapter_compile.specs.Does.{Home, IsHome, IsInRange, store_with, config_of, core_type, BeginsAsZeros, ArrivesAt, DoesIn}
use Rattle.adapter_compile.proofs.Chains.{follows_map, refused_map}
use Rattle.adapter_compile.proofs.Places.{widths_length}
use Rattle.adapter_compile.proofs.Called.{each_declared}
use Rattle.adapter_transfer.specs.Transfer.{Stands}
use Rattle.adapter_stubs.specs.declared.host_call.HostCall.{HostCall}
use Rattle.adapter_stubs.specs.declared.stub.HostFunc.{HostFunc}
use Rattle.adapter_stubs.specs.declared.stub.Stub.{Stub}
use Rattle.adapter_stubs.specs.Stub.{result_at, host_code, given, home_behind, result_in, state_behind, Answers, HasLocals, AsksSo}
use Rattle.adapter_stubs.specs.Widths.{IsFlat, width_of, result_width, gives, host_params, stub_widths, flag_of, result_of}
use Rattle.adapter_stubs.specs.Bodies.{host_call, asking_code, answer_code, counters_of, stub_body, HostFits, IsStub}
use Rattle.adapter_stubs.specs.Calls.{entered_home, arguments_in, given_in, flat_in, whom, asked_behind, HasHost, IsAnswer, after_run, StubEnds, StubResumes, StubAsks, StubDue, StubsRun}
use Rattle.adapter_stubs.proofs.Asking.{asks_so}
use Rattle.adapter_stubs.proofs.Running.{Tight, do_tightly, call_with}
use Rattle.adapter_stubs.proofs.Locals.{at_flag, at_param, at_result}
use Rattle.adapter_stubs.proofs.Answering.{Asked, asked_is, no_flag, values_same, answer_steps, answer_few, answered, left_same, flat_count, flat_small, kept_wide, kept_fits}

-- an arrival seen through a function that keeps questions
arrives_map : (numbers : Numbers) (f : Out → Outcome) (e : CodeEnd) (table : HandleMap ℕ) (onward : List Reply → Out) (done : List Reply → Outcome) (X : List Reply → Out) (h : HandleMap ℕ) →
    ((o : Outcome) → f (Over o) ≡ o) → (e ≡ Answers' → (rs : List Reply) → f (onward rs) ≡ done rs) → ArrivesAt numbers Out Over e table onward X h → ArrivesAt numbers Outcome (λ o. o) e table done (λ rs. f (X rs)) h
arrives_map numbers f Answers' table onward done X h keeps same p = (p.0, λ rs. ap f (p.1 rs) ∙ same refl rs)
arrives_map numbers f Traps' table onward done X h keeps same (inl p) = inl (λ rs. ap f (p rs) ∙ keeps Trapped)
arrives_map numbers f Traps' table onward done X h keeps same (inr p) = inr (refused_map numbers Out Outcome Over (λ o. o) f X h keeps p)

arrives_answer : (numbers : Numbers) (e : CodeEnd) (table : HandleMap ℕ) (onward : List Reply → Out) (X : List Reply → Out) (h : HandleMap ℕ) → e ≡ Answers' → ArrivesAt numbers Out Over e table onward X h → (h ≡ table) × ((rs : List Reply) → X rs ≡ onward rs)
arrives_answer numbers Answers' table onward X h e p = p
arrives_answer numbers Traps' table onward X h e p = cc

-- what the host gives is of the stub's type, or nothing
host_single : (ts rs : List CoreType) → (ts ≡ []) ⊎ (ts ≡ rs) → length rs ≤ 1 → length ts ≤ 1
host_single ts rs (inl e) few = omega (arith, ap length e)
host_single ts rs (inr e) few = omega (arith, ap length e, few)

host_flat : (ts rs : List CoreType) → (ts ≡ []) ⊎ (ts ≡ rs) → All IsFlat rs → All IsFlat ts
host_flat ts rs (inl e) all = subst (All IsFlat) (sym e) (All-nil IsFlat)
host_flat ts rs (inr e) all = subst (All IsFlat) (sym e) all

host_width : (ts rs : List CoreType) → (ts ≡ []) ⊎ (ts ≡ rs) → gives ts ≡ true → result_width ts ≡ result_width rs
host_width ts rs (inl e) some = let none : gives ts ≡ false = ap gives e in cc
host_width ts rs (inr e) some = ap result_width e

module _ (calls : HandleCalls) (numbers : Numbers) (asks : ℕ → ℕ) (home : Home) (f at : ℕ) (s : Stub) (t : State) (made : List Bool) (is : IsStub s)
    (has_before : HasCalls calls (code_of s.before.items)) (has_after : HasCalls calls (code_of s.after.items)) (good : IsHome calls numbers home) (st : Stands s.flat (stub_body calls at s) home.spaces home.store f) (hosted : HasHost asks home at s.host)
    (wide : map local_width t.locals ≡ stub_widths s) (zeros : BeginsAsZeros (length s.flat.params) t.locals) (range : IsInRange t) where
  abbrev ws : List Width
  ws = stub_widths s

  abbrev p : ℕ
  p = length s.flat.params

  abbrev counters : ℕ
  counters = counters_of s

  abbrev inner : Home
  inner = entered_home home

  abbrev B : Code
  B = code_of s.before.items

  abbrev A : Code
  A = code_of s.after.items

  abbrev last : List Instr
  last = answer_code (result_of s) s.flat.results ++ End ∷ []

  abbrev behind_of : Option HostFunc → List Instr
  behind_of o = (asking_code calls at s o ++ answer_code (result_of s) s.flat.results) ++ End ∷ []

  abbrev behind : List Instr
  behind = behind_of s.host

  abbrev run : RoutineRun
  run = routine_run B t

  -- how the function's body ends
  abbrev final : Out → Outcome
  final o = finish s.flat.results (call_end (length s.flat.results) [] [] bare o)

  room : nesting B ≤ length (replicate {A = ℕ} counters 0)
  room = omega (arith, length-replicate {A = ℕ} counters 0, le-max_left (nesting B) (nesting A))

  tight : Tight numbers inner (routine_code ws calls B) behind t (replicate counters 0) made run
  tight = do_tightly ws calls numbers inner B behind t (replicate counters 0) made is.before has_before (record { memory = good.memory; within = good.within; hosted = good.hosted }) wide room range

  abbrev b : DoesIn numbers inner (routine_code ws calls B) behind t (replicate counters 0) made run
  b = tight.does

  -- ---- the call is its body

  sized : length ws ≡ length t.locals
  sized = ap length (sym wide) ∙ widths_length t.locals

  enough : p < length ws
  enough = slice_get_within ws (flag_of s) Narrow (at_flag s)

  arity : length s.flat.params ≡ length (take p ws)
  arity = sym (length-take-le p ws (omega (arith, enough)))

  long : length (each_local (stub_body calls at s).locals) ≡ length (drop p t.locals) + counters
  long =
      ap length (each_declared (drop p ws) counters) ∙ length-append (map core_type (drop p ws)) (replicate counters I32)
      ∙ omega (arith, length-map (drop p ws) core_type, length-drop p ws, length-drop p t.locals, sized, length-replicate counters I32)

  runs_as : (n : ℕ) (rs : List Reply) → eval (store_with home t.memory made) f (arguments_in s t) rs n ≡ final (exec go (tree (routine_code ws calls B ++ behind)) n (config_of inner t (replicate counters 0) made rs))
  runs_as n rs =
      call_with s.flat p counters ws (stub_body calls at s) home f st.instance n t made rs st.function st.own st.enters arity wide zeros long
      ∙ ap (λ l. final (exec go (tree l) n (config_of inner t (replicate counters 0) made rs))) (append_assoc (routine_code ws calls B) (asking_code calls at s s.host ++ answer_code (result_of s) s.flat.results) (End ∷ []))

  begins : (rs : List Reply) → eval (store_with home t.memory made) f (arguments_in s t) rs 0 ≡ Spent
  begins rs = runs_as 0 rs ∙ ap final (b.begins rs)

  follows_call : (n k : ℕ) (Q : (List Reply → Outcome) → HandleMap ℕ → Type 0) → k ≡ b.steps + n →
      ((Y : List Reply → Out) (h : HandleMap ℕ) → ArrivesAt numbers Out Over run.end run.state.table (λ rs. exec go (tree behind) n (config_of inner run.state b.further' b.made' rs)) Y h → Q (λ rs. final (Y rs)) h) →
      Follows numbers Outcome (λ o. o) (λ rs. eval (store_with home t.memory made) f (arguments_in s t) rs k) t.table b.effects Q
  follows_call n k Q e next =
      let X : List Reply → Out = λ rs. exec go (tree (routine_code ws calls B ++ behind)) (b.steps + n) (config_of inner t (replicate counters 0) made rs) in
      let path : (λ rs. eval (store_with home t.memory made) f (arguments_in s t) rs k) ≡ (λ rs. final (X rs)) =
      fun_ext (λ rs. ap (eval (store_with home t.memory made) f (arguments_in s t) rs) e ∙ runs_as (b.steps + n) rs) in
      subst (λ (x : List Reply → Outcome). Follows numbers Outcome (λ o. o) x t.table b.effects Q) (sym path)
      (follows_map numbers Out Outcome Over (λ o. o) final X t.table b.effects (ArrivesAt numbers Out Over run.end run.state.table (λ rs. exec go (tree behind) n (config_of inner run.state b.further' b.made' rs))) Q (λ o. refl) (b.goes n) next)

  -- ---- the flat result

  wide_behind : map local_width run.state.locals ≡ ws
  wide_behind = b.wide ∙ wide

  result_of_width : (u : State) → map local_width u.locals ≡ ws → HasWidth (map local_width u.locals) (result_of s) (result_width s.flat.results)
  result_of_width u e = subst (λ l. HasWidth l (result_of s) (result_width s.flat.results)) (sym e) (at_result s)

  gives_result : (home' : Home) (u : State) (further : List ℕ) (made' : List Bool) (rs : List Reply) (n : ℕ) → map local_width u.locals ≡ ws → IsInRange u →
      final (exec go (tree last) (answer_steps s.flat.results + n) (config_of home' u further made' rs)) ≡ Done (flat_in s u) (left_store (store_with home' u.memory made')) n
  gives_result home' u further made' rs n e fits =
      let h = result_of_width u e in
      answered s.flat.results (result_of s) home' u further made' rs n is.single is.results (has_place u.locals (result_of s) _ h) (has_width u.locals (result_of s) _ h) fits.locals

  -- ---- where a host's function stands

  module _ (h : HostFunc) (here : s.host ≡ Some h) where
    abbrev call : HostCall
    call = host_call at h

    params_are : host_params s.host ≡ h.flat.params
    params_are = ap host_params here

    result_same : result_at (flag_of s) call ≡ result_of s
    result_same = ap (λ (ts : List CoreType). flag_of s + 1 + length ts) (sym params_are)

    there : HasLocals ws (flag_of s) call
    there =
        let lt = slice_get_within ws (result_of s) (result_width s.flat.results) (at_result s) in
        record { narrow = at_flag s; within = omega (arith, lt, result_same) }

    outside : IsOutside inner.spaces inner.store.functions at h.flat (asks h.function)
    outside = subst (HasHost asks home at) here hosted

    fits : HostFits s.flat.results (Some h)
    fits = subst (HostFits s.flat.results) here is.host

    so : (u : State) (further : List ℕ) (made' : List Bool) → map local_width u.locals ≡ ws → IsInRange u → AsksSo ws calls (flag_of s) call A last (asks h.function) h.flat inner u further made'
    so u further made' e fits' = asks_so ws calls (flag_of s) call A last (asks h.function) h.flat inner u further made' there outside refl e fits'

    split : behind ≡ host_code ws calls (flag_of s) call A ++ last
    split = ap behind_of here ∙ append_assoc (host_code ws calls (flag_of s) call A) (answer_code (result_of s) s.flat.results) (End ∷ [])

  -- ---- where nobody is asked

  abbrev skip_steps : Option HostFunc → ℕ
  skip_steps None = 0
  skip_steps (Some h) = 2

  skip_few : (o : Option HostFunc) → skip_steps o ≤ 2
  skip_few None = omega arith
  skip_few (Some h) = omega arith

  skipped : (o : Option HostFunc) → s.host ≡ o → whom Answers' (number_at run.state (flag_of s)) o ≡ None → (n : ℕ) (rs : List Reply) →
      exec go (tree behind) (skip_steps o + n) (config_of inner run.state b.further' b.made' rs) ≡ exec go (tree last) n (config_of inner run.state b.further' b.made' rs)
  skipped None here none n rs =
      let e : 0 + n ≡ n = omega arith in
      ap (λ o. exec go (tree (behind_of o)) (0 + n) (config_of inner run.state b.further' b.made' rs)) here ∙ ap (λ k. exec go (tree last) k (config_of inner run.state b.further' b.made' rs)) e
  skipped (Some h) here none n rs =
      ap (λ l. exec go (tree l) (2 + n) (config_of inner run.state b.further' b.made' rs)) (split h here)
      ∙ (so h here run.state b.further' b.made' wide_behind b.range).skips (no_flag (number_at run.state (flag_of s)) h none) n rs

  ends_so : (e : CodeEnd) → run.end ≡ e → whom e (number_at run.state (flag_of s)) s.host ≡ None → (n : ℕ) (rs : List Reply) → e ≡ Answers' →
      final (exec go (tree behind) (skip_steps s.host + (answer_steps s.flat.results + n)) (config_of inner run.state b.further' b.made' rs)) ≡ Done (flat_in s run.state) (store_with home run.state.memory b.made') n
  ends_so Answers' e none n rs same =
      ap final (skipped s.host refl none (answer_steps s.flat.results + n) rs)
      ∙ gives_result inner run.state b.further' b.made' rs n wide_behind b.range
      ∙ ap (λ u. Done (flat_in s run.state) u n) (left_same home run.state.memory b.made')
  ends_so Traps' e none n rs same = cc

  ends : asked_behind s run ≡ None → StubEnds numbers home f s t made run
  ends none = record {
    steps = b.steps + (skip_steps s.host + answer_steps s.flat.results);
    effects = b.effects;
    made' = b.made';
    some = omega (arith, b.some);
    few = omega (arith, tight.few, skip_few s.host, answer_few s.flat.results);
    has = b.has;
    begins = begins;
    goes = λ n.
        let k = skip_steps s.host + (answer_steps s.flat.results + n) in
        follows_call k (b.steps + (skip_steps s.host + answer_steps s.flat.results) + n) (ArrivesAt numbers Outcome (λ o. o) run.end run.state.table (λ rs. Done (flat_in s run.state) (store_with home run.state.memory b.made') n)) (omega arith)
        (λ Y h a. arrives_map numbers final run.end run.state.table (λ rs. exec go (tree behind) k (config_of inner run.state b.further' b.made' rs)) (λ rs. Done (flat_in s run.state) (store_with home run.state.memory b.made') n) Y h (λ o. refl)
        (λ e rs. ends_so run.end refl none n rs e) a);
  }

  -- ---- where the host is asked

  module _ (h : HostFunc) (asked : Asked run.end (number_at run.state (flag_of s)) s.host h) where
    abbrev call' : HostCall
    call' = call h asked.here

    abbrev count : ℕ
    count = length h.flat.params

    asking : AsksSo ws calls (flag_of s) call' A last (asks h.function) h.flat inner run.state b.further' b.made'
    asking = so h asked.here run.state b.further' b.made' wide_behind b.range

    param_width : (i : ℕ) (ty : CoreType) → slice_get h.flat.params i ≡ Some ty → HasWidth (map local_width run.state.locals) (flag_of s + 1 + i) (width_of ty)
    param_width i ty e = subst (λ l. HasWidth l (flag_of s + 1 + i) (width_of ty)) (sym wide_behind) (at_param s i ty (ap (λ (l : List CoreType). slice_get l i) (params_are h asked.here) ∙ e))

    given_same : values_in (length inner.store.functions) h.flat.params (given (flag_of s) call' run.state) ≡ given_in s h run.state
    given_same =
        values_same (length inner.store.functions) run.state.locals (flag_of s + 1) h.flat.params (fits h asked.here).0
        (λ i ty e. (has_place run.state.locals (flag_of s + 1 + i) _ (param_width i ty e), has_width run.state.locals (flag_of s + 1 + i) _ (param_width i ty e))) b.range.locals

    questions : (n : ℕ) → final (exec go (tree behind) (3 + count + n) (config_of inner run.state b.further' b.made' [])) ≡ Asks (asks h.function) (given_in s h run.state) (store_with inner run.state.memory b.made') n
    questions n =
        ap (λ l. final (exec go (tree l) (3 + count + n) (config_of inner run.state b.further' b.made' []))) (split h asked.here)
        ∙ ap final (asking.asks asked.some n) ∙ ap (λ vs. Asks (asks h.function) vs (store_with inner run.state.memory b.made') n) given_same

    -- after an answer
    module _ (r : Reply) (table : HandleMap ℕ) (ok : IsAnswer h home r table) where
      abbrev far : Home
      far = home_behind home r

      abbrev u : State
      u = state_behind (flag_of s) call' home run.state r table

      abbrev last_run : RoutineRun
      last_run = after_run s h home run.state r table

      abbrev kept : ℕ
      kept = if gives h.flat.results then 1 else 0

      kept_few : (g : Bool) → (if g then 1 else 0) ≤ 1
      kept_few true = omega arith
      kept_few false = omega arith

      single : length h.flat.results ≤ 1
      single = host_single h.flat.results s.flat.results (fits h asked.here).1 is.single

      counted : Answers call' inner r
      counted = record { count = sym (length-map r.results word_of) ∙ flat_count h.flat.results (words r.results) ok.flat single; within = ok.within }

      u_wide : map local_width u.locals ≡ ws
      u_wide = kept_wide (gives h.flat.results) run.state (result_at (flag_of s) call') (result_in (words r.results)) ∙ wide_behind

      small : gives h.flat.results ≡ true → local_width (local_at run.state.locals (result_at (flag_of s) call')) ≡ Narrow → result_in (words r.results) < 2 ^ 32
      small some narrow =
          let stub = has_width run.state.locals (result_of s) _ (result_of_width run.state wide_behind) in
          let same = ap (λ i. local_width (local_at run.state.locals i)) (result_same h asked.here) in
          let width = host_width h.flat.results s.flat.results (fits h asked.here).1 some in
          flat_small h.flat.results (words r.results) ok.flat some (width ∙ sym stub ∙ sym same ∙ narrow) (host_flat h.flat.results s.flat.results (fits h asked.here).1 is.results)

      u_range : IsInRange u
      u_range = record { locals = kept_fits (gives h.flat.results) run.state (result_at (flag_of s) call') (result_in (words r.results)) small b.range.locals; memory = ok.bytes; table = ok.handles }

      far_good : IsHome calls numbers far
      far_good = record {
        memory = good.memory;
        within = ok.within;
        hosted = record {
          makes = λ kind i e. let o = good.hosted.makes kind i e in (o.0, o.1, ok.functions o.0 _ o.2);
          drops = λ kind i e. let o = good.hosted.drops kind i e in (o.0, o.1, ok.functions o.0 _ o.2);
        };
      }

      rest : Tight numbers far (routine_code ws calls A) (End ∷ []) u b.further' (memory_at r.store home.memory).made last_run
      rest = do_tightly ws calls numbers far A (End ∷ []) u b.further' (memory_at r.store home.memory).made is.after has_after far_good u_wide (omega (arith, b.long, length-replicate {A = ℕ} counters 0, le-max_right (nesting B) (nesting A))) u_range

      abbrev d : DoesIn numbers far (routine_code ws calls A) (End ∷ []) u b.further' (memory_at r.store home.memory).made last_run
      d = rest.does

      resumes : StubResumes h (b.steps + (3 + count)) run.count run.state last_run
      resumes = record {
        steps = kept + (d.steps + answer_steps s.flat.results);
        effects = d.effects;
        made = d.made';
        few = λ le. omega (arith, le, tight.few, rest.few, kept_few (gives h.flat.results), answer_few s.flat.results);
        has = d.has ∙ ap (λ es. es ++ d.effects) (effects_same (gives h.flat.results));
      }
        where
          effects_same : (g : Bool) → (if g then set_local run.state (result_at (flag_of s) call') (result_in (words r.results)) else run.state).effects ≡ run.state.effects
          effects_same true = refl
          effects_same false = refl

      -- what is left of the call, as a function of the routine's run
      abbrev goes_on : Out → Outcome
      goes_on o = final (then_do (block_end 0 0 o) (exec go (tree last)))

      resumed : (m n : ℕ) (rs : List Reply) → n ≡ kept + (d.steps + answer_steps s.flat.results) + m →
          final (exec go (tree behind) (3 + count + n) (config_of inner run.state b.further' b.made' (r ∷ rs)))
          ≡ goes_on (exec go (tree (routine_code ws calls A ++ End ∷ [])) (d.steps + (answer_steps s.flat.results + m)) (config_of far u b.further' (memory_at r.store home.memory).made rs))
      resumed m n rs e =
          let k = d.steps + (answer_steps s.flat.results + m) in
          let same : 3 + count + n ≡ 3 + count + kept + k = omega (arith, e) in
          ap (λ l. final (exec go (tree l) (3 + count + n) (config_of inner run.state b.further' b.made' (r ∷ rs)))) (split h asked.here)
          ∙ ap (λ i. final (exec go (tree (host_code ws calls (flag_of s) call' A ++ last)) i (config_of inner run.state b.further' b.made' (r ∷ rs)))) same
          ∙ ap final (asking.goes asked.some r rs table counted k)

      last_wide : map local_width last_run.state.locals ≡ ws
      last_wide = d.wide ∙ u_wide

      ends_last : (m : ℕ) (rs : List Reply) → goes_on (exec go (tree (End ∷ [])) (answer_steps s.flat.results + m) (config_of far last_run.state d.further' d.made' rs)) ≡ Done (flat_in s last_run.state) (left_store (store_with far last_run.state.memory d.made')) m
      ends_last m rs = gives_result far last_run.state d.further' d.made' rs m last_wide d.range

      follows_rest : (m n : ℕ) (Y : List Reply → Out) → ((rs : List Reply) → Y rs ≡ exec go (tree behind) (3 + count + n) (config_of inner run.state b.further' b.made' rs)) → n ≡ kept + (d.steps + answer_steps s.flat.results) + m →
          Follows numbers Outcome (λ o. o) (λ rs. final (Y (r ∷ rs))) table d.effects (ArrivesAt numbers Outcome (λ o. o) last_run.end last_run.state.table (λ rs. Done (flat_in s last_run.state) (left_store (store_with far last_run.state.memory d.made')) m))
      follows_rest m n Y same e =
          let k = answer_steps s.flat.results + m in
          let X : List Reply → Out = λ rs. exec go (tree (routine_code ws calls A ++ End ∷ [])) (d.steps + k) (config_of far u b.further' (memory_at r.store home.memory).made rs) in
          let onward : List Reply → Out = λ rs. exec go (tree (End ∷ [])) k (config_of far last_run.state d.further' d.made' rs) in
          let done : List Reply → Outcome = λ rs. Done (flat_in s last_run.state) (left_store (store_with far last_run.state.memory d.made')) m in
          let path : (λ rs. final (Y (r ∷ rs))) ≡ (λ rs. goes_on (X rs)) = fun_ext (λ rs. ap final (same (r ∷ rs)) ∙ resumed m n rs e) in
          let Q = ArrivesAt numbers Outcome (λ o. o) last_run.end last_run.state.table done in
          subst (λ (x : List Reply → Outcome). Follows numbers Outcome (λ o. o) x table d.effects Q) (sym path)
          (follows_map numbers Out Outcome Over (λ o. o) goes_on X table d.effects (ArrivesAt numbers Out Over last_run.end last_run.state.table onward) Q (λ o. refl) (d.goes k)
          (λ Z g z. arrives_map numbers goes_on last_run.end last_run.state.table onward done Z g (λ o. refl) (λ a rs. ends_last m rs) z))

    asks_host : StubAsks numbers asks home f s t made run h
    unfolding rest resumes
    asks_host = record {
      steps = b.steps + (3 + count);
      effects = b.effects;
      made' = b.made';
      some = omega (arith, b.some);
      few = λ le. omega (arith, le, tight.few);
      has = b.has;
      begins = begins;
      rest = resumes;
      goes = λ n.
          follows_call (3 + count + n) (b.steps + (3 + count) + n) _ (omega arith)
          (λ Y g a.
          let q = arrives_answer numbers run.end run.state.table (λ rs. exec go (tree behind) (3 + count + n) (config_of inner run.state b.further' b.made' rs)) Y g asked.answers a in
          (q.0, ap final (q.1 []) ∙ questions n, λ r table ok m e. follows_rest r table ok m n Y q.1 e));
    }

  due : (o : Option HostFunc) → asked_behind s run ≡ o → StubDue numbers asks home f s t made run o
  due None e = ends e
  due (Some h) e = asks_host h (asked_is run.end (number_at run.state (flag_of s)) s.host h e)

pub stubs_run : StubsRun
stubs_run calls numbers asks home f at s t made is has_before has_after good st hosted wide zeros range =
    due calls numbers asks home f at s t made is has_before has_after good st hosted wide zeros range (asked_behind s (routine_run (code_of s.before.items) t)) refl
