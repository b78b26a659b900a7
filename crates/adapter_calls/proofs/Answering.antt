-- A call of a stub that asks no host: the arguments are lowered, its routine runs, and the answer is lifted.
use Rattle.std.proofs.Common.{◌≡◌, ◌∙◌, refl, sym, ap, subst, ℕ, zero, suc, ◌+◌, ◌≤◌, ◌<◌, not, List, [], ◌∷◌, length, map, Option, Some, None, Bool, true, false, arith, append-nil, length-set, get_or-set_same, slice_set, slice_index_or}
use Rattle.std.specs.Option.{option_map, option_and_then}
use Rattle.std.proofs.lemmas.List.{length-map}
use Rattle.core_memory.specs.Linear.{Linear, fresh}
use Rattle.core_store.specs.declared.value.CoreSpaces.{CoreSpaces}
use Rattle.core_store.specs.declared.value.CoreValue.{CoreValue}
use Rattle.core_store.specs.State.{State as StoreState, memory_at}
use Rattle.core_store.specs.Words.{words, values_in}
use Rattle.wit_types.specs.Plain.{PlainFunc}
use Rattle.abi_layout.specs.Functions.{core_params}
use Rattle.abi_layout.specs.Storing.{Lowered}
use Rattle.handle_space.specs.HandleMap.{HandleMap}
use Rattle.adapter_code.specs.declared.state.CodeEnd.{CodeEnd}
use Rattle.adapter_code.specs.declared.state.CodeEnd.TheVariants.{Answer as Answers, Trap}
use Rattle.adapter_code.specs.declared.state.Effect.{Effect}
use Rattle.adapter_code.specs.Layout.{end_of}
use Rattle.adapter_code.specs.Run.{State, RoutineRun, own_resource, local_at, number_at}
use Rattle.adapter_compile.specs.Handles.{Numbers}
use Rattle.adapter_compile.specs.Does.{Home, store_with}
use Rattle.adapter_stubs.specs.declared.stub.Stub.{Stub}
use Rattle.adapter_stubs.specs.Widths.{stub_widths, result_of}
use Rattle.adapter_stubs.specs.Calls.{arguments_in, flat_in, StubEnds, StubDue}
use Rattle.host_port.specs.Hosts.{HostStep, Loss}
use Rattle.comp_types.specs.Substitution.{value_with, func_with}
use Rattle.comp_worlds.specs.Acts.{Out, Trapped, Next, Over, seen_before, then_do, Act, ◌>>◌, gives}
use Rattle.comp_worlds.specs.Groups.{Endless, Lifting, Group, Config, World, Origin, Served, Answer}
use Rattle.comp_worlds.specs.Locals.{Args, also, done, enter, lifts, has_no_borrow, bytes_in}
use Rattle.comp_worlds.specs.Passing.{Passed}
use Rattle.comp_worlds.specs.Passing as world
use Rattle.comp_worlds.specs.Calls.{on, lowers_params, lowers_closed}
use Rattle.comp_worlds.specs.Hosts.{hosted}
use Rattle.comp_frames.specs.Running.{running}
use Rattle.comp_frames.specs.RunsLaws.{Unfolds, GoesByItsRest}
use Rattle.comp_inside.proofs.Types.{answer_tuple_with, core_params_with}
use Rattle.row_runs.specs.Passing.{answer_tuple, lift_words}
use Rattle.row_runs.specs.RowRun.{results_in}
use Rattle.row_runs.specs.Stored.{Stored, flat_word, stored_in}
use Rattle.adapter_calls.specs.Answering.{lifting_of, IsStubOf, begun_in, run_in, AsksNobody, Reply, reply_of, passed_of, called, EndsSo, CallEnds, IsIdle, StubsAnswer}
use Rattle.adapter_calls.specs.Arguments.{type_in, HandlesAreLent, lowered_of}
use Rattle.adapter_calls.specs.Handling.{KnowsKinds, map_to, OfKinds, AreOwned, lost}
use Rattle.adapter_calls.specs.Instance.{standing, with_both}
use Rattle.adapter_calls.specs.Lifting.{own_tuple, lifted_by}
use Rattle.adapter_calls.specs.Routines.{IsAt}
use Rattle.adapter_calls.specs.Storing.{Area, HasArea, SameBut, cost, options_of, LowersSo, LoweredOrTrapped}
use Rattle.adapter_calls.proofs.Arguments.{lent_so}
use Rattle.adapter_calls.proofs.Begun.{widths_begun, begins_as_zeros, arguments_begun, results_as_words}
use Rattle.adapter_calls.proofs.Instance.{seen_none, on_k, on_none, begins}
use Rattle.adapter_calls.proofs.Lifting.{lifts_so}
use Rattle.adapter_calls.proofs.Storing.{same_then, lowers_by_area}
use Rattle.adapter_calls.proofs.Stubs.{stub_owned, stub_returns, stub_traps}
use Rattle.adapter_calls.proofs.Taken.{no_borrow_left, as_lifted, lifted_as_reply, reply_owned}

-- a memory as it is
memory_same : (ms : List Linear) (k : ℕ) (d : Linear) → k < length ms → slice_set ms k (slice_index_or ms k d) ≡ ms
memory_same [] k d lt = absurd (omega arith)
memory_same (m ∷ ms) zero d lt = refl
memory_same (m ∷ ms) (suc k) d lt = ap (λ xs. m ∷ xs) (memory_same ms k d (omega arith))

store_same : (spaces : CoreSpaces) (store : StoreState) (memory : ℕ) → memory < length store.memories → store ≡ store_with (record { spaces = spaces; store = store; memory = memory }) (memory_at store memory).bytes (memory_at store memory).made
store_same spaces store memory lt = λ i. record store { memories = sym (memory_same store.memories memory (fresh 0 None) lt) i }

type_so : (to : ℕ → ℕ) (ty : PlainFunc) → world.answer_tuple (type_in to ty) ≡ value_with to (own_tuple ty)
type_so to ty = answer_tuple_with to (func_with own_resource ty) ∙ ap (value_with to) (answer_tuple_with own_resource ty)

params_so : (to : ℕ → ℕ) (ty : PlainFunc) → core_params (type_in to ty) ≡ core_params ty
params_so to ty = core_params_with to (func_with own_resource ty) ∙ core_params_with own_resource ty

-- ---- the steps

early : (a n : ℕ) → suc a + n ≡ suc (a + n)
early a n = omega arith

taken_in_turn : (a b e n : ℕ) → suc (a + (b + e)) + n ≡ suc (a + (b + (e + n)))
taken_in_turn a b e n = omega arith

one_for_trap : (a b e n : ℕ) → suc (a + (b + (e + 1))) + n ≡ suc (a + (b + (e + (1 + n))))
one_for_trap a b e n = omega arith

module _ {S : Type 0} (h : HostStep S) (G : Group) (unfolds : Unfolds G (hosted h)) (by : GoesByItsRest G (hosted h)) (k : ℕ) (numbers : Numbers) (to : ℕ → ℕ) (know : KnowsKinds G k numbers to) (p : Area) (asks : ℕ → ℕ) (spaces : CoreSpaces) (stub : Stub) (ty : PlainFunc)
    (f : ℕ) (post : Option ℕ) (is_stub : IsStubOf ty stub) (from : Origin) (passed : Passed ℕ) (lent : HandlesAreLent ty passed) (w : World S) (c : Config ℕ) (s : S) (table : HandleMap ℕ) (now : Stored) (idle : IsIdle numbers asks spaces to p f stub c table now) where
  abbrev L : Lifting
  L = lifting_of to p ty f post

  abbrev low : Lowered
  low = lowered_of ty passed

  abbrev Called : ℕ → Out (World S) Answer
  Called n = called h G k to p stub ty f post from passed w c s n

  abbrev inside : Config ℕ
  inside = record { store = c.store; map = c.map; entered = true; closed = c.closed }

  abbrev lifting : List CoreValue → Act (World S) Answer
  lifting results = on k (lifts world.most_results (world.answer_tuple L.ty) L.options (words results)) >> λ a. on k (has_no_borrow a.loans) >> λ u. gives (record { passed = a.passed; due = Served k L results })

  abbrev onward : List ℕ → Act (World S) Answer
  onward args = running G (hosted h) Endless k f (values_in 0 (core_params L.ty) args) >> lifting

  entered_so : (n : ℕ) → on k enter (standing w k c s) n ≡ Next [] n (standing w k inside s) tt
  entered_so n = on_k w k enter c inside s tt n (ap (λ b. also (not b) (Some (done inside))) idle.outside)

  -- it begins, the instance is entered, and the arguments are lowered
  first : (n : ℕ) → Called (suc n) ≡ then_do (lowers_params G (hosted h) (running G (hosted h)) Endless k (options_of p) (world.params_tuple L.ty) passed (standing w k inside s) n) onward
  unfolding ◌>>◌
  first n =
      let lowering : Act (World S) Answer = lowers_params G (hosted h) (running G (hosted h)) Endless k (options_of p) (world.params_tuple L.ty) passed >> onward in
      let entering : Act (World S) Answer = on k enter >> λ u. lowering in
      ap (λ o. then_do o (λ u. entering)) (begins (standing w k c s) n)
      ∙ seen_none (entering (standing w k c s) n)
      ∙ ap (λ o. then_do o (λ u. lowering)) (entered_so n)
      ∙ seen_none (lowering (standing w k inside s) n)

  lowered_then : (n : ℕ) (o : Out (World S) (List ℕ)) → lowers_closed G (hosted h) (running G (hosted h)) Endless k (options_of p) 0 low (standing w k inside s) n ≡ o → Called (suc n) ≡ then_do o onward
  lowered_then n o is = first n ∙ ap (λ x. then_do x onward) (lent_so G k numbers to know (hosted h) (running G (hosted h)) Endless (options_of p) ty passed lent w inside s n ∙ is)

  -- ---- the arguments are stored

  module _ (stored : Stored) (x : LowersSo h G k p 0 low w inside s now stored) (nobody : AsksNobody stub low table stored) where
    abbrev t : State
    t = begun_in stub low table stored

    abbrev run : RoutineRun
    run = run_in stub low table stored

    abbrev home : Home
    home = record { spaces = spaces; store = x.store; memory = p.memory }

    abbrev made : List Bool
    made = (memory_at x.store p.memory).made

    abbrev args : List ℕ
    args = map (flat_word stored.answers) low.flats

    as_many : length args ≡ length stub.flat.params
    as_many = length-map low.flats (flat_word stored.answers) ∙ nobody.count

    ends : StubEnds numbers home f stub t made run
    ends = subst (λ o. StubDue numbers asks home f stub t made run o) nobody.nobody (idle.stands x.store x.same x.area.quiet t made (widths_begun (stub_widths stub) args) (begins_as_zeros stub args as_many) nobody.range)

    abbrev es : List Effect
    es = ends.effects

    abbrev ready : Config ℕ
    ready = record { store = x.store; map = c.map; entered = true; closed = false }

    at_home : IsAt home to t made ready
    at_home = record {
      store = store_same spaces x.store p.memory x.area.within ∙ ap (λ bytes. store_with home bytes made) x.area.bytes;
      quiet = x.area.quiet;
      handles = idle.handles;
      unclosed = refl;
      owned = idle.owned;
    }

    kinds : OfKinds es
    kinds = subst OfKinds ends.has nobody.kinds

    values_so : values_in 0 (core_params L.ty) args ≡ arguments_in stub t
    values_so = ap (λ ts. values_in 0 ts args) (params_so to ty ∙ sym is_stub.params) ∙ arguments_begun stub args is_stub.flat as_many nobody.range.locals

    -- the routine runs
    run_then : (n : ℕ) (o : Out (World S) (List CoreValue)) → running G (hosted h) Endless k f (arguments_in stub t) (standing w k ready s) n ≡ o → Called (suc (cost low.steps + n)) ≡ then_do o lifting
    unfolding ◌>>◌
    run_then n o is =
        lowered_then (cost low.steps + n) (Next [] n (standing w k ready s) args) (x.goes n)
        ∙ seen_none (onward args (standing w k ready s) n)
        ∙ ap (λ vs. then_do (running G (hosted h) Endless k f vs (standing w k ready s) n) lifting) values_so
        ∙ ap (λ r. then_do r lifting) is

    abbrev l : Loss S
    l = lost h G to es s

    abbrev left : Config ℕ
    left = with_both ready (store_with home run.state.memory ends.made') (map_to to run.state.table)

    -- ---- the answer is lifted

    abbrev R : List CoreValue
    R = flat_in stub run.state

    bytes_so : bytes_in (options_of p) left.store ≡ run.state.memory
    bytes_so = ap (λ (m : Linear). m.bytes) (get_or-set_same x.store.memories p.memory _ (fresh 0 None) x.area.within)

    replied : lifts world.most_results (world.answer_tuple L.ty) L.options (words R) left ≡ option_map (as_lifted to ty left) (reply_of ty stub run.state)
    replied =
        ap (λ tuple. lifts world.most_results tuple L.options (words R) left) (type_so to ty)
        ∙ lifts_so to know.once ty left run.state.table world.most_results (options_of p) (words R) refl is_stub.own
        ∙ ap (λ bytes. option_and_then (lifted_by to ty left run.state.table) (lift_words 1 (answer_tuple ty) bytes (words R))) bytes_so
        ∙ ap (λ ws. option_and_then (lifted_by to ty left run.state.table) (lift_words 1 (answer_tuple ty) run.state.memory ws)) (results_as_words stub.flat.results (local_at run.state.locals (result_of stub)))
        ∙ lifted_as_reply to ty left run.state (lift_words 1 (answer_tuple ty) run.state.memory (results_in stub.flat.results (number_at run.state (result_of stub))))

    abbrev after : Reply → Config ℕ
    after r = record { store = left.store; map = map_to to r.taken.map; entered = true; closed = false }

    abbrev answered : Reply → Answer
    answered r = record { passed = passed_of ty r; due = Served k L R }

    lifted_to : (r : Reply) → AreOwned r.taken.map.entries → reply_of ty stub run.state ≡ Some r → (n : ℕ) → lifting R (standing w k left l.next) n ≡ Next [] n (standing w k (after r) l.next) (answered r)
    unfolding ◌>>◌ gives
    lifted_to r owned is n =
        let rest : Args ℕ → Act (World S) Answer = λ a. on k (has_no_borrow a.loans) >> λ u. gives (record { passed = a.passed; due = Served k L R }) in
        let given : Args ℕ = (as_lifted to ty left r).answer in
        ap (λ o. then_do o rest) (on_k w k (lifts world.most_results (world.answer_tuple L.ty) L.options (words R)) left (after r) l.next given n (replied ∙ ap (option_map (as_lifted to ty left)) is))
        ∙ seen_none (rest given (standing w k (after r) l.next) n)
        ∙ ap (λ o. then_do o (λ u. gives (answered r))) (on_k w k (has_no_borrow []) (after r) (after r) l.next tt n (no_borrow_left to r.taken.map (after r) refl owned))

    lifted_none : reply_of ty stub run.state ≡ None → (n : ℕ) → lifting R (standing w k left l.next) n ≡ Over [] Trapped
    unfolding ◌>>◌
    lifted_none is n =
        let rest : Args ℕ → Act (World S) Answer = λ a. on k (has_no_borrow a.loans) >> λ u. gives (record { passed = a.passed; due = Served k L R }) in
        ap (λ o. then_do o rest) (on_none w k (lifts world.most_results (world.answer_tuple L.ty) L.options (words R)) left l.next n (replied ∙ ap (option_map (as_lifted to ty left)) is))

    -- ---- all of it

    abbrev W : ℕ
    W = suc (cost low.steps + (ends.steps + length es))

    ran : run.end ≡ Answers → (n : ℕ) → Called (W + n) ≡ seen_before l.seen (lifting R (standing w k left l.next) n)
    ran is n =
        ap Called (taken_in_turn (cost low.steps) ends.steps (length es) n)
        ∙ run_then (ends.steps + (length es + n)) (Next l.seen n (standing w k left l.next) R) (stub_returns h G unfolds by k numbers to know home f stub t made run ends kinds w ready s at_home is n)

    left_area : end_of p.layout ≤ length run.state.memory → HasArea p left.store (record { memory = run.state.memory; used = stored.used; answers = stored.answers })
    left_area holds = record {
      quiet = record { nesting = x.area.quiet.nesting; deepest = x.area.quiet.deepest };
      within = subst (λ n. p.memory < n) (sym (length-set x.store.memories p.memory _)) x.area.within;
      bytes = bytes_so;
      holds = holds;
      realloc = record { instance = x.area.realloc.instance; function = x.area.realloc.function; own = x.area.realloc.own; enters = x.area.realloc.enters };
      used = record { there = x.area.used.there; holds = x.area.used.holds; whole = x.area.used.whole; from = x.area.used.from; to = x.area.used.to };
    }

    left_same : SameBut x.store left.store
    left_same = record { functions = refl; instances = refl; tables = refl; segments = refl; elements = refl; memories = length-set x.store.memories p.memory _; globals = refl }

    ends_by : (e : CodeEnd) (r : Option Reply) → run.end ≡ e → reply_of ty stub run.state ≡ r → EndsSo h G k to p stub ty f post from passed w c s es stored run.state e r
    ends_by Trap r is replies = record {
      steps = suc (cost low.steps + (ends.steps + (length es + 1)));
      goes = λ n. ap Called (one_for_trap (cost low.steps) ends.steps (length es) n)
          ∙ run_then (ends.steps + (length es + (1 + n))) (Over l.seen Trapped) (stub_traps h G unfolds by k numbers to know home f stub t made run ends kinds w ready s at_home is n);
    }
    ends_by Answers None is replies = record {
      steps = W;
      goes = λ n. ran is n ∙ ap (seen_before l.seen) (lifted_none replies n) ∙ ap (λ z. Over z Trapped) (append-nil l.seen);
    }
    ends_by Answers (Some r) is replies =
        let owned : AreOwned r.taken.map.entries = reply_owned ty run.state (lift_words 1 (answer_tuple ty) run.state.memory (results_in stub.flat.results (number_at run.state (result_of stub)))) r (stub_owned h G unfolds by k numbers to know home f stub t made run ends kinds w ready s at_home is) replies in
        record {
          steps = W;
          store = left.store;
          same = same_then c.store x.store left.store x.same left_same;
          area = left_area;
          owned = owned;
          goes = λ n. ran is n ∙ ap (seen_before l.seen) (lifted_to r owned replies n) ∙ ap (λ z. Next z n (standing w k (after r) l.next) (answered r)) (append-nil l.seen);
        }

    pub ends_as : EndsSo h G k to p stub ty f post from passed w c s run.state.effects stored run.state run.end (reply_of ty stub run.state)
    ends_as = subst (λ effects. EndsSo h G k to p stub ty f post from passed w c s effects stored run.state run.end (reply_of ty stub run.state)) (sym ends.has) (ends_by run.end (reply_of ty stub run.state) refl refl)

  pub call_ends : (o : Option Stored) → LoweredOrTrapped h G k p 0 low w inside s now o → CallEnds h G k to p stub ty f post from passed w c s table o
  call_ends None x = record {
    steps = suc (cost low.steps);
    goes = λ n. ap Called (early (cost low.steps) n) ∙ lowered_then (cost low.steps + n) (Over [] Trapped) (x n);
  }
  call_ends (Some stored) x = λ nobody. ends_as stored x nobody

pub stubs_answer_law : {S : Type 0} → (h : HostStep S) → ((G : Group) → Unfolds G (hosted h)) → ((G : Group) → GoesByItsRest G (hosted h)) → StubsAnswer h
stubs_answer_law h unfolds by G k numbers to know p is_realloc asks spaces stub ty f post is_stub from passed lent can w c s table now idle =
    call_ends h G (unfolds G) (by G) k numbers to know p asks spaces stub ty f post is_stub from passed lent w c s table now idle (stored_in p.layout 0 now (lowered_of ty passed).steps)
    (lowers_by_area h unfolds by G k p is_realloc 0 (lowered_of ty passed) can w (record { store = c.store; map = c.map; entered = true; closed = c.closed }) s now idle.fresh
    (record { quiet = idle.area.quiet; within = idle.area.within; bytes = idle.area.bytes; holds = idle.area.holds; realloc = idle.area.realloc; used = idle.area.used }))
