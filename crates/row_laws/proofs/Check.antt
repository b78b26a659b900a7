-- The row of `check-write` equals the reference host's.
use Rattle.std.proofs.Common.{◌≡◌, ◌≢◌, ℕ, ◌+◌, ◌%◌, ◌^◌, ◌<◌, ◌≤◌, ◌&&◌, nat_lt, Bool, true, false, List, [], ◌∷◌, length, Option, Some, None, cond, refl, sym, ap, subst, ◌∙◌, inl, inr, arith, lit<}
use Rattle.std.specs.Prelude.{slice_get}
use Rattle.std.proofs.lemmas.Bool.{le-leb, lt-leb, le-ltb, eqb-true}
use Rattle.std.proofs.Math.Nat.{mod-eq_of_lt}
use Rattle.std.specs.Option.{option_map, option_and_then}
use Rattle.wit_types.specs.Plain.{Name, PlainFunc}
use Rattle.wit_types.specs.PlainValue.{PlainValue, HandleValue, End as NoValues, More as Values}
use Rattle.wit_types.specs.HasType.{are_of}
use Rattle.abi_layout.specs.Loading.{loads}
use Rattle.abi_layout.specs.Handles.{handles, renumbered}
use Rattle.handle_space.specs.HandleMap.{Entry as HandleEntry, Answered, Held, answered, own_entry, entry_at, live_count, most_live, without}
use Rattle.host_port.specs.Calls.{PlainCall, PlainAnswer, PlainObservation, Gives, Trap, Ended, Bad}
use Rattle.host_port.specs.Hosts.{HostStep, Reaction, IsAnswerTo}
use Rattle.reference_step.specs.Handles.{Host, LiveHandle, Live, is_host, is_of_kind, content_in, handle_at, live_of_kind, fresh_id, with_handle}
use Rattle.reference_step.specs.Listed.{Listed}
use Rattle.reference_step.specs.State.{Reference}
use Rattle.reference_step.specs.Access.{Hosted}
use Rattle.reference_step.specs.Rules.{NotDenied, denial, fit, has_places, given as given_by, are_live, alike_results}
use Rattle.reference_step.specs.Steps.{is_heavy, args_weight, weighed, asks_host, host_id, host_gave}
use Rattle.reference_step.specs.Steps.{by_answer as reference_by}
use Rattle.adapter_code.specs.declared.layout.Layout.{Layout}
use Rattle.adapter_code.specs.declared.state.Local.{Local}
use Rattle.adapter_code.specs.declared.state.CodeEnd.TheVariants.{Answer as Answered', Trap as Trapped'}
use Rattle.adapter_code.specs.Layout.{table_at, transfer_at}
use Rattle.adapter_code.specs.Number.{word, put}
use Rattle.adapter_code.specs.Run.{State, Run, Next, Left, Over, value, number_at, own_resource, ended, runs, routine_run}
use Rattle.adapter_code.specs.Placed.{inside, run_inside}
use Rattle.adapter_code.proofs.Words.{keeps-put, length-put, word-put, word-kept}
use Rattle.table_bytes.specs.Own.{own_of}
use Rattle.table_bytes.specs.Table.{IsTable}
use Rattle.table_bytes.specs.declared.entry.Entry.TheVariants as entry
use Rattle.table_bytes.specs.Routines.{state_of}
use Rattle.table_bytes.proofs.Own.{called_runs}
use Rattle.row_runs.specs.Passing.{BorrowAt, OwnAt, and_answer, answer_tuple, lift_words, out_of_tuple, named_in, takes, lends, adds}
use Rattle.row_runs.specs.RowRun.{Adapter, Ran, begun, before_runs, after_runs, lifts, left, lent, row_run}
use Rattle.row_runs.specs.RowRun.{by_answer as row_by, enters as row_enters}
use Rattle.row_runs.specs.Stands.{slots_of, IsHeld, Stands, OnlyAround}
use Rattle.row_runs.specs.Taken.{TakenFor, placing}
use Rattle.row_runs.specs.Equals.{Fixed, StandsAt, IsStill, Equals, IsAnswered, RowEquals, placed_call, placed_answer}
use Rattle.row_runs.specs.Dropped.{host_of}
use Rattle.row_runs.proofs.Cases.{is_light, refused_none, not_denied, virtual_case, hosted_case, full_case}
use Rattle.row_runs.proofs.Standing.{stands_taken, placing_same, placing_other, stands_around, around_alike, around_both, around_calls}
use Rattle.row_runs.proofs.Counts.{hosted_more, hosted_few, not_fresh, was_live}
use Rattle.row_runs.proofs.Maps.{AddedTo, adds_one, Passed, passes_one}
use Rattle.row_runs.proofs.Giving.{handles_fit}
use Rattle.row_runs.proofs.Locals.{own_read}
use Rattle.row_runs.proofs.Asking.{WhoseIs, Theirs, Ours, whose, index_small, lends_own, self_alone}
use Rattle.row_laws.specs.Check.{check_answer, check_type, check_listed, check_places, check_widths, check_locals, check_before, check_after, check_row, StateIs, CheckEnds}
use Rattle.row_laws.proofs.CheckReads.{succeeded, failed, closed, one_value, loads_succeeded, loads_closed, loads_failed, Shape, Succeeded, Failed, Closed, shape}
use Rattle.row_laws.proofs.CheckAfter.{AfterEnds, after-succeeded, after-closed}
use Rattle.row_laws.proofs.CheckFail.{FailEnds, after-failed}
use Rattle.row_laws.proofs.CheckRun.{check-run}
use Rattle.row_laws.specs.Laid.{IsLaid}

and_true : (b : Bool) → (b && true) ≡ b
and_true true = refl
and_true false = refl

some_is : {A : Type 0} (x y : A) → Some x ≡ Some y → x ≡ y
some_is x y e = cc

none_some : {A : Type 0} (x : A) (o : Option A) → o ≡ Some x → o ≡ None → ⊥
none_some x o e f = absurd cc

-- the memory after 65536 as a result
abbrev told_bytes : List ℕ → List ℕ
told_bytes m = put (put m 0 1 0) 8 8 65536

told_around : (l : Layout) (m : List ℕ) → 16 ≤ length m → OnlyAround l m (told_bytes m)
told_around l m long =
    let size = length-put 1 m 0 0 (omega arith) in
    around_both l m (put m 0 1 0) (told_bytes m) (around_calls l m (put m 0 1 0) 0 1 (keeps-put 1 m 0 0 (omega arith)) (omega arith))
    (around_calls l (put m 0 1 0) (told_bytes m) 8 8 (keeps-put 8 (put m 0 1 0) 8 65536 (omega (arith, size))) (omega arith))

told_loads : (self : Name) (m : List ℕ) → 16 ≤ length m → loads (told_bytes m) (answer_tuple (check_type self)) 0 ≡ Some (one_value (succeeded 65536))
told_loads self m long =
    let size = length-put 1 m 0 0 (omega arith) in
    let size2 = length-put 8 (put m 0 1 0) 8 65536 (omega (arith, size)) in
    let low : word (told_bytes m) 0 1 ≡ 0 = word-kept 1 (put m 0 1 0) (told_bytes m) 0 8 8 (keeps-put 8 (put m 0 1 0) 8 65536 (omega (arith, size))) (inl (omega arith)) ∙ word-put 1 m 0 0 (omega arith) (omega arith) in
    let high : word (told_bytes m) 8 8 ≡ 65536 = word-put 8 (put m 0 1 0) 8 65536 (omega (arith, size)) (omega arith) in
    loads_succeeded self (told_bytes m) (omega (arith, size, size2)) 65536 low high

-- a byte at 0 and a number at 8
record TwoPuts (l : Layout) (m : List ℕ) (d width v : ℕ) : Type 0 where
  first : word (put (put m 0 1 d) 8 width v) 0 1 ≡ d
  second : word (put (put m 0 1 d) 8 width v) 8 width ≡ v
  size : length (put (put m 0 1 d) 8 width v) ≡ length m
  around : OnlyAround l m (put (put m 0 1 d) 8 width v)

two_puts : (l : Layout) (m : List ℕ) (d width v : ℕ) → 16 ≤ length m → d < 256 → width ≤ 8 → v < 256 ^ width → TwoPuts l m d width v
two_puts l m d width v long small few fits =
    let one = put m 0 1 d in
    let size = length-put 1 m 0 d (omega arith) in
    let kept = keeps-put width one 8 v (omega (arith, size)) in
    let small_one : d < 256 ^ 1 = omega (arith, small) in
    record {
      first = word-kept 1 one (put one 8 width v) 0 8 width kept (inl (omega arith)) ∙ word-put 1 m 0 d (omega arith) small_one;
      second = word-put width one 8 v (omega (arith, size)) fits;
      size = kept.size ∙ size;
      around = around_both l m one (put one 8 width v) (around_calls l m one 0 1 (keeps-put 1 m 0 d (omega arith)) (omega arith)) (around_calls l one (put one 8 width v) 8 width kept (omega arith));
    }

module _ (w : Fixed) (laid : IsLaid w) (some : 0 < w.layout.slots) (self : Name) (names : List Name) {S : Type 0} (h : HostStep S) (r : Reference S) (a : Adapter) (place : ℕ → ℕ) (setup : r.setup ≡ w.setup) (stands : StandsAt w r a place) (id : ℕ) (x : LiveHandle) (there : handle_at r.live id ≡ Some x) (kind_is : x.kind ≡ 3) (c : PlainCall) (typed : IsAnswered h (check_listed self names) c) where
  abbrev l : Layout
  l = w.layout

  abbrev f : Listed
  f = check_listed self names

  abbrev ty : PlainFunc
  ty = check_type self

  abbrev asked_by : ℕ → PlainCall
  asked_by n = record c { args = Values (HandleValue n) NoValues }

  abbrev outer : List Local
  outer = begun check_widths (place id ∷ [])

  abbrev free : ℕ
  free = (stands.tables 0 (lit< tt)).free

  abbrev held : IsHeld l w.nodes a x (place id)
  held = stands.held id x there

  abbrev Due : Ran S → Type 0
  Due ran = Equals w r.live place (Some check_answer) (weighed h r f (asked_by id)) ran

  abbrev behind : Run → Ran S
  behind R = before_runs h l (check_row l) ty check_widths (asked_by (place id)) (transfer_at l) r.inner (ended (run_inside check_places outer R))

  still : (y : ℕ) (z : LiveHandle) → handle_at r.live y ≡ Some z → IsStill r.live place place y z
  still y z at = record { handle = z; there = at; kind = refl; same = refl }

  long : 16 ≤ length a.memory
  long = omega (arith, (stands.tables 0 (lit< tt)).table.within)

  light : is_heavy h r (args_weight h f (asked_by id)) ≡ false
  light = is_light h r f (asked_by id) refl

  allowed : denial r.setup.policy f (asked_by id) ≡ NotDenied
  allowed = not_denied r.setup.policy f (asked_by id) Hosted refl (refused_none r.setup.policy f.function.name (asked_by id).args refl) refl

  slots : r.setup.policy.slots ≡ l.slots
  slots = ap (λ z. z.policy.slots) setup ∙ sym laid.slots

  room_is : has_places r.setup.policy r.live (Some check_answer) ≡ fit r.setup.policy r.live 0 1
  room_is = and_true (fit r.setup.policy r.live 0 1)

  room : 0 < free → has_places r.setup.policy r.live (Some check_answer) ≡ true
  room more = room_is ∙ le-leb (1 + live_of_kind 0 r.live) r.setup.policy.slots (omega (arith, more, (stands.tables 0 (lit< tt)).count, slots))

  full : free ≡ 0 → has_places r.setup.policy r.live (Some check_answer) ≡ false
  full none = room_is ∙ lt-leb (1 + live_of_kind 0 r.live) r.setup.policy.slots (omega (arith, none, (stands.tables 0 (lit< tt)).count, slots))

  -- whether the host is asked, by whose the stream is
  asks : (b : Bool) → is_host x.content ≡ b → asks_host h r f (asked_by id) ≡ b
  asks b is =
      let content : is_host (content_in (handle_at r.live id)) ≡ b = ap (λ o. is_host (content_in o)) there ∙ is in
      ap (λ t. (t && true) && true) content ∙ and_true (b && true) ∙ and_true b

  -- no place for an error is free
  trapped : (k : ℕ) (new : State) → free ≡ 0 → Due (behind (Over Trapped' k new))
  trapped k new none =
      rw (full_case h r f (asked_by id) light (full none)) (record { seen = refl; inner = refl; setup = setup; place' = place; stay = still; answer = refl; stands = λ v. absurd v })

  -- a stream that keeps nothing, or is any other but the host's
  virtual : (k : ℕ) (new : State) → 0 < free → is_host x.content ≡ false → StateIs 0 0 0 0 (told_bytes a.memory) a.handles [] new → Due (behind (Next k new))
  virtual k new more ours st =
      let told : Reaction (Reference S) = record { seen = []; answer = Gives (Some (succeeded 65536)); next = r } in
      let reference : weighed h r f (asked_by id) ≡ told = virtual_case h r f (asked_by id) light (room more) allowed (asks false ours) refl in
      let b : Adapter = record { memory = told_bytes a.memory; handles = a.handles } in
      let given : Ran S = record { seen = []; answer = Gives (Some (succeeded 65536)); adapter = b; inner = r.inner } in
      let at : State = state_of (check_locals st.self 0 0 0 0 st.base st.scratch st.spot st.tag st.held st.long st.test st.at st.made) (told_bytes a.memory) a.handles [] in
      let ran : behind (Next k new) ≡ given =
      ap (λ s. behind (Next k s)) st.is
      ∙ ap (lifts h l (check_row l) ty check_widths (asked_by (place id)) [] r.inner (inside check_places outer at)) (told_loads self a.memory long) in
      rw (reference, ran) (record {
        seen = refl;
        inner = refl;
        setup = setup;
        place' = place;
        stay = still;
        answer = refl;
        stands = λ v. stands_around l w.image w.nodes r.live a place stands (told_bytes a.memory) a.handles (told_around l a.memory long) (λ i. refl) refl stands.shown;
      })

  -- ---- a stream of the host

  module _ (theirs index : ℕ) (is : x.content ≡ Host theirs) (entry_is : entry_at a.handles index ≡ Some (own_entry 3 theirs)) (more : 0 < free) (self' base scratch spot tag held' long' test at' made : ℕ) where
    -- the state after the routine before
    abbrev asked : State
    asked = state_of (check_locals self' 1 index 0 0 base scratch spot tag held' long' test at' made) a.memory a.handles []

    abbrev t : State
    t = inside check_places outer asked

    -- what the reference host makes of an answer
    abbrev told_by : List PlainObservation → S → PlainAnswer → Reaction (Reference S)
    told_by seen inner answer = reference_by h (record r { inner = inner }) seen answer (λ v. host_gave h (record r { inner = inner }) seen f (asked_by id) v)

    -- what the row does
    abbrev done_by : List PlainObservation → S → PlainAnswer → Ran S
    done_by seen inner answer = row_by h l (check_row l) ty check_widths (asked_by (place id)) (transfer_at l) t seen inner answer

    -- both ask the host the same
    reference_asks : weighed h r f (asked_by id) ≡ (let q = h.call r.inner (asked_by theirs) in told_by q.seen q.next q.answer)
    reference_asks =
        let content : content_in (handle_at r.live id) ≡ Host theirs = ap content_in there ∙ is in
        hosted_case h r f (asked_by id) light (room more) allowed (asks true (ap is_host is))
        ∙ ap (λ z. let q = h.call r.inner (asked_by (host_id h z)) in told_by q.seen q.next q.answer) content

    row_asks : (k : ℕ) → behind (Next k asked) ≡ (let q = h.call r.inner (asked_by theirs) in done_by q.seen q.next q.answer)
    row_asks k =
        let low : index % 2 ^ 32 ≡ index = mod-eq_of_lt (index_small a.handles index (own_entry 3 theirs) stands.shown entry_is) in
        let loan = lends_own a.handles index 3 theirs entry_is in
        let taken : lends (BorrowAt 3 index ∷ []) a.handles ≡ Some (theirs ∷ []) = ap (λ o. option_and_then (λ (z : Answered ℕ (Held ℕ)). option_map (λ xs. z.answer.rep ∷ xs) (lends [] z.map)) o) loan.1 in
        ap (λ n. lent h l (check_row l) ty check_widths (asked_by (place id)) (transfer_at l) t r.inner (one_value (HandleValue n)) (lends (BorrowAt 3 n ∷ []) a.handles)) low
        ∙ ap (lent h l (check_row l) ty check_widths (asked_by (place id)) (transfer_at l) t r.inner (one_value (HandleValue index))) taken

    abbrev Same : List PlainObservation → S → PlainAnswer → Type 0
    Same seen inner answer = Equals w r.live place (Some check_answer) (told_by seen inner answer) (done_by seen inner answer)

    -- the routine after, over a memory that holds an answer without a handle
    module _ (seen : List PlainObservation) (inner : S) (m : List ℕ) (v : PlainValue) (loaded : loads m (answer_tuple (check_type self)) 0 ≡ Some (one_value v)) (none : takes own_resource (named_in (handles (answer_tuple (check_type self)) (one_value v))) a.handles ≡ Some (answered [] a.handles)) (whole : out_of_tuple (renumbered (answer_tuple (check_type self)) (one_value v) []) ≡ Some v) where
      abbrev tm : State
      tm = record t { memory = m }

      abbrev given : Ran S
      given = record { seen = seen; answer = Gives (Some v); adapter = record { memory = m; handles = a.handles }; inner = inner }

      abbrev ends_as : Run → Ran S
      ends_as R = after_runs h l (check_row l) ty check_widths (asked_by (place id)) seen inner (ended (run_inside check_places tm.locals R))

      quiet_by : (R : Run) → AfterEnds 1 index m a.handles [] R → ends_as R ≡ given
      quiet_by (Next k new) st =
          let at : State = state_of (check_locals st.self 1 index 0 0 st.base st.scratch st.spot st.tag st.held st.long st.test st.at st.made) m a.handles [] in
          ap (λ z. ends_as (Next k z)) st.is
          ∙ ap (lifts h l (check_row l) ty check_widths (asked_by (place id)) seen inner (inside check_places tm.locals at)) loaded
          ∙ ap (left h l (check_row l) ty check_widths (asked_by (place id)) seen inner (inside check_places tm.locals at) (one_value v)) none
          ∙ ap (λ o. let g : Ran S = record { seen = seen; answer = Gives o; adapter = record { memory = m; handles = a.handles }; inner = inner } in g) whole
      quiet_by (Left n k new) ends = absurd ends
      quiet_by (Over e k new) ends = absurd ends

      quiet : AfterEnds 1 index m a.handles [] (runs (check_after l) 0 (state_of (check_locals self' 1 index 0 0 base scratch spot tag held' long' test at' made) m a.handles []))
          → after_runs h l (check_row l) ty check_widths (asked_by (place id)) seen inner (routine_run (check_row l).after tm) ≡ given
      quiet ends =
          ap (λ R. after_runs h l (check_row l) ty check_widths (asked_by (place id)) seen inner (ended R)) (called_runs check_places (check_after l) 0 tm refl refl)
          ∙ quiet_by (runs (check_after l) 0 (own_of check_places tm)) ends

    -- an answer that is a value, and holds no handle
    light_answer : (seen : List PlainObservation) (inner : S) (n : ℕ) → n ≡ 0 → is_heavy h (record r { inner = inner }) n ≡ false
    light_answer seen inner n none = ap (nat_lt r.setup.policy.transfer_limit) none ∙ le-ltb r.setup.policy.transfer_limit 0 (omega arith)

    same_quiet : (seen : List PlainObservation) (inner : S) (m : List ℕ) (v : PlainValue) → OnlyAround l a.memory m
        → told_by seen inner (Gives (Some v)) ≡ record { seen = seen; answer = Gives (Some v); next = record r { inner = inner } }
        → done_by seen inner (Gives (Some v)) ≡ record { seen = seen; answer = Gives (Some v); adapter = record { memory = m; handles = a.handles }; inner = inner }
        → placed_answer place (Some check_answer) (Gives (Some v)) ≡ Gives (Some v)
        → Same seen inner (Gives (Some v))
    same_quiet seen inner m v around told done placed =
        rw (told, done) (record {
          seen = refl;
          inner = refl;
          setup = setup;
          place' = place;
          stay = still;
          answer = sym placed;
          stands = λ z. stands_around l w.image w.nodes r.live a place stands m a.handles around (λ i. refl) refl stands.shown;
        })

    -- it succeeds
    done_succeeded : (seen : List PlainObservation) (inner : S) (n : ℕ)
        → done_by seen inner (Gives (Some (succeeded n))) ≡ after_runs h l (check_row l) ty check_widths (asked_by (place id)) seen inner (routine_run (check_row l).after (record t { memory = put (put a.memory 0 1 0) 8 8 (n % 2 ^ 64) }))
    unfolding put
    done_succeeded seen inner n = refl

    same_succeeded : (seen : List PlainObservation) (inner : S) (n : ℕ) → n < 2 ^ 64 → Same seen inner (Gives (Some (succeeded n)))
    same_succeeded seen inner n small =
        let n' = n % 2 ^ 64 in
        let is_n : n' ≡ n = mod-eq_of_lt small in
        let p = two_puts l a.memory 0 8 n' long (omega arith) (omega arith) (omega (arith, is_n, small)) in
        let m = put (put a.memory 0 1 0) 8 8 n' in
        let loaded : loads m (answer_tuple (check_type self)) 0 ≡ Some (one_value (succeeded n)) = loads_succeeded self m (omega (arith, p.size, long)) n p.first (p.second ∙ is_n) ∙ ap (λ k. Some (one_value (succeeded k))) is_n in
        same_quiet seen inner m (succeeded n) p.around
        (ap (λ b. cond b (record { seen = seen; answer = Trap; next = record r { inner = inner } }) (record { seen = seen; answer = Gives (Some (succeeded n)); next = record r { inner = inner } })) (light_answer seen inner 0 refl))
        (done_succeeded seen inner n ∙ quiet seen inner m (succeeded n) loaded refl refl
        (after-succeeded l self' 1 index base scratch spot tag held' long' test at' made m a.handles [] (omega (arith, p.size, long)) p.first))
        refl

    -- the stream is closed
    done_closed : (seen : List PlainObservation) (inner : S)
        → done_by seen inner (Gives (Some closed)) ≡ after_runs h l (check_row l) ty check_widths (asked_by (place id)) seen inner (routine_run (check_row l).after (record t { memory = put (put a.memory 0 1 1) 8 1 1 }))
    unfolding put
    done_closed seen inner = refl

    same_closed : (seen : List PlainObservation) (inner : S) → Same seen inner (Gives (Some closed))
    same_closed seen inner =
        let p = two_puts l a.memory 1 1 1 long (omega arith) (omega arith) (omega arith) in
        let m = put (put a.memory 0 1 1) 8 1 1 in
        same_quiet seen inner m closed p.around
        (ap (λ b. cond b (record { seen = seen; answer = Trap; next = record r { inner = inner } }) (record { seen = seen; answer = Gives (Some closed); next = record r { inner = inner } })) (light_answer seen inner 0 refl))
        (done_closed seen inner ∙ quiet seen inner m closed (loads_closed self m (omega (arith, p.size, long)) p.first p.second) refl refl
        (after-closed l self' 1 index base scratch spot tag held' long' test at' made m a.handles [] (omega (arith, p.size, long)) p.first p.second))
        refl

    -- it fails, with an error of the host: that enters the handle map, and a handle of the adapter's own is made for it
    module _ (seen : List PlainObservation) (inner : S) (hid : ℕ) where
      abbrev error : Answered ℕ ℕ
      error = (adds_one a.handles 0 hid stands.shown (handles_fit w r a place stands laid.few)).0

      added : AddedTo a.handles 0 hid error
      added = (adds_one a.handles 0 hid stands.shown (handles_fit w r a place stands laid.few)).1

      abbrev memory : List ℕ
      memory = put (put (put a.memory 0 1 1) 8 1 0) 12 4 error.answer

      abbrev te : State
      te = record t { memory = memory; table = error.map }

      abbrev own_state : State
      own_state = state_of (check_locals self' 1 index 0 0 base scratch spot tag held' long' test at' made) memory error.map []

      done_entered : row_enters h l (check_row l) ty check_widths (asked_by (place id)) (transfer_at l) seen inner t (one_value (failed hid)) (Some (answered (error.answer ∷ []) error.map))
          ≡ after_runs h l (check_row l) ty check_widths (asked_by (place id)) seen inner (routine_run (check_row l).after te)
      unfolding put
      done_entered = refl

      enters : adds (OwnAt 0 hid ∷ []) a.handles ≡ Some (answered (error.answer ∷ []) error.map)
      enters = ap (λ o. option_and_then (λ (z : Answered ℕ ℕ). option_map (and_answer z.answer) (adds [] z.map)) o) added.made

      done_failed : done_by seen inner (Gives (Some (failed hid))) ≡ after_runs h l (check_row l) ty check_widths (asked_by (place id)) seen inner (ended (run_inside check_places te.locals (runs (check_after l) 0 own_state)))
      done_failed =
          ap (row_enters h l (check_row l) ty check_widths (asked_by (place id)) (transfer_at l) seen inner t (one_value (failed hid))) enters
          ∙ done_entered
          ∙ ap (λ R. after_runs h l (check_row l) ty check_widths (asked_by (place id)) seen inner (ended R)) (called_runs check_places (check_after l) 0 te refl refl)

      told_failed : told_by seen inner (Gives (Some (failed hid))) ≡ record { seen = seen; answer = Gives (Some (failed (fresh_id r.live))); next = record r { inner = inner; live = with_handle r.live 0 (Host hid) } }
      told_failed = ap (λ b. cond b (record { seen = seen; answer = Trap; next = record r { inner = inner } }) (record { seen = seen; answer = Gives (Some (failed (fresh_id r.live))); next = record r { inner = inner; live = with_handle r.live 0 (Host hid) } })) (light_answer seen inner 0 refl)

      -- what the memory holds
      record Holds : Type 0 where
        first : word memory 0 1 ≡ 1
        second : word memory 8 1 ≡ 0
        third : word memory 12 4 ≡ error.answer
        size : length memory ≡ length a.memory
        around : OnlyAround l a.memory memory

      holds : Holds
      holds =
          let p = two_puts l a.memory 1 1 0 long (omega arith) (omega arith) (omega arith) in
          let two = put (put a.memory 0 1 1) 8 1 0 in
          let kept = keeps-put 4 two 12 error.answer (omega (arith, p.size, long)) in
          record {
            first = word-kept 1 two memory 0 12 4 kept (inl (omega arith)) ∙ p.first;
            second = word-kept 1 two memory 8 12 4 kept (inl (omega arith)) ∙ p.second;
            third = word-put 4 two 12 error.answer (omega (arith, p.size, long)) (omega (arith, added.small));
            size = kept.size ∙ p.size;
            around = around_both l a.memory two memory p.around (around_calls l two memory 12 4 kept (omega arith));
          }

      -- the state with the host's answer in the part for calls
      abbrev middle_state : Adapter
      middle_state = record { memory = memory; handles = a.handles }

      stands_middle : Stands l w.image w.nodes r.live middle_state place
      stands_middle = stands_around l w.image w.nodes r.live a place stands memory a.handles holds.around (λ i. refl) refl stands.shown

      errors : IsTable memory (table_at l 0) l.slots free
      errors = (around_alike l w.image w.nodes r.live a place stands memory a.handles holds.around (λ i. refl) refl stands.shown).tables 0 free (lit< tt) (stands.tables 0 (lit< tt)).table

      few : live_count error.map < most_live
      few =
          let most = hosted_few r.live l.slots (λ i y at. (stands.held i y at).kind) (λ k lt. omega (arith, (stands.tables k lt).count)) in
          omega (arith, added.more, stands.count, most, laid.few)

      room_for : (rep : ℕ) → (y : Answered ℕ ℕ) × Passed error.map (own_resource 0) rep y
      room_for rep = passes_one error.map (own_resource 0) rep added.map few

      ends : FailEnds l free error.answer memory error.map (runs (check_after l) 0 own_state)
      ends =
          after-failed l free error.answer self' 1 index base scratch spot tag held' long' test at' made memory error.map (omega (arith, holds.size, long)) more added.small errors
          (λ rep. ((room_for rep).0, (room_for rep).1.made)) holds.first holds.second holds.third

      abbrev fails_as : Run → Ran S
      fails_as R = after_runs h l (check_row l) ty check_widths (asked_by (place id)) seen inner (ended (run_inside check_places te.locals R))

      failed_by : (R : Run) → FailEnds l free error.answer memory error.map R → Equals w r.live place (Some check_answer) (record { seen = seen; answer = Gives (Some (failed (fresh_id r.live))); next = record r { inner = inner; live = with_handle r.live 0 (Host hid) } }) (fails_as R)
      failed_by (Next k new) (at, y, p) =
          let T = inside check_places te.locals new in
          let m = p.middle in
          let F = put m 12 4 y.answer in
          let H = without y.map y.answer in
          let other = room_for at in
          let same : other.0 ≡ y = some_is other.0 y (sym other.1.made ∙ p.made) in
          let q : Passed error.map (own_resource 0) at y = subst (λ z. Passed error.map (own_resource 0) at z) same other.1 in
          let size = p.changed.keeps.size in
          let kept = keeps-put 4 m 12 y.answer (omega (arith, size, holds.size, long)) in
          let first = word-kept 1 m F 0 12 4 kept (inl (omega arith)) ∙ word-kept 1 memory m 0 _ _ p.changed.keeps (inl (omega arith)) ∙ holds.first in
          let second = word-kept 1 m F 8 12 4 kept (inl (omega arith)) ∙ word-kept 1 memory m 8 _ _ p.changed.keeps (inl (omega arith)) ∙ holds.second in
          let third = word-put 4 m 12 y.answer (omega (arith, size, holds.size, long)) (omega (arith, q.small)) in
          let loaded = loads_failed self F (omega (arith, kept.size, size, holds.size, long)) y.answer first second third in
          let zero_at : number_at T 4 ≡ 0 = ap value (own_read check_places new.locals te.locals 4 refl p.locals (omega arith)) ∙ p.result in
          let taken : takes own_resource (OwnAt 0 y.answer ∷ []) new.table ≡ Some (answered (at ∷ []) H) =
          ap (λ z. takes own_resource (OwnAt 0 y.answer ∷ []) z) p.table ∙ ap (λ o. option_and_then (λ (z : Answered ℕ ℕ). option_map (and_answer z.answer) (takes own_resource [] z.map)) o) q.taken in
          let given : Ran S = record { seen = seen; answer = Gives (Some (failed at)); adapter = record { memory = F; handles = H }; inner = inner } in
          let ran : fails_as (Next k new) ≡ given =
          ap (λ n. lifts h l (check_row l) ty check_widths (asked_by (place id)) seen inner T (lift_words 1 (answer_tuple ty) new.memory (n ∷ []))) zero_at
          ∙ ap (λ z. lifts h l (check_row l) ty check_widths (asked_by (place id)) seen inner T (loads z (answer_tuple ty) 0)) p.memory
          ∙ ap (lifts h l (check_row l) ty check_widths (asked_by (place id)) seen inner T) loaded
          ∙ ap (left h l (check_row l) ty check_widths (asked_by (place id)) seen inner T (one_value (failed y.answer))) taken
          ∙ ap (λ z. let g : Ran S = record { seen = seen; answer = Gives (Some (failed at)); adapter = record { memory = z; handles = H }; inner = inner } in g) p.memory in
          let fresh : placing place (fresh_id r.live) at (fresh_id r.live) ≡ at = placing_same place (fresh_id r.live) at (fresh_id r.live) refl in
          let b : Adapter = record { memory = m; handles = H } in
          let apart : (i : ℕ) (z : HandleEntry ℕ) → entry_at a.handles i ≡ Some z → i ≢ error.answer = λ i z there eq. none_some z (entry_at a.handles i) there (ap (λ j. entry_at a.handles j) eq ∙ added.fresh) in
          let t' : TakenFor l w.nodes r.live middle_state b 0 at (Host hid) (entry.Host error.answer) free = record {
            kind_lt = lit< tt;
            count = (stands.tables 0 (lit< tt)).count;
            some = more;
            was_free = p.was_free;
            changed = p.changed;
            stands = (error.answer, refl, q.same error.answer ∙ added.there);
            entries = λ i z there. q.same i ∙ added.others i (apart i z there) ∙ there;
            map = q.map;
            hosted = omega (arith, q.count, added.more, stands.count, hosted_more r.live 0 (Host hid));
            new = λ i eq. let same' : error.answer ≡ i = cc in ap (λ j. entry_at a.handles j) (sym same') ∙ added.fresh;
          } in
          let s2 = stands_taken l w.image w.nodes r.live middle_state place stands_middle b 0 at (Host hid) (entry.Host error.answer) free t' in
          rw ran (record {
            seen = refl;
            inner = refl;
            setup = setup;
            place' = placing place (fresh_id r.live) at;
            stay = λ j z there. record { handle = z; there = was_live r.live 0 (Host hid) j z there; kind = refl; same = placing_other place (fresh_id r.live) at j (not_fresh r.live j z there) };
            answer = ap (λ n. Gives (Some (failed n))) (sym fresh);
            stands = λ v. stands_around l w.image w.nodes (with_handle r.live 0 (Host hid)) b (placing place (fresh_id r.live) at) s2 F H (around_calls l m F 12 4 kept (omega arith)) (λ i. refl) refl q.map;
          })
      failed_by (Left n k new) e = absurd e
      failed_by (Over e k new) z = absurd z

      same_failed : Same seen inner (Gives (Some (failed hid)))
      same_failed = rw (told_failed, done_failed) (failed_by (runs (check_after l) 0 own_state) ends)

    -- whatever the host answers
    same_value : (seen : List PlainObservation) (inner : S) (v : PlainValue) → Shape v → Same seen inner (Gives (Some v))
    same_value seen inner v (Succeeded n small e) = rw e (same_succeeded seen inner n small)
    same_value seen inner v (Failed hid e) = rw e (same_failed seen inner hid)
    same_value seen inner v (Closed e) = rw e (same_closed seen inner)

    same : (seen : List PlainObservation) (inner : S) (answer : PlainAnswer) → IsAnswerTo (Some check_answer) answer → Same seen inner answer
    same seen inner (Gives None) is = absurd is
    same seen inner (Gives (Some v)) is = same_value seen inner v (shape v is)
    same seen inner Trap is = record { seen = refl; inner = refl; setup = setup; place' = place; stay = still; answer = refl; stands = λ v. absurd v }
    same seen inner Ended is = record { seen = refl; inner = refl; setup = setup; place' = place; stay = still; answer = refl; stands = λ v. absurd v }
    same seen inner Bad is = record { seen = refl; inner = refl; setup = setup; place' = place; stay = still; answer = refl; stands = λ v. absurd v }

    hosted : (k : ℕ) → Due (behind (Next k asked))
    hosted k =
        let q = h.call r.inner (asked_by theirs) in
        rw (reference_asks, row_asks k) (same q.seen q.next q.answer (typed r.inner (Values (HandleValue theirs) NoValues)))

  -- ---- by whose the stream is, and how the routine before ends

  used : slice_get (slots_of l a.memory 3) (place id) ≡ Some (Some held.entry)
  used = ap (λ k. slice_get (slots_of l a.memory k) (place id)) (sym kind_is) ∙ held.here

  by_asked : (k index : ℕ) (new : State) → 0 < free → host_of held.entry ≡ Some index → StateIs 1 index 0 0 a.memory a.handles [] new → WhoseIs a.handles x.kind x.content held.entry → Due (behind (Next k new))
  by_asked k index new more entry st (Theirs theirs i is e there') =
      let same_index : i ≡ index = some_is i index (sym e ∙ entry) in
      let found : entry_at a.handles index ≡ Some (own_entry 3 theirs) = ap (λ j. entry_at a.handles j) (sym same_index) ∙ there' ∙ ap (λ k. Some (own_entry k theirs)) kind_is in
      subst (λ z. Due (behind (Next k z))) (sym st.is) (hosted theirs index is found more st.self st.base st.scratch st.spot st.tag st.held st.long st.test st.at st.made k)
  by_asked k index new more entry st (Ours ours e) = absurd (none_some index (host_of held.entry) entry e)

  by_told : (k : ℕ) (new : State) → 0 < free → host_of held.entry ≡ None → StateIs 0 0 0 0 (told_bytes a.memory) a.handles [] new → WhoseIs a.handles x.kind x.content held.entry → Due (behind (Next k new))
  by_told k new more entry st (Theirs theirs i is e there') = absurd (none_some i (host_of held.entry) e entry)
  by_told k new more entry st (Ours ours e) = virtual k new more ours st

  by_run : (R : Run) → CheckEnds free held.entry a.memory a.handles [] R → Due (behind R)
  by_run (Next k new) (more, inl (index, entry, st)) = by_asked k index new more entry st (whose w.nodes a.handles x.kind x.content held.entry held.stands)
  by_run (Next k new) (more, inr (entry, st)) = by_told k new more entry st (whose w.nodes a.handles x.kind x.content held.entry held.stands)
  by_run (Left n k new) ends = absurd ends
  by_run (Over Trapped' k new) none = trapped k new none
  by_run (Over Answered' k new) ends = absurd ends

  with_self : Due (row_run h l (check_row l) ty check_widths (asked_by (place id)) a r.inner)
  with_self =
      let s : State = record { locals = outer; memory = a.memory; table = a.handles; effects = [] } in
      let ends = check-run l free (stands.tables 3 (lit< tt)).free (place id) held.entry a.memory a.handles [] some long (stands.tables 0 (lit< tt)).table (stands.tables 3 (lit< tt)).table used in
      subst Due (sym (ap (λ R. before_runs h l (check_row l) ty check_widths (asked_by (place id)) (transfer_at l) r.inner (ended R)) (called_runs check_places (check_before l) 0 s refl refl)))
      (by_run (runs (check_before l) 0 (own_of check_places s)) ends)

-- ---- the row

handle_is : (live : Live) (kind id : ℕ) → is_of_kind kind (handle_at live id) ≡ true → (x : LiveHandle) × (handle_at live id ≡ Some x) × (x.kind ≡ kind)
handle_is live kind id e = by (handle_at live id) refl e
  where
    by : (o : Option LiveHandle) → handle_at live id ≡ o → is_of_kind kind o ≡ true → (x : LiveHandle) × (handle_at live id ≡ Some x) × (x.kind ≡ kind)
    by None is e = cc
    by (Some x) is e = (x, is, eqb-true x.kind kind e)

both : (a b : Bool) → (a && b) ≡ true → (a ≡ true) × (b ≡ true)
both true b e = (refl, e)
both false b e = cc

pub check_equals : {S : Type 0} (h : HostStep S) (w : Fixed) (self : Name) (names : List Name) → IsLaid w → 0 < w.layout.slots → RowEquals w h (check_listed self names) (check_row w.layout) check_widths
check_equals {S} h w self names laid some r a place c typed setup stands passed =
    let f = check_listed self names in
    let p = both (are_of f.function.ty.params c.args) (alike_results f.function.ty.answer c.answer && are_live r.live (given_by f c)) passed in
    let arg = self_alone self 3 c.args p.0 in
    let c' : PlainCall = record c { args = Values (HandleValue arg.0) NoValues } in
    let same : c ≡ c' = ap (λ xs. let z : PlainCall = record c { args = xs } in z) arg.1 in
    let live : are_live r.live (given_by f c') ≡ true = ap (λ z. are_live r.live (given_by f z)) (sym same) ∙ (both (alike_results f.function.ty.answer c.answer) (are_live r.live (given_by f c)) p.1).1 in
    let x = handle_is r.live 3 arg.0 (both (is_of_kind 3 (handle_at r.live arg.0)) true live).0 in
    subst (λ z. Equals w r.live place (Some check_answer) (weighed h r f z) (row_run h w.layout (check_row w.layout) (check_type self) check_widths (placed_call place f z) a r.inner)) (sym same)
    (with_self w laid some self names h r a place setup stands arg.0 x.0 x.1 x.2 c typed)
