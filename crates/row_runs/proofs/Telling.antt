-- A row that answers a value that is known beforehand, through memory.
use Rattle.std.proofs.Common.{◌≡◌, ℕ, suc, ◌+◌, ◌%◌, ◌^◌, ◌≤◌, ◌&&◌, nat_le, true, List, [], ◌∷◌, length, Some, None, cond, refl, sym, ap, subst, ◌∙◌, arith}
use Rattle.std.proofs.Math.Nat.{mod-eq_of_lt}
use Rattle.std.proofs.lemmas.Bool.{le-leb}
use Rattle.core_memory.specs.Number.{number}
use Rattle.wit_types.specs.Plain.{Plain, PlainFunc}
use Rattle.wit_types.specs.PlainValue.{PlainValue, RecordValue, End as NoValues, More as Values}
use Rattle.wit_types.specs.HasType.{is_of}
use Rattle.wit_types.specs.Layout.{alignment, size}
use Rattle.abi_layout.specs.Loading.{is_aligned, loads, loads_at, low_word}
use Rattle.abi_layout.specs.Storing.{Target, Answer, Step, Ask, Write, Place, Refuse, stores}
use Rattle.abi_layout.specs.Handles.{handles, renumbered}
use Rattle.handle_space.specs.HandleMap.{HandleMap}
use Rattle.host_port.specs.Calls.{PlainCall, Gives}
use Rattle.host_port.specs.Hosts.{HostStep}
use Rattle.reference_step.specs.Listed.{Listed}
use Rattle.reference_step.specs.State.{Reference}
use Rattle.reference_step.specs.Steps.{weighed}
use Rattle.adapter_code.specs.declared.layout.Layout.{Layout}
use Rattle.adapter_code.specs.declared.statement.Width.{Width}
use Rattle.adapter_code.specs.declared.state.Local.{Local}
use Rattle.adapter_code.specs.declared.state.Local.TheVariants.{Small, Wide}
use Rattle.adapter_code.specs.declared.state.Effect.{Effect}
use Rattle.adapter_code.specs.Layout.{calls_len}
use Rattle.adapter_code.specs.Number.{put}
use Rattle.adapter_code.specs.Code.{Code}
use Rattle.adapter_code.specs.Run.{State, Next, value, local_at, number_at, own_resource, then_run, after_store, ended, runs}
use Rattle.adapter_code.specs.Placed.{inside, run_inside, differs}
use Rattle.adapter_code.proofs.Words.{length-put}
use Rattle.table_bytes.specs.Routines.{state_of}
use Rattle.row_runs.specs.Passing.{answer_tuple, out_of_tuple, named_in, takes}
use Rattle.row_runs.specs.Stored.{Stored, written, stored_in}
use Rattle.row_runs.specs.RowRun.{RowCode, Adapter, Ran, flag, result, answers, lifts, left, by_flag, before_runs, row_run}
use Rattle.row_runs.specs.Equals.{Fixed, StandsAt, IsStill, Equals, placed_answer}
use Rattle.row_runs.specs.Fixed.{is_fixed, AreSmall}
use Rattle.row_runs.specs.Telling.{tell_code, AreWrites}
use Rattle.row_runs.proofs.Asking.{written_put}
use Rattle.row_runs.proofs.Locals.{other_read}
use Rattle.row_runs.specs.Loaded.{IsStored}
use Rattle.row_runs.proofs.Storing.{stored_loads}
use Rattle.row_runs.proofs.Standing.{stands_around, around_calls}

-- ---- the routine

abbrev two : ℕ → List Local
two x = Small 0 ∷ Wide x ∷ []

-- it writes what storing the value writes
pub record Tells (l : Layout) (s : Stored) (steps : List Step) (k x : ℕ) (h : HandleMap ℕ) (es : List Effect) : Type 0 where
  pub memory : List ℕ
  pub stores : stored_in l 0 s steps ≡ Some (record s { memory = memory })
  pub count : ℕ
  pub last : ℕ
  pub run : runs (tell_code steps) k (state_of (two x) s.memory h es) ≡ Next count (state_of (two last) memory h es)

pub tell : (l : Layout) (n : ℕ) (steps : List Step) (s : Stored) (k x : ℕ) (h : HandleMap ℕ) (es : List Effect) → AreWrites n steps → n ≤ length s.memory → Tells l s steps k x h es
tell l n [] s k x h es w room = record { memory = s.memory; stores = refl; count = k; last = x; run = refl }
tell l n (Write Target offset bytes ∷ steps) s k x h es w room =
    let v = number bytes in
    let len = length bytes in
    let m = put s.memory (0 + offset) len v in
    let low : v % 2 ^ 64 ≡ v = mod-eq_of_lt w.1 in
    let fits = le-leb (0 + offset + len) (length s.memory) (omega (arith, w.0, room)) in
    let size = length-put len s.memory (0 + offset) v (omega (arith, w.0, room)) in
    let same : written s.memory (0 + offset) bytes ≡ m = ap (written s.memory (0 + offset)) (sym w.2) ∙ written_put s.memory (0 + offset) len v in
    let rest = tell l n steps (record s { memory = m }) (suc (suc k)) v h es w.3 (omega (arith, size, room)) in
    record {
      memory = rest.memory;
      stores = ap (λ z. stored_in l 0 (record s { memory = z }) steps) same ∙ rest.stores;
      count = rest.count;
      last = rest.last;
      run = ap (λ z. then_run (after_store (suc (suc k)) (state_of (two z) s.memory h es) (cond (nat_le (0 + offset + len) (length s.memory)) (Some (put s.memory (0 + offset) len z)) None)) (runs (tell_code steps))) low
          ∙ ap (λ b. then_run (after_store (suc (suc k)) (state_of (two v) s.memory h es) (cond b (Some m) None)) (runs (tell_code steps))) fits
          ∙ rest.run;
    }
tell l n (Write (Answer j) offset bytes ∷ steps) s k x h es w room = absurd w
tell l n (Ask align len ∷ steps) s k x h es w room = absurd w
tell l n (Place base offset request ∷ steps) s k x h es w room = absurd w
tell l n (Refuse ∷ steps) s k x h es w room = absurd w

-- ---- the row

abbrev pub one_value : PlainValue → PlainValue
one_value v = RecordValue (Values v NoValues)

-- where the two locals of the routine stand among a row's
pub record IsTold (places : List ℕ) (outer : List Local) (flag result : ℕ) : Type 0 where
  pub flag_apart : differs flag places ≡ true
  pub flag_is : value (local_at outer flag) ≡ 0
  pub result_apart : differs result places ≡ true
  pub result_is : value (local_at outer result) ≡ 0

-- what is asked of the value, each of which is `refl` where it is written out: it is of a fixed type, without handles, and it fits
pub record IsConstant (ty : PlainFunc) (answer : Plain) (v : PlainValue) : Type 0 where
  pub fixed : is_fixed (answer_tuple ty) ≡ true
  pub typed : is_of (answer_tuple ty) (one_value v) ≡ true
  pub handle_free : handles (answer_tuple ty) (one_value v) ≡ []
  pub small : size (answer_tuple ty) ≤ calls_len
  pub aligned : is_aligned 0 (alignment (answer_tuple ty)) ≡ true
  pub whole : out_of_tuple (renumbered (answer_tuple ty) (one_value v) []) ≡ Some v

module _ {S : Type 0} (h : HostStep S) (w : Fixed) (r : Reference S) (a : Adapter) (place : ℕ → ℕ) (setup : r.setup ≡ w.setup) (stands : StandsAt w r a place) (f : Listed) (answer : Plain) (row : RowCode) (widths : List Width) (c c' : PlainCall) (v : PlainValue) (constant : IsConstant f.function.ty answer v) where
  abbrev ty : PlainFunc
  ty = f.function.ty

  abbrev tuple : Plain
  tuple = answer_tuple ty

  abbrev begun : Stored
  begun = record { memory = a.memory; used = 0; answers = [] }

  abbrev code : Code
  code = tell_code (stores tuple (one_value v))

  room : size tuple ≤ length a.memory
  room = omega (arith, constant.small, (stands.tables 0 (omega arith)).table.within)

  stored : IsStored w.layout 0 begun tuple (one_value v)
  stored = stored_loads w.layout 0 begun tuple (one_value v) constant.typed constant.fixed (subst AreSmall (sym constant.handle_free) tt) (omega (arith, room))

  told : Tells w.layout begun (stores tuple (one_value v)) 0 0 a.handles []
  told = tell w.layout (size tuple) (stores tuple (one_value v)) begun 0 0 a.handles [] stored.writes room

  some_is : {X : Type 0} (x y : X) → Some x ≡ Some y → x ≡ y
  some_is x y e = cc

  memory_is : told.memory ≡ stored.memory
  memory_is = ap (λ z. z.memory) (some_is (record begun { memory = told.memory }) (record begun { memory = stored.memory }) (sym told.stores ∙ stored.runs))

  loaded : loads told.memory tuple 0 ≡ Some (one_value v)
  loaded =
      let size_is = stored.keeps.size in
      ap (λ m. loads m tuple 0) memory_is
      ∙ ap (λ b. cond (b && nat_le (0 + size tuple) (length stored.memory)) (loads_at stored.memory tuple 0) None) constant.aligned
      ∙ ap (λ b. cond b (loads_at stored.memory tuple 0) None) (le-leb (0 + size tuple) (length stored.memory) (omega (arith, size_is, room)))
      ∙ stored.loads

  still : (y : ℕ) (z : _) → Rattle.reference_step.specs.Handles.handle_at r.live y ≡ Some z → IsStill r.live place place y z
  still y z at = record { handle = z; there = at; kind = refl; same = refl }

  module _ (places : List ℕ) (outer : List Local) (used : ℕ) (good : IsTold places outer (flag h w.layout row ty widths c') (result h w.layout row ty widths c'))
      (answers_is : (t : State) → answers h w.layout row ty widths c' [] r.inner t ≡ lifts h w.layout row ty widths c' [] r.inner t (loads t.memory tuple (low_word (number_at t (result h w.layout row ty widths c') ∷ []) 0))) where
    abbrev given : Adapter → Ran S
    given b = record { seen = []; answer = Gives (Some v); adapter = b; inner = r.inner }

    ran : before_runs h w.layout row ty widths c' used r.inner (ended (run_inside places outer (runs code 0 (state_of (two 0) a.memory a.handles [])))) ≡ given (record { memory = told.memory; handles = a.handles })
    ran =
        let new : State = state_of (two told.last) told.memory a.handles [] in
        let t = inside places outer new in
        let no_flag : number_at t (flag h w.layout row ty widths c') ≡ 0 = ap value (other_read places new.locals outer (flag h w.layout row ty widths c') good.flag_apart) ∙ good.flag_is in
        let at_zero : number_at t (result h w.layout row ty widths c') ≡ 0 = ap value (other_read places new.locals outer (result h w.layout row ty widths c') good.result_apart) ∙ good.result_is in
        ap (λ R. before_runs h w.layout row ty widths c' used r.inner (ended (run_inside places outer R))) told.run
        ∙ ap (by_flag h w.layout row ty widths c' used t r.inner row.asks) no_flag
        ∙ answers_is t
        ∙ ap (λ n. lifts h w.layout row ty widths c' [] r.inner t (loads told.memory tuple (low_word (n ∷ []) 0))) at_zero
        ∙ ap (lifts h w.layout row ty widths c' [] r.inner t) loaded
        ∙ ap (λ hs. left h w.layout row ty widths c' [] r.inner t (one_value v) (takes own_resource (named_in hs) a.handles)) constant.handle_free
        ∙ ap (λ o. let g : Ran S = record { seen = []; answer = Gives o; adapter = record { memory = told.memory; handles = a.handles }; inner = r.inner } in g) constant.whole

    pub constant_equals : row_run h w.layout row ty widths c' a r.inner ≡ before_runs h w.layout row ty widths c' used r.inner (ended (run_inside places outer (runs code 0 (state_of (two 0) a.memory a.handles []))))
        → weighed h r f c ≡ record { seen = []; answer = Gives (Some v); next = r }
        → placed_answer place (Some answer) (Gives (Some v)) ≡ Gives (Some v)
        → Equals w r.live place (Some answer) (weighed h r f c) (row_run h w.layout row ty widths c' a r.inner)
    constant_equals run reference placed =
        rw (run, ran, reference) (record {
          seen = refl;
          inner = refl;
          setup = setup;
          place' = place;
          stay = still;
          answer = sym placed;
          stands = λ z. stands_around w.layout w.image w.nodes r.live a place stands told.memory a.handles
              (around_calls w.layout a.memory told.memory 0 (size tuple) (subst (λ m. Rattle.adapter_code.specs.Keeps.Keeps a.memory m 0 (size tuple)) (sym memory_is) stored.keeps) (omega (arith, constant.small)))
              (λ i. refl) refl stands.shown;
        })
