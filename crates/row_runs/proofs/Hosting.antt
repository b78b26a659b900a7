-- What a row does with the host's answer equals what the reference host does with it, where the answer's type is fixed, holds no
-- handle and goes through memory, and the routine after does nothing.
use Rattle.std.proofs.Common.{◌≡◌, ℕ, ◌+◌, ◌≤◌, ◌&&◌, nat_le, true, false, List, [], ◌∷◌, length, Some, None, cond, refl, sym, ap, subst, ◌∙◌, arith}
use Rattle.std.proofs.lemmas.Bool.{le-leb}
use Rattle.wit_types.specs.Plain.{Name, Plain, PlainFunc, Parts}
use Rattle.wit_types.specs.PlainValue.{PlainValue}
use Rattle.wit_types.specs.HasType.{is_of}
use Rattle.wit_types.specs.Layout.{size}
use Rattle.abi_layout.specs.Functions.{result_spills}
use Rattle.abi_layout.specs.Loading.{loads, loads_at, low_word}
use Rattle.abi_layout.specs.Storing.{stores}
use Rattle.abi_layout.specs.Handles.{handles}
use Rattle.handle_space.specs.HandleMap.{HandleMap, answered}
use Rattle.host_port.specs.Calls.{PlainCall, PlainAnswer, PlainObservation, Gives, Trap, Ended, Bad}
use Rattle.host_port.specs.Hosts.{HostStep, Reaction, IsAnswerTo}
use Rattle.reference_step.specs.Atoms as reference
use Rattle.reference_step.specs.Handles.{LiveHandle, handle_at}
use Rattle.reference_step.specs.Listed.{Listed}
use Rattle.reference_step.specs.State.{Reference}
use Rattle.reference_step.specs.Steps.{is_heavy, args_weight, host_gave, enters, entered, from_host}
use Rattle.reference_step.specs.Steps.{by_answer as reference_by}
use Rattle.adapter_code.specs.declared.statement.Width.{Width}
use Rattle.adapter_code.specs.Keeps.{Keeps}
use Rattle.adapter_code.specs.Code.{Code, Stop}
use Rattle.adapter_code.specs.Run.{State, number_at, own_resource}
use Rattle.row_runs.specs.Numbers.{seen}
use Rattle.row_runs.specs.Passing.{answer_tuple, out_of_tuple, named_in, takes, adds, lower_result}
use Rattle.row_runs.specs.Stored.{Stored, stored_in}
use Rattle.row_runs.specs.RowRun.{RowCode, Adapter, Ran, flag, result, given_count, answers, lifts, left, lowers}
use Rattle.row_runs.specs.RowRun.{by_answer as row_by, enters as row_enters}
use Rattle.row_runs.specs.Equals.{Fixed, StandsAt, IsStill, Equals, placed_answer}
use Rattle.row_runs.specs.Fixed.{AreSmall}
use Rattle.row_runs.specs.Answers.{IsPlainAnswer}
use Rattle.row_runs.proofs.HandleFree.{no_atoms, no_handles, no_change}
use Rattle.row_runs.proofs.NumberLaws.{numbers_agree}
use Rattle.row_runs.specs.Loaded.{IsStored}
use Rattle.row_runs.proofs.Storing.{stored_loads}
use Rattle.row_runs.proofs.Telling.{one_value}
use Rattle.row_runs.proofs.Standing.{stands_around, around_calls}

module _ {S : Type 0} (h : HostStep S) (w : Fixed) (r : Reference S) (a : Adapter) (place : ℕ → ℕ) (setup : r.setup ≡ w.setup) (stands : StandsAt w r a place)
    (i : ℕ) (name : Name) (names : List Name) (params : Parts) (answer : Plain) (before : Code) (widths : List Width) (c c' : PlainCall) (used : ℕ) (t : State) where
  abbrev ty : PlainFunc
  ty = record { params = params; answer = Some answer }

  abbrev f : Listed
  f = record { interface = i; function = record { name = name; ty = ty; names = names } }

  abbrev row : RowCode
  row = record { before = before; asks = true; after = Stop }

  abbrev tuple : Plain
  tuple = answer_tuple ty

  -- the state at the question: nothing has changed, and the place for the answer and the result are at 0
  pub record IsReady : Type 0 where
    pub memory : t.memory ≡ a.memory
    pub table : t.table ≡ a.handles
    pub result_is : number_at t (result h w.layout row ty widths c') ≡ 0
    pub target_is : number_at t (flag h w.layout row ty widths c' + given_count h w.layout row ty widths c') ≡ 0
    pub spills : result_spills ty ≡ true
    pub lowers_is : (v : PlainValue) → lower_result tuple v ≡ record { steps = stores tuple v; flats = [] }
    pub answers_is : (seen : List PlainObservation) (inner : S) (s : State) → answers h w.layout row ty widths c' seen inner s ≡ lifts h w.layout row ty widths c' seen inner s (loads s.memory tuple (low_word (number_at s (result h w.layout row ty widths c') ∷ []) 0))

  abbrev told_by : List PlainObservation → S → PlainAnswer → Reaction (Reference S)
  told_by seen inner x = reference_by h (record r { inner = inner }) seen x (λ v. host_gave h (record r { inner = inner }) seen f c v)

  abbrev done_by : List PlainObservation → S → PlainAnswer → Ran S
  done_by seen inner x = row_by h w.layout row ty widths c' used t seen inner x

  still : (y : ℕ) (z : LiveHandle) → handle_at r.live y ≡ Some z → IsStill r.live place place y z
  still y z at = record { handle = z; there = at; kind = refl; same = refl }

  module _ (plain : IsPlainAnswer ty answer) (ready : IsReady) (light : is_heavy h r (args_weight h f c) ≡ false) (seen : List PlainObservation) (inner : S) where
    module _ (v : PlainValue) (is : is_of answer v ≡ true) where
      -- ---- the reference host

      told : told_by seen inner (Gives (Some v)) ≡ record { seen = seen; answer = Gives (Some v); next = record r { inner = inner } }
      told =
          let atoms = no_atoms answer v plain.answer_free in
          let free = no_handles answer v plain.answer_free in
          let whole : (reference.renumbered answer v []).0 ≡ v = ap (λ p. p.0) (numbers_agree answer v [] (omega (arith, ap length free))) ∙ no_change answer v [] plain.answer_free in
          let sum : args_weight h f c + 0 ≡ args_weight h f c = omega arith in
          ap (λ xs. cond (is_heavy h (record r { inner = inner }) (args_weight h f c + reference.weight xs)) (record { seen = seen; answer = Trap; next = record r { inner = inner } })
          (enters h (record r { inner = inner }) seen (Some answer) (Some v) (entered h r.live (from_host h (reference.handles xs))))) atoms
          ∙ ap (λ n. cond (is_heavy h (record r { inner = inner }) n) (record { seen = seen; answer = Trap; next = record r { inner = inner } })
          (enters h (record r { inner = inner }) seen (Some answer) (Some v) (r.live, []))) sum
          ∙ ap (λ b. cond b (record { seen = seen; answer = Trap; next = record r { inner = inner } }) (enters h (record r { inner = inner }) seen (Some answer) (Some v) (r.live, []))) light
          ∙ ap (λ x. let g : Reaction (Reference S) = record { seen = seen; answer = Gives (Some x); next = record r { inner = inner } } in g) whole

      -- ---- the row

      abbrev begun : Stored
      begun = record { memory = t.memory; used = used; answers = [] }

      room : size tuple ≤ length t.memory
      room = omega (arith, ap length ready.memory, plain.small, (stands.tables 0 (omega arith)).table.within)

      free : handles tuple (one_value v) ≡ []
      free = no_handles tuple (one_value v) plain.handle_free

      typed : is_of tuple (one_value v) ≡ true
      typed = ap (λ b. b && true) is

      stored : IsStored w.layout 0 begun tuple (one_value v)
      stored = stored_loads w.layout 0 begun tuple (one_value v) typed plain.fixed (subst AreSmall (sym free) tt) (omega (arith, room))

      loaded : loads stored.memory tuple 0 ≡ Some (one_value v)
      loaded =
          let size_is = stored.keeps.size in
          ap (λ b. cond (b && nat_le (0 + size tuple) (length stored.memory)) (loads_at stored.memory tuple 0) None) plain.aligned
          ∙ ap (λ b. cond b (loads_at stored.memory tuple 0) None) (le-leb (0 + size tuple) (length stored.memory) (omega (arith, size_is, room)))
          ∙ stored.loads

      abbrev kept : State
      kept = record t { memory = stored.memory }

      abbrev given : Adapter → Ran S
      given b = record { seen = seen; answer = Gives (Some v); adapter = b; inner = inner }

      target_zero : cond (result_spills ty) (number_at t (flag h w.layout row ty widths c' + given_count h w.layout row ty widths c')) 0 ≡ 0
      target_zero = ap (λ b. cond b (number_at t (flag h w.layout row ty widths c' + given_count h w.layout row ty widths c')) 0) ready.spills ∙ ready.target_is

      done : done_by seen inner (Gives (Some v)) ≡ given (record { memory = stored.memory; handles = t.table })
      done =
          ap (λ hs. row_enters h w.layout row ty widths c' used seen inner t (one_value v) (adds (named_in hs) t.table)) free
          ∙ ap (λ x. let low = lower_result tuple x in lowers h w.layout row ty widths c' seen inner t low (stored_in w.layout (cond (result_spills ty) (number_at t (flag h w.layout row ty widths c' + given_count h w.layout row ty widths c')) 0) begun low.steps)) (no_change tuple (one_value v) [] plain.handle_free)
          ∙ ap (λ low. lowers h w.layout row ty widths c' seen inner t low (stored_in w.layout (cond (result_spills ty) (number_at t (flag h w.layout row ty widths c' + given_count h w.layout row ty widths c')) 0) begun low.steps)) (ready.lowers_is (one_value v))
          ∙ ap (λ n. lowers h w.layout row ty widths c' seen inner t (record { steps = stores tuple (one_value v); flats = [] }) (stored_in w.layout n begun (stores tuple (one_value v)))) target_zero
          ∙ ap (lowers h w.layout row ty widths c' seen inner t (record { steps = stores tuple (one_value v); flats = [] })) stored.runs
          ∙ ready.answers_is seen inner kept
          ∙ ap (λ n. lifts h w.layout row ty widths c' seen inner kept (loads stored.memory tuple (low_word (n ∷ []) 0))) ready.result_is
          ∙ ap (lifts h w.layout row ty widths c' seen inner kept) loaded
          ∙ ap (λ hs. left h w.layout row ty widths c' seen inner kept (one_value v) (takes own_resource (named_in hs) t.table)) free
          ∙ ap (λ x. let g : Ran S = record { seen = seen; answer = Gives (out_of_tuple x); adapter = record { memory = stored.memory; handles = t.table }; inner = inner } in g) (no_change tuple (one_value v) [] plain.handle_free)

      value_same : Equals w r.live place (Some answer) (told_by seen inner (Gives (Some v))) (done_by seen inner (Gives (Some v)))
      value_same =
          let free' = no_handles answer v plain.answer_free in
          let atoms = no_atoms answer v plain.answer_free in
          let whole : (reference.renumbered answer v []).0 ≡ v = ap (λ p. p.0) (numbers_agree answer v [] (omega (arith, ap length free'))) ∙ no_change answer v [] plain.answer_free in
          let placed : placed_answer place (Some answer) (Gives (Some v)) ≡ Gives (Some v) =
          ap (λ xs. Gives (Some (reference.renumbered answer v (Rattle.row_runs.specs.Equals.at_places place (reference.handles xs))).0)) atoms ∙ ap (λ x. Gives (Some x)) whole in
          rw (told, done) (record {
            seen = refl;
            inner = refl;
            setup = setup;
            place' = place;
            stay = still;
            answer = sym placed;
            stands = λ z. stands_around w.layout w.image w.nodes r.live a place stands stored.memory t.table
                (around_calls w.layout a.memory stored.memory 0 (size tuple) (subst (λ m. Keeps m stored.memory 0 (size tuple)) ready.memory stored.keeps) (omega (arith, plain.small)))
                (λ j. ap (λ m. Rattle.handle_space.specs.HandleMap.entry_at m j) ready.table) (ap Rattle.handle_space.specs.HandleMap.live_count ready.table) (rw ready.table stands.shown);
          })

    pub answers_same : (x : PlainAnswer) → IsAnswerTo (Some answer) x → Equals w r.live place (Some answer) (told_by seen inner x) (done_by seen inner x)
    answers_same (Gives None) is = absurd is
    answers_same (Gives (Some v)) is = value_same v is
    answers_same Trap is = record { seen = refl; inner = refl; setup = setup; place' = place; stay = still; answer = refl; stands = λ z. absurd z }
    answers_same Ended is = record { seen = refl; inner = refl; setup = setup; place' = place; stay = still; answer = refl; stands = λ z. absurd z }
    answers_same Bad is = record { seen = refl; inner = refl; setup = setup; place' = place; stay = still; answer = refl; stands = λ z. absurd z }
