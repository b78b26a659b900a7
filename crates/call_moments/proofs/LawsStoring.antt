-- What is done to core code leaves its store's functions and memories.
use Rattle.std.proofs.Common.{◌≡◌, ℕ, zero, suc, ◌⊎◌, inl, inr, Bool, true, false, not, List, [], ◌∷◌, ◌++◌, length, slice_get, slice_set, ◌+◌, Option, Some, None, Ok, refl, sym, ap, ◌∙◌, subst}
use Rattle.std.specs.Option.{option_map}
use Rattle.wasm_ast.specs.declared.module.Body.{Body}
use Rattle.wasm_ast.specs.declared.module.CoreFunc.{CoreFunc}
use Rattle.wasm_ast.specs.declared.module.Module.{Module}
use Rattle.core_store.specs.State.{State, empty, memory_at}
use Rattle.core_store.specs.declared.value.StoreFunc.{StoreFunc}
use Rattle.core_store.specs.declared.value.StoreFunc.TheVariants.{Inside, Outside}
use Rattle.core_store.specs.declared.value.CoreValue.{CoreValue}
use Rattle.core_store.specs.Scene.{Grew, scene_of}
use Rattle.core_store.proofs.Keeping.{same_memory}
use Rattle.core_store.proofs.Stores.{grew_on, grew_same, calls_grow}
use Rattle.core_instance.specs.declared.external.Extern.{Extern}
use Rattle.core_instance.specs.declared.external.CoreInstance.{CoreInstance}
use Rattle.core_instance.specs.Instantiation.{functions_from, allocated}
use Rattle.core_instance.proofs.SceneLemmas.{Has, instantiated_scene}
use Rattle.core_instance.proofs.ExportLemmas.{done_grew}
use Rattle.core_interp.specs.declared.machine.Pause.TheVariants.{AtHost}
use Rattle.core_interp.specs.Session.{Asked}
use Rattle.instance_state.specs.declared.calls.CoreCall.{CoreCall}
use Rattle.instance_state.specs.Ready.{Runs, IsAt}
use Rattle.instance_state.specs.Done.{Goes, Provides, Instantiates}
use Rattle.handle_space.specs.HandleMap.{Answered, own_entry, add, take, rep_of}
use Rattle.abi_layout.specs.Handles.{handles}
use Rattle.wit_types.specs.PlainValue.{PlainValue}
use Rattle.comp_worlds.specs.Passing.{named_in, lift_handles, lift_words, add_handles}
use Rattle.comp_worlds.specs.Groups.{Config}
use Rattle.comp_worlds.specs.Locals.{Local, also, with_map, args_of, bytes_in, one_word, new_entry, removed, only_one}
use Rattle.comp_worlds.proofs.Maps.{and_then_is, map_is, some_is}
use Rattle.call_moments.specs.Kept.{Stays, OnlyGrows, HasHosts}
use Rattle.call_moments.specs.KeptLaws.{StoresStay, StoresGrow, StoresAreLeft, AwaitsHost, HostsFunctionsAreAsked}

-- ---- stores

scene_stays : (s t : State) → scene_of s ≡ scene_of t → Stays s t
scene_stays s t e = record {
  deepest = sym (ap (λ w. w.deepest) e);
  functions = sym (ap (λ w. w.functions) e);
  memories = sym (ap (λ w. w.memories) e);
  awaits = λ since calls back. record { grew = grew_on since s t back.grew (grew_same s t e); nesting = back.nesting };
}

in_front : {A : Type 0} (xs ys : List A) (i : ℕ) (x : A) → slice_get xs i ≡ Some x → slice_get (xs ++ ys) i ≡ Some x
in_front [] ys i x h = absurd (let q : None ≡ Some x = h in cc)
in_front (y ∷ xs) ys zero x h = h
in_front (y ∷ xs) ys (suc i) x h = in_front xs ys i x h

store_grows : (s t : State) → Grew s t → OnlyGrows s t
store_grows s t g = record {
  deepest = sym g.deepest;
  functions = λ at f e. ap (λ fs. slice_get fs at) g.functions ∙ in_front s.functions g.new_functions at f e;
  memories = g.memories;
  awaits = λ since calls back. record { grew = grew_on since s t back.grew g; nesting = back.nesting };
}

written : (s t : State) (k : ℕ) → t ≡ record s { memories = slice_set s.memories k (memory_at t k) } → scene_of s ≡ scene_of t
written s t k e = (same_memory s k (memory_at t k)).scene ∙ ap scene_of (sym e)

pub stores_stay : StoresStay
stores_stay = record {
  begins = λ old new function args nesting b. scene_stays old.store new.store (sym (ap scene_of b.store));
  goes = λ outer call old new before after pause last going g. scene_stays old.store new.store (g outer call last going).0.pauses.scene;
  resumes = λ outer call old new results last r. scene_stays old.store new.store (sym (ap scene_of (r outer call last).store));
  stores = λ old new plan left memory answer step h. scene_stays old.store new.store (written old.store new.store memory h.0.1);
}

provided : (old new : Runs) (ty : CoreFunc) (number place : ℕ) → Provides old ty number new (Ok place) → new.store ≡ record old.store { functions = old.store.functions ++ Outside ty number ∷ [] }
provided old new ty number place h = ap (λ (r : Runs). r.store) h.1

pub stores_grow : StoresGrow
stores_grow = record {
  provides = λ old new ty number place h. store_grows old.store new.store (subst (Grew old.store) (sym (provided old new ty number place h)) (calls_grow.function old.store (Outside ty number)).grew);
  instantiates = λ old new m imports instance h. store_grows old.store new.store (done_grew old.store m imports new.store h.0).grew;
}

-- ---- functions of the embedder

abbrev IsInside : StoreFunc → Type 0
IsInside (Inside ty instance locals body) = Unit {0}
IsInside (Outside ty number) = ⊥

abbrev type_in : StoreFunc → CoreFunc
type_in (Inside ty instance locals body) = ty
type_in (Outside ty number) = ty

abbrev number_in : StoreFunc → ℕ
number_in (Inside ty instance locals body) = 0
number_in (Outside ty number) = number

either : {A : Type 0} (xs ys : List A) (i : ℕ) (x : A) → slice_get (xs ++ ys) i ≡ Some x → (slice_get xs i ≡ Some x) ⊎ ((j : ℕ) × (slice_get ys j ≡ Some x))
either [] ys i x h = inr (i, h)
either (y ∷ xs) ys zero x h = inl h
either (y ∷ xs) ys (suc i) x h = either xs ys i x h

more_hosts : (s t : State) (fs : List StoreFunc) (number : ℕ) (ty : CoreFunc) → t.functions ≡ s.functions ++ fs → HasHosts t number ty → HasHosts s number ty ⊎ ((j : ℕ) × (slice_get fs j ≡ Some (Outside ty number)))
more_hosts s t fs number ty is h = elim (either s.functions fs h.0 (Outside ty number) (ap (λ gs. slice_get gs h.0) (sym is) ∙ h.1)) [ inl old ↦ inl (h.0, old) | inr p ↦ inr p ]

one_hosts : (given ty : CoreFunc) (by number j : ℕ) → slice_get (Outside given by ∷ []) j ≡ Some (Outside ty number) → (number ≡ by) × (ty ≡ given)
one_hosts given ty by number zero e = let same : Outside given by ≡ Outside ty number = some_is (Outside given by) (Outside ty number) e in (sym (ap number_in same), sym (ap type_in same))
one_hosts given ty by number (suc j) e = absurd (let q : None ≡ Some (Outside ty number) = e in cc)

inside_hosts : (m : Module) (instance from : ℕ) (bs : List Body) (j : ℕ) (f : StoreFunc) → slice_get (functions_from m instance from bs) j ≡ Some f → IsInside f
inside_hosts m instance from [] j f e = absurd (let q : None ≡ Some f = e in cc)
inside_hosts m instance from (b ∷ bs) zero f e = subst IsInside (some_is _ f e) tt
inside_hosts m instance from (b ∷ bs) (suc j) f e = inside_hosts m instance (from + 1) bs j f e

no_hosts : (number : ℕ) (ty : CoreFunc) → HasHosts empty number ty → ⊥
no_hosts number ty h = let q : None ≡ Some (Outside ty number) = h.1 in cc

still_hosts : (s t : State) (number : ℕ) (ty : CoreFunc) → Stays s t → HasHosts t number ty → HasHosts s number ty
still_hosts s t number ty stays h = (h.0, ap (λ fs. slice_get fs h.0) (sym stays.functions) ∙ h.1)

provides_hosts : (old new : Runs) (given : CoreFunc) (by place number : ℕ) (ty : CoreFunc) → Provides old given by new (Ok place) → HasHosts new.store number ty → HasHosts old.store number ty ⊎ ((number ≡ by) × (ty ≡ given))
provides_hosts old new given by place number ty p h = elim (more_hosts old.store new.store (Outside given by ∷ []) number ty (ap (λ (s : State). s.functions) (provided old new given by place p)) h) [ inl was ↦ inl was | inr x ↦ inr (one_hosts given ty by number x.0 x.1) ]

made_hosts : (old new : Runs) (m : Module) (imports : List Extern) (instance : CoreInstance) (number : ℕ) (ty : CoreFunc) → Instantiates old m imports new (Ok instance) → HasHosts new.store number ty → HasHosts old.store number ty
made_hosts old new m imports instance number ty i h =
    let scene : scene_of new.store ≡ scene_of (allocated old.store m imports) = subst (Has (scene_of (allocated old.store m imports))) i.0 (instantiated_scene old.store m imports) in
    elim (more_hosts old.store new.store (functions_from m (length old.store.instances) 0 m.code) number ty (ap (λ w. w.functions) scene) h)
    [ inl was ↦ was | inr x ↦ absurd (inside_hosts m (length old.store.instances) 0 m.code x.0 (Outside ty number) x.1) ]

asks_hosts : (outer : List CoreCall) (call : CoreCall) (old new : Runs) (before after number : ℕ) (args : List CoreValue) → old.calls ≡ outer ++ call ∷ [] → old.going ≡ true → IsAt call.machine old.store → Goes old before (AtHost number args) new after → AwaitsHost outer number args old new
asks_hosts outer call old new before after number args last going at goes =
    let ran = (goes outer call last going).0 in
    let asked : Asked number args ran.machine new.store = (ran.pauses.says at.first at.function at.args at.used at.taken at.follows).1 in
    record {
      machine = ran.machine;
      ty = asked.ty;
      last = ran.calls;
      there = (asked.function, ap (λ w. slice_get w.functions asked.function) ran.pauses.scene ∙ asked.function_is);
      typed = asked.typed;
      awaits = sym asked.awaited.due;
    }

pub functions_asked : HostsFunctionsAreAsked
functions_asked = record { none = no_hosts; stay = still_hosts; provides = provides_hosts; instantiates = made_hosts; asked = asks_hosts }

-- ---- what an instance does by itself

pub also_is : {A : Type 0} → (b : Bool) (o : Option A) (x : A) → also b o ≡ Some x → o ≡ Some x
also_is true o x h = h
also_is false o x h = absurd (cc)

store_left : {A : Type 0} (c : Config ℕ) (k l : Local ℕ A) → k.config.store ≡ c.store → k ≡ l → l.config.store ≡ c.store
store_left c k l same e = ap (λ (z : Local _ _). z.config.store) (sym e) ∙ same

pub stores_left : StoresAreLeft
stores_left = record {
  enters = λ c l h. store_left c _ l refl (some_is _ l (also_is (not c.entered) _ l h));
  exits = λ c l h. store_left c _ l refl (some_is _ l h);
  closes = λ c l h. store_left c _ l refl (some_is _ l h);
  reopens = λ c l h. store_left c _ l refl (some_is _ l h);
  makes = λ owns r args c l h.
      let p = and_then_is (λ n. option_map (new_entry c) (add c.map (own_entry r n))) (only_one args) l (also_is (not c.closed) _ l (also_is owns _ l h)) in
      let q = map_is (new_entry c) (add c.map (own_entry r p.0)) l p.2 in
      store_left c (new_entry c q.0) l refl q.2;
  reads = λ owns r args c l h.
      let p = and_then_is (λ i. option_map (λ x. one_word c x) (rep_of c.map i r)) (only_one args) l (also_is owns _ l h) in
      let q = map_is (λ x. one_word c x) (rep_of c.map p.0 r) l p.2 in
      store_left c (one_word c q.0) l refl q.2;
  removes = λ r args c l h.
      let p = and_then_is (λ i. option_map (removed c) (take c.map i r)) (only_one args) l (also_is (not c.closed) _ l h) in
      let q = map_is (removed c) (take c.map p.0 r) l p.2 in
      store_left c (removed c q.0) l refl q.2;
  lifts = λ most ty options words c l h.
      let p = and_then_is (λ (v : PlainValue). option_map (args_of ty v c) (lift_handles (named_in (handles ty v)) c.map)) (lift_words most ty (bytes_in options c.store) words) l h in
      let q = map_is (args_of ty p.0 c) (lift_handles (named_in (handles ty p.0)) c.map) l p.2 in
      store_left c (args_of ty p.0 c q.0) l refl q.2;
  adds = λ plain hs c l h.
      let q = map_is (λ (a : Answered ℕ (List ℕ)). record { config = with_map c a.map; answer = a.answer }) (add_handles plain hs c.map) l h in
      store_left c (record { config = with_map c q.0.map; answer = q.0.answer }) l refl q.2;
  ends = λ loans c l h. store_left c _ l refl (some_is _ l h);
}
