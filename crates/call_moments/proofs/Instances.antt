-- One instance of a list is another one: stores, calls and scenes of all.
use Rattle.std.proofs.Common.{◌≡◌, ◌<◌, ℕ, zero, suc, ◌==◌, Bool, true, false, List, [], ◌∷◌, ◌++◌, length, map, set, reverse, Option, Some, None, refl, sym, ap, subst, ◌∙◌, arith}
use Rattle.std.specs.Prelude.{slice_get}
use Rattle.std.specs.Option.{option_map}
use Rattle.std.proofs.Math.Path.{fun_ext}
use Rattle.std.proofs.lemmas.Bool.Decides.{nat_tests}
use Rattle.std.proofs.lemmas.List.{reverse-reverse, reverse-append}
use Rattle.std.proofs.lemmas.Option.{slice_get-map}
use Rattle.core_memory.specs.Linear.{Linear}
use Rattle.core_store.specs.State.{memory_at}
use Rattle.core_store.specs.Scene.{Scene, scene_of}
use Rattle.instance_state.specs.declared.calls.CoreCall.{CoreCall}
use Rattle.comp_worlds.specs.Calls.{pick}
use Rattle.instance_state.specs.declared.instance.Instance.{Instance}
use Rattle.call_moments.specs.Configs.{config_or_rest}
use Rattle.call_moments.proofs.Worlds.{same_place, other_place}
use Rattle.call_moments.specs.Standing.{with_calls, with_store}
use Rattle.call_moments.specs.Held.{with_map}
use Rattle.call_moments.specs.Fits.{scenes_of}
use Rattle.call_moments.specs.Leads.{calls_in, stores_of, calls_of, maps_of, sizes_of, AreStill, OneGoes}

-- the last item of a list, and those before it
pub same_last : {A : Type 0} (xs ys : List A) (x y : A) → xs ++ x ∷ [] ≡ ys ++ y ∷ [] → (xs ≡ ys) × (x ≡ y)
same_last {A} xs ys x y e =
    let r : x ∷ reverse xs ≡ y ∷ reverse ys = sym (reverse-append xs (x ∷ [])) ∙ ap reverse e ∙ reverse-append ys (y ∷ []) in
    let tails : reverse xs ≡ reverse ys = cc in
    (sym (reverse-reverse xs) ∙ ap reverse tails ∙ reverse-reverse ys, cc)

pub no_last : {A : Type 0} (xs : List A) (x : A) → [] ≡ xs ++ x ∷ [] → ⊥
no_last [] x e = absurd (cc)
no_last (y ∷ xs) x e = absurd (cc)

pick_same : {A : Type 0} (b : Bool) (x y : A) → (b ≡ true → x ≡ y) → pick b x y ≡ y
pick_same true x y e = e refl
pick_same false x y e = refl

module _ (is : List Instance) (k : ℕ) (i : Instance) (found : slice_get is k ≡ Some i) where
  pub store_here : stores_of is k ≡ i.code.store
  store_here = ap (λ o. (config_or_rest o).store) found

  pub calls_here : calls_of is k ≡ i.code.calls
  calls_here = ap calls_in found

  pub map_here : maps_of is k ≡ i.handles
  map_here = ap (λ o. (config_or_rest o).map) found

  pub scene_here : slice_get (scenes_of is) k ≡ Some (scene_of i.code.store)
  scene_here = slice_get-map (λ (x : Instance). scene_of x.code.store) is k ∙ ap (option_map (λ (x : Instance). scene_of x.code.store)) found

  module _ (j : Instance) where
    by_place : {A : Type 0} (of : Option Instance → A) (m : ℕ) (b : Bool) → (m == k) ≡ b → of (slice_get (set is k j) m) ≡ pick b (of (Some j)) (of (slice_get is m))
    by_place of m true e = let same : m ≡ k = grind (arith, nat_tests) in ap of (ap (slice_get (set is k j)) same ∙ same_place is k i j found)
    by_place of m false e = ap of (other_place is k m j e)

    -- what is seen of an instance is not changed by what does not show there
    same_of : {A : Type 0} (of : Option Instance → A) → of (Some j) ≡ of (Some i) → (m : ℕ) → of (slice_get (set is k j) m) ≡ of (slice_get is m)
    same_of of e m = by_place of m (m == k) refl ∙ pick_same (m == k) (of (Some j)) (of (slice_get is m)) (λ t. let same : m ≡ k = grind (arith, nat_tests) in e ∙ sym (ap of (ap (slice_get is) same ∙ found)))

    pub stores_set : stores_of (set is k j) ≡ with_store (stores_of is) k j.code.store
    stores_set = fun_ext (λ m. by_place (λ o. (config_or_rest o).store) m (m == k) refl)

    pub calls_set : calls_of (set is k j) ≡ with_calls (calls_of is) k j.code.calls
    calls_set = fun_ext (λ m. by_place calls_in m (m == k) refl)

    pub maps_set : maps_of (set is k j) ≡ with_map (maps_of is) k j.handles
    maps_set = fun_ext (λ m. by_place (λ o. (config_or_rest o).map) m (m == k) refl)

    pub maps_same : j.handles ≡ i.handles → maps_of (set is k j) ≡ maps_of is
    maps_same e = fun_ext (same_of (λ o. (config_or_rest o).map) e)

    pub stores_same : j.code ≡ i.code → stores_of (set is k j) ≡ stores_of is
    stores_same e = fun_ext (same_of (λ o. (config_or_rest o).store) (ap (λ c. c.store) e))

    pub calls_same : j.code ≡ i.code → calls_of (set is k j) ≡ calls_of is
    calls_same e = fun_ext (same_of calls_in (ap (λ c. c.calls) e))

    pub scene_same : scene_of j.code.store ≡ scene_of i.code.store → (m : ℕ) → scene_of (stores_of (set is k j) m) ≡ scene_of (stores_of is m)
    scene_same e = same_of (λ o. scene_of (config_or_rest o).store) e

    -- the memories are as long
    pub sizes_same : j.code.store.memories ≡ i.code.store.memories → sizes_of (set is k j) ≡ sizes_of is
    sizes_same e = fun_ext (λ m. fun_ext (λ at. same_of (λ o. length (memory_at (config_or_rest o).store at).bytes) (ap (λ (ms : List Linear). length (memory_at (record i.code.store { memories = ms }) at).bytes) e) m))

    one_of : (m : ℕ) (x : Instance) (b : Bool) → (m == k) ≡ b → slice_get (set is k j) m ≡ Some x → Some x ≡ pick b (Some j) (slice_get is m)
    one_of m x b e at = sym at ∙ by_place (λ o. o) m b e

    pub still_set : AreStill is → j.code.going ≡ false → AreStill (set is k j)
    still_set still quiet m x at = go (m == k) refl
      where
        go : (b : Bool) → (m == k) ≡ b → x.code.going ≡ false
        go true e = let here : Some x ≡ Some j = one_of m x true e at in let same : x ≡ j = cc in ap (λ (y : Instance). y.code.going) same ∙ quiet
        go false e = still m x (sym (one_of m x false e at))

    -- it was the one that went on
    pub still_as : OneGoes is k → j.code.going ≡ false → AreStill (set is k j)
    still_as one quiet m x at = go (m == k) refl
      where
        go : (b : Bool) → (m == k) ≡ b → x.code.going ≡ false
        go true e = let here : Some x ≡ Some j = one_of m x true e at in let same : x ≡ j = cc in ap (λ (y : Instance). y.code.going) same ∙ quiet
        go false e = one m x (sym (one_of m x false e at)) ∙ e

    pub one_goes : AreStill is → j.code.going ≡ true → OneGoes (set is k j) k
    one_goes still loud m x at = go (m == k) refl
      where
        go : (b : Bool) → (m == k) ≡ b → x.code.going ≡ (m == k)
        go true e = let here : Some x ≡ Some j = one_of m x true e at in let same : x ≡ j = cc in ap (λ (y : Instance). y.code.going) same ∙ loud ∙ sym e
        go false e = still m x (sym (one_of m x false e at)) ∙ sym e

pub scenes_set : (is : List Instance) (k : ℕ) (i j : Instance) → slice_get is k ≡ Some i → scene_of j.code.store ≡ scene_of i.code.store → scenes_of (set is k j) ≡ scenes_of is
scenes_set [] k i j found e = refl
scenes_set (x ∷ is) zero i j found e = let same : x ≡ i = cc in ap (λ (s : Scene). s ∷ scenes_of is) (e ∙ sym (ap (λ (y : Instance). scene_of y.code.store) same))
scenes_set (x ∷ is) (suc k) i j found e = ap (λ (ss : List Scene). scene_of x.code.store ∷ ss) (scenes_set is k i j found e)

pub found_at : (is : List Instance) (k : ℕ) → k < length is → (i : Instance) × (slice_get is k ≡ Some i)
found_at [] k lt = absurd (omega arith)
found_at (x ∷ is) zero lt = (x, refl)
found_at (x ∷ is) (suc k) lt = found_at is k (omega arith)

-- code in progress is that of an instance
pub found_by : (is : List Instance) (k : ℕ) (rest : List CoreCall) (c : CoreCall) → calls_of is k ≡ rest ++ c ∷ [] → (i : Instance) × (slice_get is k ≡ Some i)
found_by is k rest c e = go (slice_get is k) refl
  where
    go : (o : Option Instance) → slice_get is k ≡ o → (i : Instance) × (slice_get is k ≡ Some i)
    go None at = absurd (no_last rest c (sym (ap calls_in at) ∙ e))
    go (Some i) at = (i, at)
