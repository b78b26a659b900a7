-- The functions of an instance.
use Rattle.std.proofs.Common.{◌≡◌, ℕ, zero, suc, ◌+◌, ◌<◌, List, [], ◌∷◌, ◌++◌, Some, Ok, true, length, map, replicate, refl, ap, ◌∙◌, arith}
use Rattle.std.proofs.lemmas.List.{length-append, length-map}
use Rattle.std.proofs.lemmas.Option.{slice_get-map}
use Rattle.std.specs.Prelude.{slice_get, unwrap_or}
use Rattle.std.specs.Option.{option_map}
use Rattle.std.specs.List.{flat_map, range_with_len}
use Rattle.wasm_ast.specs.declared.module.Body.{Body}
use Rattle.wasm_ast.specs.declared.module.Global.{Global}
use Rattle.wasm_ast.specs.declared.module.LocalRun.{LocalRun}
use Rattle.wasm_ast.specs.declared.module.Module.{Module}
use Rattle.core_body.specs.Locals.{spread}
use Rattle.core_memory.specs.Linear.{fresh}
use Rattle.core_store.specs.declared.value.CoreValue.{CoreValue}
use Rattle.core_store.specs.declared.value.StoreFunc.TheVariants.{Inside}
use Rattle.core_store.specs.Locals.{each_local}
use Rattle.core_store.specs.State.{State as StoreState, allows, can_enter}
use Rattle.core_store.specs.Config.{bare, spaces_of}
use Rattle.core_validate.specs.Items.{body_type}
use Rattle.core_instance.specs.declared.external.Extern.{Extern}
use Rattle.core_instance.specs.Spaces.{functions_of, memories_of, globals_of, places_of}
use Rattle.core_instance.specs.Constants.{constant}
use Rattle.core_instance.specs.Instantiation.{functions_from, names_of, allocated, apply_elements, apply_segments, instantiated}
use Rattle.core_instance.proofs.FunctionLemmas.{function_from}
use Rattle.core_instance.proofs.RangeLemmas.{get_behind, get_range}
use Rattle.adapter_bytes.specs.Bodies.{spaces_in, HasBodies}
use Rattle.adapter_bytes.proofs.Keeping.{Kept, kept_then, kept_elements, kept_segments}

spread_same : (runs : List LocalRun) → spread runs ≡ each_local runs
spread_same [] = refl
spread_same (r ∷ rs) = ap (λ l. replicate r.count r.ty ++ l) (spread_same rs)

last_at : {A : Type 0} → (xs : List A) (x : A) → slice_get (xs ++ x ∷ []) (length xs) ≡ Some x
last_at [] x = refl
last_at (y ∷ ys) x = last_at ys x

in_front : {A : Type 0} → (xs ys : List A) (i : ℕ) (x : A) → slice_get xs i ≡ Some x → slice_get (xs ++ ys) i ≡ Some x
in_front [] ys i x e = absurd (cc)
in_front (z ∷ xs) ys zero x e = e
in_front (z ∷ xs) ys (suc i) x e = in_front xs ys i x e

behind_at : (xs : List ℕ) (from count i : ℕ) → i < count → slice_get (xs ++ range_with_len from count) (length xs + i) ≡ Some (from + i)
behind_at xs from count i lt = get_behind xs (range_with_len from count) i ∙ get_range from count i lt

module _ (s : StoreState) (m : Module) (imports : List Extern) (t : StoreState) (enters : can_enter s ≡ true) where
  has_function : Kept (allocated s m imports) t → (i : ℕ) (b : Body) → slice_get m.code i ≡ Some b → slice_get t.functions (length s.functions + i) ≡ Some (Inside (body_type m i) (length s.instances) (each_local b.locals) b.code)
  has_function kept i b here =
      ap (λ fs. slice_get fs (length s.functions + i)) kept.functions ∙ get_behind s.functions (functions_from m (length s.instances) 0 m.code) i
      ∙ function_from m (length s.instances) 0 m.code i i b here (omega arith) ∙ ap (λ ls. Some (Inside (body_type m i) (length s.instances) ls b.code)) (spread_same b.locals)

  has_spaces : Kept (allocated s m imports) t → spaces_of t.instances (length s.instances) ≡ spaces_in s m imports
  has_spaces kept = ap (λ is. spaces_of is (length s.instances)) kept.instances ∙ ap (λ o. unwrap_or o bare) (last_at s.instances (spaces_in s m imports))

  has_bodies : Kept (allocated s m imports) t → HasBodies s m imports t
  has_bodies kept = record {
    earlier = λ i f here. ap (λ fs. slice_get fs i) kept.functions ∙ in_front s.functions (functions_from m (length s.instances) 0 m.code) i f here;
    functions = has_function kept;
    own = has_spaces kept;
    enters = ap (λ n. allows t.deepest n) kept.nesting ∙ ap (λ d. allows d s.nesting) kept.deepest ∙ enters;
    named = λ i lt. behind_at (flat_map functions_of imports) (length s.functions) (length m.code) i lt;
    globals = λ i g here.
        let value : Global → CoreValue = λ x. constant (names_of s m imports) x.init in
        ap (λ gs. slice_get gs (length s.globals + i)) kept.globals ∙ get_behind s.globals (map value m.globals) i ∙ slice_get-map value m.globals i ∙ ap (option_map value) here;
    global_named = λ i lt. behind_at (flat_map globals_of imports) (length s.globals) (length m.globals) i lt;
    memory_named = λ i lt. behind_at (flat_map memories_of imports) (length s.memories) (length m.memories) i lt;
    memories = kept.memories ∙ length-append s.memories (map (λ l. fresh l.min l.max) m.memories) ∙ ap (λ n. length s.memories + n) (length-map m.memories (λ l. fresh l.min l.max));
  }

pub stands : (s : StoreState) (m : Module) (imports : List Extern) (t : StoreState) → can_enter s ≡ true → instantiated s m imports ≡ Ok t → HasBodies s m imports t
stands s m imports t enters e =
    let v = places_of s m imports in
    let names = names_of s m imports in
    let start = allocated s m imports in
    has_bodies s m imports t enters
    (kept_then start t (apply_elements v names start (length s.elements) m.elements) (λ u. apply_segments v names u (length s.segments) m.segments)
    (λ u first. kept_elements v names m.elements start u (length s.elements) first) (λ u rest. kept_segments v names m.segments u t (length s.segments) rest) e)
