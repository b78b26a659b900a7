-- A store whose functions are fine stays so with those of a valid module.
use Rattle.std.proofs.Common.{◌≡◌, ℕ, ◌+◌, ◌≤◌, List, [], ◌∷◌, ◌++◌, length, length-append, map, Option, Some, Result, Ok, Err, refl, sym, ap, ◌∙◌, subst, arith}
use Rattle.std.proofs.lemmas.Option.{slice_get_within}
use Rattle.std.specs.Prelude.{slice_get, unwrap_or}
use Rattle.std.specs.List.{All}
use Rattle.wasm_ast.specs.declared.module.Body.{Body}
use Rattle.wasm_ast.specs.declared.module.Global.{Global}
use Rattle.wasm_ast.specs.declared.module.Limits.{Limits}
use Rattle.wasm_ast.specs.declared.module.Module.{Module}
use Rattle.wasm_ast.specs.declared.module.TableType.{TableType}
use Rattle.core_body.specs.Locals.{spread}
use Rattle.core_body.specs.Views.{in_body}
use Rattle.core_store.specs.Tree.{tree}
use Rattle.core_memory.specs.Linear.{fresh}
use Rattle.core_memory.specs.declared.fault.StoreFault.{StoreFault}
use Rattle.core_memory.specs.declared.fault.StoreFault.TheVariants as faults
use Rattle.core_store.specs.declared.value.CoreSpaces.{CoreSpaces}
use Rattle.core_store.specs.declared.value.StoreFunc.{StoreFunc}
use Rattle.core_store.specs.Table.{nulls}
use Rattle.core_store.specs.State.{State}
use Rattle.core_validate.specs.Items.{body_type}
use Rattle.core_validate.specs.Spaces.{context}
use Rattle.core_validate.specs.Validity.{IsValidModule}
use Rattle.core_store.specs.Config.{bare, spaces_of}
use Rattle.core_store.specs.Eval.{function_type}
use Rattle.core_store.specs.Scene.{Scene, Grows, scene_of, instance_of}
use Rattle.core_store.specs.Fine.{Frame, frame_at, Fine, FineFunction, IsFine}
use Rattle.core_store.proofs.Growing.{get_within, fine_store}
use Rattle.core_instance.proofs.SoundFineLemmas.{body_fine}
use Rattle.core_instance.specs.declared.external.CoreInstance.{CoreInstance}
use Rattle.core_instance.specs.declared.external.Extern.{Extern}
use Rattle.core_instance.specs.Spaces.{IsThere}
use Rattle.core_instance.specs.Constants.{constant, refs_of}
use Rattle.core_instance.specs.Instantiation.{functions_from, bytes_of, names_of, allocated, instantiated, Answers}
use Rattle.core_instance.specs.Matching.{HasCounts, ImportsMatch, KeepsFine, StaysFine}
use Rattle.core_instance.proofs.FunctionLemmas.{function_at, function_from, length-functions_from}
use Rattle.core_instance.proofs.RangeLemmas.{get_behind}
use Rattle.core_instance.proofs.SceneLemmas.{Has, instantiated_scene}
use Rattle.core_instance.proofs.SuitLemmas.{spaces_in, suits}
use Rattle.core_instance.proofs.ValidLemmas.{body_holds, body_typed, body_met}

longer : {A B : Type 0} (xs : List A) (ys : List B) (f : B → A) → length xs ≤ length (xs ++ map f ys)
longer xs ys f = omega (arith, length-append xs (map f ys))

-- allocation adds items
pub grows : (s : State) (m : Module) (imports : List Extern) → Grows (scene_of s) (scene_of (allocated s m imports))
grows s m imports = record {
  new_functions = functions_from m (length s.instances) 0 m.code;
  functions = refl;
  new_instances = spaces_in s m imports ∷ [];
  instances = refl;
  globals = longer s.globals m.globals (λ (g : Global). constant (names_of s m imports) g.init);
  tables = longer s.tables m.tables (λ (t : TableType). nulls t.limits.min t.limits.max);
  memories = longer s.memories m.memories (λ (l : Limits). fresh l.min l.max);
  segments = longer s.segments m.segments bytes_of;
  elements = longer s.elements m.elements (refs_of (names_of s m imports));
  deepest = refl;
}

framed : (w : Scene) (f n : ℕ) (g : StoreFunc) → slice_get w.functions f ≡ Some g →
    frame_at w f n ≡ record { spaces = spaces_of w.instances (instance_of (Some g)); locals = n; results = length (function_type (Some g)).results }
framed w f n g e = ap (λ (o : Option StoreFunc). record { spaces = spaces_of w.instances (instance_of o); locals = n; results = length (function_type o).results }) e

last : (xs : List CoreSpaces) (x : CoreSpaces) → spaces_of (xs ++ x ∷ []) (length xs) ≡ x
last xs x =
    let here : length xs ≡ length xs + 0 = omega arith in
    ap (spaces_of (xs ++ x ∷ [])) here ∙ ap (λ (o : Option CoreSpaces). unwrap_or o bare) (get_behind xs (x ∷ []) 0)

module _ (s : State) (m : Module) (imports : List Extern) (v : IsValidModule m) (there : All (IsThere s) imports) (counts : HasCounts m) (match : ImportsMatch s m imports) where
  abbrev w : Scene
  w = scene_of (allocated s m imports)

  -- the frame of a function of the module
  frame_is : (i : ℕ) (b : Body) → slice_get m.code i ≡ Some b → (n : ℕ) →
      frame_at w (length s.functions + i) n ≡ record { spaces = spaces_in s m imports; locals = n; results = length (body_type m i).results }
  frame_is i b e n =
      framed w (length s.functions + i) n (function_at m (length s.instances) i b)
      (get_behind s.functions (functions_from m (length s.instances) 0 m.code) i ∙ function_from m (length s.instances) 0 m.code i i b e (omega arith))
      ∙ ap (λ (sp : CoreSpaces). record { spaces = sp; locals = n; results = length (body_type m i).results })
      (last s.instances (spaces_in s m imports))

  body_is_fine : (i : ℕ) (b : Body) → slice_get m.code i ≡ Some b → FineFunction w (length s.functions + i) (function_at m (length s.instances) i b)
  body_is_fine i b e =
      let ty = body_type m i in
      let h = body_holds m v i b e in
      let locals = spread b.locals in (
        omega (arith, length-append s.instances (spaces_in s m imports ∷ [])),
        subst (λ (fr : Frame). Fine w fr (length ty.results ∷ []) 0 (length ty.results) (tree b.code)) (sym (frame_is i b e (length ty.params + length locals)))
            (body_fine (in_body (context m) (ty.params ++ locals) ty.results) w _ ty.results b.code (suits s m imports v there counts match ty locals) refl (body_typed m ty b h) (body_met m ty b h)),
      )

  new_fine : (i : ℕ) (g : StoreFunc) → slice_get (functions_from m (length s.instances) 0 m.code) i ≡ Some g → FineFunction w (length s.functions + i) g
  new_fine i g e =
      let b = get_within m.code i (omega (arith, slice_get_within (functions_from m (length s.instances) 0 m.code) i g e, length-functions_from m (length s.instances) 0 m.code)) in
      let is = function_from m (length s.instances) 0 m.code i i b.0 b.1 (omega arith) in
      let same : function_at m (length s.instances) i b.0 ≡ g = (let p = e in let q = is in cc) in
      subst (FineFunction w (length s.functions + i)) same (body_is_fine i b.0 b.1)

  allocated_fine : IsFine (scene_of s) → IsFine w
  unfolding grows
  allocated_fine h = fine_store (scene_of s) w (grows s m imports) h new_fine

-- whatever the segments do
keeps_fine : (s : State) (m : Module) (imports : List Extern) (t : State) → IsValidModule m → All (IsThere s) imports → scene_of t ≡ scene_of (allocated s m imports) → KeepsFine s m imports t
keeps_fine s m imports t v there e counts match fine = subst IsFine (sym e) (allocated_fine s m imports v there counts match fine)

pub done_fine : (s : State) (m : Module) (imports : List Extern) (t : State) → IsValidModule m → All (IsThere s) imports → instantiated s m imports ≡ Ok t → KeepsFine s m imports t
done_fine s m imports t v there e = keeps_fine s m imports t v there (subst (Has (scene_of (allocated s m imports))) e (instantiated_scene s m imports))

pub stays_fine : (s : State) (m : Module) (imports : List Extern) (t : State) (r : Result CoreInstance StoreFault) → IsValidModule m → All (IsThere s) imports → Answers s m imports t r → StaysFine s m imports t r
stays_fine s m imports t (Ok instance) v there a = done_fine s m imports t v there a.0
stays_fine s m imports t (Err faults.Trap) v there a = keeps_fine s m imports t v there (subst (Has (scene_of (allocated s m imports))) a (instantiated_scene s m imports))
stays_fine s m imports t (Err faults.NoMemory) v there a = tt
