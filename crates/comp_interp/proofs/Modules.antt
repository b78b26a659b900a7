-- A module is instantiated in the store of its instance as it is in a store with as many items and the same functions.
use Rattle.std.proofs.Common.{◌≡◌, ◌∙◌, ap, sym, refl, subst, ◌+◌, ◌<◌, List, [], ◌∷◌, ◌++◌, length, map, Ok, slice_get, slice_index_or}
use Rattle.std.specs.Option.{option_map}
use Rattle.std.specs.List.{All, flat_map, range_with_len}
use Rattle.std.proofs.lemmas.List.{length-append, length-map}
use Rattle.wasm_ast.specs.declared.module.CoreFunc.{CoreFunc}
use Rattle.wasm_ast.specs.declared.module.Import.{Import}
use Rattle.wasm_ast.specs.declared.module.ImportItem.{ImportItem}
use Rattle.wasm_ast.specs.declared.module.ImportItem.TheVariants as imported
use Rattle.wasm_ast.specs.declared.module.Module.{Module}
use Rattle.core_store.specs.declared.value.CoreSpaces.{CoreSpaces}
use Rattle.core_store.specs.State.{State}
use Rattle.core_store.specs.Scene.{Scene, scene_of}
use Rattle.core_instance.specs.declared.external.Extern.{Extern}
use Rattle.core_instance.specs.declared.external.Extern.TheVariants.{Func, Table, Memory, Global}
use Rattle.core_instance.specs.declared.external.CoreInstance.{CoreInstance}
use Rattle.core_instance.specs.Spaces.{functions_of, tables_of, memories_of, globals_of, place_at, named_extern, IsThere}
use Rattle.core_instance.specs.Instantiation.{functions_from, allocated, instantiated, instance_of}
use Rattle.core_instance.specs.Matching.{IsOfType, MatchesItem, AllMatch}
use Rattle.core_instance.proofs.SceneLemmas.{Has, instantiated_scene}

-- ---- what a module finds in a store goes by its scene

abbrev there_in : Scene → Extern → Type 0
there_in w (Func at) = at < length w.functions
there_in w (Table at) = at < w.tables
there_in w (Memory at) = at < w.memories
there_in w (Global at) = at < w.globals

to_scene : (s : State) (e : Extern) → IsThere s e → there_in (scene_of s) e
to_scene s (Func at) h = h
to_scene s (Table at) h = h
to_scene s (Memory at) h = h
to_scene s (Global at) h = h

from_scene : (s : State) (e : Extern) → there_in (scene_of s) e → IsThere s e
from_scene s (Func at) h = h
from_scene s (Table at) h = h
from_scene s (Memory at) h = h
from_scene s (Global at) h = h

pub there_alike : (s t : State) (es : List Extern) → scene_of s ≡ scene_of t → All (IsThere s) es → All (IsThere t) es
there_alike s t es same h = λ k d lt. let e : Extern = slice_index_or es k d in from_scene t e (subst (λ w. there_in w e) same (to_scene s e (h k d lt)))

module _ (s t : State) (same : s.functions ≡ t.functions) where
  item_alike : (types : List CoreFunc) (item : ImportItem) (e : Extern) → MatchesItem s types item e → MatchesItem t types item e
  item_alike types (imported.Func n) (Func at) h = subst (λ fs. IsOfType (slice_get types n) (slice_get fs at)) same h
  item_alike types (imported.Table x) (Table at) h = tt
  item_alike types (imported.Memory x) (Memory at) h = tt
  item_alike types (imported.Global x) (Global at) h = tt
  item_alike types (imported.Func n) (Table at) h = absurd h
  item_alike types (imported.Func n) (Memory at) h = absurd h
  item_alike types (imported.Func n) (Global at) h = absurd h
  item_alike types (imported.Table x) (Func at) h = absurd h
  item_alike types (imported.Table x) (Memory at) h = absurd h
  item_alike types (imported.Table x) (Global at) h = absurd h
  item_alike types (imported.Memory x) (Func at) h = absurd h
  item_alike types (imported.Memory x) (Table at) h = absurd h
  item_alike types (imported.Memory x) (Global at) h = absurd h
  item_alike types (imported.Global x) (Func at) h = absurd h
  item_alike types (imported.Global x) (Table at) h = absurd h
  item_alike types (imported.Global x) (Memory at) h = absurd h

  pub all_alike : (types : List CoreFunc) (is : List Import) (es : List Extern) → AllMatch s types is es → AllMatch t types is es
  all_alike types [] [] h = tt
  all_alike types [] (e ∷ es) h = absurd h
  all_alike types (i ∷ is) [] h = absurd h
  all_alike types (i ∷ is) (e ∷ es) h = (item_alike types i.item e h.0, all_alike types is es h.1)

-- ---- what it gives

abbrev spaces_by : Module → List Extern → Scene → CoreSpaces
spaces_by m imports w = record {
  types = [];
  functions = flat_map functions_of imports ++ range_with_len (length w.functions) (length m.code);
  tables = flat_map tables_of imports ++ range_with_len w.tables (length m.tables);
  memories = flat_map memories_of imports ++ range_with_len w.memories (length m.memories);
  globals = flat_map globals_of imports ++ range_with_len w.globals (length m.globals);
  segments = range_with_len w.segments (length m.segments);
  elements = range_with_len w.elements (length m.elements);
}

abbrev instance_by : Module → List Extern → Scene → CoreInstance
instance_by m imports w = record {
  number = length w.instances;
  exports = map (named_extern (spaces_by m imports w)) m.exports;
  start = option_map (λ n. place_at (spaces_by m imports w).functions n) m.start;
}

pub same_instance : (s t : State) (m : Module) (imports : List Extern) → scene_of s ≡ scene_of t → instance_of s m imports ≡ instance_of t m imports
same_instance s t m imports e = ap (instance_by m imports) e

-- the scene with the module's items
abbrev with_items : Module → List Extern → Scene → Scene
with_items m imports w = record {
  functions = w.functions ++ functions_from m (length w.instances) 0 m.code;
  instances = w.instances ++ record (spaces_by m imports w) { types = m.types } ∷ [];
  globals = w.globals + length m.globals;
  tables = w.tables + length m.tables;
  memories = w.memories + length m.memories;
  segments = w.segments + length m.segments;
  elements = w.elements + length m.elements;
  deepest = w.deepest;
}

scenes_are : (v w : Scene) → v.functions ≡ w.functions → v.instances ≡ w.instances → v.globals ≡ w.globals → v.tables ≡ w.tables → v.memories ≡ w.memories → v.segments ≡ w.segments → v.elements ≡ w.elements → v.deepest ≡ w.deepest → v ≡ w
scenes_are v w a b c d e f g h =
    ap (λ x. record v { functions = x }) a
    ∙ ap (λ x. record v { functions = w.functions; instances = x }) b
    ∙ ap (λ x. record w { globals = x; tables = v.tables; memories = v.memories; segments = v.segments; elements = v.elements; deepest = v.deepest }) c
    ∙ ap (λ x. record w { tables = x; memories = v.memories; segments = v.segments; elements = v.elements; deepest = v.deepest }) d
    ∙ ap (λ x. record w { memories = x; segments = v.segments; elements = v.elements; deepest = v.deepest }) e
    ∙ ap (λ x. record w { segments = x; elements = v.elements; deepest = v.deepest }) f
    ∙ ap (λ x. record w { elements = x; deepest = v.deepest }) g
    ∙ ap (λ x. record w { deepest = x }) h

longer : {A B : Type 0} → (xs : List A) (f : B → A) (ys : List B) → length (xs ++ map f ys) ≡ length xs + length ys
longer xs f ys = simp (length-append, length-map)

allocated_scene : (s : State) (m : Module) (imports : List Extern) → scene_of (allocated s m imports) ≡ with_items m imports (scene_of s)
allocated_scene s m imports =
    scenes_are (scene_of (allocated s m imports)) (with_items m imports (scene_of s)) refl refl
    (longer s.globals _ m.globals) (longer s.tables _ m.tables) (longer s.memories _ m.memories) (longer s.segments _ m.segments) (longer s.elements _ m.elements) refl

pub made_scene : (s t u : State) (m : Module) (imports : List Extern) → scene_of s ≡ scene_of u → instantiated s m imports ≡ Ok t → scene_of t ≡ scene_of (allocated u m imports)
made_scene s t u m imports same e =
    subst (Has (scene_of (allocated s m imports))) e (instantiated_scene s m imports)
    ∙ allocated_scene s m imports
    ∙ ap (with_items m imports) same
    ∙ sym (allocated_scene u m imports)
