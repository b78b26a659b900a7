-- Writing segments changes nothing of the scene.
use Rattle.std.proofs.Common.{◌≡◌, ℕ, ◌+◌, [], ◌∷◌, List, length, Bool, true, false, cond, nat_le, Option, Some, None, Result, Ok, Err, refl, ap, ◌∙◌, subst}
use Rattle.std.proofs.lemmas.List.{length-set}
use Rattle.wasm_ast.specs.declared.module.Elements.{Elements}
use Rattle.wasm_ast.specs.declared.module.Elements.TheVariants as elements
use Rattle.wasm_ast.specs.declared.module.Data.{Data}
use Rattle.wasm_ast.specs.declared.module.Data.TheVariants as data_of
use Rattle.wasm_ast.specs.declared.module.Module.{Module}
use Rattle.core_memory.specs.Linear.{written}
use Rattle.core_memory.specs.Replaced.{replaced}
use Rattle.core_store.specs.declared.value.CoreRef.{CoreRef}
use Rattle.core_store.specs.declared.value.CoreSpaces.{CoreSpaces}
use Rattle.core_store.specs.State.{State, memory_at, table_at, segment_at, elements_at}
use Rattle.core_store.specs.Scene.{Scene, scene_of}
use Rattle.core_instance.specs.declared.constants.Names.{Names}
use Rattle.core_instance.specs.declared.external.Extern.{Extern}
use Rattle.core_instance.specs.Spaces.{places_of}
use Rattle.core_instance.specs.Instantiation.{and_next, without_element, without_segment, with_refs, with_bytes, write_element, write_segment, apply_element, apply_data, apply_elements, apply_segments, names_of, allocated, instantiated}

-- the store after it, or the one in which it traps, has this scene
abbrev pub Has : Scene → Result State State → Type 0
Has w (Ok t) = scene_of t ≡ w
Has w (Err t) = scene_of t ≡ w

without_element_scene : (s : State) (k : ℕ) → scene_of (without_element s k) ≡ scene_of s
without_element_scene s k = ap (λ (n : ℕ). record (scene_of s) { elements = n }) (length-set s.elements k [])

without_segment_scene : (s : State) (k : ℕ) → scene_of (without_segment s k) ≡ scene_of s
without_segment_scene s k = ap (λ (n : ℕ). record (scene_of s) { segments = n }) (length-set s.segments k [])

with_refs_scene : (s : State) (table at : ℕ) (refs : List CoreRef) → scene_of (with_refs s table at refs) ≡ scene_of s
with_refs_scene s table at refs = ap (λ (n : ℕ). record (scene_of s) { tables = n }) (length-set s.tables table (record (table_at s table) { refs = replaced (table_at s table).refs at refs }))

with_bytes_scene : (s : State) (memory at : ℕ) (bytes : List ℕ) → scene_of (with_bytes s memory at bytes) ≡ scene_of s
with_bytes_scene s memory at bytes = ap (λ (n : ℕ). record (scene_of s) { memories = n }) (length-set s.memories memory (written (memory_at s memory) at bytes))

either : (b : Bool) (w : Scene) (s t : State) → scene_of s ≡ w → scene_of t ≡ w → Has w (cond b (Ok t) (Err s))
either true w s t hs ht = ht
either false w s t hs ht = hs

element_written : (s : State) (k : ℕ) (table : Option ℕ) (at : ℕ) → Has (scene_of s) (write_element s k table at)
element_written s k None at = refl
element_written s k (Some table) at =
    either (nat_le (at + length (elements_at s k)) (length (table_at s table).refs)) (scene_of s) s (without_element (with_refs s table at (elements_at s k)) k) refl
    (without_element_scene (with_refs s table at (elements_at s k)) k ∙ with_refs_scene s table at (elements_at s k))

segment_written : (s : State) (k : ℕ) (memory : Option ℕ) (at : ℕ) → Has (scene_of s) (write_segment s k memory at)
segment_written s k None at = refl
segment_written s k (Some memory) at =
    either (nat_le (at + length (segment_at s k)) (length (memory_at s memory).bytes)) (scene_of s) s (without_segment (with_bytes s memory at (segment_at s k)) k) refl
    (without_segment_scene (with_bytes s memory at (segment_at s k)) k ∙ with_bytes_scene s memory at (segment_at s k))

element_scene : (v : CoreSpaces) (names : Names) (s : State) (k : ℕ) (e : Elements) → Has (scene_of s) (apply_element v names s k e)
element_scene v names s k (elements.ActiveFuncs offset funcs) = element_written s k _ _
element_scene v names s k (elements.PassiveFuncs funcs) = refl
element_scene v names s k (elements.ActiveFuncsAt table offset funcs) = element_written s k _ _
element_scene v names s k (elements.DeclaredFuncs funcs) = without_element_scene s k
element_scene v names s k (elements.ActiveExprs offset exprs) = element_written s k _ _
element_scene v names s k (elements.PassiveExprs ty exprs) = refl
element_scene v names s k (elements.ActiveExprsAt table offset ty exprs) = element_written s k _ _
element_scene v names s k (elements.DeclaredExprs ty exprs) = without_element_scene s k

data_scene : (v : CoreSpaces) (names : Names) (s : State) (k : ℕ) (d : Data) → Has (scene_of s) (apply_data v names s k d)
data_scene v names s k (data_of.Active offset bytes) = segment_written s k _ _
data_scene v names s k (data_of.Passive bytes) = refl
data_scene v names s k (data_of.ActiveAt memory offset bytes) = segment_written s k _ _

next_has : (w : Scene) (r : Result State State) (f : State → Result State State) → Has w r → ((t : State) → scene_of t ≡ w → Has w (f t)) → Has w (and_next r f)
next_has w (Ok t) f h more = more t h
next_has w (Err t) f h more = h

elements_scene : (w : Scene) (v : CoreSpaces) (names : Names) (s : State) (k : ℕ) (es : List Elements) → scene_of s ≡ w → Has w (apply_elements v names s k es)
elements_scene w v names s k [] h = h
elements_scene w v names s k (e ∷ es) h =
    next_has w (apply_element v names s k e) (λ t. apply_elements v names t (k + 1) es) (subst (λ (x : Scene). Has x (apply_element v names s k e)) h (element_scene v names s k e))
    (λ t g. elements_scene w v names t (k + 1) es g)

segments_scene : (w : Scene) (v : CoreSpaces) (names : Names) (s : State) (k : ℕ) (ds : List Data) → scene_of s ≡ w → Has w (apply_segments v names s k ds)
segments_scene w v names s k [] h = h
segments_scene w v names s k (d ∷ ds) h =
    next_has w (apply_data v names s k d) (λ t. apply_segments v names t (k + 1) ds) (subst (λ (x : Scene). Has x (apply_data v names s k d)) h (data_scene v names s k d))
    (λ t g. segments_scene w v names t (k + 1) ds g)

-- an instantiation leaves the scene as allocation made it
pub instantiated_scene : (s : State) (m : Module) (imports : List Extern) → Has (scene_of (allocated s m imports)) (instantiated s m imports)
instantiated_scene s m imports =
    let w = scene_of (allocated s m imports) in
    let v = places_of s m imports in
    let names = names_of s m imports in
    next_has w (apply_elements v names (allocated s m imports) (length s.elements) m.elements) (λ t. apply_segments v names t (length s.segments) m.segments)
    (elements_scene w v names (allocated s m imports) (length s.elements) m.elements refl) (λ t h. segments_scene w v names t (length s.segments) m.segments h)
