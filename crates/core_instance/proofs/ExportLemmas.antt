-- What an instance gives, and that its store only grew.
use Rattle.std.proofs.Common.{◌≡◌, ℕ, zero, suc, ◌+◌, ◌<◌, ◌≤◌, List, [], ◌∷◌, ◌++◌, length, map, Bool, true, false, cond, nat_le, Option, Some, None, Result, Ok, Err, refl, sym, ap, ◌∙◌, subst, arith}
use Rattle.std.proofs.lemmas.Bool.Decides.{nat_tests}
use Rattle.std.proofs.lemmas.Option.{get_or_from_slice_get}
use Rattle.std.specs.Prelude.{nat_lt, slice_get, slice_index_or}
use Rattle.std.specs.List.{All}
use Rattle.std.specs.Option.{option_map}
use Rattle.wasm_ast.specs.declared.module.CoreFunc.{CoreFunc}
use Rattle.wasm_ast.specs.declared.module.Limits.{Limits}
use Rattle.wasm_ast.specs.declared.module.TableType.{TableType}
use Rattle.wasm_ast.specs.declared.module.GlobalType.{GlobalType}
use Rattle.wasm_ast.specs.declared.module.Export.{Export}
use Rattle.wasm_ast.specs.declared.module.ExportItem.{ExportItem}
use Rattle.wasm_ast.specs.declared.module.ExportItem.TheVariants as exported
use Rattle.wasm_ast.specs.declared.module.Elements.{Elements}
use Rattle.wasm_ast.specs.declared.module.Elements.TheVariants as elements
use Rattle.wasm_ast.specs.declared.module.Data.{Data}
use Rattle.wasm_ast.specs.declared.module.Data.TheVariants as data_of
use Rattle.wasm_ast.specs.declared.module.Module.{Module}
use Rattle.core_body.specs.Context.{Context, arrow, function_type}
use Rattle.core_body.specs.Conditions.{rule_of, is_met}
use Rattle.core_validate.specs.Gather.{with_earlier}
use Rattle.core_validate.specs.Items.{Item, AnExport, export_condition, AStart, Segment, DataSegment, first_items, later_items, export_items, body_items, plain_items}
use Rattle.core_validate.specs.Spaces.{context, memories}
use Rattle.core_validate.specs.Typed.{func_item, found, table_item, global_item, export_type, core_export, type_of}
use Rattle.core_validate.specs.Validity.{Holds, AllHold, IsValidModule}
use Rattle.core_validate.specs.declared.item.CoreItem.TheVariants as item
use Rattle.core_memory.specs.declared.fault.StoreFault.{StoreFault}
use Rattle.core_memory.specs.declared.fault.StoreFault.TheVariants as faults
use Rattle.core_store.specs.declared.value.CoreSpaces.{CoreSpaces}
use Rattle.core_store.specs.declared.value.StoreFunc.{StoreFunc}
use Rattle.core_store.specs.State.{State, memory_at, table_at, segment_at, elements_at}
use Rattle.core_store.specs.Eval.{type_of as type_of_function}
use Rattle.core_store.specs.Fine.{Place}
use Rattle.core_store.specs.Scene.{Scene, Grows, CameBack, scene_of}
use Rattle.core_store.proofs.Growing.{get_within}
use Rattle.core_instance.specs.Sound.{Callee, Suits}
use Rattle.core_instance.specs.declared.constants.Names.{Names}
use Rattle.core_instance.specs.declared.external.CoreInstance.{CoreInstance}
use Rattle.core_instance.specs.declared.external.Extern.{Extern}
use Rattle.core_instance.specs.declared.external.Extern.TheVariants.{Func}
use Rattle.core_instance.specs.Exported.{IsGiven, AreGiven, GivesExports, OnlyGrew}
use Rattle.core_instance.specs.Instantiation.{Answers, and_next, without_element, without_segment, with_refs, with_bytes, write_element, write_segment, apply_element, apply_data, apply_elements, apply_segments, names_of, allocated, instantiated, instance_of}
use Rattle.core_instance.specs.Matching.{HasCounts, IsOfType, ImportsMatch}
use Rattle.core_instance.specs.Spaces.{IsThere, places_of, place_at, extern_of, named_extern}
use Rattle.core_instance.proofs.FineLemmas.{grows}
use Rattle.core_instance.proofs.SceneLemmas.{Has, instantiated_scene}
use Rattle.core_instance.proofs.SuitLemmas.{suits}
use Rattle.core_instance.proofs.ValidLemmas.{behind, before}

-- ---- segments change no nesting

abbrev Nests : ℕ → Result State State → Type 0
Nests n (Ok t) = t.nesting ≡ n
Nests n (Err t) = t.nesting ≡ n

either : (b : Bool) (n : ℕ) (s t : State) → s.nesting ≡ n → t.nesting ≡ n → Nests n (cond b (Ok t) (Err s))
either true n s t hs ht = ht
either false n s t hs ht = hs

element_written : (s : State) (k : ℕ) (table : Option ℕ) (at : ℕ) → Nests s.nesting (write_element s k table at)
element_written s k None at = refl
element_written s k (Some table) at =
    either (nat_le (at + length (elements_at s k)) (length (table_at s table).refs)) s.nesting s (without_element (with_refs s table at (elements_at s k)) k) refl refl

segment_written : (s : State) (k : ℕ) (memory : Option ℕ) (at : ℕ) → Nests s.nesting (write_segment s k memory at)
segment_written s k None at = refl
segment_written s k (Some memory) at =
    either (nat_le (at + length (segment_at s k)) (length (memory_at s memory).bytes)) s.nesting s (without_segment (with_bytes s memory at (segment_at s k)) k) refl refl

element_nests : (v : CoreSpaces) (names : Names) (s : State) (k : ℕ) (e : Elements) → Nests s.nesting (apply_element v names s k e)
element_nests v names s k (elements.ActiveFuncs offset funcs) = element_written s k _ _
element_nests v names s k (elements.PassiveFuncs funcs) = refl
element_nests v names s k (elements.ActiveFuncsAt table offset funcs) = element_written s k _ _
element_nests v names s k (elements.DeclaredFuncs funcs) = refl
element_nests v names s k (elements.ActiveExprs offset exprs) = element_written s k _ _
element_nests v names s k (elements.PassiveExprs ty exprs) = refl
element_nests v names s k (elements.ActiveExprsAt table offset ty exprs) = element_written s k _ _
element_nests v names s k (elements.DeclaredExprs ty exprs) = refl

data_nests : (v : CoreSpaces) (names : Names) (s : State) (k : ℕ) (d : Data) → Nests s.nesting (apply_data v names s k d)
data_nests v names s k (data_of.Active offset bytes) = segment_written s k _ _
data_nests v names s k (data_of.Passive bytes) = refl
data_nests v names s k (data_of.ActiveAt memory offset bytes) = segment_written s k _ _

next_nests : (n : ℕ) (r : Result State State) (f : State → Result State State) → Nests n r → ((t : State) → t.nesting ≡ n → Nests n (f t)) → Nests n (and_next r f)
next_nests n (Ok t) f h more = more t h
next_nests n (Err t) f h more = h

elements_nest : (n : ℕ) (v : CoreSpaces) (names : Names) (s : State) (k : ℕ) (es : List Elements) → s.nesting ≡ n → Nests n (apply_elements v names s k es)
elements_nest n v names s k [] h = h
elements_nest n v names s k (e ∷ es) h =
    next_nests n (apply_element v names s k e) (λ t. apply_elements v names t (k + 1) es) (subst (λ x. Nests x (apply_element v names s k e)) h (element_nests v names s k e))
    (λ t g. elements_nest n v names t (k + 1) es g)

segments_nest : (n : ℕ) (v : CoreSpaces) (names : Names) (s : State) (k : ℕ) (ds : List Data) → s.nesting ≡ n → Nests n (apply_segments v names s k ds)
segments_nest n v names s k [] h = h
segments_nest n v names s k (d ∷ ds) h =
    next_nests n (apply_data v names s k d) (λ t. apply_segments v names t (k + 1) ds) (subst (λ x. Nests x (apply_data v names s k d)) h (data_nests v names s k d))
    (λ t g. segments_nest n v names t (k + 1) ds g)

instantiated_nests : (s : State) (m : Module) (imports : List Extern) → Nests s.nesting (instantiated s m imports)
instantiated_nests s m imports =
    let v = places_of s m imports in
    let names = names_of s m imports in
    next_nests s.nesting (apply_elements v names (allocated s m imports) (length s.elements) m.elements) (λ t. apply_segments v names t (length s.segments) m.segments)
    (elements_nest s.nesting v names (allocated s m imports) (length s.elements) m.elements refl) (λ t h. segments_nest s.nesting v names t (length s.segments) m.segments h)

-- ---- the store only grew

came_back : (s : State) (m : Module) (imports : List Extern) (t : State) → scene_of t ≡ scene_of (allocated s m imports) → t.nesting ≡ s.nesting → CameBack s t
came_back s m imports t scene nesting = record { grew = subst (Grows (scene_of s)) (sym scene) (grows s m imports); nesting = sym nesting }

pub done_grew : (s : State) (m : Module) (imports : List Extern) (t : State) → instantiated s m imports ≡ Ok t → CameBack s t
done_grew s m imports t e =
    came_back s m imports t (subst (Has (scene_of (allocated s m imports))) e (instantiated_scene s m imports)) (subst (Nests s.nesting) e (instantiated_nests s m imports))

pub only_grew : (s : State) (m : Module) (imports : List Extern) (t : State) (r : Result CoreInstance StoreFault) → Answers s m imports t r → OnlyGrew s t r
only_grew s m imports t (Ok instance) a = done_grew s m imports t a.0
only_grew s m imports t (Err faults.Trap) a =
    came_back s m imports t (subst (Has (scene_of (allocated s m imports))) a (instantiated_scene s m imports)) (subst (Nests s.nesting) a (instantiated_nests s m imports))
only_grew s m imports t (Err faults.NoMemory) a = tt

-- ---- exports

below : (a b : ℕ) → nat_lt a b ≡ true → a < b
below a b e = grind (arith, nat_tests)

valid_exports : (m : Module) → IsValidModule m → AllHold (context m) (export_items m.exports)
valid_exports m v =
    before (context m) (export_items m.exports) _ (behind (context m) (first_items m) (later_items m) v)

module _ (s : State) (m : Module) (imports : List Extern) (v : IsValidModule m) (there : All (IsThere s) imports) (counts : HasCounts m) (match : ImportsMatch s m imports) (t : State) (scene : scene_of t ≡ scene_of (allocated s m imports)) where
  abbrev spaces : CoreSpaces
  spaces = places_of s m imports

  -- the store's items by the indexes of the module's context
  abbrev found_there : Type 0
  found_there = (i : ℕ) → i < length (context m).functions → Callee (context m) (scene_of t) spaces.functions i

  callees : found_there
  callees i lt =
      let x = (suits s m imports v there counts match (arrow [] []) []).functions i lt in
      record { place = x.place; callee = x.callee; named = x.named; there = subst (λ (w : Scene). slice_get w.functions x.place ≡ Some x.callee) (sym scene) x.there; typed = x.typed }

  placed : (n : ℕ) (xs : List ℕ) (i : ℕ) → Place n xs i → place_at xs i < n
  placed n xs i p = subst (λ k. k < n) (sym (get_or_from_slice_get xs i p.0 0 p.1)) p.2

  func_given : (n : ℕ) → n < length (context m).functions → IsGiven t (func_item (function_type (context m) n)) (Func (place_at spaces.functions n))
  func_given n lt =
      let x = callees n lt in
      let here : place_at spaces.functions n ≡ x.place = get_or_from_slice_get spaces.functions n x.place 0 x.named in
      subst (λ (o : Option CoreFunc). IsGiven t (func_item o) (Func (place_at spaces.functions n))) (sym x.typed)
      (subst (λ (o : Option StoreFunc). IsOfType (Some (type_of_function x.callee)) o) (sym (ap (slice_get t.functions) here ∙ x.there)) refl)

  item_given : (earlier : List (List ℕ)) (e : Export) → ((k : ℕ) → Holds (context m) (AnExport earlier e) k) → IsGiven t (export_type (context m) (memories m) e.item) (extern_of spaces e.item)
  item_given earlier e h = by_item e.item (λ k. (h k).0.0)
    where
      by_item : (x : ExportItem) → ((k : ℕ) → rule_of (export_condition x) ≡ k → is_met (context m) (export_condition x) ≡ true) → IsGiven t (export_type (context m) (memories m) x) (extern_of spaces x)
      by_item (exported.Func n) h = func_given n (below n _ (h 2 refl))
      by_item (exported.Table n) h =
          let lt = below n _ (h 3 refl) in
          let x = get_within (context m).tables n lt in
          let p = (suits s m imports v there counts match (arrow [] []) []).tables n lt in
          subst (λ (o : Option TableType). IsGiven t (found (option_map table_item o)) (extern_of spaces (exported.Table n))) (sym x.1)
          (subst (λ (w : Scene). place_at spaces.tables n < w.tables) (sym scene) (placed _ spaces.tables n p))
      by_item (exported.Memory n) h =
          let lt = below n _ (h 4 refl) in
          let x = get_within (memories m) n lt in
          let p = (suits s m imports v there counts match (arrow [] []) []).memories n lt in
          subst (λ (o : Option Limits). IsGiven t (found (option_map (λ y. item.Memory y) o)) (extern_of spaces (exported.Memory n))) (sym x.1)
          (subst (λ (w : Scene). place_at spaces.memories n < w.memories) (sym scene) (placed _ spaces.memories n p))
      by_item (exported.Global n) h =
          let lt = below n _ (h 5 refl) in
          let x = get_within (context m).globals n lt in
          let p = (suits s m imports v there counts match (arrow [] []) []).globals n lt in
          subst (λ (o : Option GlobalType). IsGiven t (found (option_map global_item o)) (extern_of spaces (exported.Global n))) (sym x.1)
          (subst (λ (w : Scene). place_at spaces.globals n < w.globals) (sym scene) (placed _ spaces.globals n p))

  given : (earlier es : List Export) → AllHold (context m) (with_earlier (λ before e. AnExport (map (λ x. x.name) before) e) earlier es) → AreGiven t (map (core_export (context m) (memories m)) es) (map (named_extern spaces) es)
  given earlier [] h = tt
  given earlier (e ∷ es) h = (refl, item_given _ e h.0, given (earlier ++ e ∷ []) es h.1)

pub done_gives : (s : State) (m : Module) (imports : List Extern) (t : State) (instance : CoreInstance) → IsValidModule m → All (IsThere s) imports → instantiated s m imports ≡ Ok t → instance ≡ instance_of s m imports → GivesExports s m imports t instance
done_gives s m imports t instance v there e is counts match =
    subst (λ (i : CoreInstance). AreGiven t (type_of m).exports i.exports) (sym is)
    (given s m imports v there counts match t (subst (Has (scene_of (allocated s m imports))) e (instantiated_scene s m imports)) [] m.exports (valid_exports m v))
