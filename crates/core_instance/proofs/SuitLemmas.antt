-- The context of a valid module suits the store in which it is allocated.
use Rattle.std.proofs.Common.{◌≡◌, ℕ, ◌+◌, ◌<◌, ◌≤◌, List, [], ◌++◌, length, length-append, map, Option, Some, None, refl, sym, ap, ◌∙◌, subst, arith}
use Rattle.std.proofs.lemmas.List.{length-map}
use Rattle.std.proofs.lemmas.List.FromFn.{length-range_with_len}
use Rattle.std.proofs.lemmas.Option.{get_or_from_slice_get}
use Rattle.std.specs.Prelude.{slice_get, unwrap_or}
use Rattle.std.specs.List.{All, flat_map, range_with_len}
use Rattle.std.specs.Option.{option_and_then}
use Rattle.virt_base.specs.declared.core_type.CoreType.{CoreType}
use Rattle.wasm_ast.specs.declared.module.CoreFunc.{CoreFunc}
use Rattle.wasm_ast.specs.declared.module.Global.{Global}
use Rattle.wasm_ast.specs.declared.module.Module.{Module}
use Rattle.core_body.specs.Context.{Context, arrow}
use Rattle.core_body.specs.Views.{in_body}
use Rattle.core_validate.specs.Items.{body_type}
use Rattle.core_validate.specs.Spaces as declared
use Rattle.core_validate.specs.Validity.{IsValidModule}
use Rattle.core_store.specs.declared.value.CoreSpaces.{CoreSpaces}
use Rattle.core_store.specs.declared.value.StoreFunc.{StoreFunc}
use Rattle.core_store.specs.State.{State}
use Rattle.core_store.specs.Eval.{type_of}
use Rattle.core_store.specs.Scene.{Scene, scene_of}
use Rattle.core_store.specs.Fine.{Place}
use Rattle.core_store.proofs.Growing.{get_more, get_within}
use Rattle.core_instance.specs.Sound.{Callee, Suits}
use Rattle.core_instance.specs.declared.external.Extern.{Extern}
use Rattle.core_instance.specs.Spaces.{functions_of, tables_of, memories_of, globals_of, places_of, IsThere}
use Rattle.core_instance.specs.Constants.{constant, refs_of}
use Rattle.core_instance.specs.Instantiation.{functions_from, bytes_of, names_of, allocated}
use Rattle.core_instance.specs.Matching.{HasCounts, IsOfType, ImportsMatch}
use Rattle.core_instance.proofs.FunctionLemmas.{function_at, function_from}
use Rattle.core_instance.proofs.MatchLemmas.{imported_at, same_functions, same_tables, same_memories, same_globals}
use Rattle.core_instance.proofs.PlaceLemmas.{all_globals_there}
use Rattle.core_instance.proofs.RangeLemmas.{get_behind, each_of_both, get_range}
use Rattle.core_instance.proofs.ValidLemmas.{type_there}
use Rattle.core_instance.proofs.WholeLemmas.{tables_in_store, memories_in_store}

-- an index in a list of places that are there
place_of : (n : ℕ) (xs : List ℕ) (i : ℕ) → All (λ at. at < n) xs → i < length xs → Place n xs i
place_of n xs i all lt =
    let g = get_within xs i lt in (g.0, g.1, subst (λ k. k < n) (get_or_from_slice_get xs i g.0 0 g.1) (all i 0 lt))

place_in_range : (n from count i : ℕ) → from + count ≤ n → i < count → Place n (range_with_len from count) i
place_in_range n from count i le lt = (from + i, get_range from count i lt, omega (arith, le, lt))

-- an index of what is declared is one of the places
placed : {A : Type 0} (xs ys : List A) (ps : List ℕ) (from count i : ℕ) → length xs ≡ length ps → length ys ≡ count → i < length (xs ++ ys) → i < length (ps ++ range_with_len from count)
placed xs ys ps from count i same long lt =
    omega (arith, same, long, lt, length-append xs ys, length-append ps (range_with_len from count), length-range_with_len from count)

record Typed (types : Option CoreFunc) (function : Option StoreFunc) : Type 0 where
  callee : StoreFunc
  there : function ≡ Some callee
  typed : types ≡ Some (type_of callee)

of_type : (o : Option CoreFunc) (g : Option StoreFunc) → IsOfType o g → Typed o g
of_type None g h = absurd h
of_type (Some ty) None h = absurd h
of_type (Some ty) (Some g) h = record { callee = g; there = refl; typed = ap Some h }

abbrev pub spaces_in : State → Module → List Extern → CoreSpaces
spaces_in s m imports = record (places_of s m imports) { types = m.types }

module _ (s : State) (m : Module) (imports : List Extern) (v : IsValidModule m) (there : All (IsThere s) imports) (counts : HasCounts m) (match : ImportsMatch s m imports) where
  abbrev w : Scene
  w = scene_of (allocated s m imports)

  abbrev Callable : Context → ℕ → Type 0
  Callable c i = Callee c w (places_of s m imports).functions i

  imported_callee : (ty : CoreFunc) (locals : List CoreType) (i : ℕ) → i < length (declared.imported_functions m.imports) → Callable (in_body (declared.context m) locals ty.results) i
  imported_callee ty locals i lt =
      let x = imported_at s m.types m.imports imports match i lt in
      let f = of_type (slice_get m.types x.ty) (slice_get s.functions x.place) x.typed in
      record {
        place = x.place;
        callee = f.callee;
        named = get_more (flat_map functions_of imports) (range_with_len (length s.functions) (length m.code)) i x.place x.placed;
        there = get_more s.functions (functions_from m (length s.instances) 0 m.code) x.place f.callee f.there;
        typed = ap (option_and_then (λ t. slice_get m.types t)) (get_more (declared.imported_functions m.imports) m.functions i x.ty x.declared) ∙ f.typed;
      }

  own_type : (j : ℕ) → j < length m.functions → option_and_then (λ t. slice_get m.types t) (slice_get m.functions j) ≡ Some (body_type m j)
  own_type j lt =
      let n = get_within m.functions j lt in
      let ty = get_within m.types n.0 (type_there m v j n.0 n.1) in
      let is : option_and_then (λ t. slice_get m.types t) (slice_get m.functions j) ≡ Some ty.0 = ap (option_and_then (λ t. slice_get m.types t)) n.1 ∙ ty.1 in
      is ∙ ap Some (sym (ap (λ (o : Option CoreFunc). unwrap_or o (arrow [] [])) is))

  own_callee : (ty : CoreFunc) (locals : List CoreType) (j : ℕ) → j < length m.functions → Callable (in_body (declared.context m) locals ty.results) (length (declared.imported_functions m.imports) + j)
  own_callee ty locals j lt =
      let b = get_within m.code j (omega (arith, lt, counts.bodies)) in
      let long = same_functions s m.types m.imports imports match in
      record {
        place = length s.functions + j;
        callee = function_at m (length s.instances) j b.0;
        named = ap (λ n. slice_get (places_of s m imports).functions (n + j)) long
            ∙ (get_behind (flat_map functions_of imports) (range_with_len (length s.functions) (length m.code)) j ∙ get_range (length s.functions) (length m.code) j (omega (arith, lt, counts.bodies)));
        there = get_behind s.functions (functions_from m (length s.instances) 0 m.code) j ∙ function_from m (length s.instances) 0 m.code j j b.0 b.1 (omega arith);
        typed = ap (option_and_then (λ t. slice_get m.types t)) (get_behind (declared.imported_functions m.imports) m.functions j) ∙ own_type j lt;
      }

  suits_functions : (ty : CoreFunc) (locals : List CoreType) (i : ℕ) → i < length (declared.functions m) → Callable (in_body (declared.context m) locals ty.results) i
  suits_functions ty locals i lt =
      each_of_both (Callable (in_body (declared.context m) locals ty.results)) (declared.imported_functions m.imports) m.functions (imported_callee ty locals) (own_callee ty locals) i lt

  suits_tables : (i : ℕ) → i < length (declared.tables m) → Place w.tables (places_of s m imports).tables i
  suits_tables i lt =
      place_of w.tables (places_of s m imports).tables i (tables_in_store s m imports (places_of s m imports) (allocated s m imports) there refl refl)
      (placed (declared.imported_tables m.imports) m.tables (flat_map tables_of imports) (length s.tables) (length m.tables) i (same_tables s m.types m.imports imports match) refl lt)

  suits_memories : (i : ℕ) → i < length (declared.memories m) → Place w.memories (places_of s m imports).memories i
  suits_memories i lt =
      place_of w.memories (places_of s m imports).memories i (memories_in_store s m imports (places_of s m imports) (allocated s m imports) there refl refl)
      (placed (declared.imported_memories m.imports) m.memories (flat_map memories_of imports) (length s.memories) (length m.memories) i (same_memories s m.types m.imports imports match) refl lt)

  globals_count : length s.globals + length m.globals ≡ w.globals
  globals_count = let values = map (λ (g : Global). constant (names_of s m imports) g.init) m.globals in
      omega (arith, length-append s.globals values, length-map m.globals (λ (g : Global). constant (names_of s m imports) g.init))

  suits_globals : (i : ℕ) → i < length (declared.globals m) → Place w.globals (places_of s m imports).globals i
  suits_globals i lt =
      place_of w.globals (places_of s m imports).globals i
      (subst (λ n. All (λ at. at < n) (places_of s m imports).globals) globals_count (all_globals_there s imports (length m.globals) there))
      (placed (declared.imported_globals m.imports) (map (λ (g : Global). g.ty) m.globals) (flat_map globals_of imports) (length s.globals) (length m.globals) i (same_globals s m.types m.imports imports match) (length-map m.globals (λ (g : Global). g.ty)) lt)

  suits_elements : (i : ℕ) → i < length (map declared.element_type m.elements) → Place w.elements (places_of s m imports).elements i
  suits_elements i lt =
      place_in_range w.elements (length s.elements) (length m.elements) i
      (omega (arith, length-append s.elements (map (refs_of (names_of s m imports)) m.elements), length-map m.elements (refs_of (names_of s m imports)))) (omega (arith, lt, length-map m.elements declared.element_type))

  suits_segments : (i count : ℕ) → m.data_count ≡ Some count → i < count → Place w.segments (places_of s m imports).segments i
  suits_segments i count e lt =
      place_in_range w.segments (length s.segments) (length m.segments) i (omega (arith, length-append s.segments (map bytes_of m.segments), length-map m.segments bytes_of))
      (omega (arith, lt, counts.segments count e))

  -- the context of a body and the frame of its function
  pub suits : (ty : CoreFunc) (locals : List CoreType) →
      Suits (in_body (declared.context m) (ty.params ++ locals) ty.results) w (record { spaces = spaces_in s m imports; locals = length ty.params + length locals; results = length ty.results })
  suits ty locals = record {
    types = refl;
    functions = suits_functions ty (ty.params ++ locals);
    tables = suits_tables;
    memories = suits_memories;
    globals = suits_globals;
    elements = suits_elements;
    segments = suits_segments;
    locals = length-append ty.params locals;
    results = λ ts e. same_length ts e;
  }
    where
      same_length : (ts : List CoreType) → Some ty.results ≡ Some ts → length ts ≡ length ty.results
      same_length ts e = let same : ty.results ≡ ts = cc in sym (ap length same)
