-- What a module gives in the store in which its items are allocated, and its start function there.
use Rattle.std.proofs.Common.{◌≡◌, ◌∙◌, ℕ, ◌<◌, List, [], ◌∷◌, ◌++◌, length, map, true, Option, Some, None, refl, sym, ap, subst, arith}
use Rattle.std.proofs.lemmas.Bool.{and_parts, eqb-true, ltb-true}
use Rattle.std.proofs.lemmas.Option.{get_or_from_slice_get}
use Rattle.std.specs.Prelude.{◌==◌, slice_get}
use Rattle.std.specs.List.{All}
use Rattle.std.specs.Option.{option_map, option_map_or, option_to_list}
use Rattle.wasm_ast.specs.declared.module.CoreFunc.{CoreFunc}
use Rattle.wasm_ast.specs.declared.module.Limits.{Limits}
use Rattle.wasm_ast.specs.declared.module.TableType.{TableType}
use Rattle.wasm_ast.specs.declared.module.GlobalType.{GlobalType}
use Rattle.wasm_ast.specs.declared.module.Export.{Export}
use Rattle.wasm_ast.specs.declared.module.ExportItem.{ExportItem}
use Rattle.wasm_ast.specs.declared.module.ExportItem.TheVariants as exported
use Rattle.wasm_ast.specs.declared.module.Module.{Module}
use Rattle.virt_base.specs.declared.core_type.CoreType.{CoreType}
use Rattle.core_body.specs.Context.{arrow, function_type}
use Rattle.core_body.specs.Conditions.{rule_of, is_met, takes_nothing}
use Rattle.core_validate.specs.Gather.{with_earlier}
use Rattle.core_validate.specs.Items.{AnExport, AStart, export_condition, first_items, later_items, export_items, plain_items}
use Rattle.core_validate.specs.Spaces.{context, memories}
use Rattle.core_validate.specs.Typed.{func_item, found, table_item, global_item, export_type, core_export, type_of}
use Rattle.core_validate.specs.Validity.{Holds, AllHold, IsValidModule}
use Rattle.core_validate.specs.declared.item.CoreItem.TheVariants as item
use Rattle.core_store.specs.declared.value.CoreSpaces.{CoreSpaces}
use Rattle.core_store.specs.declared.value.StoreFunc.{StoreFunc}
use Rattle.core_store.specs.State.{State}
use Rattle.core_store.specs.Eval.{type_of as type_of_function}
use Rattle.core_store.specs.Fine.{Place}
use Rattle.core_store.proofs.Growing.{get_within}
use Rattle.core_instance.specs.declared.external.Extern.{Extern}
use Rattle.core_instance.specs.declared.external.Extern.TheVariants.{Func}
use Rattle.core_instance.specs.Exported.{IsGiven, AreGiven}
use Rattle.core_instance.specs.Instantiation.{allocated, instance_of}
use Rattle.core_instance.specs.Matching.{HasCounts, IsOfType, ImportsMatch}
use Rattle.core_instance.specs.Spaces.{IsThere, places_of, place_at, extern_of, named_extern}
use Rattle.core_instance.proofs.SuitLemmas.{suits}
use Rattle.core_instance.proofs.ValidLemmas.{behind, before}
use Rattle.comp_joins.specs.Fits.{HasCode, HasCodeIfAny}

-- a function of a type that takes and gives nothing
nothing_taken : (f : CoreFunc) → takes_nothing f ≡ true → f ≡ arrow [] []
nothing_taken f h =
    let p = and_parts (length f.params == 0) (length f.results == 0) h in
    (λ i. arrow (none f.params p.0 i) (none f.results p.1 i))
  where
    none : (ts : List CoreType) → (length ts == 0) ≡ true → ts ≡ []
    none [] e = refl
    none (t ∷ ts) e = absurd (omega (arith, eqb-true (length (t ∷ ts)) 0 e))

module _ (s : State) (m : Module) (imports : List Extern) (v : IsValidModule m) (there : All (IsThere s) imports) (counts : HasCounts m) (match : ImportsMatch s m imports) where
  abbrev t : State
  t = allocated s m imports

  abbrev spaces : CoreSpaces
  spaces = places_of s m imports

  placed : (n : ℕ) (xs : List ℕ) (i : ℕ) → Place n xs i → place_at xs i < n
  placed n xs i p = subst (λ k. k < n) (sym (get_or_from_slice_get xs i p.0 0 p.1)) p.2

  -- the function at an index of the module's context, and its type
  code_there : (n : ℕ) → n < length (context m).functions → (ty : CoreFunc) × (function_type (context m) n ≡ Some ty) × HasCode t (place_at spaces.functions n) ty
  code_there n lt =
      let x = (suits s m imports v there counts match (arrow [] []) []).functions n lt in
      let here : place_at spaces.functions n ≡ x.place = get_or_from_slice_get spaces.functions n x.place 0 x.named in
      (type_of_function x.callee, x.typed, subst (λ (o : Option StoreFunc). IsOfType (Some (type_of_function x.callee)) o) (sym (ap (slice_get t.functions) here ∙ x.there)) refl)

  func_given : (n : ℕ) → n < length (context m).functions → IsGiven t (func_item (function_type (context m) n)) (Func (place_at spaces.functions n))
  func_given n lt =
      let x = code_there n lt in
      subst (λ (o : Option CoreFunc). IsGiven t (func_item o) (Func (place_at spaces.functions n))) (sym x.1) x.2

  item_given : (x : ExportItem) → ((k : ℕ) → rule_of (export_condition x) ≡ k → is_met (context m) (export_condition x) ≡ true) → IsGiven t (export_type (context m) (memories m) x) (extern_of spaces x)
  item_given (exported.Func n) h = func_given n (ltb-true n _ (h 2 refl))
  item_given (exported.Table n) h =
      let lt = ltb-true n _ (h 3 refl) in
      let x = get_within (context m).tables n lt in
      let p = (suits s m imports v there counts match (arrow [] []) []).tables n lt in
      subst (λ (o : Option TableType). IsGiven t (found (option_map table_item o)) (extern_of spaces (exported.Table n))) (sym x.1) (placed _ spaces.tables n p)
  item_given (exported.Memory n) h =
      let lt = ltb-true n _ (h 4 refl) in
      let x = get_within (memories m) n lt in
      let p = (suits s m imports v there counts match (arrow [] []) []).memories n lt in
      subst (λ (o : Option Limits). IsGiven t (found (option_map (λ y. item.Memory y) o)) (extern_of spaces (exported.Memory n))) (sym x.1) (placed _ spaces.memories n p)
  item_given (exported.Global n) h =
      let lt = ltb-true n _ (h 5 refl) in
      let x = get_within (context m).globals n lt in
      let p = (suits s m imports v there counts match (arrow [] []) []).globals n lt in
      subst (λ (o : Option GlobalType). IsGiven t (found (option_map global_item o)) (extern_of spaces (exported.Global n))) (sym x.1) (placed _ spaces.globals n p)

  given : (earlier es : List Export) → AllHold (context m) (with_earlier (λ before e. AnExport (map (λ x. x.name) before) e) earlier es) → AreGiven t (map (core_export (context m) (memories m)) es) (map (named_extern spaces) es)
  given earlier [] h = tt
  given earlier (e ∷ es) h = (refl, item_given e.item (λ k. (h.0 k).0.0), given (earlier ++ e ∷ []) es h.1)

  later : AllHold (context m) (later_items m)
  later = behind (context m) (first_items m) (later_items m) v

  pub exports_given : AreGiven t (type_of m).exports (instance_of s m imports).exports
  exports_given = given [] m.exports (before (context m) (export_items m.exports) _ later)

  -- ---- the start function

  start_code : (n : ℕ) → ((k : ℕ) → Holds (context m) (AStart n) k) → HasCode t (place_at spaces.functions n) (arrow [] [])
  start_code n h =
      let x = code_there n (ltb-true n _ ((h 2).0.0 refl)) in
      let bare : takes_nothing x.0 ≡ true = subst (λ (o : Option CoreFunc). option_map_or takes_nothing o true ≡ true) x.1 ((h 13).0.1.0 refl) in
      subst (HasCode t (place_at spaces.functions n)) (nothing_taken x.0 bare) x.2

  starts : (o : Option ℕ) → AllHold (context m) (plain_items AStart (option_to_list o)) → HasCodeIfAny t (option_map (λ n. place_at spaces.functions n) o) (arrow [] [])
  starts None h = tt
  starts (Some n) h = start_code n h.0

  pub start_given : HasCodeIfAny t (instance_of s m imports).start (arrow [] [])
  start_given = starts m.start (before (context m) (plain_items AStart (option_to_list m.start)) _ (behind (context m) (export_items m.exports) _ later))
