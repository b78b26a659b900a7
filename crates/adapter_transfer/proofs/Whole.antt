-- A module whose parts fit each other is valid.
use Rattle.std.proofs.Common.{◌≡◌, ℕ, ◌+◌, List, [], ◌++◌, Some, All, map, length, sym, ap, ◌∙◌, subst, arith, length-append}
use Rattle.std.specs.Prelude.{slice_get, unwrap_or}
use Rattle.std.specs.Option.{option_and_then, option_map}
use Rattle.std.proofs.lemmas.List.{length-map}
use Rattle.std.proofs.lemmas.List.Elements.{All-append}
use Rattle.std.proofs.lemmas.Option.{slice_get-map}
use Rattle.wasm_ast.specs.declared.module.CoreFunc.{CoreFunc}
use Rattle.core_body.specs.Context.{Context, arrow}
use Rattle.core_validate.specs.Items.{first_items, later_items, import_items, plain_items, memory_items, export_items, body_items, body_type, AFunction}
use Rattle.core_validate.specs.Spaces.{imported_functions, imported_memories, context}
use Rattle.core_validate.specs.Validity.{AllHold, IsValidModule}
use Rattle.adapter_transfer.specs.declared.module.Defined.{Defined}
use Rattle.adapter_transfer.specs.declared.module.Parts.{Parts}
use Rattle.adapter_transfer.specs.Module.{exports_from, module_of}
use Rattle.adapter_transfer.specs.ModuleValid.{BodyFits, FunctionFits, Fits, ModulesAreValid}
use Rattle.adapter_transfer.proofs.Lists.{all_at}
use Rattle.adapter_transfer.proofs.Holding.{all_append, hold_imports, hold_memories, hold_globals, hold_segments, ExportMet, memories_exported, functions_exported, hold_exports, hold_types, hold_bodies}

module _ (p : Parts) (ds : List Defined) (f : Fits p ds) where
  abbrev c : Context
  c = context (module_of p ds)

  counted : c.memories ≡ length (imported_memories p.imports) + length p.memories
  counted = length-append (imported_memories p.imports) p.memories

  functions : length c.functions ≡ p.imported + length ds
  functions =
      let a = length-append (imported_functions p.imports) (map (λ (d : Defined). d.ty) ds) in
      let b = length-map ds (λ (d : Defined). d.ty) in
      omega (arith, a, b, f.imported)

  first_hold : AllHold c (first_items (module_of p ds))
  first_hold =
      all_append c (import_items p.imports) _ (hold_imports c [] p.imports f.imports (omega (arith, f.single)))
      (all_append c (plain_items AFunction (map (λ (d : Defined). d.ty) ds)) _ (hold_types c [] ds f.functions)
      (all_append c (memory_items (module_of p ds)) _ (hold_memories c (length (imported_memories p.imports)) [] p.memories f.memories (omega (arith, f.single)))
      (hold_globals c [] p.globals f.globals)))

  exported : All (ExportMet c) (p.exports ++ exports_from p.imported ds)
  exported =
      All-append (ExportMet c) p.exports (exports_from p.imported ds) (memories_exported c (length (imported_memories p.imports) + length p.memories) p.exports counted f.exports)
      (functions_exported c p.imported ds (omega (arith, functions)))

  bodies : (k : ℕ) (d : Defined) → slice_get ds k ≡ Some d → BodyFits c (body_type (module_of p ds) (0 + k)) d.body
  bodies k d there =
      let fit = all_at (FunctionFits c) ds k d f.functions there in
      let P : CoreFunc → Type 0 = λ ty. BodyFits c ty d.body in
      let index = slice_get-map (λ (x : Defined). x.ty) ds k ∙ ap (option_map (λ (x : Defined). x.ty)) there in
      let type : body_type (module_of p ds) k ≡ fit.0 =
      ap (λ o. unwrap_or (option_and_then (λ t. slice_get p.types t) o) (arrow [] [])) index ∙ ap (λ o. unwrap_or o (arrow [] [])) fit.1 in
      let Q : ℕ → Type 0 = λ n. BodyFits c (body_type (module_of p ds) n) d.body in
      let same : k ≡ 0 + k = omega arith in
      subst Q same (subst P (sym type) fit.2)

  later_hold : AllHold c (later_items (module_of p ds))
  later_hold =
      all_append c (export_items (module_of p ds).exports) _ (hold_exports c [] (p.exports ++ exports_from p.imported ds) exported f.names)
      (all_append c (body_items (module_of p ds)) _ (hold_bodies c (body_type (module_of p ds)) [] ds bodies)
      (hold_segments c [] p.segments (λ some. let more = f.hold some in omega (arith, more, counted)) f.segments))

  holds : IsValidModule (module_of p ds)
  holds = all_append c (first_items (module_of p ds)) (later_items (module_of p ds)) first_hold later_hold

pub are_valid : ModulesAreValid
are_valid p ds f = holds p ds f
