-- The parts of the state module fit each other, so it is valid.
use Rattle.std.proofs.Common.{◌≡◌, ℕ, zero, suc, ◌+◌, ◌<◌, ◌≤◌, ◌*◌, ◌/◌, List, [], ◌∷◌, ◌++◌, Bool, true, false, Option, Some, None, All, map, length, refl, sym, ap, ◌∙◌, subst, arith, length-append, lit<, lit≤}
use Rattle.std.specs.Prelude.{slice_get, IfSome, codes}
use Rattle.std.specs.Option.{option_and_then}
use Rattle.std.proofs.lemmas.List.Elements.{All-nil, All-cons, All-append}
use Rattle.virt_base.specs.declared.core_type.CoreType.{CoreType}
use Rattle.virt_base.specs.declared.core_type.CoreType.TheVariants.{I32, I64}
use Rattle.wasm_ast.specs.declared.module.Limits.{Limits}
use Rattle.wasm_ast.specs.declared.module.Global.{Global}
use Rattle.wasm_ast.specs.declared.module.GlobalType.{GlobalType}
use Rattle.wasm_ast.specs.declared.module.Import.{Import}
use Rattle.wasm_ast.specs.declared.module.Export.{Export}
use Rattle.wasm_ast.specs.declared.module.Data.{Data}
use Rattle.core_body.specs.declared.operand.Operand.TheVariants.{Known}
use Rattle.core_body.specs.Context.{Context, arrow, function_type}
use Rattle.core_body.specs.Views.{in_body}
use Rattle.core_validate.specs.Spaces.{imported_functions, imported_memories, imported_globals, context}
use Rattle.core_validate.specs.Validity.{IsValidModule}
use Rattle.adapter_code.specs.declared.layout.Layout.{Layout}
use Rattle.adapter_code.specs.declared.statement.Width.TheVariants.{Narrow, Broad}
use Rattle.adapter_code.specs.Layout.{table_at, end_of, pages_of}
use Rattle.adapter_code.specs.Layout.{Fits as FitsPages}
use Rattle.adapter_compile.specs.Instructions.{call_at}
use Rattle.adapter_compile.specs.Bounds.{nesting}
use Rattle.adapter_compile.specs.Handles.{makes_type, drops_type}
use Rattle.adapter_transfer.specs.Valid.{HasFunctions}
use Rattle.adapter_transfer.proofs.ValidPieces.{whole_body}
use Rattle.adapter_transfer.proofs.Functions.{sum_declared, get_front, valid_function}
use Rattle.adapter_transfer.specs.Transfer.{HasEnd, realloc_code, reset_code}
use Rattle.adapter_transfer.proofs.Pieces.{realloc_piece, reset_piece}
use Rattle.adapter_transfer.specs.declared.module.Defined.{Defined}
use Rattle.adapter_transfer.specs.ModuleValid.{AreLimits, ImportFits, GlobalFits, SegmentFits, ExportFits, FunctionFits, Fits}
use Rattle.adapter_transfer.proofs.Whole.{are_valid}
use Rattle.adapter_state.specs.declared.parts.Presence.{Presence}
use Rattle.adapter_state.specs.declared.parts.Presence.TheVariants.{Absent, Own, Host}
use Rattle.adapter_state.specs.declared.parts.Posts.{Posts}
use Rattle.adapter_state.specs.Destructor.{destroy_widths, routine_of}
use Rattle.adapter_state.specs.State.{each_kind, drop_import, calls_in, drop_calls, realloc_function, free_function, destructor_of, post_function, posts_of, state_functions, state_types, state_parts, state_of}
use Rattle.adapter_state.proofs.Destroying.{fine_destructor}
use Rattle.adapter_state.proofs.EachKind.{each_all, all_imported, no_memories, no_globals, none_at, calls_lead}
use Rattle.adapter_state.proofs.Naming.{distinct_names}

pub pages_fit : (l : Layout) → FitsPages l → pages_of l ≤ 4096
pages_fit l fits = omega (arith, fits)

no_repeats : (host : Option ℕ) (base : ℕ) → nesting (routine_of host base) ≡ 0
no_repeats None base = refl
no_repeats (Some kind) base = refl

import_fits : (k : ℕ) (p : Presence) → k < 14 → All (λ (i : Import). ImportFits (length state_types) i.item) (drop_import k p)
import_fits k Absent lt = All-nil (λ (i : Import). ImportFits (length state_types) i.item)
import_fits k Own lt = All-nil (λ (i : Import). ImportFits (length state_types) i.item)
import_fits k Host lt = All-cons (λ (i : Import). ImportFits (length state_types) i.item) _ [] (lit< tt) (All-nil (λ (i : Import). ImportFits (length state_types) i.item))

module _ (kinds : List Presence) (l : Layout) (image : List ℕ) (posts : Posts) (few : length kinds ≤ 14) (fits : FitsPages l) where
  abbrev c : Context
  c = context (state_of kinds l image posts)

  abbrev imports : List Import
  imports = each_kind drop_import 0 kinds

  has_end : HasEnd c
  has_end = ap (λ (gs : List GlobalType). slice_get (gs ++ record { value = I32; variable = true } ∷ []) 0) (no_globals 0 kinds)

  has_memory : 0 < c.memories
  has_memory =
      let both = length-append (imported_memories imports) (record { min = pages_of l; max = Some (pages_of l) } ∷ []) in
      omega (arith, both)

  no_makes : (kind f : ℕ) → call_at [] kind ≡ Some f → function_type c f ≡ Some makes_type
  no_makes kind f e = let never = none_at kind in absurd (cc)

  has_drops : (kind f : ℕ) → call_at (drop_calls 0 kinds) kind ≡ Some f → function_type c f ≡ Some drops_type
  has_drops kind f e =
      let r = calls_lead 0 0 kinds kind f e in
      let same : f ≡ r.0 = omega (arith, r.1) in
      let there = get_front (imported_functions imports) (map (λ (d : Defined). d.ty) (state_functions kinds l posts)) r.0 0 r.2 in
      ap (λ n. function_type c n) same ∙ ap (option_and_then (λ t. slice_get c.types t)) there

  has_functions : HasFunctions c (calls_in kinds)
  has_functions = record { memory = has_memory; makes = no_makes; drops = has_drops }

  realloc_fits : FunctionFits c (realloc_function l)
  realloc_fits = (
    _,
    refl,
    record {
      few = lit≤ tt;
      valid = λ rule. whole_body c (I32 ∷ I32 ∷ I32 ∷ I32 ∷ []) (I32 ∷ []) (realloc_code l)
          (realloc_piece (in_body c (I32 ∷ I32 ∷ I32 ∷ I32 ∷ []) (I32 ∷ [])) (Some (Known I32 ∷ []) ∷ []) has_end refl l) rule;
    },
  )

  free_fits : (k : ℕ) (host : Option ℕ) → IfSome host (λ kind. kind < 14) → FunctionFits c (free_function kinds l k host)
  free_fits k host lt = (
    drops_type,
    refl,
    record {
      few =
          let sum = sum_declared (Narrow ∷ Narrow ∷ Narrow ∷ Narrow ∷ Narrow ∷ Narrow ∷ Broad ∷ []) (nesting (routine_of host (table_at l k))) in
          omega (arith, sum, no_repeats host (table_at l k));
      valid = valid_function c 1 destroy_widths (calls_in kinds) (routine_of host (table_at l k)) (fine_destructor host (table_at l k) lt) has_functions;
    },
  )

  destructor_fits : (k : ℕ) (p : Presence) → k < 14 → All (FunctionFits c) (destructor_of kinds l k p)
  destructor_fits k Absent lt = All-nil (FunctionFits c)
  destructor_fits k Own lt = All-cons (FunctionFits c) (free_function kinds l k None) [] (free_fits k None tt) (All-nil (FunctionFits c))
  destructor_fits k Host lt = All-cons (FunctionFits c) (free_function kinds l k (Some k)) [] (free_fits k (Some k) lt) (All-nil (FunctionFits c))

  -- a post-return whose results are these, by its type's index
  post_fits : (there : Bool) (name : List ℕ) (ty : ℕ) (ps : List CoreType) → slice_get state_types ty ≡ Some (arrow ps []) → All (FunctionFits c) (post_function l there name ty)
  post_fits false name ty ps is = All-nil (FunctionFits c)
  post_fits true name ty ps is =
      let locals : List CoreType = ps ++ [] in
      All-cons (FunctionFits c) _ [] (
        arrow ps [],
        is,
        record {
          few = lit≤ tt;
          valid = λ rule. whole_body c locals [] (reset_code l) (reset_piece (in_body c locals []) (Some [] ∷ []) has_end l) rule;
        },
      ) (All-nil (FunctionFits c))

  functions_fit : All (FunctionFits c) (state_functions kinds l posts)
  functions_fit =
      All-cons (FunctionFits c) (realloc_function l) (each_kind (destructor_of kinds l) 0 kinds ++ posts_of l posts) realloc_fits
      (All-append (FunctionFits c) (each_kind (destructor_of kinds l) 0 kinds) (posts_of l posts) (each_all (destructor_of kinds l) (FunctionFits c) 14 0 kinds (omega (arith, few)) destructor_fits)
      (All-append (FunctionFits c) (post_function l posts.bare (codes "post") 2) _ (post_fits posts.bare (codes "post") 2 [] refl)
      (All-append (FunctionFits c) (post_function l posts.narrow (codes "post-i32") 0) _ (post_fits posts.narrow (codes "post-i32") 0 (I32 ∷ []) refl)
      (post_fits posts.broad (codes "post-i64") 3 (I64 ∷ []) refl))))

  single : length (imported_memories imports) ≡ 0
  single = ap length (no_memories 0 kinds)

  all_fit : Fits (state_parts kinds l image) (state_functions kinds l posts)
  all_fit = record {
    imports = each_all drop_import (λ (i : Import). ImportFits (length state_types) i.item) 14 0 kinds (omega (arith, few)) import_fits;
    imported = all_imported 0 kinds;
    single = omega (arith, single);
    memories = All-cons AreLimits _ [] (pages_fit l fits, refl) (All-nil AreLimits);
    globals = All-cons GlobalFits _ [] (refl, (_, refl)) (All-nil GlobalFits);
    exports = All-cons (λ (e : Export). ExportFits (length (imported_memories imports) + 1) e.item) _ [] (omega arith) (All-nil (λ (e : Export). ExportFits (length (imported_memories imports) + 1) e.item));
    names = distinct_names kinds l posts few (length imports);
    functions = functions_fit;
    segments = All-cons SegmentFits _ [] (_, refl) (All-nil SegmentFits);
    hold = λ some. omega arith;
  }

  pub state_valid : IsValidModule (state_of kinds l image posts)
  state_valid = are_valid (state_parts kinds l image) (state_functions kinds l posts) all_fit
