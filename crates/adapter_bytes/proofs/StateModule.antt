-- The state module may be written.
use Rattle.std.proofs.Common.{◌≡◌, ℕ, zero, suc, ◌+◌, ◌*◌, ◌<◌, ◌≤◌, ◌^◌, Bool, true, false, List, [], ◌∷◌, ◌++◌, Option, Some, None, map, length, drop, refl, sym, ap, ◌∙◌, arith, length-append}
use Rattle.std.specs.Prelude.{codes, IfSome, slice_get}
use Rattle.std.specs.Fmt.{decimal}
use Rattle.std.proofs.lemmas.List.{length-map}
use Rattle.std.proofs.lemmas.Option.{slice_get_within}
use Rattle.virt_base.specs.declared.core_type.CoreType.TheVariants.{I32}
use Rattle.wasm_format.specs.Format.{sized, u32_format}
use Rattle.wasm_ast.specs.declared.instr.Instr.{Instr}
use Rattle.wasm_ast.specs.declared.instr.Instr.TheVariants.{Unreachable, End}
use Rattle.wasm_ast.specs.declared.module.Body.{Body}
use Rattle.wasm_ast.specs.declared.module.Limits.{Limits}
use Rattle.wasm_ast.specs.declared.module.Global.{Global}
use Rattle.wasm_ast.specs.declared.module.Data.{Data}
use Rattle.wasm_ast.specs.declared.module.Data.TheVariants.{Active}
use Rattle.wasm_ast.specs.declared.module.Export.{Export}
use Rattle.wasm_ast.specs.declared.module.ExportItem.TheVariants.{Memory}
use Rattle.wasm_ast.specs.declared.module.Import.{Import}
use Rattle.wasm_ast.specs.declared.module.ImportItem.TheVariants.{Func}
use Rattle.wasm_ast.specs.Types.{core_func, limits}
use Rattle.wasm_ast.specs.Items.{import, export, global, body, segment}
use Rattle.core_write.specs.Written.{IsWritable, ModuleFits}
use Rattle.adapter_code.specs.declared.layout.Layout.{Layout}
use Rattle.adapter_code.specs.declared.statement.Width.TheVariants.{Narrow, Broad}
use Rattle.adapter_code.specs.declared.statement.IntOp.TheVariants.{LtU, Add, Sub, Shl, ShrU}
use Rattle.adapter_code.specs.Layout.{Fits, table_at, image_at, transfer_at, pages_of}
use Rattle.adapter_compile.specs.Instructions.{get, set, numeric, constant, opcode, routine_code}
use Rattle.adapter_compile.specs.Bounds.{nesting, brackets}
use Rattle.adapter_compile.specs.Does.{body_of, declared_of}
use Rattle.adapter_compile.specs.Handles.{drops_type}
use Rattle.adapter_transfer.specs.Transfer.{last_at, get_end, set_end, room_code, next_code, give_code, realloc_code, reset_code, realloc_type, reset_type}
use Rattle.adapter_transfer.specs.Transfer.{body_of as closed}
use Rattle.adapter_transfer.specs.declared.module.Defined.{Defined}
use Rattle.adapter_transfer.specs.Module.{exports_from}
use Rattle.adapter_bytes.specs.Spelled.{statements, AreNumbered, AreIndexes, IsSpelledIn}
use Rattle.adapter_bytes.proofs.Instructions.{get_short, set_short, get_global_short, set_global_short, constant_short, operator_short, trap_short}
use Rattle.adapter_bytes.proofs.Pieces.{nothing, joined, in_front, in_if}
use Rattle.adapter_bytes.proofs.RoutineLaws.{routine_spelled, body_spelled, declared_small, declared_few}
use Rattle.adapter_state.specs.declared.parts.Presence.{Presence}
use Rattle.adapter_state.specs.declared.parts.Presence.TheVariants.{Absent, Own, Host}
use Rattle.adapter_state.specs.declared.parts.Posts.{Posts}
use Rattle.adapter_state.specs.Destructor.{destroy_widths, routine_of}
use Rattle.adapter_state.specs.State.{each_kind, drop_import, calls_in, constant_code, realloc_function, free_function, destructor_of, post_function, posts_of, state_functions, state_types, state_parts, state_of}
use Rattle.adapter_state.proofs.Destroying.{fine_destructor, shallow_destructor}
use Rattle.adapter_state.proofs.EachKind.{each_length, one_import, one_destructor, three_posts, all_imported, none_at, calls_lead}
use Rattle.adapter_state.proofs.Fitting.{pages_fit}
use Rattle.adapter_bytes.proofs.Sections.{IsSmall, none, one_more, both, wider, section}
use Rattle.adapter_bytes.proofs.Items.{func_fits, IsName, fixed_name, decimal_name, joined_name, limits_fit, func_item, import_fits, memory_export, export_fits, global_fits, segment_fits}
use Rattle.adapter_bytes.proofs.Functions.{AreFunctions, function_of, functions_wider, functions_both, functions_small, exports_small, code_small, each_function}

-- ---- lists that are made kind by kind

pub each_import : (f : ℕ → Presence → List Import) (bound kind : ℕ) (ps : List Presence) → kind + length ps ≤ bound → ((k : ℕ) (p : Presence) → k < bound → IsSmall import 35 (f k p)) → IsSmall import (35 * length ps) (each_kind f kind ps)
each_import f bound kind [] le each = wider import 0 (35 * 0) [] (omega arith) (none import)
each_import f bound kind (p ∷ ps) le each =
    wider import (35 + 35 * length ps) (35 * suc (length ps)) (each_kind f kind (p ∷ ps)) (omega arith)
    (both import 35 (35 * length ps) (f kind p) (each_kind f (suc kind) ps) (each kind p (omega (arith, le))) (each_import f bound (suc kind) ps (omega (arith, le)) each))

-- an import of the host's, by a beginning of its name and a kind
pub kind_import : (front : List ℕ) (kind ty : ℕ) → IsName 5 front → kind < 14 → ty < 2 ^ 32 → let i : Import = record { «module» = codes "host"; name = front ++ decimal kind; item = Func ty } in IsSmall import 35 (i ∷ [])
kind_import front kind ty named lt low =
    let i = import_fits 4 15 6 (record { «module» = codes "host"; name = front ++ decimal kind; item = Func ty }) (omega arith) (omega arith) (fixed_name (codes "host") refl) (joined_name 5 10 front (decimal kind) named (decimal_name kind (omega (arith, lt)))) (func_item ty low) in
    one_more import 35 0 _ [] (omega arith) i.0 i.1 (none import)

pub drop_imports : (k : ℕ) (p : Presence) → k < 14 → IsSmall import 35 (drop_import k p)
drop_imports k Absent lt = wider import 0 35 [] (omega arith) (none import)
drop_imports k Own lt = wider import 0 35 [] (omega arith) (none import)
drop_imports k Host lt = kind_import (codes "drop-") k 0 (fixed_name (codes "drop-") refl) lt (omega arith)

-- ---- the functions that are not routines

room_spelled : (l : Layout) → IsSpelledIn 70 (room_code l)
room_spelled l =
    in_front (constant Narrow (last_at l)) 59 _ (constant_short Narrow (last_at l)) (in_front get_end 48 _ (get_global_short 0 (omega arith)) (in_front (numeric (opcode Sub Narrow)) 37 _ (operator_short Sub Narrow)
    (in_front (get 3) 26 _ (get_short 3 (omega arith)) (in_front (numeric (opcode LtU Narrow)) 15 _ (operator_short LtU Narrow) (in_if 11 (Unreachable ∷ []) (in_front Unreachable 0 [] trap_short nothing))))))

next_spelled : IsSpelledIn 143 (next_code ++ give_code)
next_spelled =
    in_front (get 3) 132 _ (get_short 3 (omega arith)) (in_front (constant Narrow 7) 121 _ (constant_short Narrow 7) (in_front (numeric (opcode Add Narrow)) 110 _ (operator_short Add Narrow)
    (in_front (constant Narrow 3) 99 _ (constant_short Narrow 3) (in_front (numeric (opcode ShrU Narrow)) 88 _ (operator_short ShrU Narrow) (in_front (constant Narrow 3) 77 _ (constant_short Narrow 3)
    (in_front (numeric (opcode Shl Narrow)) 66 _ (operator_short Shl Narrow) (in_front get_end 55 _ (get_global_short 0 (omega arith)) (in_front (numeric (opcode Add Narrow)) 44 _ (operator_short Add Narrow)
    (in_front (set 3) 33 _ (set_short 3 (omega arith)) (in_front get_end 22 _ (get_global_short 0 (omega arith)) (in_front (get 3) 11 _ (get_short 3 (omega arith)) (in_front set_end 0 _ (set_global_short 0 (omega arith)) nothing))))))))))))

closed_fits : (most : ℕ) (code : List Instr) → IsSpelledIn most code → body.Fits (closed code) × (length (body.write (closed code)) ≤ 7 + most)
closed_fits most code s = let b = body_spelled [] code most tt (omega arith) s in (b.0, omega (arith, b.1))

reset_spelled : (l : Layout) → IsSpelledIn 22 (reset_code l)
reset_spelled l = in_front (constant Narrow (transfer_at l)) 11 _ (constant_short Narrow (transfer_at l)) (in_front set_end 0 _ (set_global_short 0 (omega arith)) nothing)

posts_fit : (l : Layout) (there : Bool) (name : List ℕ) (ty : ℕ) → IsName 15 name → ty < 2 ^ 32 → AreFunctions 34 (post_function l there name ty)
posts_fit l false name ty named lt = tt
posts_fit l true name ty named lt = function_of 29 _ named lt (omega arith) (closed_fits 22 (reset_code l) (reset_spelled l))

post_name : (n : List ℕ) → length n ≤ 15 → IsName (length n) n → IsName 15 n
post_name n le s = record { text = s.text; few = le }

-- ---- destructors

no_repeats : (host : Option ℕ) (base : ℕ) → nesting (routine_of host base) ≡ 0
no_repeats None base = refl
no_repeats (Some kind) base = refl

at_0 : 0 < 2 ^ 32
at_0 = omega arith

at_8 : 8 < 2 ^ 32
at_8 = omega arith

at_12 : 12 < 2 ^ 32
at_12 = omega arith

few_statements : (host : Option ℕ) (base : ℕ) → statements (routine_of host base) ≤ 24
few_statements None base = omega arith
few_statements (Some kind) base = omega arith

numbered : (host : Option ℕ) (base : ℕ) → AreNumbered (routine_of host base)
numbered None base = (tt, (tt, (tt, (tt, (at_0, (tt, (tt, tt), (at_12, (tt, (at_8, (tt, (tt, (at_0, tt))))))))))))
numbered (Some kind) base = (tt, (tt, (tt, (tt, (at_8, (tt, (tt, ((at_12, (tt, tt)), tt, (tt, (tt, (tt, (tt, (at_0, (tt, (tt, tt), (at_12, (tt, (at_8, (tt, (tt, (at_0, tt))))))))))))))))))))

module _ (kinds : List Presence) (l : Layout) (few : length kinds ≤ 14) where
  imported_few : length (each_kind drop_import 0 kinds) ≤ 14
  imported_few = omega (arith, each_length drop_import 0 kinds one_import, few)

  indexes : AreIndexes (calls_in kinds)
  indexes = record {
    makes = λ kind f e. let never = none_at kind in absurd cc;
    drops = λ kind f e.
        let lead = calls_lead 0 0 kinds kind f e in
        let within = slice_get_within _ lead.0 0 lead.2 in
        omega (arith, lead.1, within, all_imported 0 kinds, imported_few);
  }

  free_fits : (kind : ℕ) (host : Option ℕ) → kind < 14 → IfSome host (λ k. k < 14) → AreFunctions 3000 (free_function kinds l kind host ∷ [])
  free_fits kind host lt h =
      let base = table_at l kind in
      let routine = routine_of host base in
      let none_in : nesting routine < 2 ^ 32 = omega (arith, no_repeats host base) in
      let long = declared_few (drop 1 destroy_widths) (nesting routine) in
      let code = routine_spelled destroy_widths (calls_in kinds) routine (fine_destructor host base h) (numbered host base) indexes (omega (arith, no_repeats host base)) (omega (arith, shallow_destructor host base)) in
      let b = body_spelled (declared_of (drop 1 destroy_widths) (nesting routine)) (routine_code destroy_widths (calls_in kinds) routine) (107 * statements routine + 4) (declared_small (drop 1 destroy_widths) (nesting routine) none_in) (omega (arith, long)) code in
      functions_wider 2805 3000 (free_function kinds l kind host ∷ []) (omega arith)
      (function_of 2800 (free_function kinds l kind host) (joined_name 5 10 (codes "free-") (decimal kind) (fixed_name (codes "free-") refl) (decimal_name kind (omega (arith, lt)))) (omega arith) (omega arith) (b.0, omega (arith, b.1, few_statements host base, long)))

  destructors_fit : (kind : ℕ) (p : Presence) → kind < 14 → AreFunctions 3000 (destructor_of kinds l kind p)
  destructors_fit kind Absent lt = tt
  destructors_fit kind Own lt = free_fits kind None lt tt
  destructors_fit kind Host lt = free_fits kind (Some kind) lt lt

  realloc_fits : AreFunctions 225 (realloc_function l ∷ [])
  realloc_fits = function_of 220 (realloc_function l) (post_name (codes "realloc") (omega arith) (fixed_name (codes "realloc") refl)) (omega arith) (omega arith) (closed_fits 213 (realloc_code l) (joined 70 143 (room_code l) (next_code ++ give_code) (room_spelled l) next_spelled))

  all_functions : (posts : Posts) → AreFunctions 43000 (state_functions kinds l posts)
  all_functions posts =
      let p = functions_both 34 68 (post_function l posts.bare (codes "post") 2) (post_function l posts.narrow (codes "post-i32") 0 ++ post_function l posts.broad (codes "post-i64") 3)
      (posts_fit l posts.bare (codes "post") 2 (post_name (codes "post") (omega arith) (fixed_name (codes "post") refl)) (omega arith))
      (functions_both 34 34 (post_function l posts.narrow (codes "post-i32") 0) (post_function l posts.broad (codes "post-i64") 3)
      (posts_fit l posts.narrow (codes "post-i32") 0 (post_name (codes "post-i32") (omega arith) (fixed_name (codes "post-i32") refl)) (omega arith))
      (posts_fit l posts.broad (codes "post-i64") 3 (post_name (codes "post-i64") (omega arith) (fixed_name (codes "post-i64") refl)) (omega arith))) in
      let frees = each_function (destructor_of kinds l) 14 0 kinds (omega (arith, few)) destructors_fit in
      functions_wider (225 + (3000 * length kinds + 102)) 43000 (state_functions kinds l posts) (omega (arith, few))
      (functions_both 225 (3000 * length kinds + 102) (realloc_function l ∷ []) (each_kind (destructor_of kinds l) 0 kinds ++ posts_of l posts) realloc_fits
      (functions_both (3000 * length kinds) 102 (each_kind (destructor_of kinds l) 0 kinds) (posts_of l posts) frees p))

  functions_few : (posts : Posts) → length (state_functions kinds l posts) ≤ 18
  functions_few posts = omega (arith, length-append (each_kind (destructor_of kinds l) 0 kinds) (posts_of l posts), each_length (destructor_of kinds l) 0 kinds (one_destructor kinds l), three_posts l posts, few)

-- ---- the module

types_small : IsSmall core_func 60 state_types
types_small =
    let a = func_fits drops_type (omega arith) (omega arith) in
    let b = func_fits realloc_type (omega arith) (omega arith) in
    let c = func_fits (reset_type None) (omega arith) (omega arith) in
    let d = func_fits (reset_type (Some Broad)) (omega arith) (omega arith) in
    wider core_func 51 60 state_types (omega arith)
    (one_more core_func 12 39 drops_type _ (omega arith) a.0 a.1 (one_more core_func 16 23 realloc_type _ (omega arith) b.0 b.1
    (one_more core_func 11 12 (reset_type None) _ (omega arith) c.0 c.1 (one_more core_func 12 0 (reset_type (Some Broad)) [] (omega arith) d.0 d.1 (none core_func)))))

pub state_writable : (kinds : List Presence) (l : Layout) (image : List ℕ) (posts : Posts) → length kinds ≤ 14 → Fits l → length image ≡ l.image_len → IsWritable (state_of kinds l image posts)
state_writable kinds l image posts few fits long =
    let ds = state_functions kinds l posts in
    let at = length (each_kind drop_import 0 kinds) in
    let low : at ≤ 14 = imported_few kinds l few in
    let count = functions_few kinds l few posts in
    let fs = all_functions kinds l few posts in
    let pages : pages_of l < 2 ^ 32 = omega (arith, pages_fit l fits) in
    let m = limits_fit (pages_of l) pages in
    let g = global_fits (transfer_at l) in
    let e = export_fits 6 6 (record { name = codes "memory"; item = Memory 0 }) (omega arith) (fixed_name (codes "memory") refl) (memory_export 0 (omega arith)) in
    let within : length image ≤ 268435456 = omega (arith, long, fits) in
    let s = segment_fits (image_at l) image (omega (arith, within)) in
    record {
      fits = record {
        types = section core_func 60 state_types (omega arith) types_small;
        imports = section import (35 * length kinds) (each_kind drop_import 0 kinds) (omega (arith, few)) (each_import drop_import 14 0 kinds (omega (arith, few)) drop_imports);
        functions = section u32_format (5 * length ds) _ (omega (arith, count)) (functions_small 43000 ds fs);
        tables = tt;
        memories = section limits 11 _ (omega arith) (one_more limits 11 0 _ [] (omega arith) m.0 m.1 (none limits));
        globals = section global 15 _ (omega arith) (one_more global 15 0 _ [] (omega arith) g.0 g.1 (none global));
        exports = section export (17 + 26 * length ds) _ (omega (arith, count)) (one_more export 17 (26 * length ds) _ (exports_from at ds) (omega arith) e.0 e.1 (exports_small 43000 at ds (omega (arith, low, count)) fs));
        start = tt;
        elements = tt;
        data_count = tt;
        code = section (sized body) 43000 _ (omega arith) (code_small 43000 ds fs);
        segments = section segment (19 + length image) _ (omega (arith, within)) (wider segment ((19 + length image) + 0) (19 + length image) _ (omega arith) (one_more segment (19 + length image) 0 _ [] (omega arith) s.0 s.1 (none segment)));
      };
      bodies = length-map ds (λ (d : Defined). d.body) ∙ sym (length-map ds (λ (d : Defined). d.ty));
      segments = tt;
    }
