-- The stubs module may be written.
use Rattle.std.proofs.Common.{◌≡◌, ℕ, zero, suc, ◌+◌, ◌-◌, ◌*◌, ◌<◌, ◌≤◌, ◌^◌, max, Bool, true, false, List, [], ◌∷◌, ◌++◌, Option, Some, None, All, map, length, drop, inl, inr, refl, sym, ap, subst, ◌∙◌, arith, append_assoc, length-append}
use Rattle.std.specs.Prelude.{◌⊎◌, codes, if◌then◌else◌, slice_get}
use Rattle.std.specs.Fmt.{decimal}
use Rattle.std.proofs.Math.Nat.{le-max_left, le-max_right}
use Rattle.std.proofs.lemmas.List.{length-map, length-drop}
use Rattle.std.proofs.lemmas.List.Elements.{All-head, All-tail}
use Rattle.std.proofs.lemmas.Option.{slice_get_within}
use Rattle.virt_base.specs.declared.core_type.CoreType.{CoreType}
use Rattle.wasm_format.specs.Format.{sized, u32_format}
use Rattle.wasm_ast.specs.declared.instr.BlockType.TheVariants.{Empty}
use Rattle.wasm_ast.specs.declared.instr.Instr.{Instr}
use Rattle.wasm_ast.specs.declared.instr.Instr.TheVariants.{If, End, Call}
use Rattle.wasm_ast.specs.declared.module.CoreFunc.{CoreFunc}
use Rattle.wasm_ast.specs.declared.module.Limits.{Limits}
use Rattle.wasm_ast.specs.declared.module.Import.{Import}
use Rattle.wasm_ast.specs.declared.module.ImportItem.TheVariants.{Func}
use Rattle.wasm_ast.specs.Types.{core_func}
use Rattle.wasm_ast.specs.Items.{import, export, body}
use Rattle.core_write.specs.Written.{IsWritable}
use Rattle.core_validate.specs.Spaces.{imported_functions}
use Rattle.adapter_code.specs.declared.layout.Layout.{Layout}
use Rattle.adapter_code.specs.Code.{code_of}
use Rattle.adapter_code.specs.Layout.{Fits, pages_of}
use Rattle.adapter_compile.specs.declared.calls.HandleCalls.{HandleCalls}
use Rattle.adapter_compile.specs.Instructions.{get, set, routine_code}
use Rattle.adapter_compile.specs.Bounds.{nesting}
use Rattle.adapter_compile.specs.Does.{declared_of}
use Rattle.adapter_compile.specs.Handles.{makes_type, drops_type}
use Rattle.adapter_transfer.specs.Transfer.{realloc_type}
use Rattle.adapter_transfer.specs.declared.module.Defined.{Defined}
use Rattle.adapter_transfer.specs.Module.{exports_from}
use Rattle.adapter_bytes.specs.Spelled.{statements, AreIndexes, IsSpelledIn}
use Rattle.adapter_bytes.proofs.Instructions.{get_short, set_short, invoke_short}
use Rattle.adapter_bytes.proofs.Pieces.{nothing, wider as piece_wider, joined, in_front, in_if}
use Rattle.adapter_bytes.proofs.RoutineLaws.{routine_spelled, body_spelled, declared_small, declared_few}
use Rattle.adapter_state.specs.declared.parts.Presence.{Presence}
use Rattle.adapter_state.specs.declared.parts.Presence.TheVariants.{Absent, Own, Host}
use Rattle.adapter_state.specs.State.{each_kind, drop_import}
use Rattle.adapter_state.proofs.EachKind.{each_length, one_import, all_imported, calls_lead}
use Rattle.adapter_state.proofs.Fitting.{pages_fit}
use Rattle.adapter_stubs.specs.declared.host_call.HostCall.{HostCall}
use Rattle.adapter_stubs.specs.declared.stub.HostFunc.{HostFunc}
use Rattle.adapter_stubs.specs.declared.stub.Stub.{Stub}
use Rattle.adapter_stubs.specs.Stub.{gets, keeps_result, host_code, result_at}
use Rattle.adapter_stubs.specs.Widths.{gives, host_params, stub_widths, flag_of, result_of}
use Rattle.adapter_stubs.specs.Bodies.{host_call, asking_code, answer_code, stub_code, counters_of, stub_body, HostFits, IsStub}
use Rattle.adapter_stubs.specs.Stubs.{new_import, memory_import, realloc_import, first_drop, calls_in, host_import, host_type, asked, host_imports, host_types, stub_types, stub_function, stub_functions, stubs_types, stubs_imports, first_host, stubs_parts, stubs_of, AreStubs}
use Rattle.adapter_stubs.proofs.Locals.{at_flag, at_result}
use Rattle.adapter_stubs.proofs.Importing.{one_new, all_news, news_lead}
use Rattle.adapter_stubs.proofs.Counting.{functions_length}
use Rattle.adapter_bytes.specs.Weight.{weight_of, weight_in, most_weight, IsNumberedHost, IsNumberedStub, AreNumberedStubs}
use Rattle.adapter_bytes.proofs.Sections.{IsSmall, none, one_more, both, wider, section}
use Rattle.adapter_bytes.proofs.Items.{func_fits, IsName, fixed_name, decimal_name, func_item, memory_item, import_fits}
use Rattle.adapter_bytes.proofs.Functions.{AreFunctions, function_of, functions_wider, functions_both, functions_small, exports_small, code_small}
use Rattle.adapter_bytes.proofs.StateModule.{each_import, kind_import, drop_imports}

-- ---- the code of a stub

gets_spelled : (from n : ℕ) → from + n ≤ 2 ^ 32 → IsSpelledIn (11 * n) (gets from n)
gets_spelled from zero le = nothing
gets_spelled from (suc n) le = piece_wider (11 + 11 * n) (11 * suc n) _ (omega arith) (in_front (get from) (11 * n) (gets (suc from) n) (get_short from (omega (arith, le))) (gets_spelled (suc from) n (omega (arith, le))))

kept_spelled : (b : Bool) (i : ℕ) → i < 2 ^ 32 → IsSpelledIn 11 (if b then set i ∷ [] else [])
kept_spelled true i lt = in_front (set i) 0 [] (set_short i lt) nothing
kept_spelled false i lt = piece_wider 0 11 [] (omega arith) nothing

-- how many locals there are
record HasLocals (s : Stub) : Type 0 where
  all : length s.flat.params + length (host_params s.host) + 2 ≤ length (stub_widths s)
  few : length (stub_widths s) ≤ 40000

has_locals : (s : Stub) → IsStub s → HasLocals s
has_locals s is =
    let within = slice_get_within (stub_widths s) (result_of s) _ (at_result s) in
    record { all = omega (arith, within); few = omega (arith, is.few) }

module _ (calls : HandleCalls) (indexes : AreIndexes calls) (at : ℕ) (low : at < 2 ^ 32) (s : Stub) (is : IsStub s) (numbered : IsNumberedStub s) where
  abbrev W : ℕ
  W = length (stub_widths s)

  abbrev B : ℕ
  B = 107 * statements (code_of s.before.items)

  abbrev A : ℕ
  A = 107 * statements (code_of s.after.items)

  before_spelled : IsSpelledIn (B + 4) (routine_code (stub_widths s) calls (code_of s.before.items))
  before_spelled =
      let le = le-max_left (nesting (code_of s.before.items)) (nesting (code_of s.after.items)) in
      routine_spelled (stub_widths s) calls (code_of s.before.items) is.before numbered.before indexes (omega (arith, le, is.few)) (omega (arith, is.before_shallow))

  after_spelled : IsSpelledIn (A + 4) (routine_code (stub_widths s) calls (code_of s.after.items))
  after_spelled =
      let le = le-max_right (nesting (code_of s.before.items)) (nesting (code_of s.after.items)) in
      routine_spelled (stub_widths s) calls (code_of s.after.items) is.after numbered.after indexes (omega (arith, le, is.few)) (omega (arith, is.after_shallow))

  host_spelled : (c : HostCall) → c.function < 2 ^ 32 → flag_of s + c.params + 2 ≤ W → IsSpelledIn (11 * c.params + A + 41) (host_code (stub_widths s) calls (flag_of s) c (code_of s.after.items))
  host_spelled c small within =
      let few = (has_locals s is).few in
      let g = gets (flag_of s + 1) c.params in
      let k = keeps_result (flag_of s) c in
      let r = routine_code (stub_widths s) calls (code_of s.after.items) in
      let inner : IsSpelledIn (11 * c.params + (11 + (11 + (A + 4)))) (g ++ Call c.function ∷ (k ++ r)) =
      joined (11 * c.params) (11 + (11 + (A + 4))) g (Call c.function ∷ (k ++ r)) (gets_spelled (flag_of s + 1) c.params (omega (arith, within, few)))
      (in_front (Call c.function) (11 + (A + 4)) (k ++ r) (invoke_short c.function small) (joined 11 (A + 4) k r (kept_spelled c.gives (result_at (flag_of s) c) (omega (arith, within, few))) after_spelled)) in
      let same : (g ++ Call c.function ∷ (k ++ r)) ++ End ∷ [] ≡ g ++ Call c.function ∷ (k ++ (r ++ End ∷ [])) =
      append_assoc g (Call c.function ∷ (k ++ r)) (End ∷ []) ∙ ap (λ z. g ++ Call c.function ∷ z) (append_assoc k r (End ∷ [])) in
      let branch = subst (λ z. IsSpelledIn (4 + (11 * c.params + (11 + (11 + (A + 4))))) (If Empty ∷ z)) same (in_if (11 * c.params + (11 + (11 + (A + 4)))) _ inner) in
      piece_wider (11 + (4 + (11 * c.params + (11 + (11 + (A + 4)))))) _ _ (omega arith) (in_front (get (flag_of s)) (4 + (11 * c.params + (11 + (11 + (A + 4))))) _ (get_short (flag_of s) (omega (arith, within, few))) branch)

  asking_spelled : (o : Option HostFunc) → flag_of s + length (host_params o) + 2 ≤ W → IsSpelledIn (11 * length (host_params o) + A + 41) (asking_code calls at s o)
  asking_spelled None within = piece_wider 0 _ [] (omega arith) nothing
  asking_spelled (Some h) within = host_spelled (host_call at h) low within

  answer_spelled : (ts : List CoreType) → IsSpelledIn 11 (answer_code (result_of s) ts)
  answer_spelled [] = piece_wider 0 11 [] (omega arith) nothing
  answer_spelled (t ∷ ts) =
      let l = has_locals s is in
      in_front (get (result_of s)) 0 [] (get_short (result_of s) (omega (arith, l.all, l.few))) nothing

  code_spelled : IsSpelledIn (B + A + 11 * length (host_params s.host) + 56) (stub_code calls at s)
  code_spelled =
      let l = has_locals s is in
      let q = 11 * length (host_params s.host) in
      piece_wider ((B + 4) + ((q + A + 41) + 11)) _ _ (omega arith)
      (joined (B + 4) ((q + A + 41) + 11) (routine_code (stub_widths s) calls (code_of s.before.items)) (asking_code calls at s s.host ++ answer_code (result_of s) s.flat.results) before_spelled
      (joined (q + A + 41) 11 (asking_code calls at s s.host) (answer_code (result_of s) s.flat.results) (asking_spelled s.host (omega (arith, l.all))) (answer_spelled s.flat.results)))

  stub_fits : (place ty : ℕ) → place < 2 ^ 32 → ty < 2 ^ 32 → weight_of s ≤ most_weight → AreFunctions (107 * weight_of s) (stub_function calls place at ty s ∷ [])
  stub_fits place ty low_place low_ty light =
      let l = has_locals s is in
      let rest = drop (length s.flat.params) (stub_widths s) in
      let long = declared_few rest (counters_of s) in
      let left = length-drop (length s.flat.params) (stub_widths s) in
      let b = body_spelled (declared_of rest (counters_of s)) (stub_code calls at s) (B + A + 11 * length (host_params s.host) + 56) (declared_small rest (counters_of s) (omega (arith, is.few))) (omega (arith, long, left, l.few)) code_spelled in
      let named = decimal_name place low_place in
      functions_wider (5 + (107 * weight_of s - 5)) (107 * weight_of s) (stub_function calls place at ty s ∷ []) (omega (arith, l.all))
      (function_of (107 * weight_of s - 5) (stub_function calls place at ty s) (record { text = named.text; few = omega (arith, named.few) }) low_ty (omega (arith, light)) (b.0, omega (arith, b.1, long, left, l.all)))

-- ---- all stubs

asked_few : (o : Option HostFunc) → asked o ≤ 1
asked_few None = omega arith
asked_few (Some h) = omega arith

hosts_few : (ss : List Stub) → length (host_types ss) ≤ length ss
hosts_few [] = omega arith
hosts_few (s ∷ ss) = let one = type_few s.host in omega (arith, one, hosts_few ss, length-append (host_type s.host) (host_types ss))
  where
    type_few : (o : Option HostFunc) → length (host_type o) ≤ 1
    type_few None = omega arith
    type_few (Some h) = omega arith

length_light : (ss : List Stub) → All IsStub ss → 2 * length ss ≤ weight_in ss
length_light [] are = omega arith
length_light (s ∷ ss) are =
    let l = has_locals s (All-head IsStub s ss are) in
    omega (arith, l.all, length_light ss (All-tail IsStub s ss are))

all_stubs : (calls : HandleCalls) → AreIndexes calls → (place at ty : ℕ) (ss : List Stub) → All IsStub ss → AreNumberedStubs ss → place + length ss < 2 ^ 32 → at + length ss < 2 ^ 32 → ty + length ss < 2 ^ 32 → weight_in ss ≤ most_weight → AreFunctions (107 * weight_in ss) (stub_functions calls place at ty ss)
all_stubs calls indexes place at ty [] are numbered a b c light = tt
all_stubs calls indexes place at ty (s ∷ ss) are numbered a b c light =
    functions_wider (107 * weight_of s + 107 * weight_in ss) (107 * weight_in (s ∷ ss)) (stub_functions calls place at ty (s ∷ ss)) (omega arith)
    (functions_both (107 * weight_of s) (107 * weight_in ss) (stub_function calls place at ty s ∷ []) (stub_functions calls (suc place) (at + asked s.host) (suc ty) ss)
    (stub_fits calls indexes at (omega (arith, b)) s (All-head IsStub s ss are) numbered.0 place ty (omega (arith, a)) (omega (arith, c)) (omega (arith, light)))
    (all_stubs calls indexes (suc place) (at + asked s.host) (suc ty) ss (All-tail IsStub s ss are) numbered.1 (omega (arith, a)) (omega (arith, b, asked_few s.host)) (omega (arith, c)) (omega (arith, light))))

results_few : (s : Stub) (rs : List CoreType) → length s.flat.results ≤ 1 → (rs ≡ []) ⊎ (rs ≡ s.flat.results) → length rs ≤ 1
results_few s rs le (inl e) = omega (arith, ap length e)
results_few s rs le (inr e) = omega (arith, le, ap length e)

host_type_small : (s : Stub) (o : Option HostFunc) (n : ℕ) → length s.flat.results ≤ 1 → HostFits s.flat.results o → length (host_params o) + 12 ≤ n → n < 2 ^ 31 → IsSmall core_func n (host_type o)
host_type_small s None n le fits few lt = wider core_func 0 n [] (omega arith) (none core_func)
host_type_small s (Some h) n le fits few lt =
    let r = results_few s h.flat.results le fits.1 in
    let f = func_fits h.flat (omega (arith, few, lt)) (omega (arith, r)) in
    wider core_func (n + 0) n _ (omega arith) (one_more core_func n 0 h.flat [] (omega (arith, few)) f.0 (omega (arith, f.1, r, few)) (none core_func))

host_types_small : (ss : List Stub) → All IsStub ss → weight_in ss ≤ most_weight → IsSmall core_func (7 * weight_in ss) (host_types ss)
host_types_small [] are light = none core_func
host_types_small (s ∷ ss) are light =
    let is = All-head IsStub s ss are in
    let l = has_locals s is in
    wider core_func (7 * weight_of s + 7 * weight_in ss) _ _ (omega arith)
    (both core_func (7 * weight_of s) (7 * weight_in ss) (host_type s.host) (host_types ss) (host_type_small s s.host (7 * weight_of s) is.single is.host (omega (arith, l.all)) (omega (arith, light)))
    (host_types_small ss (All-tail IsStub s ss are) (omega (arith, light))))

stub_types_small : (ss : List Stub) → All IsStub ss → weight_in ss ≤ most_weight → IsSmall core_func (7 * weight_in ss) (stub_types ss)
stub_types_small [] are light = none core_func
stub_types_small (s ∷ ss) are light =
    let is = All-head IsStub s ss are in
    let l = has_locals s is in
    let f = func_fits s.flat (omega (arith, l.all, l.few)) (omega (arith, is.single)) in
    wider core_func (7 * weight_of s + 7 * weight_in ss) _ _ (omega arith)
    (one_more core_func (7 * weight_of s) (7 * weight_in ss) s.flat (stub_types ss) (omega (arith, l.all)) f.0 (omega (arith, f.1, is.single, l.all)) (stub_types_small ss (All-tail IsStub s ss are) (omega (arith, light))))

host_import_small : (ty : ℕ) (o : Option HostFunc) (n : ℕ) → ty < 2 ^ 32 → IsNumberedHost o → 30 ≤ n → IsSmall import n (host_import ty o)
host_import_small ty None n lt numbered le = wider import 0 n [] (omega arith) (none import)
host_import_small ty (Some h) n lt numbered le =
    let i = import_fits 4 10 6 (record { «module» = codes "host"; name = decimal h.function; item = Func ty }) (omega arith) (omega arith) (fixed_name (codes "host") refl) (decimal_name h.function numbered) (func_item ty lt) in
    wider import (30 + 0) n _ (omega (arith, le)) (one_more import 30 0 _ [] (omega arith) i.0 i.1 (none import))

host_imports_small : (ty : ℕ) (ss : List Stub) → All IsStub ss → AreNumberedStubs ss → ty + length ss < 2 ^ 32 → IsSmall import (15 * weight_in ss) (host_imports ty ss)
host_imports_small ty [] are numbered lt = none import
host_imports_small ty (s ∷ ss) are numbered lt =
    let is = All-head IsStub s ss are in
    let l = has_locals s is in
    wider import (15 * weight_of s + 15 * weight_in ss) _ _ (omega arith)
    (both import (15 * weight_of s) (15 * weight_in ss) (host_import ty s.host) (host_imports (ty + asked s.host) ss) (host_import_small ty s.host (15 * weight_of s) (omega (arith, lt)) numbered.0.host (omega (arith, l.all)))
    (host_imports_small (ty + asked s.host) ss (All-tail IsStub s ss are) numbered.1 (omega (arith, lt, asked_few s.host))))

-- ---- the module

new_imports : (k : ℕ) (p : Presence) → k < 14 → IsSmall import 35 (new_import k p)
new_imports k Absent lt = wider import 0 35 [] (omega arith) (none import)
new_imports k Own lt = kind_import (codes "new-") k 2 (record { text = (fixed_name (codes "new-") refl).text; few = omega arith }) lt (omega arith)
new_imports k Host lt = kind_import (codes "new-") k 2 (record { text = (fixed_name (codes "new-") refl).text; few = omega arith }) lt (omega arith)

module _ (kinds : List Presence) (l : Layout) (stubs : List Stub) (few : length kinds ≤ 14) (fits : Fits l) (are : AreStubs stubs) (numbered : AreNumberedStubs stubs) (light : weight_in stubs ≤ most_weight) where
  drops_few : first_drop kinds ≤ 15
  drops_few = omega (arith, each_length new_import 0 kinds one_new, few)

  first_few : first_host kinds ≤ 29
  first_few = omega (arith, drops_few, each_length drop_import 0 kinds one_import, few)

  indexes : AreIndexes (calls_in kinds)
  indexes = record {
    makes = λ kind f e.
        let lead = news_lead 1 0 kinds kind f e in
        let within = slice_get_within _ lead.0 2 lead.2 in
        omega (arith, lead.1, within, all_news 0 kinds, each_length new_import 0 kinds one_new, few);
    drops = λ kind f e.
        let lead = calls_lead (first_drop kinds) 0 kinds kind f e in
        let within = slice_get_within _ lead.0 0 lead.2 in
        omega (arith, lead.1, within, all_imported 0 kinds, each_length drop_import 0 kinds one_import, few, drops_few);
  }

  abbrev N : ℕ
  N = weight_in stubs

  types_small : IsSmall core_func (42 + (7 * N + 7 * N)) (stubs_types stubs)
  types_small =
      let a = func_fits drops_type (omega arith) (omega arith) in
      let b = func_fits realloc_type (omega arith) (omega arith) in
      let c = func_fits makes_type (omega arith) (omega arith) in
      wider core_func (12 + (16 + (13 + (7 * N + 7 * N)))) _ _ (omega arith)
      (one_more core_func 12 (16 + (13 + (7 * N + 7 * N))) drops_type _ (omega arith) a.0 a.1 (one_more core_func 16 (13 + (7 * N + 7 * N)) realloc_type _ (omega arith) b.0 b.1
      (one_more core_func 13 (7 * N + 7 * N) makes_type _ (omega arith) c.0 c.1 (both core_func (7 * N) (7 * N) (host_types stubs) (stub_types stubs) (host_types_small stubs are.each light) (stub_types_small stubs are.each light)))))

  imports_small : IsSmall import (1100 + 15 * N) (stubs_imports kinds l stubs)
  imports_small =
      let m = import_fits 5 6 12 (memory_import l) (omega arith) (omega arith) (fixed_name (codes "state") refl) (fixed_name (codes "memory") refl) (memory_item (pages_of l) (omega (arith, pages_fit l fits))) in
      let r = import_fits 5 7 6 realloc_import (omega arith) (omega arith) (fixed_name (codes "state") refl) (fixed_name (codes "realloc") refl) (func_item 1 (omega arith)) in
      let news = each_import new_import 14 0 kinds (omega (arith, few)) new_imports in
      let drops = each_import drop_import 14 0 kinds (omega (arith, few)) drop_imports in
      let hosted = host_imports_small 3 stubs are.each numbered (omega (arith, are.few)) in
      let k = 35 * length kinds in
      wider import (33 + (28 + (k + (k + 15 * N)))) _ _ (omega (arith, few))
      (one_more import 33 (28 + (k + (k + 15 * N))) (memory_import l) _ (omega arith) m.0 m.1 (one_more import 28 (k + (k + 15 * N)) realloc_import _ (omega arith) r.0 r.1
      (both import k (k + 15 * N) (each_kind new_import 0 kinds) (each_kind drop_import 0 kinds ++ host_imports 3 stubs) news (both import k (15 * N) (each_kind drop_import 0 kinds) (host_imports 3 stubs) drops hosted))))

  pub stubs_writable : IsWritable (stubs_of kinds l stubs)
  stubs_writable =
      let ds = stub_functions (calls_in kinds) 0 (first_host kinds) (3 + length (host_types stubs)) stubs in
      let hosts = hosts_few stubs in
      let count : length ds ≡ length stubs = functions_length (calls_in kinds) 0 (first_host kinds) (3 + length (host_types stubs)) stubs in
      let fs = all_stubs (calls_in kinds) indexes 0 (first_host kinds) (3 + length (host_types stubs)) stubs are.each numbered (omega (arith, are.few)) (omega (arith, are.few, first_few)) (omega (arith, are.few, hosts)) light in
      let half = length_light stubs are.each in
      record {
        fits = record {
          types = section core_func (42 + (7 * N + 7 * N)) _ (omega (arith, light)) types_small;
          imports = section import (1100 + 15 * N) _ (omega (arith, light)) imports_small;
          functions = section u32_format (5 * length ds) _ (omega (arith, count, half, light)) (functions_small (107 * N) ds fs);
          tables = tt;
          memories = tt;
          globals = tt;
          exports = section export (26 * length ds) _ (omega (arith, count, half, light)) (exports_small (107 * N) (first_host kinds + length (host_types stubs)) ds (omega (arith, count, are.few, hosts, first_few)) fs);
          start = tt;
          elements = tt;
          data_count = tt;
          code = section (sized body) (107 * N) _ (omega (arith, light)) (code_small (107 * N) ds fs);
          segments = tt;
        };
        bodies = length-map ds (λ (d : Defined). d.body) ∙ sym (length-map ds (λ (d : Defined). d.ty));
        segments = tt;
      }
