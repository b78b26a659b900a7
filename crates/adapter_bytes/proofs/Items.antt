-- The items of the adapter's modules: that each may be written, and in how many bytes.
use Rattle.std.proofs.Common.{◌≡◌, ℕ, zero, suc, ◌+◌, ◌<◌, ◌≤◌, ◌^◌, ◌&&◌, nat_lt, get_or, Bool, true, false, List, [], ◌∷◌, ◌++◌, Some, length, refl, arith, length-append}
use Rattle.std.specs.Prelude.{codes}
use Rattle.std.specs.Fmt.{decimal}
use Rattle.std.proofs.lemmas.Bool.{ltb-true}
use Rattle.std.specs.List.{AllByRecursion}
use Rattle.std.specs.Str.{IsUtf8}
use Rattle.std.proofs.lemmas.Fmt.{IsAscii-decimal, length-decimal-le}
use Rattle.std.proofs.lemmas.Str.{IsUtf8-append, IsUtf8-from_ascii}
use Rattle.virt_base.specs.declared.core_type.CoreType.{CoreType}
use Rattle.virt_base.specs.declared.core_type.CoreType.TheVariants.{I32, I64, Funcref, Externref}
use Rattle.wasm_format.specs.Format.{vec, sized, anything, name, u32_format, write_items}
use Rattle.wasm_format.proofs.NameLaws.{is_text}
use Rattle.wasm_ast.specs.declared.module.CoreFunc.{CoreFunc}
use Rattle.wasm_ast.specs.declared.module.Limits.{Limits}
use Rattle.wasm_ast.specs.declared.module.Global.{Global}
use Rattle.wasm_ast.specs.declared.module.Import.{Import}
use Rattle.wasm_ast.specs.declared.module.ImportItem.{ImportItem}
use Rattle.wasm_ast.specs.declared.module.ImportItem.TheVariants as imported
use Rattle.wasm_ast.specs.declared.module.Export.{Export}
use Rattle.wasm_ast.specs.declared.module.ExportItem.{ExportItem}
use Rattle.wasm_ast.specs.declared.module.ExportItem.TheVariants as exported
use Rattle.wasm_ast.specs.declared.module.Data.{Data}
use Rattle.wasm_ast.specs.declared.module.Data.TheVariants.{Active}
use Rattle.wasm_ast.specs.declared.instr.Instr.{Instr}
use Rattle.wasm_ast.specs.declared.instr.Instr.TheVariants.{End}
use Rattle.wasm_ast.specs.Types.{core_type, core_func, limits, mutability, global_type}
use Rattle.wasm_ast.specs.Expressions.{expr}
use Rattle.wasm_ast.specs.Items.{import_item, import, export_item, export, global, segment}
use Rattle.adapter_code.specs.declared.statement.Width.TheVariants.{Narrow}
use Rattle.adapter_compile.specs.Instructions.{constant}
use Rattle.adapter_bytes.proofs.Numbers.{few_unsigned}
use Rattle.adapter_bytes.proofs.Instructions.{constant_short}
use Rattle.adapter_bytes.proofs.Pieces.{nothing, in_front}
use Rattle.adapter_bytes.proofs.RoutineLaws.{type_fits, type_few, code_fits}
use Rattle.adapter_state.specs.State.{constant_code}

-- ---- types of functions

types_fit : (ts : List CoreType) → AllByRecursion core_type.Fits ts × (length (write_items core_type ts) ≤ length ts)
types_fit [] = (tt, omega arith)
types_fit (t ∷ ts) =
    let more = types_fit ts in
    ((type_fits t, more.0), omega (arith, type_few t, more.1, length-append (core_type.write t) (write_items core_type ts)))

listed : (ts : List CoreType) → length ts < 2 ^ 32 → (vec core_type).Fits ts × (length ((vec core_type).write ts) ≤ 5 + length ts)
unfolding u32_format
listed ts lt =
    let all = types_fit ts in
    ((lt, all.0), omega (arith, all.1, few_unsigned 4 (length ts), length-append (u32_format.write (length ts)) (write_items core_type ts)))

pub func_fits : (f : CoreFunc) → length f.params < 2 ^ 32 → length f.results < 2 ^ 32 → core_func.Fits f × (length (core_func.write f) ≤ 11 + length f.params + length f.results)
unfolding core_func
func_fits f params results =
    let p = listed f.params params in
    let r = listed f.results results in
    ((refl, (p.0, r.0)), omega (arith, p.1, r.1, length-append ((vec core_type).write f.params) ((vec core_type).write f.results)))

-- ---- names

pub record IsName (most : ℕ) (n : List ℕ) : Type 0 where
  pub text : IsUtf8 n
  pub few : length n ≤ most

both_true : (a b : Bool) → (a && b) ≡ true → (a ≡ true) × (b ≡ true)
both_true true b e = (refl, e)
both_true false b e = absurd cc

-- a name that is written out is ASCII, as a test that computes
abbrev pub all_ascii : List ℕ → Bool
all_ascii [] = true
all_ascii (b ∷ bs) = nat_lt b 128 && all_ascii bs

ascii_is : (bs : List ℕ) → all_ascii bs ≡ true → (i : ℕ) → get_or bs i 0 < 128
ascii_is [] e i = omega arith
ascii_is (b ∷ bs) e zero = ltb-true b 128 (both_true (nat_lt b 128) (all_ascii bs) e).0
ascii_is (b ∷ bs) e (suc i) = ascii_is bs (both_true (nat_lt b 128) (all_ascii bs) e).1 i

pub fixed_name : (n : List ℕ) → all_ascii n ≡ true → IsName (length n) n
fixed_name n is = record { text = IsUtf8-from_ascii n (ascii_is n is); few = omega arith }

pub decimal_name : (n : ℕ) → n < 2 ^ 32 → IsName 10 (decimal n)
decimal_name n lt =
    let small : n < 2 ^ 64 = omega (arith, lt) in
    record { text = IsUtf8-from_ascii (decimal n) (IsAscii-decimal n small); few = length-decimal-le 10 n (omega arith) (omega (arith, lt)) small }

pub joined_name : (a b : ℕ) (m n : List ℕ) → IsName a m → IsName b n → IsName (a + b) (m ++ n)
joined_name a b m n s t = record { text = IsUtf8-append m n s.text t.text; few = omega (arith, s.few, t.few, length-append m n) }

pub name_fits : (k : ℕ) (n : List ℕ) → k < 2 ^ 32 → IsName k n → name.Fits n × (length (name.write n) ≤ 5 + k)
unfolding name u32_format
name_fits k n lt s = ((is_text n s.text, (omega (arith, s.few, lt), tt)), omega (arith, s.few, few_unsigned 4 (length n), length-append (u32_format.write (length n)) n))

-- ---- imports and exports

pub limits_fit : (pages : ℕ) → pages < 2 ^ 32 → let l : Limits = record { min = pages; max = Some pages } in limits.Fits l × (length (limits.write l) ≤ 11)
unfolding limits u32_format
limits_fit pages lt = ((refl, (lt, lt)), omega (arith, few_unsigned 4 pages, length-append (u32_format.write pages) (u32_format.write pages)))

pub func_item : (n : ℕ) → n < 2 ^ 32 → import_item.Fits (imported.Func n) × (length (import_item.write (imported.Func n)) ≤ 6)
unfolding import_item u32_format
func_item n lt = ((refl, lt), omega (arith, few_unsigned 4 n))

pub memory_item : (pages : ℕ) → pages < 2 ^ 32 → let l : Limits = record { min = pages; max = Some pages } in import_item.Fits (imported.Memory l) × (length (import_item.write (imported.Memory l)) ≤ 12)
unfolding import_item
memory_item pages lt = let l = limits_fit pages lt in ((refl, l.0), omega (arith, l.1))

pub import_fits : (a b k : ℕ) (i : Import) → a < 2 ^ 32 → b < 2 ^ 32 → IsName a i.module → IsName b i.name → import_item.Fits i.item × (length (import_item.write i.item) ≤ k) → import.Fits i × (length (import.write i) ≤ 10 + a + b + k)
unfolding import
import_fits a b k i lt_a lt_b m n item =
    let f = name_fits a i.module lt_a m in
    let g = name_fits b i.name lt_b n in
    ((refl, (f.0, (g.0, item.0))), omega (arith, f.1, g.1, item.1, length-append (name.write i.module) (name.write i.name ++ import_item.write i.item), length-append (name.write i.name) (import_item.write i.item)))

pub func_export : (n : ℕ) → n < 2 ^ 32 → export_item.Fits (exported.Func n) × (length (export_item.write (exported.Func n)) ≤ 6)
unfolding export_item u32_format
func_export n lt = ((refl, lt), omega (arith, few_unsigned 4 n))

pub memory_export : (n : ℕ) → n < 2 ^ 32 → export_item.Fits (exported.Memory n) × (length (export_item.write (exported.Memory n)) ≤ 6)
unfolding export_item u32_format
memory_export n lt = ((refl, lt), omega (arith, few_unsigned 4 n))

pub export_fits : (a k : ℕ) (e : Export) → a < 2 ^ 32 → IsName a e.name → export_item.Fits e.item × (length (export_item.write e.item) ≤ k) → export.Fits e × (length (export.write e) ≤ 5 + a + k)
unfolding export
export_fits a k e lt n item =
    let f = name_fits a e.name lt n in
    ((refl, (f.0, item.0)), omega (arith, f.1, item.1, length-append (name.write e.name) (export_item.write e.item)))

pub index_fits : (n : ℕ) → n < 2 ^ 32 → u32_format.Fits n × (length (u32_format.write n) ≤ 5)
unfolding u32_format
index_fits n lt = (lt, few_unsigned 4 n)

-- ---- globals and segments

pub constant_fits : (v : ℕ) → expr.Fits (constant_code v) × (length (expr.write (constant_code v)) ≤ 13)
constant_fits v = code_fits (constant Narrow v ∷ []) 11 (in_front (constant Narrow v) 0 [] (constant_short Narrow v) nothing)

pub global_fits : (v : ℕ) → let g : Global = record { ty = record { value = I32; variable = true }; init = constant_code v } in global.Fits g × (length (global.write g) ≤ 15)
unfolding global global_type mutability core_type
global_fits v =
    let c = constant_fits v in
    ((refl, ((refl, (refl, refl)), c.0)), omega (arith, c.1))

pub segment_fits : (v : ℕ) (bytes : List ℕ) → length bytes < 2 ^ 32 → segment.Fits (Active (constant_code v) bytes) × (length (segment.write (Active (constant_code v) bytes)) ≤ 19 + length bytes)
unfolding segment u32_format
segment_fits v bytes lt =
    let c = constant_fits v in
    ((refl, (c.0, (lt, tt))), omega (arith, c.1, few_unsigned 4 (length bytes), length-append (u32_format.write (length bytes)) bytes, length-append (expr.write (constant_code v)) (u32_format.write (length bytes) ++ bytes)))
