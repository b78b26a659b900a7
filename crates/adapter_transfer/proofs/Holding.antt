-- Items of which each rule holds.
use Rattle.std.proofs.Common.{◌≡◌, ℕ, suc, ◌+◌, ◌<◌, ◌≤◌, List, [], ◌∷◌, ◌++◌, Bool, true, false, not, ◌&&◌, Option, Some, None, All, map, length, refl, sym, ap, subst, arith, append_assoc, length-append}
use Rattle.std.specs.Prelude.{nat_le, slice_get, sum_by}
use Rattle.std.specs.List.{list_any}
use Rattle.std.specs.Str.{bytes_eq}
use Rattle.std.proofs.lemmas.List.{map-append}
use Rattle.std.proofs.lemmas.Option.{slice_get_within}
use Rattle.std.proofs.lemmas.List.Elements.{All-head, All-tail, All-nil, All-cons}
use Rattle.virt_base.specs.declared.core_type.CoreType.{CoreType}
use Rattle.virt_base.specs.declared.core_type.CoreType.TheVariants.{I32}
use Rattle.wasm_ast.specs.declared.instr.Instr.{Instr}
use Rattle.wasm_ast.specs.declared.instr.Instr.TheVariants.{Plain, End}
use Rattle.wasm_ast.specs.declared.instr.Op.TheVariants.{I32Const}
use Rattle.wasm_ast.specs.declared.module.CoreFunc.{CoreFunc}
use Rattle.wasm_ast.specs.declared.module.Limits.{Limits}
use Rattle.wasm_ast.specs.declared.module.LocalRun.{LocalRun}
use Rattle.wasm_ast.specs.declared.module.Global.{Global}
use Rattle.wasm_ast.specs.declared.module.Import.{Import}
use Rattle.wasm_ast.specs.declared.module.ImportItem.{ImportItem}
use Rattle.wasm_ast.specs.declared.module.ImportItem.TheVariants as imported
use Rattle.wasm_ast.specs.declared.module.Export.{Export}
use Rattle.wasm_ast.specs.declared.module.ExportItem.{ExportItem}
use Rattle.wasm_ast.specs.declared.module.ExportItem.TheVariants as exported
use Rattle.wasm_ast.specs.declared.module.Data.{Data}
use Rattle.wasm_ast.specs.declared.module.Data.TheVariants as data_of
use Rattle.wasm_ast.specs.declared.module.Body.{Body}
use Rattle.core_body.specs.declared.operand.Operand.TheVariants.{Known}
use Rattle.core_body.specs.Context.{Context}
use Rattle.core_body.specs.Conditions.{OnlyMemory, MemoryLimits, is_met}
use Rattle.core_body.specs.Typing.{Cons, Nil, Leaf}
use Rattle.core_validate.specs.Gather.{with_earlier}
use Rattle.core_validate.specs.Items.{Item, AnImport, AFunction, AMemory, AGlobal, AnExport, ABody, DataSegment, expression, export_condition}
use Rattle.core_validate.specs.Spaces.{memories_of, imported_memories}
use Rattle.core_validate.specs.Validity.{AreMet, PartHolds, Holds, AllHold}
use Rattle.adapter_transfer.specs.declared.module.Defined.{Defined}
use Rattle.adapter_transfer.specs.Module.{exports_from}
use Rattle.adapter_transfer.specs.ModuleValid.{IsMost, AreLimits, ImportFits, IsConstant, GlobalFits, SegmentFits, ExportFits, AreDistinct, BodyFits, FunctionFits, names_of}
use Rattle.adapter_transfer.proofs.Lists.{is_less, is_most, is_zero, both_true, gather_count, is_new}

pub all_append : (c : Context) (xs ys : List Item) → AllHold c xs → AllHold c ys → AllHold c (xs ++ ys)
all_append c [] ys p q = q
all_append c (x ∷ xs) ys p q = (p.0, all_append c xs ys p.1 q)

-- ---- memories and imports

limits_met : (c : Context) (least : ℕ) (most : Option ℕ) → least ≤ 4096 → IsMost least most → is_met c (MemoryLimits (record { min = least; max = most })) ≡ true
limits_met c least None le e = both_true (nat_le least 4096) true (is_most least 4096 le) refl
limits_met c least (Some most) le e =
    both_true (nat_le least most) (nat_le least 4096 && nat_le most 65536) (is_most least most (omega (arith, e)))
    (both_true (nat_le least 4096) (nat_le most 65536) (is_most least 4096 le) (is_most most 65536 (omega (arith, e, le))))

memory_met : (c : Context) (before : ℕ) (l : Limits) → before ≡ 0 → AreLimits l → (rule : ℕ) → AreMet c rule (OnlyMemory before ∷ MemoryLimits l ∷ [])
memory_met c before l none fits rule = (λ is. is_zero before none, (λ is. limits_met c l.min l.max fits.0 fits.1, tt))

import_holds : (c : Context) (before : ℕ) (item : ImportItem) → ImportFits (length c.types) item → before + length (memories_of item) ≤ 1 → (rule : ℕ) → Holds c (AnImport before item) rule
import_holds c before (imported.Func n) fits le rule = ((λ is. is_less n (length c.types) fits, tt), λ is. refl, tt)
import_holds c before (imported.Table t) fits le rule = absurd fits
import_holds c before (imported.Memory l) fits le rule = (memory_met c before l (omega (arith, le)) fits rule, λ is. refl, tt)
import_holds c before (imported.Global g) fits le rule = absurd fits

abbrev import_item : List Import → Import → Item
import_item before i = AnImport (length (imported_memories before)) i.item

pub hold_imports : (c : Context) (before rest : List Import) → All (λ (i : Import). ImportFits (length c.types) i.item) rest → length (imported_memories before) + length (imported_memories rest) ≤ 1 → AllHold c (with_earlier import_item before rest)
hold_imports c before [] fits le = tt
hold_imports c before (i ∷ rest) fits le =
    let P : Import → Type 0 = λ x. ImportFits (length c.types) x.item in
    let both = length-append (memories_of i.item) (imported_memories rest) in
    let more = gather_count (λ (x : Import). memories_of x.item) before i in
    (import_holds c (length (imported_memories before)) i.item (All-head P i rest fits) (omega (arith, le, both)), hold_imports c (before ++ i ∷ []) rest (All-tail P i rest fits) (omega (arith, le, both, more)))

pub hold_memories : (c : Context) (count : ℕ) (before rest : List Limits) → All AreLimits rest → count + (length before + length rest) ≤ 1 → AllHold c (with_earlier (λ before l. AMemory (count + length before) l) before rest)
hold_memories c count before [] fits le = tt
hold_memories c count before (l ∷ rest) fits le =
    let more = length-append before (l ∷ []) in
    (λ rule. (memory_met c (count + length before) l (omega (arith, le)) (All-head AreLimits l rest fits) rule, λ is. refl, tt), hold_memories c count (before ++ l ∷ []) rest (All-tail AreLimits l rest fits) (omega (arith, le, more)))

-- ---- globals and segments

constant_holds : (c : Context) (v : _) (rule : ℕ) → PartHolds rule (expression c I32 (Plain (I32Const v) ∷ End ∷ []))
constant_holds c v rule = (
  (λ is. refl, (λ is. refl, tt)),
  λ is. record { trees = Cons (Leaf (Plain (I32Const v))) Nil; spelled = refl; typed = ([], Known I32 ∷ [], [], tt, (refl, refl), (refl, tt)) },
)

constants_hold : (c : Context) (t : CoreType) (code : List Instr) → t ≡ I32 → IsConstant code → (rule : ℕ) → PartHolds rule (expression c t code)
constants_hold c t code same is rule =
    let P : CoreType → Type 0 = λ u. PartHolds rule (expression c u code) in
    let Q : List Instr → Type 0 = λ l. PartHolds rule (expression c I32 l) in
    subst P (sym same) (subst Q (sym is.1) (constant_holds c is.0 rule))

pub hold_globals : (c : Context) (before rest : List Global) → All GlobalFits rest → AllHold c (with_earlier (λ before g. AGlobal g) before rest)
hold_globals c before [] fits = tt
hold_globals c before (g ∷ rest) fits =
    let fit = All-head GlobalFits g rest fits in
    (λ rule. (tt, λ is. refl, (constants_hold c g.ty.value g.init fit.0 fit.1 rule, tt)), hold_globals c (before ++ g ∷ []) rest (All-tail GlobalFits g rest fits))

segment_holds : (c : Context) (d : Data) → 0 < c.memories → SegmentFits d → (rule : ℕ) → Holds c (DataSegment d) rule
segment_holds c (data_of.Active offset bytes) some fits rule = ((λ is. is_less 0 c.memories some, tt), λ is. refl, (constants_hold c I32 offset refl fits rule, tt))
segment_holds c (data_of.Passive bytes) some fits rule = absurd fits
segment_holds c (data_of.ActiveAt memory offset bytes) some fits rule = absurd fits

pub hold_segments : (c : Context) (before rest : List Data) → (0 < length rest → 0 < c.memories) → All SegmentFits rest → AllHold c (with_earlier (λ before d. DataSegment d) before rest)
hold_segments c before [] some fits = tt
hold_segments c before (d ∷ rest) some fits =
    let more = some (omega arith) in
    (segment_holds c d more (All-head SegmentFits d rest fits), hold_segments c (before ++ d ∷ []) rest (λ is. more) (All-tail SegmentFits d rest fits))

-- ---- exports

abbrev pub ExportMet : Context → Export → Type 0
ExportMet c e = is_met c (export_condition e.item) ≡ true

memory_exported : (c : Context) (e : ExportItem) (n : ℕ) → c.memories ≡ n → ExportFits n e → is_met c (export_condition e) ≡ true
memory_exported c (exported.Func i) n same fits = absurd fits
memory_exported c (exported.Table i) n same fits = absurd fits
memory_exported c (exported.Memory i) n same fits = is_less i c.memories (omega (arith, same, fits))
memory_exported c (exported.Global i) n same fits = absurd fits

pub memories_exported : (c : Context) (n : ℕ) (es : List Export) → c.memories ≡ n → All (λ (e : Export). ExportFits n e.item) es → All (ExportMet c) es
memories_exported c n [] same fits = All-nil (ExportMet c)
memories_exported c n (e ∷ es) same fits =
    let P : Export → Type 0 = λ x. ExportFits n x.item in
    All-cons (ExportMet c) e es (memory_exported c e.item n same (All-head P e es fits)) (memories_exported c n es same (All-tail P e es fits))

pub functions_exported : (c : Context) (at : ℕ) (ds : List Defined) → at + length ds ≤ length c.functions → All (ExportMet c) (exports_from at ds)
functions_exported c at [] le = All-nil (ExportMet c)
functions_exported c at (d ∷ ds) le =
    All-cons (ExportMet c) _ (exports_from (suc at) ds) (is_less at (length c.functions) (omega (arith, le))) (functions_exported c (suc at) ds (omega (arith, le)))

not_any : (b : Bool) → b ≡ false → not b ≡ true
not_any b e = ap not e

pub hold_exports : (c : Context) (before rest : List Export) → All (ExportMet c) rest → AreDistinct (names_of (before ++ rest)) → AllHold c (with_earlier (λ before e. AnExport (names_of before) e) before rest)
hold_exports c before [] met apart = tt
hold_exports c before (e ∷ rest) met apart =
    let P : List (List ℕ) → Type 0 = λ l. AreDistinct l in
    let Q : List Export → Type 0 = λ l. AreDistinct (names_of l) in
    let new = is_new (names_of before) e.name (names_of rest) (subst P (map-append (λ (x : Export). x.name) before (e ∷ rest)) apart) in (
      λ rule. ((λ is. All-head (ExportMet c) e rest met, (λ is. not_any (list_any (bytes_eq e.name) (names_of before)) new, tt)), λ is. refl, tt),
      hold_exports c (before ++ e ∷ []) rest (All-tail (ExportMet c) e rest met) (subst Q (sym (append_assoc before (e ∷ []) rest)) apart),
    )

-- ---- functions

pub hold_types : (c : Context) (before : List ℕ) (ds : List Defined) → All (FunctionFits c) ds → AllHold c (with_earlier (λ before n. AFunction n) before (map (λ (d : Defined). d.ty) ds))
hold_types c before [] fits = tt
hold_types c before (d ∷ ds) fits =
    let fit = All-head (FunctionFits c) d ds fits in
    (λ rule. ((λ is. is_less d.ty (length c.types) (slice_get_within c.types d.ty fit.0 fit.1), tt), λ is. refl, tt), hold_types c (before ++ d.ty ∷ []) ds (All-tail (FunctionFits c) d ds fits))

body_holds : (c : Context) (ty : CoreFunc) (b : Body) → BodyFits c ty b → (rule : ℕ) → Holds c (ABody ty b) rule
body_holds c ty b fits rule = ((λ is. is_most (sum_by (λ (r : LocalRun). r.count) b.locals) 50000 fits.few, tt), λ is. refl, (fits.valid rule, tt))

pub hold_bodies : (c : Context) (type_at : ℕ → CoreFunc) (before : List Body) (ds : List Defined) → ((k : ℕ) (d : Defined) → slice_get ds k ≡ Some d → BodyFits c (type_at (length before + k)) d.body) →
    AllHold c (with_earlier (λ before b. ABody (type_at (length before)) b) before (map (λ (d : Defined). d.body) ds))
hold_bodies c type_at before [] fits = tt
hold_bodies c type_at before (d ∷ ds) fits =
    let P : ℕ → Type 0 = λ n. BodyFits c (type_at n) d.body in
    let none : length before + 0 ≡ length before = omega arith in (
      body_holds c (type_at (length before)) d.body (subst P none (fits 0 d refl)),
      hold_bodies c type_at (before ++ d.body ∷ []) ds
          (λ k e is.
          let Q : ℕ → Type 0 = λ n. BodyFits c (type_at n) e.body in
          let long = length-append before (d.body ∷ []) in
          let same : length before + suc k ≡ length (before ++ d.body ∷ []) + k = omega (arith, long) in
          subst Q same (fits (suc k) e is)),
    )
