-- The places of an instance, and what its constant expressions lead to, are in the store.
use Rattle.std.proofs.Common.{◌≡◌, ℕ, zero, suc, ◌+◌, ◌<◌, ◌≤◌, List, [], ◌∷◌, ◌++◌, length, Option, Some, None, refl, subst, arith}
use Rattle.std.specs.Prelude.{slice_get, slice_index_or}
use Rattle.std.specs.List.{All, flat_map, range_with_len}
use Rattle.std.proofs.lemmas.List.Elements.{All-cons, All-append, All-map}
use Rattle.std.proofs.lemmas.Option.{slice_get_within, get_or_from_slice_get}
use Rattle.wasm_ast.specs.declared.instr.Op.{Op}
use Rattle.wasm_ast.specs.declared.instr.Op.TheVariants as op
use Rattle.wasm_ast.specs.declared.instr.Instr.{Instr}
use Rattle.wasm_ast.specs.declared.instr.Instr.TheVariants as code
use Rattle.wasm_ast.specs.declared.module.Elements.{Elements}
use Rattle.wasm_ast.specs.declared.module.Elements.TheVariants as elements
use Rattle.core_store.specs.declared.value.CoreRef.TheVariants.{Null, Func}
use Rattle.core_store.specs.declared.value.CoreValue.{CoreValue}
use Rattle.core_store.specs.declared.value.CoreValue.TheVariants.{I32, I64, Ref}
use Rattle.core_store.specs.Table.{IsRef, AreRefs}
use Rattle.core_store.specs.State.{State, IsStoreValue}
use Rattle.core_instance.specs.declared.constants.Names.{Names}
use Rattle.core_instance.specs.declared.external.Extern.{Extern}
use Rattle.core_instance.specs.declared.external.Extern.TheVariants as externs
use Rattle.core_instance.specs.Spaces.{functions_of, tables_of, memories_of, globals_of, IsThere}
use Rattle.core_instance.specs.Constants.{global_or, ref_or, op_value, instr_value, constant, ref_in, refs_to, refs_from, refs_of}
use Rattle.core_instance.specs.Instantiation.{AreNames}

-- ---- places

All-none : {X : Type 0} (P : X → Type 0) → All P []
All-none P k d less = absurd (omega (arith, less))

All-one : {X : Type 0} (P : X → Type 0) (x : X) → P x → All P (x ∷ [])
All-one P x p = All-cons P x [] p (All-none P)

-- what each item gives has the property
All-flat : {X Y : Type 0} (P : Y → Type 0) (f : X → List Y) (xs : List X) → All (λ x. All P (f x)) xs → All P (flat_map f xs)
All-flat P f [] h = All-none P
All-flat P f (x ∷ xs) h = All-append P (f x) (flat_map f xs) (h zero x (omega arith)) (All-flat P f xs (λ k d less. h (suc k) d (omega (arith, less))))

All-range : (from count most : ℕ) → from + count ≤ most → All (λ at. at < most) (range_with_len from count)
All-range from zero most h = All-none (λ at. at < most)
All-range from (suc count) most h = All-cons (λ at. at < most) from (range_with_len (from + 1) count) (omega (arith, h)) (All-range (from + 1) count most (omega (arith, h)))

All-kept : {X : Type 0} (P Q : X → Type 0) (xs : List X) → ((x : X) → P x → Q x) → All P xs → All Q xs
All-kept P Q xs more h = λ k d less. more (slice_index_or xs k d) (h k d less)

function_there : (s : State) (most : ℕ) → length s.functions ≤ most → (e : Extern) → IsThere s e → All (λ at. at < most) (functions_of e)
function_there s most h (externs.Func at) t = All-one (λ at. at < most) at (omega (arith, h, t))
function_there s most h (externs.Table at) t = All-none (λ at. at < most)
function_there s most h (externs.Memory at) t = All-none (λ at. at < most)
function_there s most h (externs.Global at) t = All-none (λ at. at < most)

table_there : (s : State) (most : ℕ) → length s.tables ≤ most → (e : Extern) → IsThere s e → All (λ at. at < most) (tables_of e)
table_there s most h (externs.Table at) t = All-one (λ at. at < most) at (omega (arith, h, t))
table_there s most h (externs.Func at) t = All-none (λ at. at < most)
table_there s most h (externs.Memory at) t = All-none (λ at. at < most)
table_there s most h (externs.Global at) t = All-none (λ at. at < most)

memory_there : (s : State) (most : ℕ) → length s.memories ≤ most → (e : Extern) → IsThere s e → All (λ at. at < most) (memories_of e)
memory_there s most h (externs.Memory at) t = All-one (λ at. at < most) at (omega (arith, h, t))
memory_there s most h (externs.Table at) t = All-none (λ at. at < most)
memory_there s most h (externs.Func at) t = All-none (λ at. at < most)
memory_there s most h (externs.Global at) t = All-none (λ at. at < most)

global_there : (s : State) (e : Extern) → IsThere s e → All (λ at. at < length s.globals) (globals_of e)
global_there s (externs.Global at) t = All-one (λ at. at < length s.globals) at t
global_there s (externs.Table at) t = All-none (λ at. at < length s.globals)
global_there s (externs.Func at) t = All-none (λ at. at < length s.globals)
global_there s (externs.Memory at) t = All-none (λ at. at < length s.globals)

pub globals_there : (s : State) (imports : List Extern) → All (IsThere s) imports → All (λ at. at < length s.globals) (flat_map globals_of imports)
globals_there s imports h = All-flat (λ at. at < length s.globals) globals_of imports (All-kept (IsThere s) _ imports (global_there s) h)

pub functions_there : (s : State) (imports : List Extern) (count : ℕ) → All (IsThere s) imports → All (λ at. at < length s.functions + count) (flat_map functions_of imports ++ range_with_len (length s.functions) count)
functions_there s imports count h =
    All-append (λ at. at < length s.functions + count) (flat_map functions_of imports) (range_with_len (length s.functions) count)
    (All-flat (λ at. at < length s.functions + count) functions_of imports (All-kept (IsThere s) _ imports (function_there s (length s.functions + count) (omega arith)) h))
    (All-range (length s.functions) count (length s.functions + count) (omega arith))

pub tables_there : (s : State) (imports : List Extern) (count : ℕ) → All (IsThere s) imports → All (λ at. at < length s.tables + count) (flat_map tables_of imports ++ range_with_len (length s.tables) count)
tables_there s imports count h =
    All-append (λ at. at < length s.tables + count) (flat_map tables_of imports) (range_with_len (length s.tables) count)
    (All-flat (λ at. at < length s.tables + count) tables_of imports (All-kept (IsThere s) _ imports (table_there s (length s.tables + count) (omega arith)) h))
    (All-range (length s.tables) count (length s.tables + count) (omega arith))

pub memories_there : (s : State) (imports : List Extern) (count : ℕ) → All (IsThere s) imports → All (λ at. at < length s.memories + count) (flat_map memories_of imports ++ range_with_len (length s.memories) count)
memories_there s imports count h =
    All-append (λ at. at < length s.memories + count) (flat_map memories_of imports) (range_with_len (length s.memories) count)
    (All-flat (λ at. at < length s.memories + count) memories_of imports (All-kept (IsThere s) _ imports (memory_there s (length s.memories + count) (omega arith)) h))
    (All-range (length s.memories) count (length s.memories + count) (omega arith))

pub all_globals_there : (s : State) (imports : List Extern) (count : ℕ) → All (IsThere s) imports → All (λ at. at < length s.globals + count) (flat_map globals_of imports ++ range_with_len (length s.globals) count)
all_globals_there s imports count h =
    All-append (λ at. at < length s.globals + count) (flat_map globals_of imports) (range_with_len (length s.globals) count)
    (All-kept (λ at. at < length s.globals) (λ at. at < length s.globals + count) (flat_map globals_of imports) (λ x less. omega (arith, less)) (globals_there s imports h))
    (All-range (length s.globals) count (length s.globals + count) (omega arith))

-- ---- values

value_kept : (few most : ℕ) → few ≤ most → (v : CoreValue) → IsStoreValue few v → IsStoreValue most v
value_kept few most h (I32 n) i = tt
value_kept few most h (I64 n) i = tt
value_kept few most h (Ref Null) i = tt
value_kept few most h (Ref (Func f)) i = omega (arith, h, i)

pub values_kept : (few most : ℕ) (vs : List CoreValue) → few ≤ most → All (IsStoreValue few) vs → All (IsStoreValue most) vs
values_kept few most vs h all = All-kept (IsStoreValue few) (IsStoreValue most) vs (value_kept few most h) all

found_global : (functions : ℕ) (vs : List CoreValue) (k : ℕ) (o : Option CoreValue) → slice_get vs k ≡ o → All (IsStoreValue functions) vs → IsStoreValue functions (global_or o)
found_global functions vs k None e all = tt
found_global functions vs k (Some v) e all = subst (IsStoreValue functions) (get_or_from_slice_get vs k v v e) (all k v (slice_get_within vs k v e))

found_ref : (functions : ℕ) (places : List ℕ) (k : ℕ) (o : Option ℕ) → slice_get places k ≡ o → All (λ at. at < functions) places → IsRef functions (ref_or o)
found_ref functions places k None e all = tt
found_ref functions places k (Some at) e all = subst (λ (n : ℕ). n < functions) (get_or_from_slice_get places k at at e) (all k at (slice_get_within places k at e))

op_there : (functions : ℕ) (names : Names) → AreNames functions names → (o : Op) → IsStoreValue functions (op_value names o)
op_there functions names a (op.GlobalGet n) = found_global functions names.globals n (slice_get names.globals n) refl a.0
op_there functions names a (op.RefFunc n) = found_ref functions names.functions n (slice_get names.functions n) refl a.1
op_there functions names a (op.I32Const n) = tt
op_there functions names a (op.RefNull t) = tt
op_there functions names a _ = tt

instr_there : (functions : ℕ) (names : Names) → AreNames functions names → (i : Instr) → IsStoreValue functions (instr_value names i)
instr_there functions names a (code.Plain o) = op_there functions names a o
instr_there functions names a _ = tt

-- a constant expression's value
pub constant_there : (functions : ℕ) (names : Names) (is : List Instr) → AreNames functions names → IsStoreValue functions (constant names is)
constant_there functions names [] a = tt
constant_there functions names (i ∷ rest) a = instr_there functions names a i

ref_there : (functions : ℕ) (v : CoreValue) → IsStoreValue functions v → IsRef functions (ref_in v)
ref_there functions (I32 n) i = tt
ref_there functions (I64 n) i = tt
ref_there functions (Ref r) i = i

to_there : (functions : ℕ) (names : Names) (funcs : List ℕ) → AreNames functions names → AreRefs functions (refs_to names funcs)
to_there functions names funcs a = All-map (IsRef functions) (λ n. ref_or (slice_get names.functions n)) funcs (λ k d less. found_ref functions names.functions (slice_index_or funcs k d) (slice_get names.functions (slice_index_or funcs k d)) refl a.1)

from_there : (functions : ℕ) (names : Names) (exprs : List (List Instr)) → AreNames functions names → AreRefs functions (refs_from names exprs)
from_there functions names exprs a = All-map (IsRef functions) (λ e. ref_in (constant names e)) exprs (λ k d less. ref_there functions (constant names (slice_index_or exprs k d)) (constant_there functions names (slice_index_or exprs k d) a))

-- a segment's references
pub refs_there : (functions : ℕ) (names : Names) (e : Elements) → AreNames functions names → AreRefs functions (refs_of names e)
refs_there functions names (elements.ActiveFuncs offset funcs) a = to_there functions names funcs a
refs_there functions names (elements.PassiveFuncs funcs) a = to_there functions names funcs a
refs_there functions names (elements.ActiveFuncsAt table offset funcs) a = to_there functions names funcs a
refs_there functions names (elements.DeclaredFuncs funcs) a = to_there functions names funcs a
refs_there functions names (elements.ActiveExprs offset exprs) a = from_there functions names exprs a
refs_there functions names (elements.PassiveExprs ty exprs) a = from_there functions names exprs a
refs_there functions names (elements.ActiveExprsAt table offset ty exprs) a = from_there functions names exprs a
refs_there functions names (elements.DeclaredExprs ty exprs) a = from_there functions names exprs a
