-- The bodies of routines as functions are valid.
use Rattle.std.proofs.Common.{◌≡◌, ℕ, zero, suc, ◌+◌, ◌<◌, ◌≤◌, List, [], ◌∷◌, ◌++◌, Option, Some, map, length, take, drop, replicate, refl, sym, ap, ◌∙◌, subst, arith, append_assoc}
use Rattle.std.specs.Prelude.{slice_get, sum_by}
use Rattle.std.specs.Option.{option_map}
use Rattle.std.proofs.lemmas.List.{length-map, map-append, take-append-drop}
use Rattle.std.proofs.lemmas.List.Sums.{sum_by-cons, sum_by-append}
use Rattle.std.proofs.lemmas.Option.{slice_get-map}
use Rattle.virt_base.specs.declared.core_type.CoreType.{CoreType}
use Rattle.virt_base.specs.declared.core_type.CoreType.TheVariants.{I32}
use Rattle.wasm_ast.specs.declared.module.LocalRun.{LocalRun}
use Rattle.core_store.specs.Locals.{each_local}
use Rattle.core_body.specs.Context.{Context}
use Rattle.core_body.specs.Locals.{spread}
use Rattle.core_body.specs.Views.{in_body}
use Rattle.core_validate.specs.Validity.{PartHolds}
use Rattle.adapter_code.specs.declared.statement.Width.{Width}
use Rattle.adapter_code.specs.Code.{Code}
use Rattle.adapter_code.specs.WellFormed.{HasWidth, IsWellFormed}
use Rattle.adapter_compile.specs.declared.calls.HandleCalls.{HandleCalls}
use Rattle.adapter_compile.specs.Instructions.{routine_code}
use Rattle.adapter_compile.specs.Bounds.{nesting}
use Rattle.adapter_compile.specs.Does.{core_type, counters_of, local_of, declared_of, body_of}
use Rattle.adapter_compile.proofs.Called.{each_declared}
use Rattle.adapter_transfer.specs.Valid.{MayHold, HasFunctions, function_part}
use Rattle.adapter_transfer.proofs.ValidPieces.{whole_body}
use Rattle.adapter_transfer.proofs.Routines.{valid_routine}

-- ---- declared locals

pub spread_same : (runs : List LocalRun) → spread runs ≡ each_local runs
spread_same [] = refl
spread_same (r ∷ rs) = ap (λ l. replicate r.count r.ty ++ l) (spread_same rs)

pub spread_declared : (ws : List Width) (n : ℕ) → spread (declared_of ws n) ≡ map core_type ws ++ replicate n I32
spread_declared ws n = spread_same (declared_of ws n) ∙ each_declared ws n

abbrev count : LocalRun → ℕ
count r = r.count

sum_locals : (ws : List Width) → sum_by count (map local_of ws) ≡ length ws
sum_locals [] = refl
sum_locals (w ∷ ws) =
    let one = sum_by-cons count (local_of w) (map local_of ws) in
    omega (arith, one, sum_locals ws)

sum_counters : (n : ℕ) → sum_by count (counters_of n) ≡ n
sum_counters zero = refl
sum_counters (suc n) = let one = sum_by-cons count (record { count = suc n; ty = I32 }) [] in omega (arith, one)

pub sum_declared : (ws : List Width) (n : ℕ) → sum_by (λ (r : LocalRun). r.count) (declared_of ws n) ≡ length ws + n
sum_declared ws n =
    let both = sum_by-append count (map local_of ws) (counters_of n) in
    omega (arith, both, sum_locals ws, sum_counters n)

-- ---- the locals of a function

pub get_front : {A : Type 0} → (xs ys : List A) (i : ℕ) (x : A) → slice_get xs i ≡ Some x → slice_get (xs ++ ys) i ≡ Some x
get_front [] ys i x e = absurd (cc)
get_front (z ∷ xs) ys zero x e = e
get_front (z ∷ xs) ys (suc i) x e = get_front xs ys i x e

pub get_back : {A : Type 0} → (xs ys : List A) (i n : ℕ) → n ≡ length xs + i → slice_get (xs ++ ys) n ≡ slice_get ys i
get_back [] ys i n e = let same : n ≡ i = omega (arith, e) in ap (slice_get ys) same
get_back (x ∷ xs) ys i zero e = absurd (omega (arith, e))
get_back (x ∷ xs) ys i (suc n) e = get_back xs ys i n (omega (arith, e))

get_same : (n i : ℕ) (t : CoreType) → i < n → slice_get (replicate n t) i ≡ Some t
get_same zero i t lt = absurd (omega (arith, lt))
get_same (suc n) zero t lt = refl
get_same (suc n) (suc i) t lt = get_same n i t (omega (arith, lt))

abbrev pub locals_of : List Width → ℕ → List CoreType
locals_of ws counters = map core_type ws ++ replicate counters I32

pub may_hold : (c : Context) (ws : List Width) (counters : ℕ) (calls : HandleCalls) → c.locals ≡ locals_of ws counters → HasFunctions c calls → MayHold c ws counters calls
may_hold c ws counters calls e has = record {
  locals = λ i w is. ap (λ l. slice_get l i) e ∙ get_front (map core_type ws) (replicate counters I32) i (core_type w) (slice_get-map core_type ws i ∙ ap (option_map core_type) is);
  behind = λ i lt.
      let long = length-map ws core_type in
      ap (λ l. slice_get l (length ws + i)) e ∙ get_back (map core_type ws) (replicate counters I32) i (length ws + i) (omega (arith, long)) ∙ get_same counters i I32 lt;
  memory = has.memory;
  makes = has.makes;
  drops = has.drops;
}

pub whole_locals : (params : ℕ) (ws : List Width) (n : ℕ) → map core_type (take params ws) ++ spread (declared_of (drop params ws) n) ≡ locals_of ws n
whole_locals params ws n =
    ap (λ l. map core_type (take params ws) ++ l) (spread_declared (drop params ws) n)
    ∙ sym (append_assoc (map core_type (take params ws)) (map core_type (drop params ws)) (replicate n I32))
    ∙ ap (λ l. l ++ replicate n I32) (sym (map-append core_type (take params ws) (drop params ws)) ∙ ap (map core_type) (take-append-drop params ws))

pub valid_function : (c : Context) (params : ℕ) (ws : List Width) (calls : HandleCalls) (code : Code) → IsWellFormed ws [] code → HasFunctions c calls → (rule : ℕ) → PartHolds rule (function_part c params ws calls code)
valid_function c params ws calls code fine has rule =
    let locals = map core_type (take params ws) ++ spread (declared_of (drop params ws) (nesting code)) in
    let inner = in_body c locals [] in
    let holds = may_hold inner ws (nesting code) calls (whole_locals params ws (nesting code)) (record { memory = has.memory; makes = has.makes; drops = has.drops }) in
    whole_body c locals [] (routine_code ws calls code) (valid_routine ws calls code inner (Some [] ∷ []) fine holds) rule

-- with fewer counters
pub may_hold_fewer : (c : Context) (ws : List Width) (m n : ℕ) (calls : HandleCalls) → m ≤ n → MayHold c ws n calls → MayHold c ws m calls
may_hold_fewer c ws m n calls le holds = record {
  locals = holds.locals;
  behind = λ i lt. holds.behind i (omega (arith, le, lt));
  memory = holds.memory;
  makes = holds.makes;
  drops = holds.drops;
}
