-- One instruction at a time.
use Rattle.std.proofs.Common.{◌≡◌, ℕ, zero, suc, ◌+◌, ◌<◌, ◌^◌, ◌/◌, List, [], ◌∷◌, Option, Some, None, Bool, true, false, Ok, Err, length, refl, sym, ap, ◌∙◌, subst, inl, inr, lit<, mod-lt}
use Rattle.std.proofs.Math.Nat.{mod-eq_of_lt}
use Rattle.std.proofs.Math.Path.{fun_ext}
use Rattle.std.proofs.lemmas.Int.{of_z-to_z}
use Rattle.std.specs.Prelude.{nat_le, ◌==◌, if◌then◌else◌, slice_get}
use Rattle.std.specs.List.{splice}
use Rattle.std.specs.Int.{w32, w64, from_bool}
use Rattle.wasm_ast.specs.declared.instr.Op.TheVariants as op
use Rattle.wasm_ast.specs.declared.instr.Instr.TheVariants.{Plain, Call}
use Rattle.wasm_ast.specs.Numeric.{numeric as numeric_of}
use Rattle.wasm_ast.specs.declared.module.CoreFunc.{CoreFunc}
use Rattle.core_store.specs.Tree.{Seq, Then}
use Rattle.core_memory.specs.Number.{bytes_of}
use Rattle.core_memory.specs.Linear.{Linear, touched, loaded as loaded_from, written}
use Rattle.core_store.specs.State.{memory_at}
use Rattle.core_store.specs.Effects.{with_memory, put_bytes}
use Rattle.core_store.specs.Words.{i32_in}
use Rattle.core_store.specs.Config.{Reply, Config, Out, then_do, with_stack, with_locals, with_store}
use Rattle.core_store.specs.Plain.{with_some, with_ok, calculate, load_bytes, store_bytes, extended, stored as stored_in}
use Rattle.core_store.specs.Eval.{advance, call_place, entered, replied, exec, go}
use Rattle.core_store.proofs.Steps.{go_enter}
use Rattle.adapter_code.specs.declared.statement.Width.{Width}
use Rattle.adapter_code.specs.declared.statement.Width.TheVariants.{Narrow, Broad}
use Rattle.adapter_code.specs.declared.statement.IntOp.{IntOp}
use Rattle.adapter_code.specs.declared.statement.IntOp.TheVariants.{Eq, Ne, LtU, LeU, Add, Sub, Mul, And, Or, Xor, Shl, ShrU}
use Rattle.adapter_code.specs.Number.{low, result_of, word, put, loaded, stored}
use Rattle.adapter_code.specs.Run.{State, set_local}
use Rattle.adapter_code.specs.WellFormed.{IsSize}
use Rattle.adapter_compile.specs.Instructions.{get, set, numeric, constant, opcode, load_of, store_of, at_offset}
use Rattle.adapter_compile.specs.Handles.{IsOutside}
use Rattle.adapter_compile.specs.Does.{Home, store_with, config_of}
use Rattle.adapter_compile.proofs.Places.{writes, memory_here, memory_over}
use Rattle.adapter_compile.proofs.Ranges.{low_fits}

-- an i32 is read as it is
pub i32_same : (x : ℕ) → x < 2 ^ 32 → i32_in x ≡ x
i32_same x lt = mod-eq_of_lt lt

pub get_step : (i v n : ℕ) (c : Config) (q : Seq) → slice_get c.locals i ≡ Some v → exec go (Then (get i) q) (suc n) c ≡ exec go q n (with_stack c (v ∷ c.stack))
get_step i v n c q e = ap (λ o. then_do (advance (with_some o (λ w. Some (with_stack c (w ∷ c.stack)))) n) (exec go q)) e

pub constant_step : (w : Width) (v n : ℕ) (c : Config) (q : Seq) → exec go (Then (constant w v) q) (suc n) c ≡ exec go q n (with_stack c (low w v ∷ c.stack))
constant_step Narrow v n c q = ap (λ x. exec go q n (with_stack c (x ∷ c.stack))) (of_z-to_z w32 (low Narrow v) (low_fits v))
constant_step Broad v n c q = ap (λ x. exec go q n (with_stack c (x ∷ c.stack))) (of_z-to_z w64 (low Broad v) (mod-lt v (lit< tt)))

-- writing a local
pub set_step : (home : Home) (s : State) (cs : List ℕ) (ps : List Bool) (rs : List Reply) (i v n : ℕ) (q : Seq) → i < length s.locals →
    exec go (Then (set i) q) (suc n) (with_stack (config_of home s cs ps rs) (v ∷ [])) ≡ exec go q n (config_of home (set_local s i v) cs ps rs)
set_step home s cs ps rs i v n q lt = ap (λ l. exec go q n (with_locals (config_of home s cs ps rs) [] l)) (writes s.locals cs i v lt)

-- ---- operators

calculated_narrow : (o : IntOp) (x y : ℕ) (c : Config) → calculate (opcode o Narrow) (numeric_of (opcode o Narrow)) (with_stack c (y ∷ x ∷ [])) ≡ Some (with_stack c (result_of o Narrow (i32_in x) (i32_in y) ∷ []))
calculated_narrow Eq x y c = refl
calculated_narrow Ne x y c = refl
calculated_narrow LtU x y c = refl
calculated_narrow LeU x y c = refl
calculated_narrow Add x y c = refl
calculated_narrow Sub x y c = refl
calculated_narrow Mul x y c = refl
calculated_narrow And x y c = refl
calculated_narrow Or x y c = refl
calculated_narrow Xor x y c = refl
calculated_narrow Shl x y c = refl
calculated_narrow ShrU x y c = refl

calculated_broad : (o : IntOp) (x y : ℕ) (c : Config) → calculate (opcode o Broad) (numeric_of (opcode o Broad)) (with_stack c (y ∷ x ∷ [])) ≡ Some (with_stack c (result_of o Broad x y ∷ []))
calculated_broad Eq x y c = refl
calculated_broad Ne x y c = refl
calculated_broad LtU x y c = refl
calculated_broad LeU x y c = refl
calculated_broad Add x y c = refl
calculated_broad Sub x y c = refl
calculated_broad Mul x y c = refl
calculated_broad And x y c = refl
calculated_broad Or x y c = refl
calculated_broad Xor x y c = refl
calculated_broad Shl x y c = refl
calculated_broad ShrU x y c = refl

pub operator_step : (o : IntOp) (w : Width) (x y n : ℕ) (c : Config) (q : Seq) → (w ≡ Narrow → x < 2 ^ 32) → (w ≡ Narrow → y < 2 ^ 32) →
    exec go (Then (numeric (opcode o w)) q) (suc n) (with_stack c (y ∷ x ∷ [])) ≡ exec go q n (with_stack c (result_of o w x y ∷ []))
operator_step o Narrow x y n c q hx hy =
    ap (λ r. then_do (advance r n) (exec go q)) (calculated_narrow o x y c)
    ∙ ap (λ u. exec go q n (with_stack c (result_of o Narrow u (i32_in y) ∷ []))) (i32_same x (hx refl))
    ∙ ap (λ u. exec go q n (with_stack c (result_of o Narrow x u ∷ []))) (i32_same y (hy refl))
operator_step o Broad x y n c q hx hy = ap (λ r. then_do (advance r n) (exec go q)) (calculated_broad o x y c)

-- i32.eqz, and the conversions
pub eqz_step : (x n : ℕ) (c : Config) (q : Seq) → x < 2 ^ 32 → exec go (Then (numeric 0x45) q) (suc n) (with_stack c (x ∷ [])) ≡ exec go q n (with_stack c (from_bool (x == 0) ∷ []))
eqz_step x n c q lt = ap (λ u. exec go q n (with_stack c (from_bool (u == 0) ∷ []))) (i32_same x lt)

pub wrap_step : (x n : ℕ) (c : Config) (q : Seq) → exec go (Then (numeric 0xA7) q) (suc n) (with_stack c (x ∷ [])) ≡ exec go q n (with_stack c (low Narrow x ∷ []))
wrap_step x n c q = refl

pub extend_step : (x n : ℕ) (c : Config) (q : Seq) → x < 2 ^ 32 → exec go (Then (numeric 0xAD) q) (suc n) (with_stack c (x ∷ [])) ≡ exec go q n (with_stack c (x ∷ []))
extend_step x n c q lt = ap (λ u. exec go q n (with_stack c (u ∷ []))) (i32_same x lt)

-- ---- loads and stores

pub load_size : (w : Width) (size : ℕ) → IsSize w size → (load_bytes (load_of w size) ≡ size) × ((v : ℕ) → extended (load_of w size) v ≡ v)
load_size Narrow size (inl e) = subst (λ (n : ℕ). (load_bytes (load_of Narrow n) ≡ n) × ((v : ℕ) → extended (load_of Narrow n) v ≡ v)) (sym e) (refl, λ v. refl)
load_size Narrow size (inr (inl e)) = subst (λ (n : ℕ). (load_bytes (load_of Narrow n) ≡ n) × ((v : ℕ) → extended (load_of Narrow n) v ≡ v)) (sym e) (refl, λ v. refl)
load_size Narrow size (inr (inr e)) = subst (λ (n : ℕ). (load_bytes (load_of Narrow n) ≡ n) × ((v : ℕ) → extended (load_of Narrow n) v ≡ v)) (sym e) (refl, λ v. refl)
load_size Broad size (inl e) = subst (λ (n : ℕ). (load_bytes (load_of Broad n) ≡ n) × ((v : ℕ) → extended (load_of Broad n) v ≡ v)) (sym e) (refl, λ v. refl)
load_size Broad size (inr (inl e)) = subst (λ (n : ℕ). (load_bytes (load_of Broad n) ≡ n) × ((v : ℕ) → extended (load_of Broad n) v ≡ v)) (sym e) (refl, λ v. refl)
load_size Broad size (inr (inr (inl e))) = subst (λ (n : ℕ). (load_bytes (load_of Broad n) ≡ n) × ((v : ℕ) → extended (load_of Broad n) v ≡ v)) (sym e) (refl, λ v. refl)
load_size Broad size (inr (inr (inr e))) = subst (λ (n : ℕ). (load_bytes (load_of Broad n) ≡ n) × ((v : ℕ) → extended (load_of Broad n) v ≡ v)) (sym e) (refl, λ v. refl)

pub store_size : (w : Width) (size : ℕ) → IsSize w size → store_bytes (store_of w size) ≡ size
store_size Narrow size (inl e) = subst (λ (n : ℕ). store_bytes (store_of Narrow n) ≡ n) (sym e) refl
store_size Narrow size (inr (inl e)) = subst (λ (n : ℕ). store_bytes (store_of Narrow n) ≡ n) (sym e) refl
store_size Narrow size (inr (inr e)) = subst (λ (n : ℕ). store_bytes (store_of Narrow n) ≡ n) (sym e) refl
store_size Broad size (inl e) = subst (λ (n : ℕ). store_bytes (store_of Broad n) ≡ n) (sym e) refl
store_size Broad size (inr (inl e)) = subst (λ (n : ℕ). store_bytes (store_of Broad n) ≡ n) (sym e) refl
store_size Broad size (inr (inr (inl e))) = subst (λ (n : ℕ). store_bytes (store_of Broad n) ≡ n) (sym e) refl
store_size Broad size (inr (inr (inr e))) = subst (λ (n : ℕ). store_bytes (store_of Broad n) ≡ n) (sym e) refl

-- what a load reads, as an option
loaded_as : (m : Linear) (at size : ℕ) (f : ℕ → Option Config) → with_ok (loaded_from m at size) f ≡ with_some (loaded m.bytes at size) f
unfolding word
loaded_as m at size f = by_test (nat_le (at + size) (length m.bytes))
  where
    by_test : (b : Bool) → with_ok (if b then Ok (word m.bytes at size) else Err (record {})) f ≡ with_some (if b then Some (word m.bytes at size) else None) f
    by_test true = refl
    by_test false = refl

pub load_step : (home : Home) (s : State) (cs : List ℕ) (ps : List Bool) (rs : List Reply) (w : Width) (size offset x n : ℕ) (q : Seq) → slice_get home.spaces.memories 0 ≡ Some home.memory → home.memory < length home.store.memories → IsSize w size → x < 2 ^ 32 →
    exec go (Then (Plain (op.Load (load_of w size) (at_offset offset))) q) (suc n) (with_stack (config_of home s cs ps rs) (x ∷ []))
    ≡ then_do (advance (with_some (loaded s.memory (x + offset) size) (λ v. Some (with_stack (config_of home s cs ps rs) (v ∷ [])))) n) (exec go q)
load_step home s cs ps rs w size offset x n q there within sized lt =
    let c = config_of home s cs ps rs in
    let l = load_of w size in
    let m : Linear = record { bytes = s.memory; made = ps; max = (memory_at home.store home.memory).max } in
    let goes : Option Config → Out = λ o. then_do (advance o n) (exec go q) in
    ap (λ o. goes (with_some o (λ k. with_ok (loaded_from (memory_at c.store k) (i32_in x + offset) (load_bytes l)) (λ v. Some (with_stack c (extended l v ∷ [])))))) there
    ∙ ap (λ y. goes (with_ok (loaded_from y (i32_in x + offset) (load_bytes l)) (λ v. Some (with_stack c (extended l v ∷ []))))) (memory_here home.store home.memory m within)
    ∙ ap (λ u. goes (with_ok (loaded_from m (u + offset) (load_bytes l)) (λ v. Some (with_stack c (extended l v ∷ []))))) (i32_same x lt)
    ∙ ap (λ u. goes (with_ok (loaded_from m (x + offset) u) (λ v. Some (with_stack c (extended l v ∷ []))))) (load_size w size sized).0
    ∙ ap goes (loaded_as m (x + offset) size (λ v. Some (with_stack c (extended l v ∷ []))))
    ∙ ap goes (ap (λ (f : ℕ → Option Config). with_some (loaded s.memory (x + offset) size) f) (fun_ext (λ v. ap (λ u. Some (with_stack c (u ∷ []))) ((load_size w size sized).1 v))))

pub length_bytes : (k v : ℕ) → length (bytes_of k v) ≡ k
length_bytes zero v = refl
length_bytes (suc k) v = ap suc (length_bytes k (v / 256))

-- the pages that are made after a store
abbrev pub pages_behind : List Bool → ℕ → ℕ → ℕ → List Bool
pages_behind ps at size v = touched ps at (length (bytes_of size v))

-- what a store leaves, with its bytes as the routine has them
stored_as : (home : Home) (c : Config) (bytes : List ℕ) (ps : List Bool) (at size v : ℕ) → home.memory < length home.store.memories →
    stored_in c [] (put_bytes (store_with home bytes ps) home.memory at (bytes_of size v)) ≡ with_some (stored bytes at size v) (λ m. Some (with_store c [] (store_with home m (pages_behind ps at size v))))
unfolding put
stored_as home c bytes ps at size v within =
    let m : Linear = record { bytes = bytes; made = ps; max = (memory_at home.store home.memory).max } in
    let st = with_memory home.store home.memory m in
    let new = bytes_of size v in
    ap (λ y. stored_in c [] (if nat_le (at + length new) (length y.bytes) then Some (with_memory st home.memory (written y at new)) else None)) (memory_here home.store home.memory m within)
    ∙ ap (λ t. stored_in c [] (if nat_le (at + length new) (length bytes) then Some t else None)) (memory_over home.store home.memory m (written m at new))
    ∙ ap (λ k. stored_in c [] (if nat_le (at + k) (length bytes) then Some (store_with home (splice bytes at (at + k) new) (touched ps at (length new))) else None)) (length_bytes size v)
    ∙ by_test (nat_le (at + size) (length bytes))
  where
    by_test : (b : Bool) → stored_in c [] (if b then Some (store_with home (put bytes at size v) (pages_behind ps at size v)) else None) ≡ with_some (if b then Some (put bytes at size v) else None) (λ m. Some (with_store c [] (store_with home m (pages_behind ps at size v))))
    by_test true = refl
    by_test false = refl

pub store_step : (home : Home) (s : State) (cs : List ℕ) (ps : List Bool) (rs : List Reply) (w : Width) (size offset x v n : ℕ) (q : Seq) → slice_get home.spaces.memories 0 ≡ Some home.memory → home.memory < length home.store.memories → IsSize w size → x < 2 ^ 32 →
    exec go (Then (Plain (op.Store (store_of w size) (at_offset offset))) q) (suc n) (with_stack (config_of home s cs ps rs) (v ∷ x ∷ []))
    ≡ then_do (advance (with_some (stored s.memory (x + offset) size v) (λ m. Some (config_of home (record s { memory = m }) cs (pages_behind ps (x + offset) size v) rs))) n) (exec go q)
store_step home s cs ps rs w size offset x v n q there within sized lt =
    let c = config_of home s cs ps rs in
    let goes : Option Config → Out = λ o. then_do (advance o n) (exec go q) in
    ap (λ o. goes (with_some o (λ k. stored_in c [] (put_bytes c.store k (i32_in x + offset) (bytes_of (store_bytes (store_of w size)) v))))) there
    ∙ ap (λ u. goes (stored_in c [] (put_bytes c.store home.memory (u + offset) (bytes_of (store_bytes (store_of w size)) v)))) (i32_same x lt)
    ∙ ap (λ u. goes (stored_in c [] (put_bytes c.store home.memory (x + offset) (bytes_of u v)))) (store_size w size sized)
    ∙ ap goes (stored_as home c s.memory ps (x + offset) size v within)

-- ---- calls of the embedder

pub call_step : (f num n : ℕ) (ty : CoreFunc) (c : Config) (q : Seq) → IsOutside c.spaces c.store.functions f ty num → exec go (Then (Call f) q) (suc n) c ≡ then_do (replied ty num n c c.replies) (exec go q)
call_step f num n ty c q (place, here, there) =
    ap (λ o. then_do (call_place go o n c) (exec go q)) here
    ∙ ap (λ o. then_do o (exec go q)) (go_enter place n c ∙ ap (λ g. entered go g n c) there)
