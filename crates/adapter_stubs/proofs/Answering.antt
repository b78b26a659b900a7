-- The numbers that a stub gives to its host's function and takes from it, and its flat result.
use Rattle.std.proofs.Common.{◌≡◌, ◌≢◌, ℕ, zero, suc, ◌+◌, ◌-◌, ◌<◌, ◌≤◌, ◌^◌, List, [], ◌∷◌, ◌++◌, Bool, true, false, Option, Some, None, All, map, length, take, drop, refl, sym, ap, ◌∙◌, subst, arith}
use Rattle.std.specs.Prelude.{if◌then◌else◌, slice_get}
use Rattle.std.proofs.Math.Seq.{drop-cons}
use Rattle.std.proofs.lemmas.List.Elements.{All-head, All-tail}
use Rattle.virt_base.specs.declared.core_type.CoreType.{CoreType}
use Rattle.virt_base.specs.declared.core_type.CoreType.TheVariants.{I32, I64, Funcref, Externref}
use Rattle.wasm_ast.specs.declared.instr.Instr.TheVariants.{End}
use Rattle.core_store.specs.Tree.{Stop, tree}
use Rattle.core_store.specs.declared.value.CoreValue.TheVariants as values
use Rattle.core_store.specs.State.{State as StoreState}
use Rattle.core_store.specs.Words.{value_in, values_in}
use Rattle.core_store.specs.Config.{Reply, Outcome, Done, Out, bare}
use Rattle.core_store.specs.Eval.{left_store, call_end, finish, exec, go}
use Rattle.adapter_code.specs.declared.statement.Width.TheVariants.{Narrow}
use Rattle.adapter_code.specs.declared.state.Local.{Local}
use Rattle.adapter_code.specs.declared.state.Local.TheVariants.{Small, Wide}
use Rattle.adapter_code.specs.declared.state.CodeEnd.{CodeEnd}
use Rattle.adapter_code.specs.declared.state.CodeEnd.TheVariants.{Answer, Trap}
use Rattle.adapter_code.specs.Run.{State, value, local_width, local_at, with_value, set_local}
use Rattle.adapter_code.proofs.Places.{widths_set}
use Rattle.adapter_compile.specs.Instructions.{get}
use Rattle.adapter_compile.specs.Does.{Home, Fits, store_with, config_of, core_value}
use Rattle.adapter_compile.proofs.Places.{reads, fits_set, fits_small}
use Rattle.adapter_compile.proofs.Steps.{i32_same, get_step}
use Rattle.adapter_stubs.specs.declared.stub.HostFunc.{HostFunc}
use Rattle.adapter_stubs.specs.Stub.{result_in}
use Rattle.adapter_stubs.specs.Widths.{width_of, IsFlat, result_width, gives}
use Rattle.adapter_stubs.specs.Bodies.{answer_code}
use Rattle.adapter_stubs.specs.Calls.{entered_home, results_in, whom, AreFlat}

-- ---- whom it asks

pub record Asked (e : CodeEnd) (x : ℕ) (o : Option HostFunc) (h : HostFunc) : Type 0 where
  pub answers : e ≡ Answer
  pub some : x ≢ 0
  pub here : o ≡ Some h

pub asked_is : (e : CodeEnd) (x : ℕ) (o : Option HostFunc) (h : HostFunc) → whom e x o ≡ Some h → Asked e x o h
asked_is Trap x o h is = cc
asked_is Answer zero o h is = cc
asked_is Answer (suc x) o h is = record { answers = refl; some = λ e. absurd (omega (arith, e)); here = is }

pub no_flag : (x : ℕ) (h : HostFunc) → whom Answer x (Some h) ≡ None → x ≡ 0
no_flag zero h is = refl
no_flag (suc x) h is = cc

-- ---- numbers as values

value_same : (m : ℕ) (t : CoreType) (l : Local) → IsFlat t → local_width l ≡ width_of t → Fits l → value_in m t (value l) ≡ core_value l
value_same m I32 (Small v) flat e fits = ap values.I32 (i32_same v fits)
value_same m I32 (Wide v) flat e fits = cc
value_same m I64 (Small v) flat e fits = cc
value_same m I64 (Wide v) flat e fits = refl
value_same m Funcref l flat e fits = absurd flat
value_same m Externref l flat e fits = absurd flat

-- the local at a place holds a value of a type
abbrev pub Holds : List Local → ℕ → CoreType → Type 0
Holds ls i t = (i < length ls) × (local_width (local_at ls i) ≡ width_of t)

pub values_same : (m : ℕ) (ls : List Local) (from : ℕ) (ts : List CoreType) → All IsFlat ts → ((i : ℕ) (t : CoreType) → slice_get ts i ≡ Some t → Holds ls (from + i) t) → ((j : ℕ) → Fits (local_at ls j)) →
    values_in m ts (map value (take (length ts) (drop from ls))) ≡ map core_value (take (length ts) (drop from ls))
values_same m ls from [] flat holds fits = refl
values_same m ls from (t ∷ ts) flat holds fits =
    let zeroth : from + 0 ≡ from = omega arith in
    let first : Holds ls from t = subst (λ k. Holds ls k t) zeroth (holds 0 t refl) in
    let l = local_at ls from in
    let xs = drop (suc from) ls in
    let split : drop from ls ≡ l ∷ xs = drop-cons ls from (Small 0) first.0 in
    let rest = values_same m ls (suc from) ts (All-tail IsFlat t ts flat) (λ i u is. let next : from + suc i ≡ suc from + i = omega arith in subst (λ k. Holds ls k u) next (holds (suc i) u is)) fits in
    ap (λ ys. values_in m (t ∷ ts) (map value (take (suc (length ts)) ys))) split
    ∙ ap (λ v. v ∷ values_in m ts (map value (take (length ts) xs))) (value_same m t l (All-head IsFlat t ts flat) first.1 (fits from))
    ∙ ap (λ vs. core_value l ∷ vs) rest
    ∙ ap (λ ys. map core_value (take (suc (length ts)) ys)) (sym split)

-- ---- the end of a call

-- how many steps the flat result takes
abbrev pub answer_steps : List CoreType → ℕ
answer_steps [] = 0
answer_steps (t ∷ ts) = 1

pub answer_few : (ts : List CoreType) → answer_steps ts ≤ 1
answer_few [] = omega arith
answer_few (t ∷ ts) = omega arith

pub answered : (ts : List CoreType) (i : ℕ) (home : Home) (u : State) (further : List ℕ) (made : List Bool) (rs : List Reply) (n : ℕ) →
    length ts ≤ 1 → All IsFlat ts → i < length u.locals → local_width (local_at u.locals i) ≡ result_width ts → ((j : ℕ) → Fits (local_at u.locals j)) →
    finish ts (call_end (length ts) [] [] bare (exec go (tree (answer_code i ts ++ End ∷ [])) (answer_steps ts + n) (config_of home u further made rs))) ≡ Done (results_in ts (local_at u.locals i)) (left_store (store_with home u.memory made)) n
answered [] i home u further made rs n few flat lt wide fits =
    let e : 0 + n ≡ n = omega arith in
    ap (λ k. finish [] (call_end 0 [] [] bare (exec go (tree (End ∷ [])) k (config_of home u further made rs)))) e
answered (t ∷ []) i home u further made rs n few flat lt wide fits =
    let e : 1 + n ≡ suc n = omega arith in
    let ends : Out → Outcome = λ o. finish (t ∷ []) (call_end 1 [] [] bare o) in
    let c = config_of home u further made rs in
    let l = local_at u.locals i in
    ap (λ k. ends (exec go (tree (get i ∷ End ∷ [])) k c)) e
    ∙ ap ends (get_step i (value l) n c Stop (reads u.locals further i lt))
    ∙ ap (λ v. Done (v ∷ []) (left_store (store_with home u.memory made)) n) (value_same (length home.store.functions) t l (All-head IsFlat t [] flat) wide (fits i))
answered (t ∷ u' ∷ ts) i home u further made rs n few flat lt wide fits = absurd (omega (arith, few))

pub left_same : (home : Home) (bytes : List ℕ) (made : List Bool) → left_store (store_with (entered_home home) bytes made) ≡ store_with home bytes made
left_same home bytes made =
    let e : home.store.nesting + 1 - 1 ≡ home.store.nesting = omega arith in
    ap (λ k. let t : StoreState = record (store_with home bytes made) { nesting = k } in t) e

-- ---- the host's result

pub flat_count : (ts : List CoreType) (ws : List ℕ) → AreFlat ts ws → length ts ≤ 1 → length ws ≡ (if gives ts then 1 else 0)
flat_count [] [] are few = refl
flat_count [] (w ∷ ws) are few = absurd are
flat_count (t ∷ ts) [] are few = absurd are
flat_count (t ∷ []) (w ∷ []) are few = refl
flat_count (t ∷ []) (w ∷ v ∷ ws) are few = absurd are.1
flat_count (t ∷ u ∷ ts) (w ∷ ws) are few = absurd (omega (arith, few))

pub flat_small : (ts : List CoreType) (ws : List ℕ) → AreFlat ts ws → gives ts ≡ true → result_width ts ≡ Narrow → All IsFlat ts → result_in ws < 2 ^ 32
flat_small [] ws are some narrow flat = cc
flat_small (t ∷ ts) [] are some narrow flat = absurd are
flat_small (I32 ∷ ts) (w ∷ ws) are some narrow flat = are.0
flat_small (I64 ∷ ts) (w ∷ ws) are some narrow flat = cc
flat_small (Funcref ∷ ts) (w ∷ ws) are some narrow flat = absurd (All-head IsFlat Funcref ts flat)
flat_small (Externref ∷ ts) (w ∷ ws) are some narrow flat = absurd (All-head IsFlat Externref ts flat)

-- where it is kept
pub kept_wide : (b : Bool) (u : State) (i w : ℕ) → map local_width (if b then set_local u i w else u).locals ≡ map local_width u.locals
kept_wide true u i w = widths_set u.locals i w
kept_wide false u i w = refl

pub kept_fits : (b : Bool) (u : State) (i w : ℕ) → (b ≡ true → local_width (local_at u.locals i) ≡ Narrow → w < 2 ^ 32) → ((j : ℕ) → Fits (local_at u.locals j)) → (j : ℕ) → Fits (local_at (if b then set_local u i w else u).locals j)
kept_fits true u i w small fits j = fits_set u.locals i (with_value (local_at u.locals i) w) (fits_small (local_at u.locals i) w (small refl)) fits j
kept_fits false u i w small fits j = fits j
