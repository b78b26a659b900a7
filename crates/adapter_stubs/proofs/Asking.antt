-- The code of a stub between its two routines.
use Rattle.std.proofs.Common.{◌≡◌, ◌≢◌, ℕ, zero, suc, ◌+◌, ◌<◌, ◌≤◌, ◌^◌, List, [], ◌∷◌, ◌++◌, Bool, true, false, map, length, take, drop, reverse, refl, sym, ap, ◌∙◌, subst, arith, append-nil, append_assoc}
use Rattle.std.proofs.lemmas.List.{length-map, length-take-le, length-drop, length-reverse, reverse-append, reverse-reverse, drop_all, take_all}
use Rattle.std.specs.Prelude.{if◌then◌else◌, slice_set, slice_index_or}
use Rattle.wasm_ast.specs.declared.module.CoreFunc.{CoreFunc}
use Rattle.wasm_ast.specs.declared.instr.BlockType.TheVariants.{Empty}
use Rattle.wasm_ast.specs.declared.instr.Instr.{Instr}
use Rattle.wasm_ast.specs.declared.instr.Instr.TheVariants.{If, End, Call}
use Rattle.core_store.specs.Tree.{Seq, Stop, Then, InBlock, InIf, Part, first, onto, placed, parts, tree}
use Rattle.core_memory.specs.Linear.{Linear}
use Rattle.core_store.specs.State.{State as StoreState, memory_at}
use Rattle.core_store.specs.Words.{words, word_of, values_in}
use Rattle.core_store.specs.Config.{Reply, Out, Over, Asks, then_do, with_stack}
use Rattle.core_store.specs.Eval.{block_end, choose, replied, exec, go}
use Rattle.handle_space.specs.HandleMap.{HandleMap}
use Rattle.adapter_code.specs.declared.statement.Width.{Width}
use Rattle.adapter_code.specs.declared.statement.Width.TheVariants.{Narrow}
use Rattle.adapter_code.specs.declared.state.Local.{Local}
use Rattle.adapter_code.specs.Code.{Code}
use Rattle.adapter_code.specs.Run.{State, value, local_width, local_at, number_at, set_local}
use Rattle.adapter_code.proofs.Places.{has_width, has_place}
use Rattle.adapter_code.specs.WellFormed.{HasWidth}
use Rattle.adapter_compile.specs.declared.calls.HandleCalls.{HandleCalls}
use Rattle.adapter_compile.specs.Instructions.{get, set as set_of, routine_code}
use Rattle.adapter_compile.specs.Handles.{IsOutside}
use Rattle.adapter_compile.specs.Does.{Home, store_with, config_of, IsInRange}
use Rattle.adapter_compile.proofs.Places.{reads, small_fits}
use Rattle.adapter_compile.proofs.Steps.{i32_same, get_step, set_step, call_step}
use Rattle.adapter_compile.proofs.Sequences.{seq_in, parts_of, tree_of}
use Rattle.adapter_stubs.specs.declared.host_call.HostCall.{HostCall}
use Rattle.adapter_stubs.specs.Stub.{gets, result_at, keeps_result, host_code, given, home_behind, result_in, state_behind, Skips, AsksHost, GoesOn, HasLocals, AsksSo, StubsAsk}

-- ---- the structured syntax

abbrev gets_seq : ℕ → ℕ → Seq → Seq
gets_seq from zero q = q
gets_seq from (suc n) q = Then (get from) (gets_seq (suc from) n q)

abbrev keeps_seq : Bool → ℕ → Seq → Seq
keeps_seq true i q = Then (set_of i) q
keeps_seq false i q = q

gets_parts : (from n : ℕ) (rest : List Instr) (p : Part) (ps : List Part) → parts rest ≡ p ∷ ps → parts (gets from n ++ rest) ≡ onto (gets_seq from n) (p ∷ ps)
gets_parts from zero rest p ps e = e
gets_parts from (suc n) rest p ps e = ap (onto (Then (get from))) (gets_parts (suc from) n rest p ps e)

keeps_parts : (b : Bool) (i : ℕ) (rest : List Instr) (p : Part) (ps : List Part) → parts rest ≡ p ∷ ps → parts ((if b then set_of i ∷ [] else []) ++ rest) ≡ onto (keeps_seq b i) (p ∷ ps)
keeps_parts true i rest p ps e = ap (onto (Then (set_of i))) e
keeps_parts false i rest p ps e = e

module _ (ws : List Width) (calls : HandleCalls) (flag : ℕ) (c : HostCall) (after : Code) (behind : List Instr) where
  abbrev after_seq : Seq
  after_seq = InBlock Empty (seq_in ws calls [] 0 after Stop) Stop

  abbrev asks_seq : Seq
  asks_seq = gets_seq (flag + 1) c.params (Then (Call c.function) (keeps_seq c.gives (result_at flag c) after_seq))

  host_tree : tree (host_code ws calls flag c after ++ behind) ≡ Then (get flag) (InIf Empty asks_seq Stop (tree behind))
  host_tree =
      let G = gets (flag + 1) c.params in
      let K = keeps_result flag c in
      let R = routine_code ws calls after in
      let none : Part = record { here = Stop; other = Stop } in
      ap (λ l. (first (onto (Then (get flag)) (placed (If Empty) (parts l)))).here)
      (append_assoc G (Call c.function ∷ (K ++ (R ++ End ∷ []))) behind
      ∙ ap (λ l. G ++ (Call c.function ∷ l)) (append_assoc K (R ++ End ∷ []) behind ∙ ap (λ l. K ++ l) (append_assoc R (End ∷ []) behind)))
      ∙ ap (λ qs. (first (onto (Then (get flag)) (placed (If Empty) qs))).here)
      (gets_parts (flag + 1) c.params (Call c.function ∷ (K ++ (R ++ (End ∷ behind)))) (record { here = Then (Call c.function) (keeps_seq c.gives (result_at flag c) after_seq); other = Stop }) (parts behind)
      (ap (onto (Then (Call c.function))) (keeps_parts c.gives (result_at flag c) (R ++ (End ∷ behind)) (record { here = after_seq; other = Stop }) (parts behind) (parts_of ws calls after (End ∷ behind) none (parts behind) refl))))

-- ---- running it

values_more : (ls : List Local) (from n : ℕ) (stack : List ℕ) → from < length ls → reverse (map value (take n (drop (suc from) ls))) ++ (value (local_at ls from) ∷ stack) ≡ reverse (map value (take (suc n) (drop from ls))) ++ stack
values_more [] from n stack lt = absurd (omega arith)
values_more (l ∷ ls) zero n stack lt =
    let xs = map value (take n ls) in
    sym (append_assoc (reverse xs) (value l ∷ []) stack) ∙ ap (λ l. l ++ stack) (sym (reverse-append (value l ∷ []) xs))
values_more (l ∷ ls) (suc from) n stack lt = values_more ls from n stack (omega arith)

gets_run : (home : Home) (s : State) (further : List ℕ) (made : List Bool) (rs : List Reply) (q : Seq) (n from m : ℕ) (stack : List ℕ) → from + n ≤ length s.locals →
    exec go (gets_seq from n q) (n + m) (with_stack (config_of home s further made rs) stack) ≡ exec go q m (with_stack (config_of home s further made rs) (reverse (map value (take n (drop from s.locals))) ++ stack))
gets_run home s further made rs q zero from m stack le = let e : 0 + m ≡ m = omega arith in ap (λ k. exec go q k (with_stack (config_of home s further made rs) stack)) e
gets_run home s further made rs q (suc n) from m stack le =
    let e : suc n + m ≡ suc (n + m) = omega arith in
    let c = config_of home s further made rs in
    let v = value (local_at s.locals from) in
    ap (λ k. exec go (gets_seq from (suc n) q) k (with_stack c stack)) e
    ∙ get_step from v (n + m) (with_stack c stack) (gets_seq (suc from) n q) (reads s.locals further from (omega (arith, le)))
    ∙ gets_run home s further made rs q n (suc from) m (v ∷ stack) (omega (arith, le))
    ∙ ap (λ l. exec go q m (with_stack c l)) (values_more s.locals from n stack (omega (arith, le)))

-- a memory as it is
memory_same : (ms : List Linear) (k : ℕ) (d : Linear) → k < length ms → slice_set ms k (slice_index_or ms k d) ≡ ms
memory_same [] k d lt = absurd (omega arith)
memory_same (m ∷ ms) zero d lt = refl
memory_same (m ∷ ms) (suc k) d lt = ap (λ xs. m ∷ xs) (memory_same ms k d (omega arith))

store_same : (home : Home) (r : Reply) → home.memory < length r.store.memories → store_with (home_behind home r) (memory_at r.store home.memory).bytes (memory_at r.store home.memory).made ≡ r.store
store_same home r lt = ap (λ ms. let t : StoreState = record r.store { memories = ms } in t) (memory_same r.store.memories home.memory _ lt)

one_word : (ws : List ℕ) → length ws ≡ 1 → ws ≡ result_in ws ∷ []
one_word [] e = absurd (omega (arith, e))
one_word (w ∷ []) e = refl
one_word (w ∷ v ∷ ws) e = absurd (omega (arith, e))

no_word : (ws : List ℕ) → length ws ≡ 0 → ws ≡ []
no_word [] e = refl
no_word (w ∷ ws) e = absurd (omega (arith, e))

-- the result is kept, if there is one
keeps_run : (b : Bool) (i : ℕ) (home : Home) (s : State) (further : List ℕ) (made : List Bool) (rs : List Reply) (q : Seq) (n : ℕ) (results : List ℕ) → i < length s.locals → length results ≡ (if b then 1 else 0) →
    exec go (keeps_seq b i q) ((if b then 1 else 0) + n) (with_stack (config_of home s further made rs) (reverse results)) ≡ exec go q n (config_of home (if b then set_local s i (result_in results) else s) further made rs)
keeps_run true i home s further made rs q n results lt e =
    let more : 1 + n ≡ suc n = omega arith in
    ap (λ l. exec go (keeps_seq true i q) (1 + n) (with_stack (config_of home s further made rs) (reverse l))) (one_word results e)
    ∙ ap (λ k. exec go (keeps_seq true i q) k (with_stack (config_of home s further made rs) (result_in results ∷ []))) more
    ∙ set_step home s further made rs i (result_in results) n q lt
keeps_run false i home s further made rs q n results lt e =
    let more : 0 + n ≡ n = omega arith in
    ap (λ l. exec go q (0 + n) (with_stack (config_of home s further made rs) (reverse l))) (no_word results e)
    ∙ ap (λ k. exec go q k (config_of home s further made rs)) more

-- the memory and the table of a state do not meet its locals
state_same : (b : Bool) (s : State) (i w : ℕ) (m : List ℕ) (t : HandleMap ℕ) →
    (let u : State = record s { memory = m; table = t } in (if b then set_local u i w else u)) ≡ (let u : State = (if b then set_local s i w else s) in let v : State = record u { memory = m; table = t } in v)
state_same true s i w m t = refl
state_same false s i w m t = refl

pick_none : (x : ℕ) (a b : Out) → x ≡ 0 → choose x a b ≡ a
pick_none zero a b e = refl
pick_none (suc x) a b e = absurd (omega (arith, e))

pick_some : (x : ℕ) (a b : Out) → x ≢ 0 → choose x a b ≡ b
pick_some zero a b no' = absurd (no' refl)
pick_some (suc x) a b no' = refl

module _ (ws : List Width) (calls : HandleCalls) (flag : ℕ) (c : HostCall) (after : Code) (behind : List Instr) (number : ℕ) (ty : CoreFunc) (home : Home) (s : State) (further : List ℕ) (made : List Bool)
    (there : HasLocals ws flag c) (host : IsOutside home.spaces home.store.functions c.function ty number) (arity : length ty.params ≡ c.params) (wide : map local_width s.locals ≡ ws) (range : IsInRange s) where
  sized : length ws ≡ length s.locals
  sized = ap length (sym wide) ∙ length-map s.locals local_width

  flag_width : HasWidth (map local_width s.locals) flag Narrow
  flag_width = subst (λ l. HasWidth l flag Narrow) (sym wide) there.narrow

  flag_small : number_at s flag < 2 ^ 32
  flag_small = small_fits (local_at s.locals flag) (range.locals flag) (has_width s.locals flag Narrow flag_width)

  -- up to the test of the flag
  tested : (m : ℕ) (rs : List Reply) → exec go (tree (host_code ws calls flag c after ++ behind)) (suc (suc m)) (config_of home s further made rs)
      ≡ then_do (block_end 0 0 (choose (number_at s flag) (exec go Stop m (config_of home s further made rs)) (exec go (asks_seq ws calls flag c after behind) m (config_of home s further made rs)))) (exec go (tree behind))
  tested m rs =
      let d = config_of home s further made rs in
      let A = asks_seq ws calls flag c after behind in
      ap (λ t. exec go t (suc (suc m)) d) (host_tree ws calls flag c after behind)
      ∙ get_step flag (number_at s flag) (suc m) d (InIf Empty A Stop (tree behind)) (reads s.locals further flag (has_place s.locals flag Narrow flag_width))
      ∙ ap (λ x. then_do (block_end 0 0 (choose x (exec go Stop m d) (exec go A m d))) (exec go (tree behind))) (i32_same (number_at s flag) flag_small)

  given_long : length (given flag c s) ≡ c.params
  given_long =
      length-map (take c.params (drop (flag + 1) s.locals)) value ∙ length-take-le c.params (drop (flag + 1) s.locals) (omega (arith, there.within, sized, length-drop (flag + 1) s.locals))

  -- up to the call, with what goes to the host as operands
  asked : (m : ℕ) (rs : List Reply) → exec go (asks_seq ws calls flag c after behind) (c.params + suc m) (config_of home s further made rs)
      ≡ then_do (replied ty number m (with_stack (config_of home s further made rs) (reverse (given flag c s))) rs) (exec go (keeps_seq c.gives (result_at flag c) (after_seq ws calls flag c after behind)))
  asked m rs =
      let d = config_of home s further made rs in
      let K = keeps_seq c.gives (result_at flag c) (after_seq ws calls flag c after behind) in
      gets_run home s further made rs (Then (Call c.function) K) c.params (flag + 1) (suc m) [] (omega (arith, there.within, sized))
      ∙ ap (λ l. exec go (Then (Call c.function) K) (suc m) (with_stack d l)) (append-nil (reverse (given flag c s)))
      ∙ call_step c.function number m ty (with_stack d (reverse (given flag c s))) K host

  skipped : Skips ws calls flag c after behind home s further made
  skipped none n rs =
      let e : 2 + n ≡ suc (suc n) = omega arith in
      let d = config_of home s further made rs in
      ap (λ m. exec go (tree (host_code ws calls flag c after ++ behind)) m d) e
      ∙ tested n rs
      ∙ ap (λ o. then_do (block_end 0 0 o) (exec go (tree behind))) (pick_none (number_at s flag) _ _ none)

  operands_whole : reverse (take (length ty.params) (reverse (given flag c s))) ≡ given flag c s
  operands_whole =
      ap reverse (take_all (length ty.params) (reverse (given flag c s)) (omega (arith, length-reverse (given flag c s), given_long, arity))) ∙ reverse-reverse (given flag c s)

  operands_gone : drop (length ty.params) (reverse (given flag c s)) ≡ []
  operands_gone = drop_all (length ty.params) (reverse (given flag c s)) (omega (arith, length-reverse (given flag c s), given_long, arity))

  asks : AsksHost ws calls flag c after behind number ty home s further made
  asks some n =
      let e : 3 + c.params + n ≡ suc (suc (c.params + suc n)) = omega arith in
      let d = config_of home s further made [] in
      ap (λ m. exec go (tree (host_code ws calls flag c after ++ behind)) m d) e
      ∙ tested (c.params + suc n) []
      ∙ ap (λ o. then_do (block_end 0 0 o) (exec go (tree behind))) (pick_some (number_at s flag) _ _ some ∙ asked n [])
      ∙ ap (λ l. Over (Asks number (values_in (length home.store.functions) ty.params l) (store_with home s.memory made) n)) operands_whole

  goes_on : GoesOn ws calls flag c after behind home s further made
  goes_on some r rs table answered n =
      let extra : ℕ = if c.gives then 1 else 0 in
      let e : 3 + c.params + extra + n ≡ suc (suc (c.params + suc (extra + n))) = omega arith in
      let d = config_of home s further made (r ∷ rs) in
      let K = keeps_seq c.gives (result_at flag c) (after_seq ws calls flag c after behind) in
      let u : State = record s { memory = (memory_at r.store home.memory).bytes; table = table } in
      let made' = (memory_at r.store home.memory).made in
      let ends : Out → Out = λ o. then_do (block_end 0 0 o) (exec go (tree behind)) in
      let within : result_at flag c < length s.locals = omega (arith, there.within, sized) in
      ap (λ m. exec go (tree (host_code ws calls flag c after ++ behind)) m d) e
      ∙ tested (c.params + suc (extra + n)) (r ∷ rs)
      ∙ ap ends (pick_some (number_at s flag) _ _ some ∙ asked (extra + n) (r ∷ rs)
      ∙ ap (λ l. exec go K (extra + n) (record { stack = reverse (words r.results) ++ l; locals = d.locals; spaces = d.spaces; store = r.store; replies = rs })) operands_gone
      ∙ ap (λ l. exec go K (extra + n) (record { stack = l; locals = d.locals; spaces = d.spaces; store = r.store; replies = rs })) (append-nil (reverse (words r.results)))
      ∙ ap (λ t. exec go K (extra + n) (record { stack = reverse (words r.results); locals = d.locals; spaces = d.spaces; store = t; replies = rs })) (sym (store_same home r answered.within))
      ∙ keeps_run c.gives (result_at flag c) (home_behind home r) u further made' rs (after_seq ws calls flag c after behind) n (words r.results) within (length-map r.results word_of ∙ answered.count)
      ∙ ap (λ t. exec go (after_seq ws calls flag c after behind) n (config_of (home_behind home r) t further made' rs)) (state_same c.gives s (result_at flag c) (result_in (words r.results)) (memory_at r.store home.memory).bytes table)
      ∙ ap (λ q. exec go q n (config_of (home_behind home r) (state_behind flag c home s r table) further made' rs)) (sym (tree_of ws calls after (End ∷ []))))

  pub asks_so : AsksSo ws calls flag c after behind number ty home s further made
  asks_so = record { skips = skipped; asks = asks; goes = goes_on }

pub stubs_ask : StubsAsk
stubs_ask ws calls flag c after behind number ty home s further made there host arity wide range = asks_so ws calls flag c after behind number ty home s further made there host arity wide range
