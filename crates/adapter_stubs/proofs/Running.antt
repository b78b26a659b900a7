-- A routine's code in few steps, and a call of a function of whatever results.
use Rattle.std.proofs.Common.{◌≡◌, ℕ, suc, ◌+◌, ◌*◌, ◌≤◌, List, [], ◌∷◌, ◌++◌, Some, Bool, true, length, take, drop, reverse, replicate, refl, sym, ap, ◌∙◌, subst, arith, inl, inr, min, append_assoc}
use Rattle.std.proofs.lemmas.List.{length-reverse, length-map, length-take, map-append, take-append-drop, replicate-append-replicate, drop_all, take_all, reverse-reverse}
use Rattle.std.proofs.Math.Path.{fun_ext}
use Rattle.std.specs.Prelude.{map, slice_get}
use Rattle.wasm_ast.specs.declared.instr.BlockType.TheVariants.{Empty}
use Rattle.wasm_ast.specs.declared.instr.Instr.{Instr}
use Rattle.wasm_ast.specs.declared.module.Body.{Body}
use Rattle.wasm_ast.specs.declared.module.CoreFunc.{CoreFunc}
use Rattle.core_store.specs.Tree.{Seq, Stop, InBlock, tree}
use Rattle.core_store.specs.State.{can_enter}
use Rattle.core_store.specs.declared.value.CoreSpaces.{CoreSpaces}
use Rattle.core_store.specs.declared.value.StoreFunc.TheVariants.{Inside}
use Rattle.core_store.specs.Locals.{each_local}
use Rattle.core_store.specs.Words.{words}
use Rattle.core_store.specs.Config.{Reply, Config, Outcome, Out, Over as Stops, bare, spaces_of}
use Rattle.core_store.specs.Eval.{Enter, function_type, entered_store, call_end, enter_within, begun, entered, finish, outside, exec, go, eval}
use Rattle.core_store.proofs.Steps.{go_enter}
use Rattle.handle_space.specs.HandleMap.{HandleMap}
use Rattle.adapter_code.specs.declared.statement.Width.{Width}
use Rattle.adapter_code.specs.declared.state.Local.{Local}
use Rattle.adapter_code.specs.declared.state.Local.TheVariants.{Small, Wide}
use Rattle.adapter_code.specs.declared.state.CodeEnd.TheVariants.{Answer as Answers, Trap as Traps}
use Rattle.adapter_code.specs.Code.{Code}
use Rattle.adapter_code.specs.Run.{State, Run, RoutineRun, Next, Left, Over, value, local_width, ended, runs, routine_run}
use Rattle.adapter_code.specs.WellFormed.{IsWellFormed}
use Rattle.adapter_compile.specs.declared.calls.HandleCalls.{HandleCalls}
use Rattle.adapter_compile.specs.Instructions.{routine_code}
use Rattle.adapter_compile.specs.Bounds.{nesting}
use Rattle.adapter_compile.specs.Handles.{Numbers, HasCalls, Follows}
use Rattle.adapter_compile.specs.Does.{Home, IsHome, store_with, config_of, core_value, BeginsAsZeros, IsInRange, ArrivesAt, DoesIn}
use Rattle.adapter_compile.proofs.Chains.{follows_map, refused_map}
use Rattle.adapter_compile.proofs.Places.{widths_length}
use Rattle.adapter_compile.proofs.Sequences.{seq_in, tree_of}
use Rattle.adapter_compile.proofs.Sim.{IsAt, count_of, state_of, ends_block, Arrives, Sim}
use Rattle.adapter_compile.proofs.Whole.{seq_does}
use Rattle.adapter_stubs.specs.Calls.{entered_home}

-- ---- a routine

-- a step more than those of its statements
pub record Tight (numbers : Numbers) (home : Home) (code : List Instr) (behind : List Instr) (s : State) (further : List ℕ) (made : List Bool) (run : RoutineRun) : Type 0 where
  pub does : DoesIn numbers home code behind s further made run
  pub few : does.steps ≤ 1 + 32 * run.count

-- after the block around the routine
arrives_end : (numbers : Numbers) (home : Home) (q : Seq) (r : Run) (cs : List ℕ) (ps : List Bool) (n : ℕ) (X : List Reply → Out) (h : HandleMap ℕ) → IsAt [] r → Arrives numbers home [] (exec go Stop) r cs ps n X h →
    ArrivesAt numbers Out Stops (ended r).end (ended r).state.table (λ rs. exec go q n (config_of home (ended r).state cs ps rs)) (λ rs. ends_block (exec go q) (X rs)) h
arrives_end numbers home q (Next k s) cs ps n X h named p = (p.0, λ rs. ap (ends_block (exec go q)) (p.1 rs))
arrives_end numbers home q (Left m k s) cs ps n X h named p = absurd named
arrives_end numbers home q (Over Answers k s) cs ps n X h named p = (p.0, λ rs. ap (ends_block (exec go q)) (p.1 rs))
arrives_end numbers home q (Over Traps k s) cs ps n X h named (inl p) = inl (λ rs. ap (ends_block (exec go q)) (p rs))
arrives_end numbers home q (Over Traps k s) cs ps n X h named (inr p) = inr (refused_map numbers Out Out Stops Stops (ends_block (exec go q)) X h (λ o. refl) p)

same_count : (r : Run) → count_of r ≡ (ended r).count
same_count (Next k s) = refl
same_count (Left m k s) = refl
same_count (Over e k s) = refl

same_state : (r : Run) → state_of r ≡ (ended r).state
same_state (Next k s) = refl
same_state (Left m k s) = refl
same_state (Over e k s) = refl

tight : (numbers : Numbers) (home : Home) (calls : HandleCalls) (ws : List Width) (code : Code) (behind : List Instr) (s : State) (cs : List ℕ) (ps : List Bool) (r : Run) →
    Sim numbers home 0 [] (exec go Stop) 0 (λ n rs. exec go (seq_in ws calls [] 0 code Stop) n (config_of home s cs ps rs)) s 0 cs r → Tight numbers home (routine_code ws calls code) behind s cs ps (ended r)
tight numbers home calls ws code behind s cs ps r a = record {
  does = record {
    steps = suc a.steps;
    effects = a.effects;
    further' = a.counters;
    made' = a.pages;
    some = omega arith;
    few = omega (arith, a.few, same_count r);
    has = ap (λ (t : State). t.effects) (sym (same_state r)) ∙ a.has;
    long = a.kept.long;
    wide = ap (λ (t : State). map local_width t.locals) (sym (same_state r)) ∙ a.wide;
    range = subst (λ (t : State). IsInRange t) (same_state r) a.range;
    begins = λ rs. ap (λ (t : Seq). exec go t 0 (config_of home s cs ps rs)) (tree_of ws calls code behind);
    goes = λ n.
        let q = exec go (tree behind) in
        let inside : List Reply → Out = λ rs. exec go (seq_in ws calls [] 0 code Stop) (a.steps + n) (config_of home s cs ps rs) in
        let more : suc a.steps + n ≡ suc (a.steps + n) = omega arith in
        let path : (λ rs. exec go (tree (routine_code ws calls code ++ behind)) (suc a.steps + n) (config_of home s cs ps rs)) ≡ (λ rs. ends_block q (inside rs)) =
        fun_ext (λ rs. ap (λ (t : Seq). exec go t (suc a.steps + n) (config_of home s cs ps rs)) (tree_of ws calls code behind) ∙ ap (λ m. exec go (InBlock Empty (seq_in ws calls [] 0 code Stop) (tree behind)) m (config_of home s cs ps rs)) more) in
        let P = ArrivesAt numbers Out Stops (ended r).end (ended r).state.table (λ rs. exec go (tree behind) n (config_of home (ended r).state a.counters a.pages rs)) in
        subst (λ (x : List Reply → Out). Follows numbers Out Stops x s.table a.effects P) (sym path)
        (follows_map numbers Out Out Stops Stops (ends_block q) inside s.table a.effects (Arrives numbers home [] (exec go Stop) r a.counters a.pages n) P (λ o. refl) (a.goes n) (λ Y h p. arrives_end numbers home (tree behind) r a.counters a.pages n Y h a.named p));
  };
  few = omega (arith, a.few, same_count r);
}

pub do_tightly : (ws : List Width) (calls : HandleCalls) (numbers : Numbers) (home : Home) (code : Code) (behind : List Instr) (s : State) (further : List ℕ) (made : List Bool) →
    IsWellFormed ws [] code → HasCalls calls code → IsHome calls numbers home → map local_width s.locals ≡ ws → nesting code ≤ length further → IsInRange s →
    Tight numbers home (routine_code ws calls code) behind s further made (routine_run code s)
do_tightly ws calls numbers home code behind s further made fine has is wide room range =
    tight numbers home calls ws code behind s further made (runs code 0 s)
    (seq_does numbers home calls is ws code [] 0 (nesting code) Stop 0 s further made fine has (omega arith) (record { wide = wide; range = range; long = omega (arith, room) }))

-- ---- a call

words_same : (ls : List Local) → words (map core_value ls) ≡ map value ls
words_same [] = refl
words_same (Small v ∷ ls) = ap (λ xs. v ∷ xs) (words_same ls)
words_same (Wide v ∷ ls) = ap (λ xs. v ∷ xs) (words_same ls)

drop_whole : (xs : List ℕ) (n : ℕ) → length xs ≡ n → drop n xs ≡ []
drop_whole xs n e = drop_all n xs (omega (arith, e))

take_whole : (xs : List ℕ) (n : ℕ) → length xs ≡ n → take n xs ≡ xs
take_whole xs n e = take_all n xs (omega (arith, e))

-- the locals of a call that begins: arguments, zeros for the other locals, and counters
locals_begin : (params counters : ℕ) (ls : List Local) (n : ℕ) → map value (drop params ls) ≡ replicate (length (drop params ls)) 0 → n ≡ length (drop params ls) + counters → map value (take params ls) ++ replicate n 0 ≡ map value ls ++ replicate counters 0
locals_begin params counters ls n zeros e =
    ap (λ k. map value (take params ls) ++ replicate k 0) e
    ∙ ap (λ xs. map value (take params ls) ++ xs) (sym (replicate-append-replicate (length (drop params ls)) counters 0) ∙ ap (λ xs. xs ++ replicate counters 0) (sym zeros))
    ∙ sym (append_assoc (map value (take params ls)) (map value (drop params ls)) (replicate counters 0))
    ∙ ap (λ xs. xs ++ replicate counters 0) (sym (map-append value (take params ls) (drop params ls)) ∙ ap (map value) (take-append-drop params ls))

-- a call of a function whose parameters are the first locals is its body
pub call_with : (ty : CoreFunc) (params counters : ℕ) (ws : List Width) (body : Body) (home : Home) (f instance n : ℕ) (s : State) (made : List Bool) (rs : List Reply) →
    slice_get home.store.functions f ≡ Some (Inside ty instance (each_local body.locals) body.code) → spaces_of home.store.instances instance ≡ home.spaces → can_enter home.store ≡ true → length ty.params ≡ length (take params ws) →
    map local_width s.locals ≡ ws → BeginsAsZeros params s.locals → length (each_local body.locals) ≡ length (drop params s.locals) + counters →
    eval (store_with home s.memory made) f (map core_value (take params s.locals)) rs n ≡ finish ty.results (call_end (length ty.results) [] [] bare (exec go (tree body.code) n (config_of (entered_home home) s (replicate counters 0) made rs)))
call_with ty params counters ws body home f instance n s made rs here own enters arity wide zeros long =
    let st = store_with home s.memory made in
    let given = take params s.locals in
    let args = words (map core_value given) in
    let c : Config = outside args st rs in
    let count = length ty.params in
    let sized : length ws ≡ length s.locals = ap length (sym wide) ∙ widths_length s.locals in
    let whole : length (reverse args) ≡ count =
    length-reverse args ∙ ap length (words_same given) ∙ length-map given value ∙ length-take params s.locals ∙ ap (min params) (sym sized) ∙ sym (length-take params ws) ∙ sym arity in
    let others = replicate (length (each_local body.locals)) 0 in
    let at : List ℕ → List ℕ → CoreSpaces → Outcome = λ stack l spaces.
    finish ty.results (call_end (length ty.results) stack [] bare (exec go (tree body.code) n (record { stack = []; locals = l; spaces = spaces; store = entered_store st; replies = rs }))) in
    let spaces = spaces_of home.store.instances instance in
    let back : reverse (take count (reverse args)) ≡ map value given = ap reverse (take_whole (reverse args) count whole) ∙ reverse-reverse args ∙ words_same given in
    ap (λ g. finish (function_type g).results (go (Enter f) n c)) here
    ∙ ap (finish ty.results) (go_enter f n c ∙ ap (λ g. entered go g n c) here)
    ∙ ap (λ b. finish ty.results (enter_within b n (call_end (length ty.results) (drop count (reverse args)) [] bare (exec go (tree body.code) n (begun ty instance (length (each_local body.locals)) c))))) enters
    ∙ ap (λ stack. at stack (reverse (take count (reverse args)) ++ others) spaces) (drop_whole (reverse args) count whole)
    ∙ ap (λ l. at [] (l ++ others) spaces) back
    ∙ ap (λ l. at [] l spaces) (locals_begin params counters s.locals (length (each_local body.locals)) zeros long)
    ∙ ap (at [] (map value s.locals ++ replicate counters 0)) own
