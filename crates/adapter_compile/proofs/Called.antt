-- A call of a function whose body is a routine's code.
use Rattle.std.proofs.Common.{◌≡◌, ℕ, zero, suc, ◌+◌, ◌-◌, List, [], ◌∷◌, ◌++◌, Bool, length, take, drop, reverse, replicate, refl, sym, ap, ◌∙◌, subst, arith, inl, inr, min, append_assoc, append-nil}
use Rattle.std.proofs.lemmas.List.{length-reverse, length-replicate, length-map, length-append, length-take, length-drop, map-append, take-append-drop, replicate-append-replicate, drop_all, take_all, reverse-reverse}
use Rattle.std.proofs.Math.Path.{fun_ext}
use Rattle.std.specs.Prelude.{map}
use Rattle.virt_base.specs.declared.core_type.CoreType.TheVariants.{I32}
use Rattle.wasm_ast.specs.declared.module.Body.{Body}
use Rattle.wasm_ast.specs.declared.instr.Instr.TheVariants.{End}
use Rattle.core_store.specs.Tree.{tree}
use Rattle.core_store.specs.State.{State as StoreState}
use Rattle.core_store.specs.declared.value.CoreSpaces.{CoreSpaces}
use Rattle.core_store.specs.Locals.{each_local}
use Rattle.core_store.specs.Words.{words}
use Rattle.core_store.specs.Config.{Reply, Config, Outcome, Done, Out, Over as Stops, bare, spaces_of}
use Rattle.core_store.specs.Eval.{Enter, function_type, entered_store, left_store, call_end, enter_within, begun, entered, finish, outside, exec, go, eval}
use Rattle.core_store.proofs.Steps.{go_enter}
use Rattle.handle_space.specs.HandleMap.{HandleMap}
use Rattle.adapter_code.specs.declared.statement.Width.{Width}
use Rattle.adapter_code.specs.declared.state.Local.{Local}
use Rattle.adapter_code.specs.declared.state.Local.TheVariants.{Small, Wide}
use Rattle.adapter_code.specs.declared.state.CodeEnd.{CodeEnd}
use Rattle.adapter_code.specs.declared.state.CodeEnd.TheVariants.{Answer as Answers, Trap as Traps}
use Rattle.adapter_code.specs.Code.{Code}
use Rattle.adapter_code.specs.Run.{State, RoutineRun, value, local_width, routine_run}
use Rattle.adapter_code.specs.WellFormed.{IsWellFormed}
use Rattle.adapter_compile.specs.declared.calls.HandleCalls.{HandleCalls}
use Rattle.adapter_compile.specs.Instructions.{routine_code}
use Rattle.adapter_compile.specs.Bounds.{nesting}
use Rattle.adapter_compile.specs.Handles.{Numbers, Follows}
use Rattle.adapter_compile.specs.Does.{Home, store_with, config_of, ArrivesAt, DoesIn, core_type, routine_type, core_value, BeginsAsZeros, IsPlaced, DoesCalled, Compiles, counters_of, declared_of, body_of}
use Rattle.adapter_compile.proofs.Chains.{follows_map, refused_map}
use Rattle.adapter_compile.proofs.Places.{widths_length}
use Rattle.adapter_compile.proofs.Law.{do_so}

-- how a function's body ends
abbrev ends : Out → Outcome
ends o = finish [] (call_end 0 [] [] bare o)

-- while the call is in progress
abbrev within : Home → Home
within home = record { spaces = home.spaces; store = entered_store home.store; memory = home.memory }

words_same : (ls : List Local) → words (map core_value ls) ≡ map value ls
words_same [] = refl
words_same (Small v ∷ ls) = ap (λ xs. v ∷ xs) (words_same ls)
words_same (Wide v ∷ ls) = ap (λ xs. v ∷ xs) (words_same ls)

drop_whole : (xs : List ℕ) (n : ℕ) → length xs ≡ n → drop n xs ≡ []
drop_whole xs n e = drop_all n xs (omega (arith, e))

take_whole : (xs : List ℕ) (n : ℕ) → length xs ≡ n → take n xs ≡ xs
take_whole xs n e = take_all n xs (omega (arith, e))

-- the locals of a call that begins: arguments, zeros for the other locals, and counters
locals_begin : (params counters : ℕ) (ls : List Local) (n : ℕ) → map value (drop params ls) ≡ replicate (length (drop params ls)) 0 → n ≡ length (drop params ls) + counters → map value (take params ls) ++ replicate n 0 ≡ map value ls ++ replicate counters 0
locals_begin params counters ls n zeros e =
    ap (λ k. map value (take params ls) ++ replicate k 0) e
    ∙ ap (λ xs. map value (take params ls) ++ xs) (sym (replicate-append-replicate (length (drop params ls)) counters 0) ∙ ap (λ xs. xs ++ replicate counters 0) (sym zeros))
    ∙ sym (append_assoc (map value (take params ls)) (map value (drop params ls)) (replicate counters 0))
    ∙ ap (λ xs. xs ++ replicate counters 0) (sym (map-append value (take params ls) (drop params ls)) ∙ ap (map value) (take-append-drop params ls))

-- a call of the function is its body
call_body : (params counters : ℕ) (ws : List Width) (body : Body) (home : Home) (f n : ℕ) (s : State) (made : List Bool) (rs : List Reply) → IsPlaced params ws body home f → map local_width s.locals ≡ ws → BeginsAsZeros params s.locals → length (each_local body.locals) ≡ length (drop params s.locals) + counters →
    eval (store_with home s.memory made) f (map core_value (take params s.locals)) rs n ≡ ends (exec go (tree body.code) n (config_of (within home) s (replicate counters 0) made rs))
call_body params counters ws body home f n s made rs placed wide zeros long =
    let st = store_with home s.memory made in
    let given = take params s.locals in
    let args = words (map core_value given) in
    let c : Config = outside args st rs in
    let count = length (map core_type (take params ws)) in
    let sized : length ws ≡ length s.locals = ap length (sym wide) ∙ widths_length s.locals in
    let whole : length (reverse args) ≡ count =
    length-reverse args ∙ ap length (words_same given) ∙ length-map given value ∙ length-take params s.locals ∙ ap (min params) (sym sized) ∙ sym (length-take params ws) ∙ sym (length-map (take params ws) core_type) in
    let others = replicate (length (each_local body.locals)) 0 in
    let at : List ℕ → List ℕ → CoreSpaces → Outcome = λ stack l spaces.
    finish [] (call_end 0 stack [] bare (exec go (tree body.code) n (record { stack = []; locals = l; spaces = spaces; store = entered_store st; replies = rs }))) in
    let spaces = spaces_of home.store.instances placed.instance in
    let back : reverse (take count (reverse args)) ≡ map value given = ap reverse (take_whole (reverse args) count whole) ∙ reverse-reverse args ∙ words_same given in
    ap (λ g. finish (function_type g).results (go (Enter f) n c)) placed.function
    ∙ ap (finish []) (go_enter f n c ∙ ap (λ g. entered go g n c) placed.function)
    ∙ ap (λ b. finish [] (enter_within b n (call_end 0 (drop count (reverse args)) [] bare (exec go (tree body.code) n (begun (routine_type params ws) placed.instance (length (each_local body.locals)) c))))) placed.enters
    ∙ ap (λ stack. at stack (reverse (take count (reverse args)) ++ others) spaces) (drop_whole (reverse args) count whole)
    ∙ ap (λ l. at [] (l ++ others) spaces) back
    ∙ ap (λ l. at [] l spaces) (locals_begin params counters s.locals (length (each_local body.locals)) zeros long)
    ∙ ap (at [] (map value s.locals ++ replicate counters 0)) placed.spaces

left_same : (home : Home) (bytes : List ℕ) (made : List Bool) (n : ℕ) → Done [] (left_store (store_with (within home) bytes made)) n ≡ Done [] (store_with home bytes made) n
left_same home bytes made n =
    let e : home.store.nesting + 1 - 1 ≡ home.store.nesting = omega arith in
    ap (λ k. let t : StoreState = record (store_with home bytes made) { nesting = k } in Done [] t n) e

arrives_called : (numbers : Numbers) (home : Home) (e : CodeEnd) (table : HandleMap ℕ) (s : State) (further : List ℕ) (made : List Bool) (n : ℕ) (X : List Reply → Out) (h : HandleMap ℕ) →
    ArrivesAt numbers Out Stops e table (λ rs. exec go (tree (End ∷ [])) n (config_of (within home) s further made rs)) X h → ArrivesAt numbers Outcome (λ o. o) e table (λ rs. Done [] (store_with home s.memory made) n) (λ rs. ends (X rs)) h
arrives_called numbers home Answers table s further made n X h p = (p.0, λ rs. ap ends (p.1 rs) ∙ left_same home s.memory made n)
arrives_called numbers home Traps table s further made n X h (inl p) = inl (λ rs. ap ends (p rs))
arrives_called numbers home Traps table s further made n X h (inr p) = inr (refused_map numbers Out Outcome Stops (λ o. o) ends X h (λ o. refl) p)

called : (numbers : Numbers) (home : Home) (params counters : ℕ) (ws : List Width) (calls : HandleCalls) (code : Code) (body : Body) (f : ℕ) (s : State) (made : List Bool) (run : RoutineRun) → body.code ≡ routine_code ws calls code ++ End ∷ [] → IsPlaced params ws body home f → map local_width s.locals ≡ ws → BeginsAsZeros params s.locals → length (each_local body.locals) ≡ length (drop params s.locals) + counters →
    DoesIn numbers (within home) (routine_code ws calls code) (End ∷ []) s (replicate counters 0) made run → DoesCalled numbers home f params s made run
called numbers home params counters ws calls code body f s made run is placed wide zeros long a = record {
  steps = a.steps;
  effects = a.effects;
  made' = a.made';
  some = a.some;
  few = a.few;
  has = a.has;
  begins = λ rs. call_body params counters ws body home f 0 s made rs placed wide zeros long ∙ ap (λ l. ends (exec go (tree l) 0 (config_of (within home) s (replicate counters 0) made rs))) is ∙ ap ends (a.begins rs);
  goes = λ n.
      let inside : List Reply → Out = λ rs. exec go (tree (routine_code ws calls code ++ End ∷ [])) (a.steps + n) (config_of (within home) s (replicate counters 0) made rs) in
      let path : (λ rs. eval (store_with home s.memory made) f (map core_value (take params s.locals)) rs (a.steps + n)) ≡ (λ rs. ends (inside rs)) =
      fun_ext (λ rs. call_body params counters ws body home f (a.steps + n) s made rs placed wide zeros long ∙ ap (λ l. ends (exec go (tree l) (a.steps + n) (config_of (within home) s (replicate counters 0) made rs))) is) in
      let P = ArrivesAt numbers Outcome (λ o. o) run.end run.state.table (λ rs. Done [] (store_with home run.state.memory a.made') n) in
      subst (λ (x : List Reply → Outcome). Follows numbers Outcome (λ o. o) x s.table a.effects P) (sym path)
      (follows_map numbers Out Outcome Stops (λ o. o) ends inside s.table a.effects (ArrivesAt numbers Out Stops run.end run.state.table (λ rs. exec go (tree (End ∷ [])) n (config_of (within home) run.state a.further' a.made' rs))) P (λ o. refl) (a.goes n)
      (λ Y h p. arrives_called numbers home run.end run.state.table run.state a.further' a.made' n Y h p));
}

-- the locals that are declared
each_counter : (n : ℕ) → each_local (counters_of n) ≡ replicate n I32
each_counter zero = refl
each_counter (suc n) = append-nil (replicate (suc n) I32)

pub each_declared : (ws : List Width) (n : ℕ) → each_local (declared_of ws n) ≡ map core_type ws ++ replicate n I32
each_declared [] n = each_counter n
each_declared (w ∷ ws) n = ap (λ l. core_type w ∷ l) (each_declared ws n)

pub compiled : (params : ℕ) (ws : List Width) (calls : HandleCalls) (code : Code) → IsWellFormed ws [] code → Compiles params ws calls code (body_of params ws calls code)
compiled params ws calls code fine numbers home f s made has good placed wide zeros range =
    let counters = nesting code in
    let body = body_of params ws calls code in
    let sized : length ws ≡ length s.locals = ap length (sym wide) ∙ widths_length s.locals in
    let long : length (each_local body.locals) ≡ length (drop params s.locals) + counters =
    ap length (each_declared (drop params ws) counters) ∙ length-append (map core_type (drop params ws)) (replicate counters I32) ∙ omega (arith, length-map (drop params ws) core_type, length-drop params ws, length-drop params s.locals, sized, length-replicate counters I32) in
    called numbers home params counters ws calls code body f s made (routine_run code s) refl placed wide zeros long
    (do_so ws calls numbers (within home) code (End ∷ []) s (replicate counters 0) made fine has (record { memory = good.memory; within = good.within; hosted = good.hosted }) wide (omega (arith, length-replicate {A = ℕ} counters 0)) range)
