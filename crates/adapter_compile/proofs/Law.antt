-- A whole routine's code does what the routine does.
use Rattle.std.proofs.Common.{◌≡◌, ℕ, suc, ◌+◌, List, [], ◌++◌, Bool, refl, sym, ap, ◌∙◌, subst, arith, inl, inr}
use Rattle.std.proofs.Math.Path.{fun_ext}
use Rattle.std.specs.Prelude.{map}
use Rattle.wasm_ast.specs.declared.instr.BlockType.TheVariants.{Empty}
use Rattle.wasm_ast.specs.declared.instr.Instr.{Instr}
use Rattle.core_store.specs.Tree.{Seq, Stop, InBlock, tree}
use Rattle.core_store.specs.Config.{Reply, Out, Over as Stops}
use Rattle.core_store.specs.Eval.{exec, go}
use Rattle.handle_space.specs.HandleMap.{HandleMap}
use Rattle.adapter_code.specs.declared.statement.Width.{Width}
use Rattle.adapter_code.specs.declared.state.CodeEnd.TheVariants.{Answer as Answers, Trap as Traps}
use Rattle.adapter_code.specs.Code.{Code}
use Rattle.adapter_code.specs.Run.{State, Run, Next, Left, Over, local_width, ended, runs}
use Rattle.adapter_compile.specs.declared.calls.HandleCalls.{HandleCalls}
use Rattle.adapter_compile.specs.Instructions.{routine_code}
use Rattle.adapter_compile.specs.Bounds.{nesting}
use Rattle.adapter_compile.specs.Handles.{Numbers, Follows}
use Rattle.adapter_compile.specs.Does.{Home, config_of, IsInRange, ArrivesAt, DoesIn, RoutinesDo}
use Rattle.adapter_compile.proofs.Chains.{follows_map, refused_map}
use Rattle.adapter_compile.proofs.Sequences.{seq_in, tree_of}
use Rattle.adapter_compile.proofs.Sim.{IsAt, count_of, state_of, ends_block, Arrives, Sim}
use Rattle.adapter_compile.proofs.Whole.{seq_does}

-- after the block around the routine
arrives_end : (numbers : Numbers) (home : Home) (q : Seq) (r : Run) (cs : List ℕ) (ps : List Bool) (n : ℕ) (X : List Reply → Out) (h : HandleMap ℕ) → IsAt [] r → Arrives numbers home [] (exec go Stop) r cs ps n X h →
    ArrivesAt numbers Out Stops (ended r).end (ended r).state.table (λ rs. exec go q n (config_of home (ended r).state cs ps rs)) (λ rs. ends_block (exec go q) (X rs)) h
arrives_end numbers home q (Next k s) cs ps n X h named p = (p.0, λ rs. ap (ends_block (exec go q)) (p.1 rs))
arrives_end numbers home q (Left m k s) cs ps n X h named p = absurd named
arrives_end numbers home q (Over Answers k s) cs ps n X h named p = (p.0, λ rs. ap (ends_block (exec go q)) (p.1 rs))
arrives_end numbers home q (Over Traps k s) cs ps n X h named (inl p) = inl (λ rs. ap (ends_block (exec go q)) (p rs))
arrives_end numbers home q (Over Traps k s) cs ps n X h named (inr p) = inr (refused_map numbers Out Out Stops Stops (ends_block (exec go q)) X h (λ o. refl) p)

same_count : (r : Run) → count_of r ≡ (ended r).count
same_count (Next k s) = refl
same_count (Left m k s) = refl
same_count (Over e k s) = refl

same_state : (r : Run) → state_of r ≡ (ended r).state
same_state (Next k s) = refl
same_state (Left m k s) = refl
same_state (Over e k s) = refl

does_in : (numbers : Numbers) (home : Home) (calls : HandleCalls) (ws : List Width) (code : Code) (behind : List Instr) (s : State) (cs : List ℕ) (ps : List Bool) (r : Run) →
    Sim numbers home 0 [] (exec go Stop) 0 (λ n rs. exec go (seq_in ws calls [] 0 code Stop) n (config_of home s cs ps rs)) s 0 cs r → DoesIn numbers home (routine_code ws calls code) behind s cs ps (ended r)
does_in numbers home calls ws code behind s cs ps r a = record {
  steps = suc a.steps;
  effects = a.effects;
  further' = a.counters;
  made' = a.pages;
  some = omega arith;
  few = omega (arith, a.few, same_count r);
  has = ap (λ (t : State). t.effects) (sym (same_state r)) ∙ a.has;
  long = a.kept.long;
  wide = ap (λ (t : State). map local_width t.locals) (sym (same_state r)) ∙ a.wide;
  range = subst (λ (t : State). IsInRange t) (same_state r) a.range;
  begins = λ rs. ap (λ (t : Seq). exec go t 0 (config_of home s cs ps rs)) (tree_of ws calls code behind);
  goes = λ n.
      let q = exec go (tree behind) in
      let inside : List Reply → Out = λ rs. exec go (seq_in ws calls [] 0 code Stop) (a.steps + n) (config_of home s cs ps rs) in
      let more : suc a.steps + n ≡ suc (a.steps + n) = omega arith in
      let path : (λ rs. exec go (tree (routine_code ws calls code ++ behind)) (suc a.steps + n) (config_of home s cs ps rs)) ≡ (λ rs. ends_block q (inside rs)) =
      fun_ext (λ rs. ap (λ (t : Seq). exec go t (suc a.steps + n) (config_of home s cs ps rs)) (tree_of ws calls code behind) ∙ ap (λ m. exec go (InBlock Empty (seq_in ws calls [] 0 code Stop) (tree behind)) m (config_of home s cs ps rs)) more) in
      let P = ArrivesAt numbers Out Stops (ended r).end (ended r).state.table (λ rs. exec go (tree behind) n (config_of home (ended r).state a.counters a.pages rs)) in
      subst (λ (x : List Reply → Out). Follows numbers Out Stops x s.table a.effects P) (sym path)
      (follows_map numbers Out Out Stops Stops (ends_block q) inside s.table a.effects (Arrives numbers home [] (exec go Stop) r a.counters a.pages n) P (λ o. refl) (a.goes n) (λ Y h p. arrives_end numbers home (tree behind) r a.counters a.pages n Y h a.named p));
}

pub do_so : RoutinesDo
do_so ws calls numbers home code behind s further made fine has is wide room range =
    does_in numbers home calls ws code behind s further made (runs code 0 s)
    (seq_does numbers home calls is ws code [] 0 (nesting code) Stop 0 s further made fine has (omega arith) (record { wide = wide; range = range; long = omega (arith, room) }))
