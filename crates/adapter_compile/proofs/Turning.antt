-- The turns of a `Repeat` and of its loop.
use Rattle.std.proofs.Common.{◌≡◌, ℕ, zero, suc, ◌+◌, ◌-◌, ◌*◌, ◌<◌, ◌≤◌, ◌^◌, ◌%◌, List, [], ◌∷◌, ◌++◌, Some, None, Bool, true, false, true≢false, length, refl, sym, ap, ◌∙◌, subst, arith, inl, inr, append_assoc, append-nil, lit<}
use Rattle.std.proofs.Math.Path.{fun_ext}
use Rattle.std.proofs.Math.Nat.{mod-eq_of_lt, add-mod_right}
use Rattle.std.proofs.lemmas.Bool.{eq-eqb}
use Rattle.std.specs.Prelude.{◌⊎◌, map, slice_get, slice_set, if◌then◌else◌, ◌==◌}
use Rattle.wasm_ast.specs.declared.instr.BlockType.TheVariants.{Empty}
use Rattle.wasm_ast.specs.declared.instr.Instr.TheVariants.{BrIf}
use Rattle.core_store.specs.Tree.{Seq, Stop, Then}
use Rattle.core_store.specs.Words.{i32_in}
use Rattle.core_store.specs.Config.{Reply, Config, Out, Next as Goes, Break, Over as Stops, Trapped, then_do, with_locals}
use Rattle.core_store.specs.Eval.{Turn, loop_end, choose, exec, go}
use Rattle.core_store.proofs.Steps.{go_turn}
use Rattle.handle_space.specs.HandleMap.{HandleMap}
use Rattle.adapter_code.specs.declared.statement.Width.{Width}
use Rattle.adapter_code.specs.declared.statement.Width.TheVariants.{Narrow}
use Rattle.adapter_code.specs.declared.statement.IntOp.TheVariants.{Sub}
use Rattle.adapter_code.specs.declared.state.Effect.{Effect}
use Rattle.adapter_code.specs.declared.state.CodeEnd.TheVariants.{Answer as Answers, Trap as Traps}
use Rattle.adapter_code.specs.Number.{result_of}
use Rattle.adapter_code.specs.Run.{State, Run, Next, Left, Over, value, local_width, turn_end, turns}
use Rattle.adapter_code.specs.WellFormed.{IsNamed}
use Rattle.adapter_compile.specs.Instructions.{Labels, label_of, tee, numeric, constant}
use Rattle.adapter_compile.specs.Handles.{Numbers, Refused, Follows}
use Rattle.adapter_compile.specs.Does.{Home, config_of, IsInRange}
use Rattle.adapter_compile.proofs.Chains.{follows_on, follows_map, refused_map}
use Rattle.adapter_compile.proofs.Places.{reads_behind, writes_behind, set_here, set_other, set_length}
use Rattle.adapter_compile.proofs.Steps.{i32_same, get_step, operator_step}
use Rattle.adapter_compile.proofs.Sequences.{tail_seq}
use Rattle.adapter_compile.proofs.Sim.{names_of, Onward, Runs, Kept, kept_on, up, from_up, ends_block, Arrives, Sim, sim_after}

-- one less than a counter
one_less : (v : ℕ) → suc v < 2 ^ 32 → result_of Sub Narrow (suc v) 1 ≡ v
one_less v lt =
    let e : suc v + (2 ^ 32 - 1) ≡ v + 2 ^ 32 = omega arith in
    ap (λ m. m % 2 ^ 32) e ∙ add-mod_right v (2 ^ 32) ∙ mod-eq_of_lt (below v lt)
  where
    below : (x : ℕ) → suc x < 2 ^ 32 → x < 2 ^ 32
    below x l = omega (arith, l)

module _ (numbers : Numbers) (home : Home) (ws : List Width) (d room : ℕ) (name : ℕ) (ls : Labels) (q : Onward) (body : Seq) (runs_body : ℕ → State → Run) where
  abbrev inner : Labels
  inner = None ∷ Some name ∷ ls

  abbrev counter : ℕ
  counter = length ws + d

  -- the loop from a configuration, and what comes after it
  abbrev pub loops : ℕ → Config → Out
  loops = go (Turn Empty body)

  abbrev pub leaves : Out → Out
  leaves o = ends_block q (then_do o (exec go Stop))

  abbrev pub turns_again : Out → Out
  turns_again o = leaves (loop_end 0 0 loops o)

  abbrev pub Good : State → List ℕ → Type 0
  Good s cs = (map local_width s.locals ≡ ws) × IsInRange s × (d + suc room ≤ length cs)

  -- the body does what the routine's body does, and then comes to the end of the turn
  abbrev pub BodyDoes : Type 0
  BodyDoes = (k : ℕ) (s : State) (cs : List ℕ) (ps : List Bool) → Good s cs → Sim numbers home (suc d) inner (exec go (tail_seq counter)) 0 (λ n rs. exec go body n (config_of home s cs ps rs)) s k cs (runs_body k s)

  arrives_left : (m k : ℕ) (s : State) (cs : List ℕ) (ps : List Bool) (n : ℕ) (Y : List Reply → Out) (h : HandleMap ℕ) (b : Bool) → h ≡ s.table → ((rs : List Reply) → Y rs ≡ Break (suc (if b then 0 else suc (label_of m ls))) n (config_of home s cs ps rs)) →
      Arrives numbers home ls q (if b then Next k s else Left m k s) cs ps n (λ rs. turns_again (Y rs)) h
  arrives_left m k s cs ps n Y h true e p = (e, λ rs. ap turns_again (p rs))
  arrives_left m k s cs ps n Y h false e p = (e, λ rs. ap turns_again (p rs))

  sim_left : (spare : ℕ) (X : Runs) (s : State) (k : ℕ) (cs : List ℕ) (m k' : ℕ) (s' : State) (b : Bool) →
      (steps : ℕ) (effects : List Effect) (counters : List ℕ) (pages : List Bool) → steps + 32 * k ≤ 32 * k' + spare → s'.effects ≡ s.effects ++ effects → Kept d cs counters → map local_width s'.locals ≡ map local_width s.locals → IsInRange s' →
      (b ≡ false → IsNamed m (names_of ls)) → ((n : ℕ) → Follows numbers Out Stops (X (steps + n)) s.table effects (Arrives numbers home ls q (if b then Next k' s' else Left m k' s') counters pages n)) →
      Sim numbers home d ls q spare X s k cs (if b then Next k' s' else Left m k' s')
  sim_left spare X s k cs m k' s' true steps effects counters pages few has kept wide range named goes =
      record { steps = steps; effects = effects; counters = counters; pages = pages; few = few; has = has; kept = kept; wide = wide; range = range; named = tt; goes = goes }
  sim_left spare X s k cs m k' s' false steps effects counters pages few has kept wide range named goes =
      record { steps = steps; effects = effects; counters = counters; pages = pages; few = few; has = has; kept = kept; wide = wide; range = range; named = named refl; goes = goes }

  named_on : (m : ℕ) → IsNamed m (names_of inner) → (m == name) ≡ false → IsNamed m (names_of ls)
  named_on m (inl e) f = absurd (true≢false (sym (eq-eqb m name e) ∙ f))
  named_on m (inr p) f = p

  fewer_kept : (cs ds : List ℕ) → Kept (suc d) cs ds → Kept d cs ds
  fewer_kept cs ds p = record { long = p.long; same = λ i lt. p.same i (omega arith) }

  -- a turn, and then its end and the other turns
  sim_turn : (v : ℕ) (X : Runs) (s : State) (k : ℕ) (cs : List ℕ) (r : Run) →
      Sim numbers home (suc d) inner (exec go (tail_seq counter)) 0 X s (suc k) cs r → map local_width s.locals ≡ ws → d + suc room ≤ length cs → slice_get cs d ≡ Some (suc v) →
      ((k' : ℕ) (s' : State) (cs' : List ℕ) (ps' : List Bool) → Good s' cs' → slice_get cs' d ≡ Some (suc v) → Sim numbers home d ls q 6 (λ n rs. turns_again (exec go (tail_seq counter) n (config_of home s' cs' ps' rs))) s' k' cs' (turns name runs_body v k' s')) →
      Sim numbers home d ls q 6 (λ n rs. turns_again (X n rs)) s (suc k) cs (turn_end name r (turns name runs_body v))
  sim_turn v X s k cs (Next k' s') a wide long there again =
      let kept = fewer_kept cs a.counters a.kept in
      let c = again k' s' a.counters a.pages (a.wide ∙ wide, a.range, omega (arith, long, a.kept.long)) (a.kept.same d (omega arith) ∙ there) in record {
        steps = a.steps + c.steps;
        effects = a.effects ++ c.effects;
        counters = c.counters;
        pages = c.pages;
        few = omega (arith, a.few, c.few);
        has = c.has ∙ ap (λ es. es ++ c.effects) a.has ∙ append_assoc s.effects a.effects c.effects;
        kept = kept_on d cs a.counters c.counters kept c.kept;
        wide = c.wide ∙ a.wide;
        range = c.range;
        named = c.named;
        goes = λ n.
            let assoc : a.steps + (c.steps + n) ≡ a.steps + c.steps + n = omega arith in
            let before = subst (λ m. Follows numbers Out Stops (X m) s.table a.effects (Arrives numbers home inner (exec go (tail_seq counter)) (Next k' s') a.counters a.pages (c.steps + n))) assoc (a.goes (c.steps + n)) in
            let P : (List Reply → Out) → HandleMap ℕ → Type 0 = λ Y h. (h ≡ s'.table) × ((rs : List Reply) → Y rs ≡ turns_again (exec go (tail_seq counter) (c.steps + n) (config_of home s' a.counters a.pages rs))) in
            let mapped : Follows numbers Out Stops (λ rs. turns_again (X (a.steps + c.steps + n) rs)) s.table a.effects P =
            follows_map numbers Out Out Stops Stops turns_again (X (a.steps + c.steps + n)) s.table a.effects (Arrives numbers home inner (exec go (tail_seq counter)) (Next k' s') a.counters a.pages (c.steps + n)) P (λ o. refl) before (λ Y h p. (p.0, λ rs. ap turns_again (p.1 rs))) in
            follows_on numbers Out Stops (λ rs. turns_again (X (a.steps + c.steps + n) rs)) s.table a.effects c.effects P (Arrives numbers home ls q (turns name runs_body v k' s') c.counters c.pages n) mapped
            (λ Y h p.
            subst (λ (x : List Reply → Out). Follows numbers Out Stops x h c.effects (Arrives numbers home ls q (turns name runs_body v k' s') c.counters c.pages n)) (sym (fun_ext p.1))
            (subst (λ (t : HandleMap ℕ). Follows numbers Out Stops (λ rs. turns_again (exec go (tail_seq counter) (c.steps + n) (config_of home s' a.counters a.pages rs))) t c.effects (Arrives numbers home ls q (turns name runs_body v k' s') c.counters c.pages n)) (sym p.0) (c.goes n)));
      }
  sim_turn v X s k cs (Left m k' s') a wide long there again =
      sim_left 6 (λ n rs. turns_again (X n rs)) s (suc k) cs m k' s' (m == name) a.steps a.effects a.counters a.pages (omega (arith, a.few)) a.has (fewer_kept cs a.counters a.kept) a.wide a.range (named_on m a.named)
      (λ n. follows_map numbers Out Out Stops Stops turns_again (X (a.steps + n)) s.table a.effects (Arrives numbers home inner (exec go (tail_seq counter)) (Left m k' s') a.counters a.pages n) (Arrives numbers home ls q (if m == name then Next k' s' else Left m k' s') a.counters a.pages n) (λ o. refl) (a.goes n)
      (λ Y h p. arrives_left m k' s' a.counters a.pages n Y h (m == name) p.0 p.1))
  sim_turn v X s k cs (Over Answers k' s') a wide long there again =
      record {
        steps = a.steps;
        effects = a.effects;
        counters = a.counters;
        pages = a.pages;
        few = omega (arith, a.few);
        has = a.has;
        kept = fewer_kept cs a.counters a.kept;
        wide = a.wide;
        range = a.range;
        named = tt;
        goes = λ n. follows_map numbers Out Out Stops Stops turns_again (X (a.steps + n)) s.table a.effects (Arrives numbers home inner (exec go (tail_seq counter)) (Over Answers k' s') a.counters a.pages n) (Arrives numbers home ls q (Over Answers k' s') a.counters a.pages n) (λ o. refl) (a.goes n)
            (λ Y h p. (p.0, λ rs. ap turns_again (p.1 rs)));
      }
  sim_turn v X s k cs (Over Traps k' s') a wide long there again =
      record {
        steps = a.steps;
        effects = a.effects;
        counters = a.counters;
        pages = a.pages;
        few = omega (arith, a.few);
        has = a.has;
        kept = fewer_kept cs a.counters a.kept;
        wide = a.wide;
        range = a.range;
        named = tt;
        goes = λ n. follows_map numbers Out Out Stops Stops turns_again (X (a.steps + n)) s.table a.effects (Arrives numbers home inner (exec go (tail_seq counter)) (Over Traps k' s') a.counters a.pages n) (Arrives numbers home ls q (Over Traps k' s') a.counters a.pages n) (λ o. refl) (a.goes n)
            (λ Y h p. trapped_again Y h p);
      }
    where
      trapped_again : (Y : List Reply → Out) (h : HandleMap ℕ) → ((rs : List Reply) → Y rs ≡ Stops Trapped) ⊎ Refused numbers Out Stops Y h → ((rs : List Reply) → turns_again (Y rs) ≡ Stops Trapped) ⊎ Refused numbers Out Stops (λ rs. turns_again (Y rs)) h
      trapped_again Y h (inl p) = inl (λ rs. ap turns_again (p rs))
      trapped_again Y h (inr p) = inr (refused_map numbers Out Out Stops Stops turns_again Y h (λ o. refl) p)

  -- the end of a turn, which takes one from the counter and tests what is left
  end_step : (v n : ℕ) (s : State) (cs : List ℕ) (ps : List Bool) (rs : List Reply) → map local_width s.locals ≡ ws → suc v < 2 ^ 32 → slice_get cs d ≡ Some (suc v) →
      exec go (tail_seq counter) (up 5 n) (config_of home s cs ps rs) ≡ then_do (choose (i32_in v) (Goes n (config_of home s (slice_set cs d v) ps rs)) (Break 0 n (config_of home s (slice_set cs d v) ps rs))) (exec go Stop)
  end_step v n s cs ps rs wide lt there =
      let c = config_of home s cs ps rs in
      let test : Seq = Then (tee counter) (Then (BrIf 0) Stop) in
      let tested : ℕ → List ℕ → Out = λ x l. then_do (choose (i32_in x) (Goes n (with_locals c [] l)) (Break 0 n (with_locals c [] l))) (exec go Stop) in
      get_step counter (suc v) (up 4 n) c (Then (constant Narrow 1) (Then (numeric 0x6B) test)) (reads_behind ws s.locals cs d wide ∙ there)
      ∙ operator_step Sub Narrow (suc v) 1 (up 2 n) c test (λ e. lt) (λ e. lit< tt)
      ∙ ap (λ x. tested x (slice_set (map value s.locals ++ cs) counter x)) (one_less v lt)
      ∙ ap (tested v) (writes_behind ws s.locals cs d v wide)

  last_turn : (n : ℕ) (s : State) (cs : List ℕ) (ps : List Bool) (rs : List Reply) → turns_again (then_do (choose (i32_in 0) (Goes n (config_of home s cs ps rs)) (Break 0 n (config_of home s cs ps rs))) (exec go Stop)) ≡ q n (config_of home s cs ps rs)
  last_turn n s cs ps rs = refl

  next_turn : (v n : ℕ) (s : State) (cs : List ℕ) (ps : List Bool) (rs : List Reply) → suc v < 2 ^ 32 → turns_again (then_do (choose (i32_in (suc v)) (Goes (suc n) (config_of home s cs ps rs)) (Break 0 (suc n) (config_of home s cs ps rs))) (exec go Stop)) ≡ leaves (loops n (config_of home s cs ps rs))
  next_turn v n s cs ps rs lt = ap (λ x. turns_again (then_do (choose x (Goes (suc n) (config_of home s cs ps rs)) (Break 0 (suc n) (config_of home s cs ps rs))) (exec go Stop))) (i32_same (suc v) lt)

  -- one turn more than that many, where the counter holds their number, and where the other turns follow from the end of the first
  sim_loop : BodyDoes → (v k : ℕ) (s : State) (cs : List ℕ) (ps : List Bool) → Good s cs → slice_get cs d ≡ Some (suc v) →
      ((k' : ℕ) (s' : State) (cs' : List ℕ) (ps' : List Bool) → Good s' cs' → slice_get cs' d ≡ Some (suc v) → Sim numbers home d ls q 6 (λ n rs. turns_again (exec go (tail_seq counter) n (config_of home s' cs' ps' rs))) s' k' cs' (turns name runs_body v k' s')) →
      Sim numbers home d ls q 0 (λ n rs. leaves (loops n (config_of home s cs ps rs))) s k cs (turns name runs_body (suc v) k s)
  sim_loop does v k s cs ps good there again =
      sim_after numbers home d ls q 6 0 (λ n rs. leaves (loops n (config_of home s cs ps rs))) (λ n rs. turns_again (exec go body n (config_of home s cs ps rs))) s (suc k) k cs (turns name runs_body (suc v) k s) 0
      (λ n rs. ap leaves (go_turn Empty body n (config_of home s cs ps rs)))
      (omega arith)
      (sim_turn v (λ n rs. exec go body n (config_of home s cs ps rs)) s k cs (runs_body (suc k) s) (does (suc k) s cs ps good) good.0 good.2 there again)

  -- from the end of a turn, after which that many are to come
  sim_end : BodyDoes → (v k : ℕ) (s : State) (cs : List ℕ) (ps : List Bool) → suc v < 2 ^ 32 → Good s cs → slice_get cs d ≡ Some (suc v) →
      Sim numbers home d ls q 6 (λ n rs. turns_again (exec go (tail_seq counter) n (config_of home s cs ps rs))) s k cs (turns name runs_body v k s)
  sim_end does zero k s cs ps lt good there = record {
    steps = 5;
    effects = [];
    counters = slice_set cs d 0;
    pages = ps;
    few = omega arith;
    has = sym (append-nil s.effects);
    kept = record { long = set_length cs d 0; same = λ i l. set_other cs d i 0 l };
    wide = refl;
    range = good.1;
    named = tt;
    goes = λ n. (refl, λ rs. from_up (λ m r. turns_again (exec go (tail_seq counter) m (config_of home s cs ps r))) 5 n rs _ (ap turns_again (end_step 0 n s cs ps rs good.0 lt there)));
  }
  sim_end does (suc v) k s cs ps lt good there =
      let less = slice_set cs d (suc v) in
      let low : suc v < 2 ^ 32 = omega (arith, lt) in
      let b = sim_loop does v k s less ps (good.0, good.1, omega (arith, good.2, set_length cs d (suc v))) (set_here cs d (suc v) (omega (arith, good.2))) (λ k' s' cs' ps' g h. sim_end does v k' s' cs' ps' low g h) in
      let kept : Kept d cs less = record { long = set_length cs d (suc v); same = λ i l. set_other cs d i (suc v) l } in
      let c = sim_after numbers home d ls q 0 6 (λ n rs. turns_again (exec go (tail_seq counter) n (config_of home s cs ps rs))) (λ n rs. leaves (loops n (config_of home s less ps rs))) s k k less (turns name runs_body (suc v) k s) 6
      (λ n rs. ap turns_again (end_step (suc v) (suc n) s cs ps rs good.0 lt there) ∙ next_turn v n s less ps rs low)
      (omega arith) b in
      record { steps = c.steps; effects = c.effects; counters = c.counters; pages = c.pages; few = c.few; has = c.has; kept = kept_on d cs less c.counters kept c.kept; wide = c.wide; range = c.range; named = c.named; goes = c.goes }

  pub sim_turns : BodyDoes → (v k : ℕ) (s : State) (cs : List ℕ) (ps : List Bool) → suc v < 2 ^ 32 → Good s cs → slice_get cs d ≡ Some (suc v) →
      Sim numbers home d ls q 0 (λ n rs. leaves (loops n (config_of home s cs ps rs))) s k cs (turns name runs_body (suc v) k s)
  sim_turns does v k s cs ps lt good there = sim_loop does v k s cs ps good there (λ k' s' cs' ps' g h. sim_end does v k' s' cs' ps' lt g h)
