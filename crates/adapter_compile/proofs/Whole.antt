-- The code of each statement does what the statement does.
use Rattle.std.proofs.Common.{◌≡◌, ℕ, zero, suc, ◌+◌, ◌<◌, ◌≤◌, ◌^◌, List, [], ◌∷◌, Option, Some, None, IsSome, Bool, true, false, max, length, refl, sym, ap, ◌∙◌, subst, arith, inr, append-nil, lit≤, All}
use Rattle.std.proofs.Math.Nat.{le-max_left, le-max_right}
use Rattle.std.proofs.lemmas.Bool.{ne_eqb}
use Rattle.std.specs.Prelude.{map, slice_set, ◌==◌}
use Rattle.std.specs.Int.{from_bool}
use Rattle.wasm_ast.specs.declared.instr.BlockType.TheVariants.{Empty}
use Rattle.wasm_ast.specs.declared.instr.Op.TheVariants as op
use Rattle.wasm_ast.specs.declared.instr.Instr.TheVariants.{Plain, BrIf, Call}
use Rattle.core_store.specs.Tree.{Seq, Stop, Then, InLoop, InIf}
use Rattle.core_store.specs.declared.value.CoreValue.TheVariants.{I32}
use Rattle.core_store.specs.Words.{i32_in}
use Rattle.core_store.specs.Config.{Reply, Config, Next as Goes, Break, Over as Stops, Asks, then_do, with_stack, with_locals}
use Rattle.core_store.specs.Plain.{with_some}
use Rattle.core_store.specs.Eval.{Turn, advance, choose, replied, exec, go}
use Rattle.handle_space.specs.HandleMap.{Answered, own_entry, add, take_own}
use Rattle.adapter_code.specs.declared.statement.Width.{Width}
use Rattle.adapter_code.specs.declared.statement.Width.TheVariants.{Narrow, Broad}
use Rattle.adapter_code.specs.declared.statement.IntOp.{IntOp}
use Rattle.adapter_code.specs.declared.statement.Statement.{Statement, Const, Move, Int, Load, Store, If', Repeat', Leave, NewHandle, DropHandle, Trap, Answer}
use Rattle.adapter_code.specs.declared.state.Effect.TheVariants.{Made, Dropped}
use Rattle.adapter_code.specs.Number.{low, result_of, given_by, moved, loaded, stored}
use Rattle.adapter_code.specs.Code.{Code, Stop as Ends, Then as More', Choose, Turns}
use Rattle.adapter_code.specs.Run.{State, Run, Next, local_width, with_value, local_at, number_at, width_at, set_local, own_resource, turns, chosen, after_load, after_store, after_new, after_drop, does, runs}
use Rattle.adapter_code.specs.WellFormed.{HasWidth, IsNamed, IsSize, IsFine, IsWellFormed}
use Rattle.adapter_code.proofs.Places.{widths_set, has_width, has_place}
use Rattle.adapter_compile.specs.declared.calls.HandleCalls.{HandleCalls}
use Rattle.adapter_compile.specs.Instructions.{Labels, width_in, get, set, tee, numeric, opcode, load_of, store_of, at_offset, call_at, call_of}
use Rattle.adapter_compile.specs.Bounds.{nesting}
use Rattle.adapter_compile.specs.Handles.{Numbers, HasCall, HasCalls, makes_type, drops_type, MakesNone, DropsNone}
use Rattle.adapter_compile.specs.Does.{Home, store_with, config_of, IsHome, IsInRange}
use Rattle.adapter_compile.proofs.Places.{reads, writes_behind, set_here, set_other, set_length, width_same, has_in, has_index, fits_set, fits_small, small_fits}
use Rattle.adapter_compile.proofs.Ranges.{low_fits, result_fits, moved_fits, loaded_fits, stored_fits, small_size}
use Rattle.adapter_compile.proofs.Tables.{add_table, take_table}
use Rattle.adapter_compile.proofs.Steps.{i32_same, get_step, constant_step, set_step, operator_step, eqz_step, wrap_step, extend_step, load_step, pages_behind, store_step, call_step}
use Rattle.adapter_compile.proofs.Sequences.{converts, statement_seq, tail_seq, seq_in}
use Rattle.adapter_compile.proofs.Sim.{names_of, Onward, Runs, Kept, kept_all, kept_on, up, from_up, ends_block, Sim, sim_after, sim_next, sim_trap, sim_then, sim_block}
use Rattle.adapter_compile.proofs.Turning.{BodyDoes, sim_turns}

-- what holds of a state, over locals of these widths, with that many counters in use and that many more
pub record Good (ws : List Width) (d room : ℕ) (s : State) (cs : List ℕ) : Type 0 where
  pub wide : map local_width s.locals ≡ ws
  pub range : IsInRange s
  pub long : d + room ≤ length cs

pub good_on : (ws : List Width) (d room : ℕ) (s s' : State) (cs cs' : List ℕ) → Good ws d room s cs → Kept d cs cs' → map local_width s'.locals ≡ map local_width s.locals → IsInRange s' → Good ws d room s' cs'
good_on ws d room s s' cs cs' g kept wide range = record { wide = wide ∙ g.wide; range = range; long = omega (arith, g.long, kept.long) }

pub good_less : (ws : List Width) (d room less : ℕ) (s : State) (cs : List ℕ) → less ≤ room → Good ws d room s cs → Good ws d less s cs
good_less ws d room less s cs le g = record { wide = g.wide; range = g.range; long = omega (arith, g.long, le) }

set_range : (s : State) (i n : ℕ) → (width_at s i ≡ Narrow → n < 2 ^ 32) → IsInRange s → IsInRange (set_local s i n)
set_range s i n h r = record { locals = fits_set s.locals i (with_value (local_at s.locals i) n) (fits_small (local_at s.locals i) n h) r.locals; memory = r.memory; table = r.table }

widths_agree : (ws : List Width) (s : State) (i : ℕ) → map local_width s.locals ≡ ws → width_in ws i ≡ width_at s i
widths_agree ws s i e = ap (λ l. width_in l i) (sym e) ∙ sym (width_same s.locals i)

-- a local of a width that the routine names
place_of : (ws : List Width) (s : State) (i : ℕ) (w : Width) → map local_width s.locals ≡ ws → HasWidth ws i w → i < length s.locals
place_of ws s i w e h = has_place s.locals i w (subst (λ l. HasWidth l i w) (sym e) h)

width_of : (ws : List Width) (s : State) (i : ℕ) (w : Width) → map local_width s.locals ≡ ws → HasWidth ws i w → width_at s i ≡ w
width_of ws s i w e h = has_width s.locals i w (subst (λ l. HasWidth l i w) (sym e) h)

number_fits : (s : State) (i : ℕ) → IsInRange s → width_at s i ≡ Narrow → number_at s i < 2 ^ 32
number_fits s i range e = small_fits (local_at s.locals i) (range.locals i) e

module _ (numbers : Numbers) (home : Home) (calls : HandleCalls) (is : IsHome calls numbers home) (ws : List Width) where
  abbrev core : State → List ℕ → List Bool → List Reply → Config
  core s cs ps rs = config_of home s cs ps rs

  abbrev runs_one : Statement → Labels → Seq → State → List ℕ → List Bool → Runs
  runs_one st ls q s cs ps n rs = exec go (statement_seq ws calls ls st q) n (config_of home s cs ps rs)

  abbrev Claim : Statement → Labels → ℕ → Seq → ℕ → State → List ℕ → List Bool → Type 0
  Claim st ls d q k s cs ps = Sim numbers home d ls (exec go q) 0 (runs_one st ls q s cs ps) s k cs (does st (suc k) s)

  const_does : (to v : ℕ) (ls : Labels) (d room : ℕ) (q : Seq) (k : ℕ) (s : State) (cs : List ℕ) (ps : List Bool) → IsFine ws (names_of ls) (Const to v) → Good ws d room s cs → Claim (Const to v) ls d q k s cs ps
  const_does to v ls d room q k s cs ps fine g =
      let lt = has_index ws s.locals to g.wide fine in
      sim_next numbers home d ls (exec go q) (runs_one (Const to v) ls q s cs ps) s k cs (set_local s to (low (width_at s to) v)) ps 2 (lit≤ tt)
      (λ n rs.
      constant_step (width_in ws to) v (suc n) (config_of home s cs ps rs) (Then (set to) q)
      ∙ set_step home s cs ps rs to (low (width_in ws to) v) n q lt
      ∙ ap (λ w. exec go q n (config_of home (set_local s to (low w v)) cs ps rs)) (widths_agree ws s to g.wide))
      refl refl (widths_set s.locals to _) (set_range s to _ (λ e. subst (λ w. low w v < 2 ^ 32) (sym e) (low_fits v)) g.range)

  -- the code of a move, once the number is read
  moves : (tw fw : Width) (to x : ℕ) (ls : Labels) (d : ℕ) (q : Seq) (k : ℕ) (s : State) (cs : List ℕ) (ps : List Bool) (X : Runs) → to < length s.locals → (fw ≡ Narrow → x < 2 ^ 32) → IsInRange (set_local s to (moved tw fw x)) →
      ((n : ℕ) (rs : List Reply) → X (suc n) rs ≡ exec go (converts tw fw (Then (set to) q)) n (with_stack (config_of home s cs ps rs) (x ∷ []))) →
      Sim numbers home d ls (exec go q) 0 X s k cs (Next (suc k) (set_local s to (moved tw fw x)))
  moves Narrow Narrow to x ls d q k s cs ps X lt small range begins =
      sim_next numbers home d ls (exec go q) X s k cs _ ps 2 (lit≤ tt) (λ n rs. begins (suc n) rs ∙ set_step home s cs ps rs to x n q lt) refl refl (widths_set s.locals to _) range
  moves Narrow Broad to x ls d q k s cs ps X lt small range begins =
      sim_next numbers home d ls (exec go q) X s k cs _ ps 3 (lit≤ tt) (λ n rs. begins (suc (suc n)) rs ∙ wrap_step x (suc n) (config_of home s cs ps rs) (Then (set to) q) ∙ set_step home s cs ps rs to (low Narrow x) n q lt) refl refl (widths_set s.locals to _) range
  moves Broad Narrow to x ls d q k s cs ps X lt small range begins =
      sim_next numbers home d ls (exec go q) X s k cs _ ps 3 (lit≤ tt) (λ n rs. begins (suc (suc n)) rs ∙ extend_step x (suc n) (config_of home s cs ps rs) (Then (set to) q) (small refl) ∙ set_step home s cs ps rs to x n q lt) refl refl (widths_set s.locals to _) range
  moves Broad Broad to x ls d q k s cs ps X lt small range begins =
      sim_next numbers home d ls (exec go q) X s k cs _ ps 2 (lit≤ tt) (λ n rs. begins (suc n) rs ∙ set_step home s cs ps rs to x n q lt) refl refl (widths_set s.locals to _) range

  move_does : (to from : ℕ) (ls : Labels) (d room : ℕ) (q : Seq) (k : ℕ) (s : State) (cs : List ℕ) (ps : List Bool) → IsFine ws (names_of ls) (Move to from) → Good ws d room s cs → Claim (Move to from) ls d q k s cs ps
  move_does to from ls d room q k s cs ps fine g =
      let x = number_at s from in
      let tw = widths_agree ws s to g.wide in
      let fw = widths_agree ws s from g.wide in
      let e : moved (width_in ws to) (width_in ws from) x ≡ moved (width_at s to) (width_at s from) x = ap (λ w. moved w (width_in ws from) x) tw ∙ ap (λ w. moved (width_at s to) w x) fw in
      let range : IsInRange (set_local s to (moved (width_at s to) (width_at s from) x)) = set_range s to _ (moved_fits (width_at s to) (width_at s from) x (number_fits s from g.range)) g.range in
      subst (λ (y : ℕ). Sim numbers home d ls (exec go q) 0 (runs_one (Move to from) ls q s cs ps) s k cs (Next (suc k) (set_local s to y))) e
      (moves (width_in ws to) (width_in ws from) to x ls d q k s cs ps (runs_one (Move to from) ls q s cs ps) (has_index ws s.locals to g.wide fine.0) (λ n. number_fits s from g.range (sym fw ∙ n)) (subst (λ (y : ℕ). IsInRange (set_local s to y)) (sym e) range)
      (λ n rs. get_step from x n (config_of home s cs ps rs) _ (reads s.locals cs from (has_index ws s.locals from g.wide fine.1))))

  int_does : (o : IntOp) (to a b : ℕ) (ls : Labels) (d room : ℕ) (q : Seq) (k : ℕ) (s : State) (cs : List ℕ) (ps : List Bool) → IsFine ws (names_of ls) (Int o to a b) → Good ws d room s cs → Claim (Int o to a b) ls d q k s cs ps
  int_does o to a b ls d room q k s cs ps fine g =
      let w = fine.0 in
      let x = number_at s a in
      let y = number_at s b in
      let wa : width_at s a ≡ w = width_of ws s a w g.wide fine.1 in
      let wb : width_at s b ≡ w = width_of ws s b w g.wide fine.2 in
      let wt : width_at s to ≡ given_by o w = width_of ws s to (given_by o w) g.wide fine.3 in
      let same : width_in ws a ≡ w = has_in ws a w fine.1 in
      let hx : w ≡ Narrow → x < 2 ^ 32 = λ n. number_fits s a g.range (wa ∙ n) in
      let hy : w ≡ Narrow → y < 2 ^ 32 = λ n. number_fits s b g.range (wb ∙ n) in
      sim_next numbers home d ls (exec go q) (runs_one (Int o to a b) ls q s cs ps) s k cs (set_local s to (result_of o (width_at s a) x y)) ps 4 (lit≤ tt)
      (λ n rs.
      get_step a x (up 3 n) (config_of home s cs ps rs) (Then (get b) (Then (numeric (opcode o (width_in ws a))) (Then (set to) q))) (reads s.locals cs a (place_of ws s a w g.wide fine.1))
      ∙ get_step b y (up 2 n) (with_stack (config_of home s cs ps rs) (x ∷ [])) (Then (numeric (opcode o (width_in ws a))) (Then (set to) q)) (reads s.locals cs b (place_of ws s b w g.wide fine.2))
      ∙ operator_step o (width_in ws a) x y (suc n) (config_of home s cs ps rs) (Then (set to) q) (λ e. hx (sym same ∙ e)) (λ e. hy (sym same ∙ e))
      ∙ set_step home s cs ps rs to (result_of o (width_in ws a) x y) n q (place_of ws s to _ g.wide fine.3)
      ∙ ap (λ u. exec go q n (config_of home (set_local s to (result_of o u x y)) cs ps rs)) (widths_agree ws s a g.wide))
      refl refl (widths_set s.locals to _)
      (set_range s to _ (λ e. subst (λ u. result_of o u x y < 2 ^ 32) (sym wa) (result_fits o w x y hx hy (sym wt ∙ e))) g.range)

  -- once the place is read
  loads : (to : ℕ) (o : Option ℕ) (ls : Labels) (d : ℕ) (q : Seq) (k : ℕ) (s : State) (cs : List ℕ) (ps : List Bool) (X : Runs) → to < length s.locals → IsInRange s → ((v : ℕ) → o ≡ Some v → width_at s to ≡ Narrow → v < 2 ^ 32) →
      ((n : ℕ) (rs : List Reply) → X (up 3 n) rs ≡ then_do (advance (with_some o (λ v. Some (with_stack (config_of home s cs ps rs) (v ∷ [])))) (suc n)) (exec go (Then (set to) q))) →
      Sim numbers home d ls (exec go q) 0 X s k cs (after_load to (suc k) s o)
  loads to None ls d q k s cs ps X lt range fits begins = sim_trap numbers home d ls (exec go q) X s k cs 3 (lit≤ tt) begins range
  loads to (Some v) ls d q k s cs ps X lt range fits begins =
      sim_next numbers home d ls (exec go q) X s k cs (set_local s to v) ps 3 (lit≤ tt) (λ n rs. begins n rs ∙ set_step home s cs ps rs to v n q lt) refl refl (widths_set s.locals to v) (set_range s to v (fits v refl) range)

  load_does : (to at offset size : ℕ) (ls : Labels) (d room : ℕ) (q : Seq) (k : ℕ) (s : State) (cs : List ℕ) (ps : List Bool) → IsFine ws (names_of ls) (Load to at offset size) → Good ws d room s cs → Claim (Load to at offset size) ls d q k s cs ps
  load_does to at offset size ls d room q k s cs ps fine g =
      let w = fine.0 in
      let x = number_at s at in
      let same : width_in ws to ≡ w = has_in ws to w fine.2 in
      let small : x < 2 ^ 32 = number_fits s at g.range (width_of ws s at Narrow g.wide fine.1) in
      loads to (loaded s.memory (x + offset) size) ls d q k s cs ps (runs_one (Load to at offset size) ls q s cs ps) (place_of ws s to w g.wide fine.2) g.range
      (λ v e n. loaded_fits s.memory (x + offset) size v (small_size w size fine.3 (sym (width_of ws s to w g.wide fine.2) ∙ n)) g.range.memory e)
      (λ n rs.
      get_step at x (up 2 n) (config_of home s cs ps rs) (Then (Plain (op.Load (load_of (width_in ws to) size) (at_offset offset))) (Then (set to) q)) (reads s.locals cs at (place_of ws s at Narrow g.wide fine.1))
      ∙ load_step home s cs ps rs (width_in ws to) size offset x (suc n) (Then (set to) q) is.memory is.within (subst (λ u. IsSize u size) (sym same) fine.3) small)

  stores : (o : Option (List ℕ)) (ls : Labels) (d : ℕ) (q : Seq) (k : ℕ) (s : State) (cs : List ℕ) (ps : List Bool) (X : Runs) → IsInRange s → ((m : List ℕ) → o ≡ Some m → All (λ b. b < 256) m) →
      ((n : ℕ) (rs : List Reply) → X (up 3 n) rs ≡ then_do (advance (with_some o (λ m. Some (config_of home (record s { memory = m }) cs ps rs))) n) (exec go q)) →
      Sim numbers home d ls (exec go q) 0 X s k cs (after_store (suc k) s o)
  stores None ls d q k s cs ps X range fits begins = sim_trap numbers home d ls (exec go q) X s k cs 3 (lit≤ tt) begins range
  stores (Some m) ls d q k s cs ps X range fits begins =
      sim_next numbers home d ls (exec go q) X s k cs (record s { memory = m }) ps 3 (lit≤ tt) begins refl refl refl (record { locals = range.locals; memory = fits m refl; table = range.table })

  store_does : (from at offset size : ℕ) (ls : Labels) (d room : ℕ) (q : Seq) (k : ℕ) (s : State) (cs : List ℕ) (ps : List Bool) → IsFine ws (names_of ls) (Store from at offset size) → Good ws d room s cs → Claim (Store from at offset size) ls d q k s cs ps
  store_does from at offset size ls d room q k s cs ps fine g =
      let w = fine.0 in
      let x = number_at s at in
      let v = number_at s from in
      let same : width_in ws from ≡ w = has_in ws from w fine.2 in
      let small : x < 2 ^ 32 = number_fits s at g.range (width_of ws s at Narrow g.wide fine.1) in
      let code : Seq = Then (Plain (op.Store (store_of (width_in ws from) size) (at_offset offset))) q in
      stores (stored s.memory (x + offset) size v) ls d q k s cs (pages_behind ps (x + offset) size v) (runs_one (Store from at offset size) ls q s cs ps) g.range
      (λ m e. stored_fits s.memory m (x + offset) size v g.range.memory e)
      (λ n rs.
      get_step at x (up 2 n) (config_of home s cs ps rs) (Then (get from) code) (reads s.locals cs at (place_of ws s at Narrow g.wide fine.1))
      ∙ get_step from v (suc n) (with_stack (config_of home s cs ps rs) (x ∷ [])) code (reads s.locals cs from (place_of ws s from w g.wide fine.2))
      ∙ store_step home s cs ps rs (width_in ws from) size offset x v n q is.memory is.within (subst (λ u. IsSize u size) (sym same) fine.3) small)

  -- once the rep is read, and the kind's function known
  news : (kind x to f : ℕ) (o : Option (Answered ℕ ℕ)) (ls : Labels) (d : ℕ) (q : Seq) (k : ℕ) (s : State) (cs : List ℕ) (ps : List Bool) (X : Runs) → add s.table (own_entry (own_resource kind) x) ≡ o → to < length s.locals → x < 2 ^ 32 → IsInRange s →
      ((n : ℕ) (rs : List Reply) → X (up 3 n) rs ≡ then_do (replied makes_type (numbers.makes kind) (suc n) (with_stack (config_of home s cs ps rs) (x ∷ [])) rs) (exec go (Then (set to) q))) →
      Sim numbers home d ls (exec go q) 0 X s k cs (after_new kind x to (suc k) s o)
  news kind x to f None ls d q k s cs ps X e lt small range begins = record {
    steps = 3;
    effects = [];
    counters = cs;
    pages = ps;
    few = omega arith;
    has = sym (append-nil s.effects);
    kept = kept_all d cs;
    wide = refl;
    range = range;
    named = tt;
    goes = λ n. inr (MakesNone kind x (store_with home s.memory ps) (suc n) (from_up X 3 n [] _ (begins n [] ∙ ap (λ u. Stops (Asks (numbers.makes kind) (I32 u ∷ []) (store_with home s.memory ps) (suc n))) (i32_same x small))) e);
  }
  news kind x to f (Some a) ls d q k s cs ps X e lt small range begins =
      let fits = add_table s.table (own_resource kind) x a.answer a.map range.table e in record {
        steps = 3;
        effects = Made kind x a.answer ∷ [];
        counters = cs;
        pages = ps;
        few = omega arith;
        has = refl;
        kept = kept_all d cs;
        wide = widths_set s.locals to a.answer;
        range = record { locals = (set_range s to a.answer (λ w. fits.0) range).locals; memory = range.memory; table = fits.1 };
        named = tt;
        goes = λ n. (
          store_with home s.memory ps,
          suc n,
          a.map,
          from_up X 3 n [] _ (begins n [] ∙ ap (λ u. Stops (Asks (numbers.makes kind) (I32 u ∷ []) (store_with home s.memory ps) (suc n))) (i32_same x small)),
          e,
          (
            refl,
            λ rs.
                let r : Reply = record { results = I32 a.answer ∷ []; store = store_with home s.memory ps } in
                from_up X 3 n (r ∷ rs) _ (begins n (r ∷ rs))
                ∙ set_step home s cs ps rs to a.answer n q lt,
          ),
        );
      }

  new_does : (kind rep to : ℕ) (o : Option ℕ) (ls : Labels) (d room : ℕ) (q : Seq) (k : ℕ) (s : State) (cs : List ℕ) (ps : List Bool) → call_at calls.makes kind ≡ o → IsSome o → IsFine ws (names_of ls) (NewHandle kind rep to) → Good ws d room s cs →
      Sim numbers home d ls (exec go q) 0 (λ n rs. exec go (Then (get rep) (Then (call_of o) (Then (set to) q))) n (config_of home s cs ps rs)) s k cs (does (NewHandle kind rep to) (suc k) s)
  new_does kind rep to None ls d room q k s cs ps e there fine g = absurd (cc)
  new_does kind rep to (Some f) ls d room q k s cs ps e there fine g =
      let x = number_at s rep in
      let small : x < 2 ^ 32 = number_fits s rep g.range (width_of ws s rep Narrow g.wide fine.1) in
      news kind x to f (add s.table (own_entry (own_resource kind) x)) ls d q k s cs ps _ refl (place_of ws s to Narrow g.wide fine.2) small g.range
      (λ n rs.
      get_step rep x (up 2 n) (config_of home s cs ps rs) (Then (Call f) (Then (set to) q)) (reads s.locals cs rep (place_of ws s rep Narrow g.wide fine.1))
      ∙ call_step f (numbers.makes kind) (suc n) makes_type (with_stack (config_of home s cs ps rs) (x ∷ [])) (Then (set to) q) (is.hosted.makes kind f e))

  -- once the index is read
  drops : (kind x f : ℕ) (o : Option (Answered ℕ ℕ)) (ls : Labels) (d : ℕ) (q : Seq) (k : ℕ) (s : State) (cs : List ℕ) (ps : List Bool) (X : Runs) → take_own s.table x kind ≡ o → x < 2 ^ 32 → IsInRange s →
      ((n : ℕ) (rs : List Reply) → X (up 2 n) rs ≡ then_do (replied drops_type (numbers.drops kind) n (with_stack (config_of home s cs ps rs) (x ∷ [])) rs) (exec go q)) →
      Sim numbers home d ls (exec go q) 0 X s k cs (after_drop kind x (suc k) s o)
  drops kind x f None ls d q k s cs ps X e small range begins = record {
    steps = 2;
    effects = [];
    counters = cs;
    pages = ps;
    few = omega arith;
    has = sym (append-nil s.effects);
    kept = kept_all d cs;
    wide = refl;
    range = range;
    named = tt;
    goes = λ n. inr (DropsNone kind x (store_with home s.memory ps) n (from_up X 2 n [] _ (begins n [] ∙ ap (λ u. Stops (Asks (numbers.drops kind) (I32 u ∷ []) (store_with home s.memory ps) n)) (i32_same x small))) e);
  }
  drops kind x f (Some a) ls d q k s cs ps X e small range begins = record {
    steps = 2;
    effects = Dropped kind a.answer x ∷ [];
    counters = cs;
    pages = ps;
    few = omega arith;
    has = refl;
    kept = kept_all d cs;
    wide = refl;
    range = record { locals = range.locals; memory = range.memory; table = take_table s.table x kind a.answer a.map range.table e };
    named = tt;
    goes = λ n. (
      store_with home s.memory ps,
      n,
      a.map,
      from_up X 2 n [] _ (begins n [] ∙ ap (λ u. Stops (Asks (numbers.drops kind) (I32 u ∷ []) (store_with home s.memory ps) n)) (i32_same x small)),
      e,
      (
        refl,
        λ rs.
            let r : Reply = record { results = []; store = store_with home s.memory ps } in
            from_up X 2 n (r ∷ rs) _ (begins n (r ∷ rs)),
      ),
    );
  }

  drop_does : (kind index : ℕ) (o : Option ℕ) (ls : Labels) (d room : ℕ) (q : Seq) (k : ℕ) (s : State) (cs : List ℕ) (ps : List Bool) → call_at calls.drops kind ≡ o → IsSome o → IsFine ws (names_of ls) (DropHandle kind index) → Good ws d room s cs →
      Sim numbers home d ls (exec go q) 0 (λ n rs. exec go (Then (get index) (Then (call_of o) q)) n (config_of home s cs ps rs)) s k cs (does (DropHandle kind index) (suc k) s)
  drop_does kind index None ls d room q k s cs ps e there fine g = absurd (cc)
  drop_does kind index (Some f) ls d room q k s cs ps e there fine g =
      let x = number_at s index in
      let small : x < 2 ^ 32 = number_fits s index g.range (width_of ws s index Narrow g.wide fine.1) in
      drops kind x f (take_own s.table x kind) ls d q k s cs ps _ refl small g.range
      (λ n rs.
      get_step index x (up 1 n) (config_of home s cs ps rs) (Then (Call f) q) (reads s.locals cs index (place_of ws s index Narrow g.wide fine.1))
      ∙ call_step f (numbers.drops kind) n drops_type (with_stack (config_of home s cs ps rs) (x ∷ [])) q (is.hosted.drops kind f e))

  leave_does : (name : ℕ) (ls : Labels) (d : ℕ) (q : Seq) (k : ℕ) (s : State) (cs : List ℕ) (ps : List Bool) → IsNamed name (names_of ls) → IsInRange s → Claim (Leave name) ls d q k s cs ps
  leave_does name ls d q k s cs ps named range = record {
    steps = 1;
    effects = [];
    counters = cs;
    pages = ps;
    few = omega arith;
    has = sym (append-nil s.effects);
    kept = kept_all d cs;
    wide = refl;
    range = range;
    named = named;
    goes = λ n. (refl, λ rs. from_up (runs_one (Leave name) ls q s cs ps) 1 n rs _ refl);
  }

  answer_does : (ls : Labels) (d : ℕ) (q : Seq) (k : ℕ) (s : State) (cs : List ℕ) (ps : List Bool) → IsInRange s → Claim Answer ls d q k s cs ps
  answer_does ls d q k s cs ps range = record {
    steps = 1;
    effects = [];
    counters = cs;
    pages = ps;
    few = omega arith;
    has = sym (append-nil s.effects);
    kept = kept_all d cs;
    wide = refl;
    range = range;
    named = tt;
    goes = λ n. (refl, λ rs. from_up (runs_one Answer ls q s cs ps) 1 n rs _ refl);
  }

  one_does : (st : Statement) (ls : Labels) (d room : ℕ) (q : Seq) (k : ℕ) (s : State) (cs : List ℕ) (ps : List Bool) → IsFine ws (names_of ls) st → HasCall calls st → Good ws d room s cs → Claim st ls d q k s cs ps
  one_does (Const to v) ls d room q k s cs ps fine has g = const_does to v ls d room q k s cs ps fine g
  one_does (Move to from) ls d room q k s cs ps fine has g = move_does to from ls d room q k s cs ps fine g
  one_does (Int o to a b) ls d room q k s cs ps fine has g = int_does o to a b ls d room q k s cs ps fine g
  one_does (Load to at offset size) ls d room q k s cs ps fine has g = load_does to at offset size ls d room q k s cs ps fine g
  one_does (Store from at offset size) ls d room q k s cs ps fine has g = store_does from at offset size ls d room q k s cs ps fine g
  one_does (If' test m taken m' untaken) ls d room q k s cs ps fine has g = absurd fine
  one_does (Repeat' name count m body) ls d room q k s cs ps fine has g = absurd fine
  one_does (Leave name) ls d room q k s cs ps fine has g = leave_does name ls d q k s cs ps fine g.range
  one_does (NewHandle kind rep to) ls d room q k s cs ps fine has g = new_does kind rep to (call_at calls.makes kind) ls d room q k s cs ps refl has fine g
  one_does (DropHandle kind index) ls d room q k s cs ps fine has g = drop_does kind index (call_at calls.drops kind) ls d room q k s cs ps refl has fine g
  one_does Trap ls d room q k s cs ps fine has g = sim_trap numbers home d ls (exec go q) (runs_one Trap ls q s cs ps) s k cs 1 (lit≤ tt) (λ n rs. refl) g.range
  one_does Answer ls d room q k s cs ps fine has g = answer_does ls d q k s cs ps g.range

  -- once the test is read
  chooses : (x : ℕ) (a b : Run) (A B : Runs) (ls : Labels) (d : ℕ) (q : Onward) (k : ℕ) (s : State) (cs : List ℕ) → Sim numbers home d (None ∷ ls) (exec go Stop) 0 A s k cs a → Sim numbers home d (None ∷ ls) (exec go Stop) 0 B s k cs b →
      Sim numbers home d ls q 0 (λ n rs. ends_block q (choose x (B n rs) (A n rs))) s k cs (chosen x a b)
  chooses zero a b A B ls d q k s cs taken untaken = sim_block numbers home d ls q B s k cs b untaken
  chooses (suc x) a b A B ls d q k s cs taken untaken = sim_block numbers home d ls q A s k cs a taken

  -- the turns, from the loop on, where the counter holds their number, or after the block where there are none
  begun : (x k : ℕ) (name : ℕ) (ls : Labels) (d : ℕ) (q : Onward) (s : State) (cs : List ℕ) (ps : List Bool) (body : Seq) (runs_body : ℕ → State → Run) (X : Runs) → x < 2 ^ 32 → IsInRange s →
      ((n : ℕ) (rs : List Reply) → X (up 5 n) rs ≡ ends_block q (then_do (choose (from_bool (x == 0)) (Goes n (config_of home s cs ps rs)) (Break 0 n (config_of home s cs ps rs))) (exec go (InLoop Empty body Stop)))) →
      ((v : ℕ) → x ≡ suc v → Sim numbers home d ls q 0 (λ n rs. ends_block q (then_do (go (Turn Empty body) n (config_of home s cs ps rs)) (exec go Stop))) s k cs (turns name runs_body (suc v) k s)) →
      Sim numbers home d ls q 6 X s k cs (turns name runs_body x k s)
  begun zero k name ls d q s cs ps body runs_body X lt range begins loop = record {
    steps = 5;
    effects = [];
    counters = cs;
    pages = ps;
    few = omega arith;
    has = sym (append-nil s.effects);
    kept = kept_all d cs;
    wide = refl;
    range = range;
    named = tt;
    goes = λ n. (refl, λ rs. from_up X 5 n rs _ (begins n rs));
  }
  begun (suc v) k name ls d q s cs ps body runs_body X lt range begins loop =
      sim_after numbers home d ls q 0 6 X (λ n rs. ends_block q (then_do (go (Turn Empty body) n (config_of home s cs ps rs)) (exec go Stop))) s k k cs (turns name runs_body (suc v) k s) 6
      (λ n rs.
      begins (suc n) rs
      ∙ ap (λ b. ends_block q (then_do (choose (from_bool b) (Goes (suc n) (config_of home s cs ps rs)) (Break 0 (suc n) (config_of home s cs ps rs))) (exec go (InLoop Empty body Stop)))) (ne_eqb (suc v) 0 (λ e. absurd (omega (arith, e)))))
      (omega arith) (loop v refl)

  pub seq_does : (code : Code) (ls : Labels) (d room : ℕ) (q : Seq) (k : ℕ) (s : State) (cs : List ℕ) (ps : List Bool) → IsWellFormed ws (names_of ls) code → HasCalls calls code → nesting code ≤ room → Good ws d room s cs →
      Sim numbers home d ls (exec go q) 0 (λ n rs. exec go (seq_in ws calls ls d code q) n (config_of home s cs ps rs)) s k cs (runs code k s)
  seq_does Ends ls d room q k s cs ps fine has le g = record {
    steps = 0;
    effects = [];
    counters = cs;
    pages = ps;
    few = omega arith;
    has = sym (append-nil s.effects);
    kept = kept_all d cs;
    wide = refl;
    range = g.range;
    named = tt;
    goes = λ n. (refl, λ rs. from_up (λ m r. exec go q m (config_of home s cs ps r)) 0 n rs _ refl);
  }
  seq_does (More' st rest) ls d room q k s cs ps fine has le g =
      sim_then numbers home d ls (exec go q) (exec go (seq_in ws calls ls d rest q)) _ s k cs (does st (suc k) s) (runs rest)
      (one_does st ls d room (seq_in ws calls ls d rest q) k s cs ps fine.0 has.0 g)
      (λ k' s' cs' ps' kept wide range. seq_does rest ls d room q k' s' cs' ps' fine.1 has.1 le (good_on ws d room s s' cs cs' g kept wide range))
  seq_does (Choose test taken untaken rest) ls d room q k s cs ps fine has le g =
      let x = number_at s test in
      let onward = exec go (seq_in ws calls ls d rest q) in
      let A : Runs = λ n rs. exec go (seq_in ws calls (None ∷ ls) d taken Stop) n (config_of home s cs ps rs) in
      let B : Runs = λ n rs. exec go (seq_in ws calls (None ∷ ls) d untaken Stop) n (config_of home s cs ps rs) in
      let small : x < 2 ^ 32 = number_fits s test g.range (width_of ws s test Narrow g.wide fine.0) in
      let inner = le-max_left (max (nesting taken) (nesting untaken)) (nesting rest) in
      let outer = le-max_right (max (nesting taken) (nesting untaken)) (nesting rest) in
      let first = le-max_left (nesting taken) (nesting untaken) in
      let other = le-max_right (nesting taken) (nesting untaken) in
      sim_then numbers home d ls (exec go q) onward _ s k cs (chosen x (runs taken (suc k) s) (runs untaken (suc k) s)) (runs rest)
      (sim_after numbers home d ls onward 0 0 (λ n rs. exec go (seq_in ws calls ls d (Choose test taken untaken rest) q) n (config_of home s cs ps rs)) (λ n rs. ends_block onward (choose x (B n rs) (A n rs))) s (suc k) k cs _ 2
      (λ n rs.
      get_step test x (suc n) (config_of home s cs ps rs) (InIf Empty (seq_in ws calls (None ∷ ls) d taken Stop) (seq_in ws calls (None ∷ ls) d untaken Stop) (seq_in ws calls ls d rest q)) (reads s.locals cs test (place_of ws s test Narrow g.wide fine.0))
      ∙ ap (λ u. ends_block onward (choose u (B n rs) (A n rs))) (i32_same x small))
      (omega arith)
      (chooses x _ _ A B ls d onward (suc k) s cs
      (seq_does taken (None ∷ ls) d room Stop (suc k) s cs ps fine.1 has.0 (omega (arith, le, inner, first)) g)
      (seq_does untaken (None ∷ ls) d room Stop (suc k) s cs ps fine.2 has.1 (omega (arith, le, inner, other)) g)))
      (λ k' s' cs' ps' kept wide range. seq_does rest ls d room q k' s' cs' ps' fine.3 has.2 (omega (arith, le, outer)) (good_on ws d room s s' cs cs' g kept wide range))
  seq_does (Turns name count body rest) ls d zero q k s cs ps fine has le g =
      let deep = le-max_left (suc (nesting body)) (nesting rest) in absurd (omega (arith, le, deep))
  seq_does (Turns name count body rest) ls d (suc room) q k s cs ps fine has le g =
      let x = number_at s count in
      let c = length ws + d in
      let onward = exec go (seq_in ws calls ls d rest q) in
      let inside = seq_in ws calls (None ∷ Some name ∷ ls) (suc d) body (tail_seq c) in
      let deep = le-max_left (suc (nesting body)) (nesting rest) in
      let outer = le-max_right (suc (nesting body)) (nesting rest) in
      let set' = slice_set cs d x in
      let small : x < 2 ^ 32 = number_fits s count g.range (width_of ws s count Narrow g.wide fine.0) in
      let does' : BodyDoes numbers home ws d room name ls onward inside (runs body) =
      λ k' s' cs' ps' good. seq_does body (None ∷ Some name ∷ ls) (suc d) room (tail_seq c) k' s' cs' ps' fine.1 has.0 (omega (arith, le, deep)) (record { wide = good.0; range = good.1; long = omega (arith, good.2) }) in
      let t = begun x (suc k) name ls d onward s set' ps inside (runs body) (λ n rs. exec go (seq_in ws calls ls d (Turns name count body rest) q) n (config_of home s cs ps rs)) small g.range
      (λ n rs.
      ap (ends_block onward) (
      get_step count x (up 3 n) (config_of home s cs ps rs) (Then (tee c) (Then (numeric 0x45) (Then (BrIf 0) (InLoop Empty inside Stop)))) (reads s.locals cs count (place_of ws s count Narrow g.wide fine.0))
      ∙ ap (λ l. exec go (Then (numeric 0x45) (Then (BrIf 0) (InLoop Empty inside Stop))) (up 2 n) (with_locals (config_of home s cs ps rs) (x ∷ []) l)) (writes_behind ws s.locals cs d x g.wide)
      ∙ eqz_step x (suc n) (config_of home s set' ps rs) (Then (BrIf 0) (InLoop Empty inside Stop)) small
      ∙ ap (λ u. then_do (choose u (Goes n (config_of home s set' ps rs)) (Break 0 n (config_of home s set' ps rs))) (exec go (InLoop Empty inside Stop))) (bool_same (x == 0))))
      (λ v e. sim_turns numbers home ws d room name ls onward inside (runs body) does' v (suc k) s set' ps (omega (arith, small, e)) (g.wide, g.range, omega (arith, g.long, set_length cs d x)) (set_here cs d x (omega (arith, g.long)) ∙ ap Some e)) in
      sim_then numbers home d ls (exec go q) onward _ s k cs (turns name (runs body) x (suc k) s) (runs rest)
      (record { steps = t.steps; effects = t.effects; counters = t.counters; pages = t.pages; few = omega (arith, t.few); has = t.has; kept = kept_on d cs set' t.counters (record { long = set_length cs d x; same = λ i l. set_other cs d i x l }) t.kept; wide = t.wide; range = t.range; named = t.named; goes = t.goes })
      (λ k' s' cs' ps' kept wide range. seq_does rest ls d (suc room) q k' s' cs' ps' fine.2 has.1 (omega (arith, le, outer)) (good_on ws d (suc room) s s' cs cs' g kept wide range))
    where
      bool_same : (b : Bool) → i32_in (from_bool b) ≡ from_bool b
      bool_same true = refl
      bool_same false = refl
