-- The instructions that go on, branch or return, over the parts of a run.
use Rattle.std.proofs.Common.{◌≡◌, ℕ, zero, suc, ℤ, ◌+◌, ◌-◌, ◌<◌, ◌≤◌, List, [], ◌∷◌, length, drop, Some, None, Option, refl, sym, ap, ◌∙◌, subst, arith}
use Rattle.std.specs.Prelude.{slice_get}
use Rattle.std.specs.Int.{w64, cast_unsigned}
use Rattle.std.proofs.lemmas.List.{drop_all}
use Rattle.std.proofs.Common.{get_or}
use Rattle.std.proofs.lemmas.Option.{slice_get-get_or}
use Rattle.wasm_ast.specs.declared.instr.BranchTable.{BranchTable}
use Rattle.wasm_ast.specs.Boxed.{Held}
use Rattle.wasm_ast.specs.declared.instr.Op.{Op}
use Rattle.wasm_ast.specs.declared.instr.Instr.{Instr}
use Rattle.wasm_ast.specs.declared.instr.Instr.TheVariants.{Plain, I64Const, SelectTyped, Unreachable, Block, Loop, If, Else, End, Br, BrIf, BrTable, Return, Call, CallIndirect}
use Rattle.core_store.specs.declared.brackets.Jump.{Jump}
use Rattle.core_store.specs.Jumps.{JumpsFrom}
use Rattle.core_store.specs.Tree.{Stop, Then, Part, first, later, onto, placed, parts}
use Rattle.core_store.specs.State.{State}
use Rattle.core_store.specs.Words.{i32_in}
use Rattle.core_store.specs.Config.{Reply, Config, Out, Next, Break, Back, Over, Trapped, Spent, then_do}
use Rattle.core_store.specs.Plain.{plain}
use Rattle.core_store.specs.Eval.{single, exec, go, advance, choose, target}
use Rattle.core_slots.specs.Stacked.{Stacked, with_operands}
use Rattle.core_interp.specs.declared.control.Flow.{Flow}
use Rattle.core_interp.specs.declared.control.Flow.TheVariants.{On, Ended, Failed, Asking, Exhausted, Deep}
use Rattle.core_interp.specs.declared.running.Running.{Running}
use Rattle.core_store.specs.Scene.{Scene, scene_of}
use Rattle.core_interp.specs.Rest.{after, conts, config_of, goes_with}
use Rattle.core_store.specs.Fine.{Frame, frame_at, FineOne, Names, takes, gives}
use Rattle.core_interp.specs.Valid.{IsReady}
use Rattle.core_interp.specs.Plains.{Does}
use Rattle.core_interp.specs.Run.{progress, goes, own_parts, Ready, IsBefore, LeadsTo, Leads, RunLeads, ahead, TrapsBehind, steps, AsksFor, next_parts, Branches, branches, Returns, backs, IsCounted, Performs, HasTable, TakesLabel, Steps}
use Rattle.core_interp.proofs.Moves.{parts_at, conts_later, stands_later, over_after, then_goes, then_traps, then_ready, fine_one}
use Rattle.core_interp.proofs.Given.{code_in, spaces_in, frame_in, at_own, ready_own, steps_own, arrive}

-- what performs an instruction is one that goes on
performs_placed : (i : Instr) (o : Op) (qs : List Part) → Performs i o → placed i qs ≡ onto (Then i) qs
performs_placed (Plain p) o qs e = refl
performs_placed (SelectTyped ts) o qs e = refl
performs_placed (I64Const v) o qs e = absurd e
performs_placed Unreachable o qs e = absurd e
performs_placed (Block t) o qs e = absurd e
performs_placed (Loop t) o qs e = absurd e
performs_placed (If t) o qs e = absurd e
performs_placed Else o qs e = absurd e
performs_placed End o qs e = absurd e
performs_placed (Br k) o qs e = absurd e
performs_placed (BrIf k) o qs e = absurd e
performs_placed (BrTable t) o qs e = absurd e
performs_placed Return o qs e = absurd e
performs_placed (Call f) o qs e = absurd e
performs_placed (CallIndirect ty t) o qs e = absurd e

performs_single : (i : Instr) (o : Op) (n : ℕ) (c : Config) → Performs i o → single go i n c ≡ advance (plain o c) n
performs_single (Plain p) o n c e = ap (λ q. advance (plain q c) n) e
performs_single (SelectTyped ts) o n c e = ap (λ q. advance (plain q c) n) e
performs_single (I64Const v) o n c e = absurd e
performs_single Unreachable o n c e = absurd e
performs_single (Block t) o n c e = absurd e
performs_single (Loop t) o n c e = absurd e
performs_single (If t) o n c e = absurd e
performs_single Else o n c e = absurd e
performs_single End o n c e = absurd e
performs_single (Br k) o n c e = absurd e
performs_single (BrIf k) o n c e = absurd e
performs_single (BrTable t) o n c e = absurd e
performs_single Return o n c e = absurd e
performs_single (Call f) o n c e = absurd e
performs_single (CallIndirect ty t) o n c e = absurd e

-- its operands and what it names are there
abbrev Allows : Scene → Frame → ℕ → Op → (ℕ → Type 0) → Type 0
Allows w fr h o R = (takes o ≤ h) × Names w fr.spaces fr.locals o × R (h - takes o + gives o)

performs_fine : (w : Scene) (fr : Frame) (ls : List ℕ) (h : ℕ) (i : Instr) (o : Op) (R : ℕ → Type 0) → Performs i o → FineOne w fr ls h i R → Allows w fr h o R
performs_fine w fr ls h (Plain p) o R e f = subst (λ q. Allows w fr h q R) e (f.0, f.1, f.2)
performs_fine w fr ls h (SelectTyped ts) o R e f =
    let le : 3 ≤ h = f.0 in
    let n : h - 2 ≡ h - 3 + 1 = omega arith in
    subst (λ q. Allows w fr h q R) e (le, tt, subst R n f.1)
performs_fine w fr ls h (I64Const v) o R e f = absurd e
performs_fine w fr ls h Unreachable o R e f = absurd e
performs_fine w fr ls h (Block t) o R e f = absurd e
performs_fine w fr ls h (Loop t) o R e f = absurd e
performs_fine w fr ls h (If t) o R e f = absurd e
performs_fine w fr ls h Else o R e f = absurd e
performs_fine w fr ls h End o R e f = absurd e
performs_fine w fr ls h (Br k) o R e f = absurd e
performs_fine w fr ls h (BrIf k) o R e f = absurd e
performs_fine w fr ls h (BrTable t) o R e f = absurd e
performs_fine w fr ls h Return o R e f = absurd e
performs_fine w fr ls h (Call g) o R e f = absurd e
performs_fine w fr ls h (CallIndirect ty t) o R e f = absurd e

pub plain_needs : (i : Instr) (m : Running) (s : State) (o : Op) → Performs i o → IsBefore i m s → (takes o ≤ length m.slots.operands) × Names (scene_of s) (spaces_in m s) (length m.slots.locals) o
plain_needs i m s o p x =
    let y = ready_own i m s x in
    let f = performs_fine (scene_of s) (frame_in m s m.slots) _ y.above i o _ p (fine_one (scene_of s) (frame_in m s m.slots) (code_in m s) i (next_parts m s) m.slots (progress m) (performs_placed i o (next_parts m s) p) y) in
    let le = f.0 in let there = y.there in
    (omega arith, f.1)

pub plain_leads : (i : Instr) (m : Running) (s t : State) (o : Op) (b : Stacked) → Performs i o → IsBefore i m s → Does o (spaces_in m s) m.slots s b t → LeadsTo (steps m s) m.function (m.at + 1) b (progress m) t
plain_leads i m s t o b p x d =
    let W = scene_of s in let C = code_in m s in let qs = next_parts m s in let cs = progress m in
    let placed_so = performs_placed i o qs p in
    let y = ready_own i m s x in
    let f = performs_fine W (frame_in m s m.slots) _ y.above i o _ p (fine_one W (frame_in m s m.slots) C i qs m.slots cs placed_so y) in
    let le = f.0 in let there = y.there in let count = d.count in let few = x.ready.counted in let nest = d.stays.nesting in
    arrive (steps m s) s t m.function (m.at + 1) b cs m.controls.items d.stays.scene refl
    (λ rs n. steps_own i m s rs n x ∙ then_goes W (spaces_in m s) C i qs m.slots b cs s t rs n placed_so (performs_single i o n (config_of m.slots (spaces_in m s) s rs) p ∙ ap (λ z. advance z n) (d.does rs)) d.callers)
    (record {
      inside = x.ready.at.inside;
      ready = subst (λ k. IsReady W (frame_at W m.function k) C qs b cs) d.locals (then_ready W (frame_in m s m.slots) C i qs m.slots b cs (y.above - takes o + gives o) placed_so y (omega arith) d.callers f.2);
    })
    (omega arith)

pub plain_trapped : (i : Instr) (m : Running) (s : State) (o : Op) (rs : List Reply) (n : ℕ) → Performs i o → IsBefore i m s → plain o (config_of m.slots (spaces_in m s) s rs) ≡ None → steps m s rs n ≡ Over Trapped
plain_trapped i m s o rs n p x e =
    steps_own i m s rs n x
    ∙ then_traps (scene_of s) (frame_in m s m.slots) (spaces_in m s) (code_in m s) i (next_parts m s) m.slots (progress m) s rs n (performs_placed i o (next_parts m s) p) (performs_single i o n (config_of m.slots (spaces_in m s) s rs) p ∙ ap (λ z. advance z n) e) (ready_own i m s x)

pub constant_leads : (m : Running) (s : State) (v : ℤ) (k : ℕ) (b : Stacked) → IsBefore (I64Const v) m s → k ≡ cast_unsigned w64 v → b ≡ with_operands m.slots (k ∷ m.slots.operands) → LeadsTo (steps m s) m.function (m.at + 1) b (progress m) s
constant_leads m s v k b x ek e =
    let W = scene_of s in let C = code_in m s in let qs = next_parts m s in let cs = progress m in
    let y = ready_own (I64Const v) m s x in
    let same : b ≡ with_operands m.slots (cast_unsigned w64 v ∷ m.slots.operands) = e ∙ ap (λ j. with_operands m.slots (j ∷ m.slots.operands)) ek in
    let there = y.there in
    let len : length b.operands ≡ suc (length m.slots.operands) = ap (λ (z : Stacked). length z.operands) same in
    arrive (steps m s) s s m.function (m.at + 1) b cs m.controls.items refl refl
    (λ rs n. steps_own (I64Const v) m s rs n x ∙ then_goes W (spaces_in m s) C (I64Const v) qs m.slots b cs s s rs n refl (ap (λ (z : Stacked). Next n (config_of z (spaces_in m s) s rs)) (sym same)) (sym (ap (λ (z : Stacked). z.callers) same)))
    (record {
      inside = x.ready.at.inside;
      ready = subst (λ k. IsReady W (frame_at W m.function k) C qs b cs) (sym (ap (λ (z : Stacked). length z.locals) same)) (then_ready W (frame_in m s m.slots) C (I64Const v) qs m.slots b cs (y.above + 1) refl y (omega arith) (sym (ap (λ (z : Stacked). z.callers) same)) y.here);
    })
    x.ready.counted

pub unreachable_traps : (m : Running) (s : State) (rs : List Reply) (n : ℕ) → IsBefore Unreachable m s → steps m s rs n ≡ Over Trapped
unreachable_traps m s rs n x =
    steps_own Unreachable m s rs n x
    ∙ then_traps (scene_of s) (frame_in m s m.slots) (spaces_in m s) (code_in m s) Unreachable (next_parts m s) m.slots (progress m) s rs n refl refl (ready_own Unreachable m s x)

-- branches
pub br_can : (m : Running) (s : State) (k : ℕ) → IsBefore (Br k) m s → Branches m s k
br_can m s k x =
    let y = ready_own (Br k) m s x in
    record {
      inside = x.ready.at.inside;
      counted = x.ready.counted;
      jumping = record { floor = y.floor; above = y.above; ends = y.ends; there = y.there; reaches = y.here; below = stands_later (scene_of s) (frame_in m s m.slots) (code_in m s) (progress m) (placed (Br k) (next_parts m s)) (next_parts m s) m.slots.callers y.floor y.ends refl y.below };
    }

pub br_goes : (m : Running) (s : State) (k : ℕ) (rs : List Reply) (n : ℕ) → IsBefore (Br k) m s → steps m s rs n ≡ branches m s k rs n
br_goes m s k rs n x =
    steps_own (Br k) m s rs n x
    ∙ ap (λ ks. after ks (Break k n (config_of m.slots (spaces_in m s) s rs))) (conts_later (scene_of s) (code_in m s) (progress m) (placed (Br k) (next_parts m s)) (next_parts m s) m.slots.callers refl)

module _ (i : Instr) (m : Running) (s : State) (v : ℕ) (b : Stacked) (x : IsBefore i m s) (pop : m.slots ≡ with_operands b (v ∷ b.operands)) where
  -- before the instruction, with the operand that it takes on top
  topped : IsReady (scene_of s) (frame_in m s b) (code_in m s) (placed i (next_parts m s)) (with_operands b (v ∷ b.operands)) (progress m)
  topped = subst (λ z. IsReady (scene_of s) (frame_in m s z) (code_in m s) (placed i (next_parts m s)) z (progress m)) pop (ready_own i m s x)

  topped_goes : (rs : List Reply) (n : ℕ) → steps m s rs n ≡ goes_with (scene_of s) (spaces_in m s) (code_in m s) (placed i (next_parts m s)) (with_operands b (v ∷ b.operands)) (progress m) s rs (suc n)
  topped_goes rs n = steps_own i m s rs n x ∙ ap (λ z. goes_with (scene_of s) (spaces_in m s) (code_in m s) (placed i (next_parts m s)) z (progress m) s rs (suc n)) pop

pub br_if_needs : (m : Running) (s : State) (k : ℕ) → IsBefore (BrIf k) m s → 0 < length m.slots.operands
br_if_needs m s k x = let y = ready_own (BrIf k) m s x in let one = y.here.0 in omega (arith, y.there)

chosen_first : (u : ℕ) (a b : Out) → u ≡ 0 → choose u a b ≡ a
chosen_first zero a b e = refl
chosen_first (suc u) a b e = absurd (omega arith)

chosen_second : (u : ℕ) (a b : Out) → 0 < u → choose u a b ≡ b
chosen_second zero a b lt = absurd (omega arith)
chosen_second (suc u) a b lt = refl

pub br_if_on : (m : Running) (s : State) (k v : ℕ) (b : Stacked) → IsBefore (BrIf k) m s → m.slots ≡ with_operands b (v ∷ b.operands) → i32_in v ≡ 0 → LeadsTo (steps m s) m.function (m.at + 1) b (progress m) s
br_if_on m s k v b x pop z =
    let W = scene_of s in let C = code_in m s in let qs = next_parts m s in let cs = progress m in
    let y = topped (BrIf k) m s v b x pop in
    let one = y.here.0 in let there : length b.operands + 1 ≡ y.floor + y.above = omega (arith, y.there) in
    arrive (steps m s) s s m.function (m.at + 1) b cs m.controls.items refl refl
    (λ rs n. topped_goes (BrIf k) m s v b x pop rs n ∙ then_goes W (spaces_in m s) C (BrIf k) qs (with_operands b (v ∷ b.operands)) b cs s s rs n refl (chosen_first (i32_in v) _ _ z) refl)
    (record { inside = x.ready.at.inside; ready = then_ready W (frame_in m s b) C (BrIf k) qs (with_operands b (v ∷ b.operands)) b cs (y.above - 1) refl y (omega arith) refl y.here.2 })
    x.ready.counted

pub br_if_can : (m : Running) (s : State) (k v : ℕ) (b : Stacked) → IsBefore (BrIf k) m s → m.slots ≡ with_operands b (v ∷ b.operands) → Branches (record m { slots = b }) s k
br_if_can m s k v b x pop =
    let y = topped (BrIf k) m s v b x pop in
    let one = y.here.0 in let there : length b.operands + 1 ≡ y.floor + y.above = omega (arith, y.there) in
    record {
      inside = x.ready.at.inside;
      counted = x.ready.counted;
      jumping = record { floor = y.floor; above = y.above - 1; ends = y.ends; there = omega arith; reaches = y.here.1; below = stands_later (scene_of s) (frame_in m s b) (code_in m s) (progress m) (placed (BrIf k) (next_parts m s)) (next_parts m s) b.callers y.floor y.ends refl y.below };
    }

pub br_if_goes : (m : Running) (s : State) (k v : ℕ) (b : Stacked) (rs : List Reply) (n : ℕ) → IsBefore (BrIf k) m s → m.slots ≡ with_operands b (v ∷ b.operands) → 0 < i32_in v → steps m s rs n ≡ branches (record m { slots = b }) s k rs n
br_if_goes m s k v b rs n x pop lt =
    topped_goes (BrIf k) m s v b x pop rs n
    ∙ ap (λ o. after (conts (scene_of s) (code_in m s) (progress m) (placed (BrIf k) (next_parts m s)) b.callers) (then_do o (exec go (first (next_parts m s)).here))) (chosen_second (i32_in v) _ _ lt)
    ∙ ap (λ ks. after ks (Break k n (config_of b (spaces_in m s) s rs))) (conts_later (scene_of s) (code_in m s) (progress m) (placed (BrIf k) (next_parts m s)) (next_parts m s) b.callers refl)

pub table_needs : (m : Running) (s : State) (t : Held BranchTable) → IsBefore (BrTable t) m s → 0 < length m.slots.operands
table_needs m s t x = let y = ready_own (BrTable t) m s x in let one = y.here.0 in omega (arith, y.there)

pub table_can : (m : Running) (s : State) (t : Held BranchTable) (v k : ℕ) (b : Stacked) → IsBefore (BrTable t) m s → m.slots ≡ with_operands b (v ∷ b.operands) → k ≡ target t.value (i32_in v) → Branches (record m { slots = b }) s k
table_can m s t v k b x pop ek =
    let y = topped (BrTable t) m s v b x pop in
    let one = y.here.0 in let there : length b.operands + 1 ≡ y.floor + y.above = omega (arith, y.there) in
    subst (λ j. Branches (record m { slots = b }) s j) (sym ek) (record {
      inside = x.ready.at.inside;
      counted = x.ready.counted;
      jumping = record { floor = y.floor; above = y.above - 1; ends = y.ends; there = omega arith; reaches = y.here.1 (i32_in v); below = stands_later (scene_of s) (frame_in m s b) (code_in m s) (progress m) (placed (BrTable t) (next_parts m s)) (next_parts m s) b.callers y.floor y.ends refl y.below };
    })

pub table_goes : (m : Running) (s : State) (t : Held BranchTable) (v k : ℕ) (b : Stacked) (rs : List Reply) (n : ℕ) → IsBefore (BrTable t) m s → m.slots ≡ with_operands b (v ∷ b.operands) → k ≡ target t.value (i32_in v) → steps m s rs n ≡ branches (record m { slots = b }) s k rs n
table_goes m s t v k b rs n x pop ek =
    topped_goes (BrTable t) m s v b x pop rs n
    ∙ ap (λ ks. after ks (Break (target t.value (i32_in v)) n (config_of b (spaces_in m s) s rs))) (conts_later (scene_of s) (code_in m s) (progress m) (placed (BrTable t) (next_parts m s)) (next_parts m s) b.callers refl)
    ∙ ap (λ j. branches (record m { slots = b }) s j rs n) (sym ek)

pub has_table : (m : Running) (s : State) (t : Held BranchTable) → IsBefore (BrTable t) m s → HasTable (slice_get (code_in m s) m.at)
has_table m s t x = subst HasTable (sym x.there) tt

pub label_taken : (m : Running) (s : State) (t : Held BranchTable) (index k : ℕ) → IsBefore (BrTable t) m s → TakesLabel (slice_get (code_in m s) m.at) index k → k ≡ target t.value index
label_taken m s t index k x h = subst (λ (o : Option Instr). TakesLabel o index k) x.there h

-- a return
pub return_can : (m : Running) (s : State) → IsBefore Return m s → Returns m s
return_can m s x =
    let y = ready_own Return m s x in
    let fits = y.here in let there = y.there in
    record {
      counted = x.ready.counted;
      returning = record { floor = y.floor; ends = y.ends; there = omega arith; below = stands_later (scene_of s) (frame_in m s m.slots) (code_in m s) (progress m) (placed Return (next_parts m s)) (next_parts m s) m.slots.callers y.floor y.ends refl y.below };
    }

pub return_goes : (m : Running) (s : State) (rs : List Reply) (n : ℕ) → IsBefore Return m s → steps m s rs n ≡ backs m s rs n
return_goes m s rs n x =
    steps_own Return m s rs n x
    ∙ ap (λ ks. after ks (Back n (config_of m.slots (spaces_in m s) s rs))) (conts_later (scene_of s) (code_in m s) (progress m) (placed Return (next_parts m s)) (next_parts m s) m.slots.callers refl)

-- where a question leads that is asked by another run too
pub asks_from : (X Y : List Reply → ℕ → Out) (f : ℕ) (m : Running) (s : State) → ((rs : List Reply) (n : ℕ) → Y rs n ≡ X rs n) → AsksFor X f m s → AsksFor Y f m s
asks_from X Y f m s up x = record { ty = x.ty; number = x.number; callee_is = x.callee_is; fits = x.fits; asks = λ n. up [] n ∙ x.asks n; goes = λ r rs n. up (r ∷ rs) n ∙ x.goes r rs n; ready = x.ready; counted = x.counted }

-- a step, and what takes none, from the budget
pub shifted : (X Y : List Reply → ℕ → Out) (flow : Flow) (b : ℕ) (m : Running) (s : State) → ((rs : List Reply) (n : ℕ) → Y rs n ≡ X rs n) → Leads X flow m s → RunLeads Y b flow m s
shifted X Y On b m s up x = (λ rs n. up rs n ∙ x.goes rs n, record { at = x.ready; counted = x.counted })
shifted X Y (Ended r) b m s up x = (x.0, λ rs n. up rs n ∙ x.1 rs n)
shifted X Y Failed b m s up x = λ rs n. up rs n ∙ x rs n
shifted X Y (Asking f) b m s up x = asks_from X Y f m s up x
shifted X Y Deep b m s up x = λ rs n. up rs n ∙ x rs n
shifted X Y Exhausted b m s up x = absurd x

pub stepped : (m m' : Running) (s t : State) (a b : ℕ) (flow : Flow) → a ≡ b + 1 → Leads (steps m s) flow m' t → RunLeads (ahead (goes m s) (a - b)) b flow m' t
stepped m m' s t a b flow e l = shifted (steps m s) (ahead (goes m s) (a - b)) flow b m' t (λ rs n. let q : a - b + n ≡ suc n = omega arith in ap (goes m s rs) q) l

pub free : (m m' : Running) (s t : State) (b : ℕ) (flow : Flow) → Leads (goes m s) flow m' t → RunLeads (ahead (goes m s) (b - b)) b flow m' t
free m m' s t b flow l = shifted (goes m s) (ahead (goes m s) (b - b)) flow b m' t (λ rs n. let q : b - b + n ≡ n = omega arith in ap (goes m s rs) q) l

-- with no step left, an instruction that takes one is not begun
spent_with : (w : Scene) (fr : Frame) (i : Instr) (m : Running) (s : State) (rs : List Reply) → IsCounted i → IsReady w fr (code_in m s) (placed i (next_parts m s)) m.slots (progress m) → (w ≡ scene_of s) → goes_with (scene_of s) (spaces_in m s) (code_in m s) (placed i (next_parts m s)) m.slots (progress m) s rs 0 ≡ after (conts (scene_of s) (code_in m s) (progress m) (placed i (next_parts m s)) m.slots.callers) (Over Spent)
spent_with w fr (Plain o) m s rs p x q = refl
spent_with w fr (I64Const v) m s rs p x q = refl
spent_with w fr (SelectTyped ts) m s rs p x q = refl
spent_with w fr Unreachable m s rs p x q = refl
spent_with w fr (Block t) m s rs p x q = refl
spent_with w fr (Loop t) m s rs p x q = refl
spent_with w fr (If t) m s rs p x q = refl
spent_with w fr Else m s rs p x q = absurd p
spent_with w fr End m s rs p x q = absurd p
spent_with w fr (Br k) m s rs p x q = refl
spent_with w fr (BrIf k) m s rs p x q = refl
spent_with w fr (BrTable t) m s rs p x q = refl
spent_with w fr Return m s rs p x q = refl
spent_with w fr (Call f) m s rs p x q = refl
spent_with w fr (CallIndirect ty t) m s rs p x q = refl

-- one run after another, the first of c - a steps
pub then_leads : (X : List Reply → ℕ → Out) (m m' : Running) (s t : State) (c a b : ℕ) (flow : Flow) → b ≤ a → a ≤ c → ((rs : List Reply) (n : ℕ) → ahead X (c - a) rs n ≡ goes m s rs n) → RunLeads (ahead (goes m s) (a - b)) b flow m' t → RunLeads (ahead X (c - b)) b flow m' t
then_leads X m m' s t c a b flow lt le e x = on_from (ahead (goes m s) (a - b)) (ahead X (c - b)) flow b m' t (λ rs n. let q : c - b + n ≡ c - a + (a - b + n) = omega arith in ap (X rs) q ∙ e rs (a - b + n)) x
  where
    on_from : (X Y : List Reply → ℕ → Out) (flow : Flow) (b : ℕ) (m : Running) (s : State) → ((rs : List Reply) (n : ℕ) → Y rs n ≡ X rs n) → RunLeads X b flow m s → RunLeads Y b flow m s
    on_from X Y On b m s up x = (λ rs n. up rs n ∙ x.0 rs n, x.1)
    on_from X Y (Ended r) b m s up x = (x.0, λ rs n. up rs n ∙ x.1 rs n)
    on_from X Y Failed b m s up x = λ rs n. up rs n ∙ x rs n
    on_from X Y (Asking f) b m s up x = asks_from X Y f m s up x
    on_from X Y Deep b m s up x = λ rs n. up rs n ∙ x rs n
    on_from X Y Exhausted b m s up x = (x.0, λ rs. up rs 0 ∙ x.1 rs, λ rs n. up rs n ∙ x.2 rs n, x.3)

-- the same, where the run goes on
pub then_on : (X : List Reply → ℕ → Out) (m m' : Running) (s t : State) (c a b : ℕ) (rs : List Reply) (n : ℕ) → b ≤ a → a ≤ c → ((rs : List Reply) (n : ℕ) → ahead X (c - a) rs n ≡ goes m s rs n) → RunLeads (ahead (goes m s) (a - b)) b On m' t → ahead X (c - b) rs n ≡ goes m' t rs n
then_on X m m' s t c a b rs n lt le e x = (then_leads X m m' s t c a b On lt le e x).0 rs n

-- the instruction that the machine read
pub before_at : (i : Instr) (m : Running) (s : State) → slice_get (code_in m s) m.at ≡ Some i → m.at + 1 < 18446744073709551616 → Ready m s → IsBefore i m s
before_at i m s there small ready = record { there = there; small = small; ready = ready }

pub counted_of : (i : Instr) → (i ≡ End → ⊥) → (i ≡ Else → ⊥) → IsCounted i
counted_of (Plain o) e f = tt
counted_of (I64Const v) e f = tt
counted_of (SelectTyped ts) e f = tt
counted_of Unreachable e f = tt
counted_of (Block t) e f = tt
counted_of (Loop t) e f = tt
counted_of (If t) e f = tt
counted_of Else e f = f refl
counted_of End e f = e refl
counted_of (Br k) e f = tt
counted_of (BrIf k) e f = tt
counted_of (BrTable t) e f = tt
counted_of Return e f = tt
counted_of (Call g) e f = tt
counted_of (CallIndirect ty t) e f = tt

-- the ends of pieces
pub end_stop : (m : Running) (s : State) → IsBefore End m s → (first (own_parts m s)).here ≡ Stop
end_stop m s x = ap (λ ps. (first ps).here) (at_own End m s x)

pub end_next : (m : Running) (s : State) → IsBefore End m s → next_parts m s ≡ later (own_parts m s)
end_next m s x = sym (ap later (at_own End m s x))

pub else_stop : (m : Running) (s : State) → IsBefore Else m s → (first (own_parts m s)).here ≡ Stop
else_stop m s x = ap (λ ps. (first ps).here) (at_own Else m s x)

pub else_next : (m : Running) (s : State) (jump : Jump) → IsBefore Else m s → JumpsFrom (code_in m s) m.at Else jump → parts (drop jump.behind (code_in m s)) ≡ later (own_parts m s)
else_next m s jump x j = j ∙ sym (ap later (at_own Else m s x))

past : (m : Running) (s : State) → length (code_in m s) ≤ m.at → own_parts m s ≡ []
past m s le = ap parts (drop_all m.at (code_in m s) le)

pub past_stop : (m : Running) (s : State) → length (code_in m s) ≤ m.at → (first (own_parts m s)).here ≡ Stop
past_stop m s le = ap (λ ps. (first ps).here) (past m s le)

pub past_next : (m : Running) (s : State) → length (code_in m s) ≤ m.at → parts (drop m.at (code_in m s)) ≡ later (own_parts m s)
past_next m s le = past m s le ∙ sym (ap later (past m s le))

some_instr : (i j : Instr) → Some i ≡ Some j → i ≡ j
some_instr i j e = cc

-- with no step left, the instruction at hand is not begun
pub spent_now : (m : Running) (s : State) (rs : List Reply) → Steps m s → goes m s rs 0 ≡ Over Spent
spent_now m s rs x =
    let there = slice_get-get_or (code_in m s) m.at End x.within in
    let ready : IsReady (scene_of s) (frame_in m s m.slots) (code_in m s) (placed (get_or (code_in m s) m.at End) (next_parts m s)) m.slots (progress m) = subst (λ ps. IsReady (scene_of s) (frame_in m s m.slots) (code_in m s) ps m.slots (progress m)) (parts_at (code_in m s) m.at (get_or (code_in m s) m.at End) there) x.ready.at.ready in
    ap (λ ps. goes_with (scene_of s) (spaces_in m s) (code_in m s) ps m.slots (progress m) s rs 0) (parts_at (code_in m s) m.at (get_or (code_in m s) m.at End) there)
    ∙ spent_with (scene_of s) (frame_in m s m.slots) (get_or (code_in m s) m.at End) m s rs (x.counted _ there) ready refl
    ∙ over_after (scene_of s) (frame_in m s m.slots) (code_in m s) (progress m) (placed (get_or (code_in m s) m.at End) (next_parts m s)) m.slots.callers ready.floor ready.ends Spent ready.below

pub spent_all : (m : Running) (s : State) (a : ℕ) → a ≡ 0 → Steps m s → RunLeads (ahead (goes m s) (a - a)) a Exhausted m s
spent_all m s a e x =
    let z : a - a + 0 ≡ 0 = omega arith in
    let up : (n : ℕ) → a - a + n ≡ n = λ n. omega arith in
    (e, λ rs. ap (goes m s rs) z ∙ spent_now m s rs x, λ rs n. ap (goes m s rs) (up n), x.ready)

-- an instruction that traps takes its step before
pub step_traps : (m : Running) (s : State) (a b : ℕ) (flow : Flow) → a ≡ b + 1 → Steps m s → TrapsBehind (goes m s) (a - b) flow
step_traps m s a b On e x = tt
step_traps m s a b (Ended r) e x = tt
step_traps m s a b Failed e x = (omega arith, λ rs. (let q : a - b - 1 ≡ 0 = omega arith in ap (goes m s rs) q) ∙ spent_now m s rs x)
step_traps m s a b (Asking f) e x = tt
step_traps m s a b Deep e x = tt
step_traps m s a b Exhausted e x = tt
