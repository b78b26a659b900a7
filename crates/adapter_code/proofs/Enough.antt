-- What is enough before a routine gives the fact of its run.
use Rattle.std.proofs.Common.{◌≡◌, ◌≢◌, ℕ, zero, suc, ◌+◌, ◌-◌, ◌%◌, ◌^◌, ◌<◌, ◌≤◌, Some, None, refl, sym, ap, subst, ◌∙◌, arith}
use Rattle.std.specs.Prelude.{if◌then◌else◌}
use Rattle.std.proofs.Math.Nat.{mod-eq_of_lt}
use Rattle.std.proofs.lemmas.Bool.{le-leb}
use Rattle.adapter_code.specs.declared.statement.Width.{Width}
use Rattle.adapter_code.specs.declared.statement.Width.TheVariants.{Narrow, Broad}
use Rattle.adapter_code.specs.declared.statement.IntOp.{IntOp}
use Rattle.adapter_code.specs.declared.statement.IntOp.TheVariants.{Eq, Ne, LtU, LeU, Add, Sub, Mul, And, Or, Xor, Shl, ShrU}
use Rattle.adapter_code.specs.declared.statement.Statement.{Statement, Const, Move, Int, Load, Store, If', Repeat', Leave, NewHandle, DropHandle, Trap, Answer}
use Rattle.adapter_code.specs.Number.{low, moved, result_of, word, put}
use Rattle.adapter_code.specs.Code.{Code, Stop, Then, Choose, Turns}
use Rattle.adapter_code.specs.Run.{State, Run, Next, Left, Over, width_at, number_at, set_local, then_run, turn_end, turns, chosen, after_load, after_store, does, runs}
use Rattle.adapter_code.specs.Enough.{top, plainly, NoWrap, NoLoss, Behind, TurnEnds, EnoughOf, Enough}

low_same : (w : Width) (v : ℕ) → v < top w → low w v ≡ v
low_same Narrow v h = mod-eq_of_lt h
low_same Broad v h = mod-eq_of_lt h

less : (n a b : ℕ) → b ≤ a → a < n → (a + (n - b)) % n ≡ a - b
less n a b le lt =
    let same : a + (n - b) ≡ (a - b) + n = omega arith in
    let pos : 0 < n = omega arith in
    ap (λ x. x % n) same ∙ wraps n (a - b) (omega arith)
  where
    wraps : (n x : ℕ) → x < n → (x + n) % n ≡ x
    wraps n x lt = grind (arith, mod-eq_of_lt)

pub plain_result : (op : IntOp) (w : Width) (a b : ℕ) → NoWrap op w a b → result_of op w a b ≡ plainly op w a b
plain_result Add Narrow a b h = mod-eq_of_lt h
plain_result Add Broad a b h = mod-eq_of_lt h
plain_result Sub Narrow a b h = less (2 ^ 32) a b h.0 h.1
plain_result Sub Broad a b h = less (2 ^ 64) a b h.0 h.1
plain_result Mul Narrow a b h = mod-eq_of_lt h
plain_result Mul Broad a b h = mod-eq_of_lt h
plain_result Eq w a b h = refl
plain_result Ne w a b h = refl
plain_result LtU w a b h = refl
plain_result LeU w a b h = refl
plain_result And w a b h = refl
plain_result Or w a b h = refl
plain_result Xor w a b h = refl
plain_result Shl w a b h = refl
plain_result ShrU w a b h = refl

no_loss : (to from : Width) (v : ℕ) → NoLoss to from v → moved to from v ≡ v
no_loss Narrow Broad v h = mod-eq_of_lt h
no_loss Narrow Narrow v h = refl
no_loss Broad Narrow v h = refl
no_loss Broad Broad v h = refl

enough_does : (st : Statement) (wanted : Run → Type 0) (k : ℕ) (s : State) → EnoughOf st wanted k s → wanted (does st k s)
enough_does (Const to v) wanted k s e = subst (λ n. wanted (Next k (set_local s to n))) (sym (low_same (width_at s to) v e.0)) e.1
enough_does (Move to from) wanted k s e = subst (λ n. wanted (Next k (set_local s to n))) (sym (no_loss (width_at s to) (width_at s from) (number_at s from) e.0)) e.1
enough_does (Int op to a b) wanted k s e = subst (λ n. wanted (Next k (set_local s to n))) (sym (plain_result op (width_at s a) (number_at s a) (number_at s b) e.0)) e.1
enough_does (Load to at offset size) wanted k s e =
    subst (λ b. wanted (after_load to k s (if b then Some (word s.memory (number_at s at + offset) size) else None))) (sym (le-leb _ _ e.0)) e.1
enough_does (Store from at offset size) wanted k s e =
    subst (λ b. wanted (after_store k s (if b then Some (put s.memory (number_at s at + offset) size (number_at s from)) else None))) (sym (le-leb _ _ e.0)) e.1
enough_does (If' test m f m' o) wanted k s e = e
enough_does (Repeat' name count m body) wanted k s e = e
enough_does (Leave name) wanted k s e = e
enough_does (NewHandle kind rep to) wanted k s e = e _ refl
enough_does (DropHandle kind index) wanted k s e = e _ refl
enough_does Trap wanted k s e = e
enough_does Answer wanted k s e = e

behind : (wanted : Run → Type 0) (rest : Code) (r : Run) → ((k : ℕ) (s : State) → Enough rest wanted k s → wanted (runs rest k s)) → Behind (λ k t. Enough rest wanted k t) wanted r → wanted (then_run r (runs rest))
behind wanted rest (Next k s) go h = go k s h
behind wanted rest (Left name k s) go h = h
behind wanted rest (Over e k s) go h = h

pick : (x : ℕ) (wanted : Run → Type 0) (a b : Run) → (x ≢ 0 → wanted a) → (x ≡ 0 → wanted b) → wanted (chosen x a b)
pick zero wanted a b some none = none refl
pick (suc x) wanted a b some none = some (λ e. omega (arith, e))

-- what is enough before, holds of the run
pub enough_runs : (code : Code) (wanted : Run → Type 0) (k : ℕ) (s : State) → Enough code wanted k s → wanted (runs code k s)
enough_runs Stop wanted k s e = e
enough_runs (Then st rest) wanted k s e =
    behind wanted rest (does st (suc k) s) (λ i t. enough_runs rest wanted i t) (enough_does st (λ r. Behind (λ k t. Enough rest wanted k t) wanted r) (suc k) s e)
enough_runs (Choose test first other rest) wanted k s e =
    behind wanted rest (chosen (number_at s test) (runs first (suc k) s) (runs other (suc k) s)) (λ i t. enough_runs rest wanted i t)
    (pick (number_at s test) (λ r. Behind (λ k t. Enough rest wanted k t) wanted r) (runs first (suc k) s) (runs other (suc k) s)
    (λ some. enough_runs first (λ r. Behind (λ k t. Enough rest wanted k t) wanted r) (suc k) s (e.0 some))
    (λ none. enough_runs other (λ r. Behind (λ k t. Enough rest wanted k t) wanted r) (suc k) s (e.1 none)))
enough_runs (Turns name count body rest) wanted k s e =
    behind wanted rest (turns name (runs body) (number_at s count) (suc k) s) (λ i t. enough_runs rest wanted i t) e

turn : (name : ℕ) (go : ℕ → State → Type 0) (next : ℕ → State → Run) (wanted : Run → Type 0) (r : Run) → ((k : ℕ) (s : State) → go k s → wanted (next k s)) → TurnEnds name go wanted r → wanted (turn_end name r next)
turn name go next wanted (Next k s) on h = on k s h
turn name go next wanted (Left m k s) on h = h
turn name go next wanted (Over e k s) on h = h

-- the turns of a `Repeat`, by a fact that holds before each turn, with the number of turns that are left
pub turns_hold : (name : ℕ) (body : ℕ → State → Run) (holds : ℕ → ℕ → State → Type 0) (wanted : Run → Type 0)
    → ((n k : ℕ) (s : State) → holds (suc n) k s → TurnEnds name (holds n) wanted (body (suc k) s))
    → ((k : ℕ) (s : State) → holds 0 k s → wanted (Next k s))
    → (n k : ℕ) (s : State) → holds n k s → wanted (turns name body n k s)
turns_hold name body holds wanted step done zero k s h = done k s h
turns_hold name body holds wanted step done (suc n) k s h =
    turn name (holds n) (turns name body n) wanted (body (suc k) s) (λ i t g. turns_hold name body holds wanted step done n i t g) (step n k s h)

-- the same from what is enough before the body
pub loop_holds : (name : ℕ) (body : Code) (holds : ℕ → ℕ → State → Type 0) (wanted : Run → Type 0)
    → ((n k : ℕ) (s : State) → holds (suc n) k s → Enough body (λ r. TurnEnds name (holds n) wanted r) (suc k) s)
    → ((k : ℕ) (s : State) → holds 0 k s → wanted (Next k s))
    → (n k : ℕ) (s : State) → holds n k s → wanted (turns name (runs body) n k s)
loop_holds name body holds wanted step done =
    turns_hold name (runs body) holds wanted (λ n k s h. enough_runs body (λ r. TurnEnds name (holds n) wanted r) (suc k) s (step n k s h)) done
