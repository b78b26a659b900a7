-- The nesting allowed to turns and calls does not matter, since each takes a step.
use Rattle.std.proofs.Common.{length, drop, ◌≡◌, ℕ, zero, suc, ◌-◌, ◌<◌, ◌≤◌, List, [], ◌∷◌, Option, Some, None, Bool, true, false, refl, ap, ◌∙◌, arith}
use Rattle.std.specs.Prelude.{slice_get, Result, Ok, Err}
use Rattle.virt_base.specs.declared.core_type.CoreType.{CoreType}
use Rattle.virt_base.specs.declared.fault.Trap.{Trap}
use Rattle.wasm_ast.specs.declared.module.CoreFunc.{CoreFunc}
use Rattle.wasm_ast.specs.declared.instr.BlockType.{BlockType}
use Rattle.wasm_ast.specs.declared.instr.Op.TheVariants as op
use Rattle.wasm_ast.specs.declared.instr.Instr.{Instr}
use Rattle.wasm_ast.specs.declared.instr.Instr.TheVariants.{Plain, I64Const, SelectTyped, Unreachable, Block, Loop, If, Else, End, Br, BrIf, BrTable, Return, Call, CallIndirect}
use Rattle.core_store.specs.Tree.{Seq, Stop, Then, InBlock, InLoop, InIf, tree}
use Rattle.core_store.specs.declared.value.CoreRef.{CoreRef}
use Rattle.core_store.specs.declared.value.CoreRef.TheVariants.{Null, Func}
use Rattle.core_store.specs.declared.value.CoreSpaces.{CoreSpaces}
use Rattle.core_store.specs.declared.value.CoreValue.{CoreValue}
use Rattle.core_store.specs.declared.value.StoreFunc.{StoreFunc}
use Rattle.core_store.specs.declared.value.StoreFunc.TheVariants.{Inside, Outside}
use Rattle.core_store.specs.Table.{got}
use Rattle.core_store.specs.State.{State, can_enter, table_at}
use Rattle.core_store.specs.Words.{words, i32_in}
use Rattle.core_store.specs.Config.{Config, Reply, Outcome, Done, Trapped, Asks, Spent, TooDeep, Out, Next, Break, Back, Over, then_do, with_stack, type_at, block_params, block_results}
use Rattle.core_store.specs.Plain.{plain}
use Rattle.core_store.specs.Laws.{Within as IsWithin, NoMoreStepsAreLeft}
use Rattle.core_store.specs.Eval.{function_type, block_end, step_then, loop_end, call_end, More, Turn, Enter, advance, pop, choose, target, same_func, enter_if, call_ref, call_place, indirect, single, exec, replied, deep, enter_within, begun, entered, more, go, finish, outside, eval}

-- no more than n steps are left
abbrev pub Within : ℕ → Out → Type 0
Within n (Next m c) = m ≤ n
Within n (Break k m c) = m ≤ n
Within n (Back m c) = m ≤ n
Within n (Over o) = IsWithin n o

over_more : (m n : ℕ) (o : Outcome) → m ≤ n → IsWithin m o → IsWithin n o
over_more m n (Done values s left) le h = omega arith
over_more m n Trapped le h = tt
over_more m n (Asks number args s left) le h = omega arith
over_more m n Spent le h = tt
over_more m n TooDeep le h = tt

pub within_more : (m n : ℕ) (o : Out) → m ≤ n → Within m o → Within n o
within_more m n (Next i c) le h = omega arith
within_more m n (Break k i c) le h = omega arith
within_more m n (Back i c) le h = omega arith
within_more m n (Over o) le h = over_more m n o le h

pub advance_within : (n : ℕ) (o : Option Config) → Within n (advance o n)
advance_within n None = tt
advance_within n (Some c) = omega arith

-- what takes turns and calls leaves no more steps
abbrev pub Falls : (More → ℕ → Config → Out) → Type 0
Falls f = (m : More) (n : ℕ) (c : Config) → Within n (f m n c)

then_within : (n : ℕ) (o : Out) (f : ℕ → Config → Out) → Within n o → ((m : ℕ) (c : Config) → Within m (f m c)) → Within n (then_do o f)
then_within n (Next m c) f h each = within_more m n (f m c) h (each m c)
then_within n (Break k m c) f h each = h
then_within n (Back m c) f h each = h
then_within n (Over o) f h each = h

block_within : (a h n : ℕ) (o : Out) → Within n o → Within n (block_end a h o)
block_within a h n (Next m c) b = b
block_within a h n (Break zero m c) b = b
block_within a h n (Break (suc k) m c) b = b
block_within a h n (Back m c) b = b
block_within a h n (Over o) b = b

choose_within : (w n : ℕ) (a b : Out) → Within n a → Within n b → Within n (choose w a b)
choose_within zero n a b ha hb = ha
choose_within (suc w) n a b ha hb = hb

pop_within : (n : ℕ) (c : Config) (xs : List ℕ) (f : ℕ → Config → Out) → ((w : ℕ) (d : Config) → Within n (f w d)) → Within n (pop c xs f)
pop_within n c [] f each = tt
pop_within n c (w ∷ xs) f each = each w (with_stack c xs)

enter_if_within : (f : More → ℕ → Config → Out) → Falls f → (b : Bool) (g n : ℕ) (c : Config) → Within n (enter_if f b g n c)
enter_if_within f falls true g n c = falls (Enter g) n c
enter_if_within f falls false g n c = tt

ref_within : (f : More → ℕ → Config → Out) → Falls f → (ty : CoreFunc) (r : Result CoreRef Trap) (n : ℕ) (c : Config) → Within n (call_ref f ty r n c)
ref_within f falls ty (Err trap) n c = tt
ref_within f falls ty (Ok Null) n c = tt
ref_within f falls ty (Ok (Func g)) n c = enter_if_within f falls (same_func ty (function_type (slice_get c.store.functions g))) g n c

place_within : (f : More → ℕ → Config → Out) → Falls f → (o : Option ℕ) (n : ℕ) (c : Config) → Within n (call_place f o n c)
place_within f falls None n c = tt
place_within f falls (Some g) n c = falls (Enter g) n c

indirect_within : (f : More → ℕ → Config → Out) → Falls f → (ty : CoreFunc) (o : Option ℕ) (n : ℕ) (c : Config) → Within n (indirect f ty o n c)
indirect_within f falls ty None n c = tt
indirect_within f falls ty (Some k) n c = pop_within n c c.stack _ (λ w d. ref_within f falls ty (got (table_at d.store k) (i32_in w)) n d)

next_within : (n : ℕ) (c : Config) → Within n (Next n c)
next_within n c = omega arith

break_within : (k n : ℕ) (c : Config) → Within n (Break k n c)
break_within k n c = omega arith

single_within : (f : More → ℕ → Config → Out) → Falls f → (i : Instr) (n : ℕ) (c : Config) → Within n (single f i n c)
single_within f falls (Plain o) n c = advance_within n (plain o c)
single_within f falls (I64Const v) n c = next_within n c
single_within f falls (SelectTyped ts) n c = advance_within n (plain op.Select c)
single_within f falls Unreachable n c = tt
single_within f falls (Br k) n c = break_within k n c
single_within f falls (BrIf k) n c = pop_within n c c.stack _ (λ w d. choose_within (i32_in w) n _ _ (next_within n d) (break_within k n d))
single_within f falls (BrTable t) n c = pop_within n c c.stack _ (λ w d. break_within (target t.value (i32_in w)) n d)
single_within f falls Return n c = next_within n c
single_within f falls (Call i) n c = place_within f falls (slice_get c.spaces.functions i) n c
single_within f falls (CallIndirect ty i) n c = indirect_within f falls (type_at c.spaces ty) (slice_get c.spaces.tables i) n c
single_within f falls (Block t) n c = tt
single_within f falls (Loop t) n c = tt
single_within f falls (If t) n c = tt
single_within f falls Else n c = tt
single_within f falls End n c = tt

suc_within : (n : ℕ) (o : Out) → Within n o → Within (suc n) o
suc_within n o h = within_more n (suc n) o (omega arith) h

module _ (f : More → ℕ → Config → Out) (falls : Falls f) where
  exec_within : (q : Seq) (n : ℕ) (c : Config) → Within n (exec f q n c)
  exec_within Stop n c = next_within n c
  exec_within (Then i rest) zero c = tt
  exec_within (Then i rest) (suc n) c =
      suc_within n _ (then_within n (single f i n c) (exec f rest) (single_within f falls i n c) (exec_within rest))
  exec_within (InBlock t body rest) zero c = tt
  exec_within (InBlock t body rest) (suc n) c =
      suc_within n _ (then_within n _ (exec f rest) (block_within _ _ n (exec f body n c) (exec_within body n c)) (exec_within rest))
  exec_within (InLoop t body rest) zero c = tt
  exec_within (InLoop t body rest) (suc n) c =
      suc_within n _ (then_within n _ (exec f rest) (falls (Turn t body) n c) (exec_within rest))
  exec_within (InIf t body other rest) zero c = tt
  exec_within (InIf t body other rest) (suc n) c =
      suc_within n _ (pop_within n c c.stack _ (λ w d. then_within n _ (exec f rest) (block_within _ _ n _ (choose_within (i32_in w) n _ _ (exec_within other n d) (exec_within body n d))) (exec_within rest)))

-- two that agree where fewer than n steps are left
abbrev Agree : ℕ → (More → ℕ → Config → Out) → (More → ℕ → Config → Out) → Type 0
Agree n f g = (a : More) (m : ℕ) (c : Config) → m < n → f a m c ≡ g a m c

then_same : (n : ℕ) (o : Out) (f g : ℕ → Config → Out) → Within n o → ((m : ℕ) (c : Config) → m ≤ n → f m c ≡ g m c) → then_do o f ≡ then_do o g
then_same n (Next m c) f g h each = each m c h
then_same n (Break k m c) f g h each = refl
then_same n (Back m c) f g h each = refl
then_same n (Over o) f g h each = refl

pop_same : (c : Config) (xs : List ℕ) (f g : ℕ → Config → Out) → ((w : ℕ) (d : Config) → f w d ≡ g w d) → pop c xs f ≡ pop c xs g
pop_same c [] f g each = refl
pop_same c (w ∷ xs) f g each = each w (with_stack c xs)

choose_same : (w : ℕ) (a b c d : Out) → a ≡ c → b ≡ d → choose w a b ≡ choose w c d
choose_same zero a b c d e f = e
choose_same (suc w) a b c d e f = f

module _ (f g : More → ℕ → Config → Out) (n : ℕ) (same : Agree (suc n) f g) where
  enter_if_same : (b : Bool) (h : ℕ) (c : Config) → enter_if f b h n c ≡ enter_if g b h n c
  enter_if_same true h c = same (Enter h) n c (omega arith)
  enter_if_same false h c = refl

  ref_same : (ty : CoreFunc) (r : Result CoreRef Trap) (c : Config) → call_ref f ty r n c ≡ call_ref g ty r n c
  ref_same ty (Err trap) c = refl
  ref_same ty (Ok Null) c = refl
  ref_same ty (Ok (Func h)) c = enter_if_same (same_func ty (function_type (slice_get c.store.functions h))) h c

  place_same : (o : Option ℕ) (c : Config) → call_place f o n c ≡ call_place g o n c
  place_same None c = refl
  place_same (Some h) c = same (Enter h) n c (omega arith)

  indirect_same : (ty : CoreFunc) (o : Option ℕ) (c : Config) → indirect f ty o n c ≡ indirect g ty o n c
  indirect_same ty None c = refl
  indirect_same ty (Some k) c = pop_same c c.stack _ _ (λ w d. ref_same ty (got (table_at d.store k) (i32_in w)) d)

  single_same : (i : Instr) (c : Config) → single f i n c ≡ single g i n c
  single_same (Plain o) c = refl
  single_same (I64Const v) c = refl
  single_same (SelectTyped ts) c = refl
  single_same Unreachable c = refl
  single_same (Br k) c = refl
  single_same (BrIf k) c = refl
  single_same (BrTable t) c = refl
  single_same Return c = refl
  single_same (Call i) c = place_same (slice_get c.spaces.functions i) c
  single_same (CallIndirect ty i) c = indirect_same (type_at c.spaces ty) (slice_get c.spaces.tables i) c
  single_same (Block t) c = refl
  single_same (Loop t) c = refl
  single_same (If t) c = refl
  single_same Else c = refl
  single_same End c = refl

module _ (f g : More → ℕ → Config → Out) (falls : Falls f) where
  exec_same : (q : Seq) (n : ℕ) (c : Config) → Agree n f g → exec f q n c ≡ exec g q n c
  exec_same Stop n c same = refl
  exec_same (Then i rest) zero c same = refl
  exec_same (Then i rest) (suc n) c same =
      then_same n (single f i n c) (exec f rest) (exec g rest) (single_within f falls i n c) (λ m d le. exec_same rest m d (λ a j u lt. same a j u (omega arith)))
      ∙ ap (λ o. then_do o (exec g rest)) (single_same f g n same i c)
  exec_same (InBlock t body rest) zero c same = refl
  exec_same (InBlock t body rest) (suc n) c same =
      let r = block_results c.spaces t in
      let h = length c.stack - block_params c.spaces t in
      then_same n (block_end r h (exec f body n c)) (exec f rest) (exec g rest) (block_within r h n (exec f body n c) (exec_within f falls body n c)) (λ m d le. exec_same rest m d (λ a j u lt. same a j u (omega arith)))
      ∙ ap (λ o. then_do (block_end r h o) (exec g rest)) (exec_same body n c (λ a j u lt. same a j u (omega arith)))
  exec_same (InLoop t body rest) zero c same = refl
  exec_same (InLoop t body rest) (suc n) c same =
      then_same n (f (Turn t body) n c) (exec f rest) (exec g rest) (falls (Turn t body) n c) (λ m d le. exec_same rest m d (λ a j u lt. same a j u (omega arith)))
      ∙ ap (λ o. then_do o (exec g rest)) (same (Turn t body) n c (omega arith))
  exec_same (InIf t body other rest) zero c same = refl
  exec_same (InIf t body other rest) (suc n) c same =
      pop_same c c.stack _ _ (λ w d.
      let r = block_results d.spaces t in
      let h = length d.stack - block_params d.spaces t in
      then_same n (block_end r h (choose (i32_in w) (exec f other n d) (exec f body n d))) (exec f rest) (exec g rest) (block_within r h n _ (choose_within (i32_in w) n _ _ (exec_within f falls other n d) (exec_within f falls body n d))) (λ m u le. exec_same rest m u (λ a j v lt. same a j v (omega arith)))
      ∙ ap (λ o. then_do (block_end r h o) (exec g rest)) (choose_same (i32_in w) _ _ _ _ (exec_same other n d (λ a j u lt. same a j u (omega arith))) (exec_same body n d (λ a j u lt. same a j u (omega arith)))))

step_within : (n m : ℕ) (f : ℕ → Config → Out) (c : Config) → m ≤ n → ((i : ℕ) (d : Config) → Within i (f i d)) → Within n (step_then f m c)
step_within n zero f c le each = tt
step_within n (suc m) f c le each = within_more m n (f m c) (omega arith) (each m c)

loop_within : (p h n : ℕ) (f : ℕ → Config → Out) (o : Out) → Within n o → ((m : ℕ) (c : Config) → Within m (f m c)) → Within n (loop_end p h f o)
loop_within p h n f (Next m c) b each = b
loop_within p h n f (Break zero m c) b each = step_within n m f (with_stack c _) b each
loop_within p h n f (Break (suc k) m c) b each = b
loop_within p h n f (Back m c) b each = b
loop_within p h n f (Over o) b each = b

call_within : (r n : ℕ) (stack locals : List ℕ) (sp : CoreSpaces) (o : Out) → Within n o → Within n (call_end r stack locals sp o)
call_within r n stack locals sp (Next m c) b = b
call_within r n stack locals sp (Break zero m c) b = b
call_within r n stack locals sp (Break (suc k) m c) b = tt
call_within r n stack locals sp (Back m c) b = b
call_within r n stack locals sp (Over o) b = b

replied_within : (ty : CoreFunc) (k n : ℕ) (c : Config) (rs : List Reply) → Within n (replied ty k n c rs)
replied_within ty k n c [] = omega arith
replied_within ty k n c (r ∷ rs) = omega arith

deep_within : (n : ℕ) → Within n (Over (deep n))
deep_within zero = tt
deep_within (suc n) = tt

enter_within_within : (b : Bool) (n : ℕ) (o : Out) → Within n o → Within n (enter_within b n o)
enter_within_within true n o h = h
enter_within_within false n o h = deep_within n

entered_within : (f : More → ℕ → Config → Out) → Falls f → (g : Option StoreFunc) (n : ℕ) (c : Config) → Within n (entered f g n c)
entered_within f falls None n c = tt
entered_within f falls (Some (Inside ty instance locals body)) n c =
    enter_within_within (can_enter c.store) n _ (call_within (length ty.results) n (drop (length ty.params) c.stack) c.locals c.spaces _ (exec_within f falls (tree body) n (begun ty instance (length locals) c)))
entered_within f falls (Some (Outside ty number)) n c = replied_within ty number n c c.replies

pub more_falls : (d : ℕ) → Falls (more d)
more_falls zero m n c = tt
more_falls (suc d) (Turn t body) n c =
    loop_within _ _ n (more d (Turn t body)) (exec (more d) body n c) (exec_within (more d) (more_falls d) body n c) (more_falls d (Turn t body))
more_falls (suc d) (Enter g) n c = entered_within (more d) (more_falls d) (slice_get c.store.functions g) n c

step_same : (n m : ℕ) (f g : ℕ → Config → Out) (c : Config) → m ≤ n → ((i : ℕ) (d : Config) → i < n → f i d ≡ g i d) → step_then f m c ≡ step_then g m c
step_same n zero f g c le each = refl
step_same n (suc m) f g c le each = each m c (omega arith)

loop_same : (p h n : ℕ) (f g : ℕ → Config → Out) (o : Out) → Within n o → ((m : ℕ) (c : Config) → m < n → f m c ≡ g m c) → loop_end p h f o ≡ loop_end p h g o
loop_same p h n f g (Next m c) b each = refl
loop_same p h n f g (Break zero m c) b each = step_same n m f g (with_stack c _) b each
loop_same p h n f g (Break (suc k) m c) b each = refl
loop_same p h n f g (Back m c) b each = refl
loop_same p h n f g (Over o) b each = refl

-- a turn, by two that agree below
turn_same : (f g : More → ℕ → Config → Out) → Falls f → (t : BlockType) (body : Seq) (p h n : ℕ) (c : Config) → Agree n f g → loop_end p h (f (Turn t body)) (exec f body n c) ≡ loop_end p h (g (Turn t body)) (exec g body n c)
turn_same f g falls t body p h n c same =
    loop_same p h n (f (Turn t body)) (g (Turn t body)) (exec f body n c) (exec_within f falls body n c) (λ m d lt. same (Turn t body) m d lt)
    ∙ ap (loop_end p h (g (Turn t body))) (exec_same f g falls body n c same)

entered_same : (f g : More → ℕ → Config → Out) → Falls f → (o : Option StoreFunc) (n : ℕ) (c : Config) → Agree n f g → entered f o n c ≡ entered g o n c
entered_same f g falls None n c same = refl
entered_same f g falls (Some (Inside ty instance locals body)) n c same =
    ap (λ o. enter_within (can_enter c.store) n (call_end (length ty.results) (drop (length ty.params) c.stack) c.locals c.spaces o)) (exec_same f g falls (tree body) n (begun ty instance (length locals) c) same)
entered_same f g falls (Some (Outside ty number)) n c same = refl

pub more_same : (d e : ℕ) (a : More) (n : ℕ) (c : Config) → n < d → n < e → more d a n c ≡ more e a n c
more_same zero e a n c lt lt' = absurd (omega arith)
more_same (suc d) zero a n c lt lt' = absurd (omega arith)
more_same (suc d) (suc e) (Turn t body) n c lt lt' =
    turn_same (more d) (more e) (more_falls d) t body _ _ n c (λ a m u below. more_same d e a m u (omega arith) (omega arith))
more_same (suc d) (suc e) (Enter g) n c lt lt' =
    entered_same (more d) (more e) (more_falls d) (slice_get c.store.functions g) n c (λ a m u below. more_same d e a m u (omega arith) (omega arith))

-- another turn of a loop is its body, and then what its end says
pub go_turn : (t : BlockType) (body : Seq) (n : ℕ) (c : Config) → go (Turn t body) n c ≡ loop_end (block_params c.spaces t) (length c.stack - block_params c.spaces t) (go (Turn t body)) (exec go body n c)
go_turn t body n c =
    turn_same (more n) go (more_falls n) t body _ _ n c (λ a m u below. more_same n (suc m) a m u below (omega arith))

-- a call is its function's body
pub go_enter : (f n : ℕ) (c : Config) → go (Enter f) n c ≡ entered go (slice_get c.store.functions f) n c
go_enter f n c =
    entered_same (more n) go (more_falls n) (slice_get c.store.functions f) n c (λ a m u below. more_same n (suc m) a m u below (omega arith))

-- a call from outside
finish_within : (ts : List CoreType) (n : ℕ) (o : Out) → Within n o → IsWithin n (finish ts o)
finish_within ts n (Next m c) h = h
finish_within ts n (Break k m c) h = tt
finish_within ts n (Back m c) h = tt
finish_within ts n (Over o) h = h

pub within : NoMoreStepsAreLeft
within s f args rs n =
    finish_within (function_type (slice_get s.functions f)).results n _ (more_falls (suc n) (Enter f) n (outside (words args) s rs))
