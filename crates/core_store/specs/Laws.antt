-- What holds of every evaluation: the depth to which turns and calls may be nested does not matter; what more steps and more
-- replies do; and what becomes of the store. And fine code stays fine in a store that grows.
use Rattle.std.specs.Prelude.{ℕ, ◌≡◌, ◌+◌, ◌-◌, ◌≤◌, List, [], ◌∷◌, ◌++◌, Option, Some, Result, length, slice_get, slice_set}
use Rattle.wasm_ast.specs.declared.module.CoreFunc.{CoreFunc}
use Rattle.wasm_ast.specs.declared.instr.BlockType.{BlockType}
use Rattle.core_store.specs.Tree.{Seq}
use Rattle.virt_base.specs.declared.fault.NoMemory.{NoMemory}
use Rattle.core_memory.specs.Linear.{Linear}
use Rattle.core_store.specs.declared.value.CoreRef.{CoreRef}
use Rattle.core_store.specs.declared.value.CoreSpaces.{CoreSpaces}
use Rattle.core_store.specs.declared.value.CoreValue.{CoreValue}
use Rattle.core_store.specs.declared.value.StoreFunc.{StoreFunc}
use Rattle.core_store.specs.declared.value.StoreFunc.TheVariants.{Outside}
use Rattle.core_store.specs.declared.value.TooDeep.{TooDeep as IsTooDeep}
use Rattle.core_store.specs.Table.{Entries}
use Rattle.core_store.specs.State.{State, Adds, Enters, memory_at, table_at, empty_with}
use Rattle.core_store.specs.Config.{Config, Reply, Outcome, Done, Trapped, Asks, Spent, TooDeep, block_params}
use Rattle.core_store.specs.Eval.{Turn, Enter, exec, loop_end, entered, go, eval}
use Rattle.core_store.specs.Scene.{Scene, Grows, Grew, CameBack, scene_of}
use Rattle.core_store.specs.Fine.{FineFunction, IsFine}

-- a turn of a loop is its body, and then what its end says
abbrev pub TurnsAreBodies : Type 0
TurnsAreBodies =
    (t : BlockType) (body : Seq) (n : ℕ) (c : Config) →
    go (Turn t body) n c ≡ loop_end (block_params c.spaces t) (length c.stack - block_params c.spaces t) (go (Turn t body)) (exec go body n c)

-- a call is the body of its function, or the answer of the embedder
abbrev pub CallsAreBodies : Type 0
CallsAreBodies = (f n : ℕ) (c : Config) → go (Enter f) n c ≡ entered go (slice_get c.store.functions f) n c

-- a fine store stays fine where each function that was added is fine
abbrev pub FineStoresGrow : Type 0
FineStoresGrow =
    (w v : Scene) (grows : Grows w v) → IsFine w → ((i : ℕ) (g : StoreFunc) → slice_get grows.new_functions i ≡ Some g → FineFunction v (length w.functions + i) g) →
    IsFine v

-- with d steps more: the same end, and as many more are left; or it goes on where none was left
abbrev pub Further : ℕ → Outcome → Outcome → Type 0
Further d (Done values s left) o = o ≡ Done values s (d + left)
Further d Trapped o = o ≡ Trapped
Further d (Asks number args s left) o = o ≡ Asks number args s (d + left)
Further d Spent o = Unit {0}
Further d TooDeep o = o ≡ TooDeep

abbrev pub EndsStayWithMoreSteps : Type 0
EndsStayWithMoreSteps =
    (s : State) (f : ℕ) (args : List CoreValue) (replies : List Reply) (n d : ℕ) → Further d (eval s f args replies n) (eval s f args replies (d + n))

-- of n steps no more are left
abbrev pub Within : ℕ → Outcome → Type 0
Within n (Done values s left) = left ≤ n
Within n Trapped = Unit {0}
Within n (Asks number args s left) = left ≤ n
Within n Spent = Unit {0}
Within n TooDeep = Unit {0}

abbrev pub NoMoreStepsAreLeft : Type 0
NoMoreStepsAreLeft = (s : State) (f : ℕ) (args : List CoreValue) (replies : List Reply) (n : ℕ) → Within n (eval s f args replies n)

-- with more replies: the same end, but that a question may be answered
abbrev pub Unchanged : Outcome → Outcome → Type 0
Unchanged (Done values s left) o = o ≡ Done values s left
Unchanged Trapped o = o ≡ Trapped
Unchanged (Asks number args s left) o = Unit {0}
Unchanged Spent o = o ≡ Spent
Unchanged TooDeep o = o ≡ TooDeep

abbrev pub EndsStayWithMoreReplies : Type 0
EndsStayWithMoreReplies =
    (s : State) (f : ℕ) (args : List CoreValue) (replies more : List Reply) (n : ℕ) → Unchanged (eval s f args replies n) (eval s f args (replies ++ more) n)

-- R holds between the store of each question and that of its reply, X being the evaluation by its replies
pub record Answers (R : State → State → Type 0) (X : List Reply → Outcome) (replies : List Reply) : Type 0 where
  pub each : (before after : List Reply) (r : Reply) (number : ℕ) (args : List CoreValue) (s : State) (left : ℕ) →
      replies ≡ before ++ r ∷ after → X before ≡ Asks number args s left → R s r.store

-- where the nesting of each reply's store is that of its question's, it is after the end what it was, and no less in between
abbrev pub IsNestedAs : State → State → Type 0
IsNestedAs s t = s.nesting ≡ t.nesting

abbrev pub NestingIs : State → Outcome → Type 0
NestingIs s (Done values t left) = s.nesting ≡ t.nesting
NestingIs s (Asks number args t left) = s.nesting ≤ t.nesting
NestingIs s o = Unit {0}

abbrev pub NestingComesBack : Type 0
NestingComesBack =
    (s : State) (f : ℕ) (args : List CoreValue) (replies : List Reply) (n : ℕ) →
    Answers IsNestedAs (λ used. eval s f args used n) replies → NestingIs s (eval s f args replies n)

-- where each reply's store came back to its question's, the store came back at the end, and only grew in between
abbrev pub StoreIs : State → Outcome → Type 0
StoreIs s (Done values t left) = CameBack s t
StoreIs s (Asks number args t left) = Grew s t
StoreIs s o = Unit {0}

abbrev pub StoresComeBack : Type 0
StoresComeBack =
    (s : State) (f : ℕ) (args : List CoreValue) (replies : List Reply) (n : ℕ) →
    Answers CameBack (λ used. eval s f args used n) replies → StoreIs s (eval s f args replies n)

-- a relation between stores, of a store to itself and over what lies between
abbrev pub IsReflexive : (State → State → Type 0) → Type 0
IsReflexive R = (s : State) → R s s

abbrev pub IsTransitive : (State → State → Type 0) → Type 0
IsTransitive R = (s t u : State) → R s t → R t u → R s u

-- what the calls of the store do, by their contracts: it only grows, and none but these changes how many calls are in
-- progress: one that enters, one that leaves, and one that takes over the nesting of another store
pub record StoreCallsGrow : Type 0 where
  pub adds : (s t : State) (place : ℕ) (after : State) (r : Result ℕ NoMemory) → CameBack s after → Adds s t place after r → CameBack s t
  pub function : (s : State) (f : StoreFunc) → CameBack s (record s { functions = s.functions ++ f ∷ [] })
  pub table : (s : State) (t : Entries) → CameBack s (record s { tables = s.tables ++ t ∷ [] })
  pub memory : (s : State) (m : Linear) → CameBack s (record s { memories = s.memories ++ m ∷ [] })
  pub global : (s : State) (v : CoreValue) → CameBack s (record s { globals = s.globals ++ v ∷ [] })
  pub segment : (s : State) (bytes : List ℕ) → CameBack s (record s { segments = s.segments ++ bytes ∷ [] })
  pub elements : (s : State) (refs : List CoreRef) → CameBack s (record s { elements = s.elements ++ refs ∷ [] })
  pub instance : (s : State) (spaces : CoreSpaces) → CameBack s (record s { instances = s.instances ++ spaces ∷ [] })
  pub in_memory : (s t : State) (k : ℕ) → t ≡ record s { memories = slice_set s.memories k (memory_at t k) } → CameBack s t
  pub in_table : (s t : State) (k : ℕ) → t ≡ record s { tables = slice_set s.tables k (table_at t k) } → CameBack s t
  pub global_set : (s : State) (k : ℕ) (v : CoreValue) → CameBack s (record s { globals = slice_set s.globals k v })
  pub segment_dropped : (s : State) (k : ℕ) → CameBack s (record s { segments = slice_set s.segments k [] })
  pub elements_dropped : (s : State) (k : ℕ) → CameBack s (record s { elements = slice_set s.elements k [] })
  pub enters : (s t : State) (r : Result (Unit {0}) IsTooDeep) → Enters s t r → Grew s t
  pub nesting : (s : State) (n : ℕ) → Grew s (record s { nesting = n })

-- a store without items is fine, and a fine store stays so with one more function of the embedder
abbrev pub EmptyStoresAreFine : Type 0
EmptyStoresAreFine = (deepest : Option ℕ) → IsFine (scene_of (empty_with deepest))

abbrev pub EmbeddersFunctionsAreFine : Type 0
EmbeddersFunctionsAreFine =
    (s : State) (ty : CoreFunc) (number : ℕ) → IsFine (scene_of s) → IsFine (scene_of (record s { functions = s.functions ++ Outside ty number ∷ [] }))
