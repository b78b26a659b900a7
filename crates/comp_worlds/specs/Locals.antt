-- What one instance does by itself, whatever its handles stand for.
use Rattle.std.specs.Prelude.{ℕ, ◌+◌, ◌++◌, ◌&&◌, nat_le, if◌then◌else◌, List, [], ◌∷◌, length, slice_index, Option, Some, None, Bool, true, false, not, Result, Ok, Err}
use Rattle.std.specs.Option.{option_map, option_and_then}
use Rattle.std.specs.Prelude.{slice_set}
use Rattle.wasm_ast.specs.declared.module.CoreFunc.{CoreFunc}
use Rattle.core_memory.specs.Linear.{written}
use Rattle.core_store.specs.State.{State, memory_at}
use Rattle.core_store.specs.declared.value.StoreFunc.TheVariants as functions
use Rattle.wit_types.specs.Plain.{Plain}
use Rattle.wit_types.specs.PlainValue.{PlainValue}
use Rattle.abi_layout.specs.Loading.{is_aligned}
use Rattle.abi_layout.specs.Storing.{Base, Target, Answer, FlatItem, Number, AnswerTo}
use Rattle.abi_layout.specs.Handles.{handles}
use Rattle.handle_space.specs.HandleMap.{HandleMap, Answered, Held, own_entry, add, take, rep_of}
use Rattle.comp_worlds.specs.Passing.{Handle, Passed, reps_in, blank, named_in, Lifted, lift_handles, unlend_all, add_handles, has_borrow, lift_words}
use Rattle.comp_worlds.specs.Groups.{Options, Config}

-- what an operation on one instance answers, and the instance after it
pub record Local (R A : Type 0) : Type 0 where
  pub config : Config R
  pub answer : A

abbrev pub gives_in : {R A : Type 0} → A → Config R → Local R A
gives_in a c = record { config = c; answer = a }

abbrev pub done : {R : Type 0} → Config R → Local R (Unit {0})
done c = gives_in tt c

abbrev pub also : {A : Type 0} → Bool → Option A → Option A
also true o = o
also false o = None

abbrev pub with_map : {R : Type 0} → Config R → HandleMap R → Config R
with_map c m = record { store = c.store; map = m; entered = c.entered; closed = c.closed }

abbrev pub with_store : {R : Type 0} → Config R → State → Config R
with_store c s = record { store = s; map = c.map; entered = c.entered; closed = c.closed }

-- ---- the two flags

abbrev pub is_open : {R : Type 0} → Config R → Option (Local R (Unit {0}))
is_open c = also (not c.closed) (Some (done c))

abbrev pub enter : {R : Type 0} → Config R → Option (Local R (Unit {0}))
enter c = also (not c.entered) (Some (done (record { store = c.store; map = c.map; entered = true; closed = c.closed })))

abbrev pub exit : {R : Type 0} → Config R → Option (Local R (Unit {0}))
exit c = Some (done (record { store = c.store; map = c.map; entered = false; closed = c.closed }))

abbrev pub close : {R : Type 0} → Config R → Option (Local R (Unit {0}))
close c = Some (done (record { store = c.store; map = c.map; entered = c.entered; closed = true }))

abbrev pub reopen : {R : Type 0} → Config R → Option (Local R (Unit {0}))
reopen c = Some (done (record { store = c.store; map = c.map; entered = c.entered; closed = false }))

-- ---- lifting (CanonicalABI.md, `lift_flat_values`)

-- the bytes of the memory that a canonical function names
abbrev pub bytes_in : Options → State → List ℕ
bytes_in options s = elim options.memory [ None ↦ [] | Some at ↦ (memory_at s at).bytes ]

-- lifted values, and the indexes that were lent for them
pub record Args (R : Type 0) : Type 0 where
  pub passed : Passed R
  pub loans : List ℕ

abbrev pub args_of : {R : Type 0} → Plain → PlainValue → Config R → Lifted R → Local R (Args R)
args_of ty v c l = record { config = with_map c l.map; answer = record { passed = record { value = blank ty v; reps = reps_in l.handles }; loans = l.loans } }

-- flat values become values with indexes, and the indexes handles
abbrev pub lifts : {R : Type 0} → ℕ → Plain → Options → List ℕ → Config R → Option (Local R (Args R))
lifts most ty options words c =
    option_and_then (λ v. option_map (args_of ty v c) (lift_handles (named_in (handles ty v)) c.map)) (lift_words most ty (bytes_in options c.store) words)

abbrev pub ends_loans : {R : Type 0} → List ℕ → Config R → Option (Local R (Unit {0}))
ends_loans loans c = Some (done (with_map c (unlend_all loans c.map)))

-- a result lends nothing: in a valid component its type holds no borrowed handle
abbrev pub lends_nothing : (loans : List ℕ) → Bool
lends_nothing [] = true
lends_nothing (i ∷ is) = false

-- No borrowed handle of the call in progress is left. Only calls lower borrowed handles into an instance, and while it is entered
-- no other call does, so all that are there are of this call.
abbrev pub has_no_borrow : {R : Type 0} → (loans : List ℕ) → Config R → Option (Local R (Unit {0}))
has_no_borrow loans c = also (lends_nothing loans && not (has_borrow c.map)) (Some (done c))

-- ---- lowering (CanonicalABI.md, `lower_flat_values` and `store`)

abbrev pub adds_handles : {R : Type 0} → (ℕ → R → Option ℕ) → List (Handle R) → Config R → Option (Local R (List ℕ))
adds_handles plain hs c = option_map (λ a. record { config = with_map c a.map; answer = a.answer }) (add_handles plain hs c.map)

-- there is room for a value at a place that the caller gave
abbrev pub has_place : {R : Type 0} → Options → (align len at : ℕ) → Config R → Option (Local R (Unit {0}))
has_place options align len at c = also (is_aligned at align && nat_le (at + len) (length (bytes_in options c.store))) (Some (done c))

abbrev pub only_one : List ℕ → Option ℕ
only_one [] = None
only_one (n ∷ []) = Some n
only_one (n ∷ x ∷ xs) = None

-- the place that `realloc` answered: it is aligned, and there is room
abbrev pub is_granted : {R : Type 0} → Options → (align len : ℕ) → List ℕ → Config R → Option (Local R ℕ)
is_granted options align len results c =
    option_and_then (λ at. also (is_aligned at align && nat_le (at + len) (length (bytes_in options c.store))) (Some (gives_in at c))) (only_one results)

abbrev pub with_bytes : State → ℕ → ℕ → List ℕ → State
with_bytes s memory at bytes = record s { memories = slice_set s.memories memory (written (memory_at s memory) at bytes) }

abbrev pub writes : {R : Type 0} → Options → ℕ → List ℕ → Config R → Option (Local R (Unit {0}))
writes options at bytes c = option_map (λ memory. done (with_store c (with_bytes c.store memory at bytes))) options.memory

-- where an offset counts from
abbrev pub base_of : (target : ℕ) → (answers : List ℕ) → Base → ℕ
base_of target answers Target = target
base_of target answers (Answer k) = slice_index answers k

-- a flat value, once the requests were answered
abbrev pub flat_word : (answers : List ℕ) → FlatItem → ℕ
flat_word answers (Number n) = n
flat_word answers (AnswerTo k) = slice_index answers k

-- ---- resources (CanonicalABI.md, `canon resource.new`, `.rep` and `.drop`)

-- how a number that core code knows is a handle of a resource of its own
pub record Numbers (R : Type 0) : Type 0 where
  pub made : ℕ → R
  pub number : R → ℕ

abbrev pub one_word : {R : Type 0} → Config R → ℕ → Local R (List ℕ)
one_word c n = gives_in (n ∷ []) c

abbrev pub new_entry : {R : Type 0} → Config R → Answered R ℕ → Local R (List ℕ)
new_entry c a = one_word (with_map c a.map) a.answer

abbrev pub makes : {R : Type 0} → Numbers R → Bool → ℕ → List ℕ → Config R → Option (Local R (List ℕ))
makes numbers owns r args c =
    also owns (also (not c.closed) (option_and_then (λ n. option_map (new_entry c) (add c.map (own_entry r (numbers.made n)))) (only_one args)))

abbrev pub reads : {R : Type 0} → Numbers R → Bool → ℕ → List ℕ → Config R → Option (Local R (List ℕ))
reads numbers owns r args c =
    also owns (option_and_then (λ i. option_map (λ x. one_word c (numbers.number x)) (rep_of c.map i r)) (only_one args))

-- what was owned is to be dropped, and a borrowed handle only goes
abbrev pub what_is_owned : {R : Type 0} → Held R → Option R
what_is_owned h = if h.owned then Some h.rep else None

abbrev pub removed : {R : Type 0} → Config R → Answered R (Held R) → Local R (Option R)
removed c a = record { config = with_map c a.map; answer = what_is_owned a.answer }

abbrev pub removes : {R : Type 0} → ℕ → List ℕ → Config R → Option (Local R (Option R))
removes r args c = also (not c.closed) (option_and_then (λ i. option_map (removed c) (take c.map i r)) (only_one args))

-- ---- making

abbrev pub provides : {R : Type 0} → CoreFunc → ℕ → Config R → Option (Local R (Unit {0}))
provides ty number c = Some (done (with_store c (record c.store { functions = c.store.functions ++ functions.Outside ty number ∷ [] })))

-- a core module is instantiated, or traps
abbrev pub makes_module : {R : Type 0} → (State → Result State State) → Config R → Option (Local R (Unit {0}))
makes_module make c = elim (make c.store) [ Ok s ↦ Some (done (with_store c s)) | Err s ↦ None ]
