-- What an instance does by itself, at other numbers of resources.
use Rattle.std.proofs.Common.{◌≡◌, ℕ, ◌+◌, ◌&&◌, nat_le, List, [], map, length, Option, Some, None, Result, Ok, Err, Bool, not, refl, ◌∙◌, ap}
use Rattle.std.specs.Option.{option_map, option_and_then}
use Rattle.std.proofs.Math.Path.{ap₂}
use Rattle.wasm_ast.specs.declared.module.CoreFunc.{CoreFunc}
use Rattle.core_store.specs.State.{State}
use Rattle.wit_types.specs.Plain.{Plain}
use Rattle.wit_types.specs.PlainValue.{PlainValue}
use Rattle.abi_layout.specs.Loading.{is_aligned}
use Rattle.abi_layout.specs.Handles.{handles}
use Rattle.handle_space.specs.HandleMap.{Answered, Held, own_entry, add, take, rep_of}
use Rattle.comp_types.specs.Substitution.{value_with}
use Rattle.comp_worlds.specs.Passing.{Handle, kinds_in, handles_by, Passed, handles_of, named_in, Lifted, lift_handles, add_handles, has_borrow, lift_words}
use Rattle.comp_worlds.specs.Groups.{Options, Config}
use Rattle.comp_worlds.specs.Locals.{Local, gives_in, done, also, with_map, with_store, is_open, enter, exit, close, reopen, bytes_in, args_of, lifts, ends_loans, lends_nothing, has_no_borrow, adds_handles, has_place, only_one, is_granted, with_bytes, writes, Numbers, one_word, new_entry, makes, reads, removed, removes, provides, makes_module}
use Rattle.comp_worlds.proofs.Natural.{also_over}
use Rattle.comp_inside.proofs.Types.{handles_with, renumbered_with, lift_words_with}
use Rattle.comp_inside.proofs.Tables.{handle_to, kinds_to, all_named_to, all_by_to, reps_to, map_to, answered_to, lifted_to, unlend_all_to, has_borrow_to, add_to, add_all_to, take_to, rep_of_to, lift_to}

abbrev pub config_to : {R : Type 0} → (ℕ → ℕ) → Config R → Config R
config_to f c = record { store = c.store; map = map_to f c.map; entered = c.entered; closed = c.closed }

abbrev pub local_to : {R A : Type 0} → (ℕ → ℕ) → Local R A → Local R A
local_to f l = record { config = config_to f l.config; answer = l.answer }

-- the one does, at other numbers, what the other does
abbrev pub DoesAs : {R A : Type 0} → (ℕ → ℕ) → (Config R → Option (Local R A)) → (Config R → Option (Local R A)) → Type 0
DoesAs {R} f op' op = (c : Config R) → op' (config_to f c) ≡ option_map (local_to f) (op c)

pub handles_of_to : {R : Type 0} → (f : ℕ → ℕ) (ty : Plain) (p : Passed R) → handles_of (value_with f ty) p ≡ map (handle_to f) (handles_of ty p)
handles_of_to f ty p = ap (λ ks. handles_by ks p.reps) (ap kinds_in (handles_with f ty p.value) ∙ kinds_to f (handles ty p.value)) ∙ all_by_to f (kinds_in (handles ty p.value)) p.reps

module _ {R : Type 0} (f : ℕ → ℕ) where
  -- ---- flags

  pub is_open_to : DoesAs {R = R} f is_open is_open
  is_open_to c = also_over (local_to f) (not c.closed) (Some (done c))

  pub enter_to : DoesAs {R = R} f enter enter
  enter_to c = also_over (local_to f) (not c.entered) _

  pub exit_to : DoesAs {R = R} f exit exit
  exit_to c = refl

  pub close_to : DoesAs {R = R} f close close
  close_to c = refl

  pub reopen_to : DoesAs {R = R} f reopen reopen
  reopen_to c = refl

  -- ---- loans

  pub ends_loans_to : (loans : List ℕ) → DoesAs {R = R} f (ends_loans loans) (ends_loans loans)
  ends_loans_to loans c = ap (λ m. Some (done (with_map (config_to f c) m))) (unlend_all_to f loans c.map)

  pub has_no_borrow_to : (loans : List ℕ) → DoesAs {R = R} f (has_no_borrow loans) (has_no_borrow loans)
  has_no_borrow_to loans c =
      ap (λ b. also (lends_nothing loans && not b) (Some (done (config_to f c)))) (has_borrow_to f c.map)
      ∙ also_over (local_to f) (lends_nothing loans && not (has_borrow c.map)) (Some (done c))

  -- ---- lowering

  added_on : (c : Config R) (o : Option (Answered R (List ℕ))) →
      option_map (λ (a : Answered R (List ℕ)). record { config = with_map (config_to f c) a.map; answer = a.answer }) (option_map (answered_to f) o)
      ≡ option_map (local_to f) (option_map (λ (a : Answered R (List ℕ)). record { config = with_map c a.map; answer = a.answer }) o)
  added_on c None = refl
  added_on c (Some a) = refl

  pub adds_handles_to : (plain plain' : ℕ → R → Option ℕ) → ((r : ℕ) (x : R) → plain' (f r) x ≡ plain r x) → (hs : List (Handle R)) → DoesAs f (adds_handles plain' (map (handle_to f) hs)) (adds_handles plain hs)
  adds_handles_to plain plain' same hs c =
      ap (option_map (λ (a : Answered R (List ℕ)). record { config = with_map (config_to f c) a.map; answer = a.answer })) (add_all_to f plain plain' same hs c.map)
      ∙ added_on c (add_handles plain hs c.map)

  pub has_place_to : (options : Options) (align len at : ℕ) → DoesAs {R = R} f (has_place options align len at) (has_place options align len at)
  has_place_to options align len at c = also_over (local_to f) (is_aligned at align && nat_le (at + len) (length (bytes_in options c.store))) (Some (done c))

  granted_on : (options : Options) (align len : ℕ) (c : Config R) (o : Option ℕ) →
      option_and_then (λ at. also (is_aligned at align && nat_le (at + len) (length (bytes_in options c.store))) (Some (gives_in at (config_to f c)))) o
      ≡ option_map (local_to f) (option_and_then (λ at. also (is_aligned at align && nat_le (at + len) (length (bytes_in options c.store))) (Some (gives_in at c))) o)
  granted_on options align len c None = refl
  granted_on options align len c (Some at) = also_over (local_to f) (is_aligned at align && nat_le (at + len) (length (bytes_in options c.store))) (Some (gives_in at c))

  pub is_granted_to : (options : Options) (align len : ℕ) (results : List ℕ) → DoesAs {R = R} f (is_granted options align len results) (is_granted options align len results)
  is_granted_to options align len results c = granted_on options align len c (only_one results)

  written_on : (at : ℕ) (bytes : List ℕ) (c : Config R) (o : Option ℕ) →
      option_map (λ memory. done (with_store (config_to f c) (with_bytes c.store memory at bytes))) o
      ≡ option_map (local_to f) (option_map (λ memory. done (with_store c (with_bytes c.store memory at bytes))) o)
  written_on at bytes c None = refl
  written_on at bytes c (Some memory) = refl

  pub writes_to : (options : Options) (at : ℕ) (bytes : List ℕ) → DoesAs {R = R} f (writes options at bytes) (writes options at bytes)
  writes_to options at bytes c = written_on at bytes c options.memory

  -- ---- new entries

  entry_on : (c : Config R) (o : Option (Answered R ℕ)) → option_map (new_entry (config_to f c)) (option_map (answered_to f) o) ≡ option_map (local_to f) (option_map (new_entry c) o)
  entry_on c None = refl
  entry_on c (Some a) = refl

  made_on : (numbers : Numbers R) (r : ℕ) (c : Config R) (o : Option ℕ) →
      option_and_then (λ n. option_map (new_entry (config_to f c)) (add (map_to f c.map) (own_entry (f r) (numbers.made n)))) o
      ≡ option_map (local_to f) (option_and_then (λ n. option_map (new_entry c) (add c.map (own_entry r (numbers.made n)))) o)
  made_on numbers r c None = refl
  made_on numbers r c (Some n) = ap (option_map (new_entry (config_to f c))) (add_to f c.map (own_entry r (numbers.made n))) ∙ entry_on c (add c.map (own_entry r (numbers.made n)))

  pub makes_to : (numbers : Numbers R) (own : Bool) (r : ℕ) (args : List ℕ) → DoesAs f (makes numbers own (f r) args) (makes numbers own r args)
  makes_to numbers own r args c =
      ap (λ o. also own (also (not c.closed) o)) (made_on numbers r c (only_one args))
      ∙ ap (also own) (also_over (local_to f) (not c.closed) _)
      ∙ also_over (local_to f) own _

  -- ---- making

  pub provides_to : (ty : CoreFunc) (number : ℕ) → DoesAs {R = R} f (provides ty number) (provides ty number)
  provides_to ty number c = refl

  module_on : (c : Config R) (o : Result State State) →
      elim o as (λ z. Option (Local R (Unit {0}))) [ Ok s ↦ Some (done (with_store (config_to f c) s)) | Err s ↦ None ]
      ≡ option_map (local_to f) (elim o as (λ z. Option (Local R (Unit {0}))) [ Ok s ↦ Some (done (with_store c s)) | Err s ↦ None ])
  module_on c (Ok s) = refl
  module_on c (Err s) = refl

  pub makes_module_to : (make : State → Result State State) → DoesAs {R = R} f (makes_module make) (makes_module make)
  makes_module_to make c = module_on c (make c.store)

module _ {R : Type 0} (f : ℕ → ℕ) (once : (r s : ℕ) → f r ≡ f s → r ≡ s) where
  -- ---- lifting

  args_on : (ty : Plain) (v : PlainValue) (c : Config R) (o : Option (Lifted R)) → option_map (args_of (value_with f ty) v (config_to f c)) (option_map (lifted_to f) o) ≡ option_map (local_to f) (option_map (args_of ty v c) o)
  args_on ty v c None = refl
  args_on ty v c (Some l) =
      ap₂ (λ b xs. Some (record { config = config_to f (with_map c l.map); answer = record { passed = record { value = b; reps = xs }; loans = l.loans } })) (renumbered_with f ty v []) (reps_to f l.handles)

  lifted_on : (ty : Plain) (c : Config R) (o : Option PlainValue) →
      option_and_then (λ v. option_map (args_of (value_with f ty) v (config_to f c)) (lift_handles (named_in (handles (value_with f ty) v)) (map_to f c.map))) o
      ≡ option_map (local_to f) (option_and_then (λ v. option_map (args_of ty v c) (lift_handles (named_in (handles ty v)) c.map)) o)
  lifted_on ty c None = refl
  lifted_on ty c (Some v) =
      ap (λ ns. option_map (args_of (value_with f ty) v (config_to f c)) (lift_handles ns (map_to f c.map))) (ap named_in (handles_with f ty v) ∙ all_named_to f (handles ty v))
      ∙ ap (option_map (args_of (value_with f ty) v (config_to f c))) (lift_to f once (named_in (handles ty v)) c.map)
      ∙ args_on ty v c (lift_handles (named_in (handles ty v)) c.map)

  pub lifts_to : (most : ℕ) (ty : Plain) (options : Options) (words : List ℕ) → DoesAs {R = R} f (lifts most (value_with f ty) options words) (lifts most ty options words)
  lifts_to most ty options words c =
      ap (option_and_then (λ v. option_map (args_of (value_with f ty) v (config_to f c)) (lift_handles (named_in (handles (value_with f ty) v)) (map_to f c.map)))) (lift_words_with f (bytes_in options c.store) most ty words)
      ∙ lifted_on ty c (lift_words most ty (bytes_in options c.store) words)

  -- ---- resources

  word_on : (numbers : Numbers R) (c : Config R) (o : Option R) → option_map (λ x. one_word (config_to f c) (numbers.number x)) o ≡ option_map (local_to f) (option_map (λ x. one_word c (numbers.number x)) o)
  word_on numbers c None = refl
  word_on numbers c (Some x) = refl

  read_on : (numbers : Numbers R) (r : ℕ) (c : Config R) (o : Option ℕ) →
      option_and_then (λ i. option_map (λ x. one_word (config_to f c) (numbers.number x)) (rep_of (map_to f c.map) i (f r))) o
      ≡ option_map (local_to f) (option_and_then (λ i. option_map (λ x. one_word c (numbers.number x)) (rep_of c.map i r)) o)
  read_on numbers r c None = refl
  read_on numbers r c (Some i) = ap (option_map (λ x. one_word (config_to f c) (numbers.number x))) (rep_of_to f once c.map i r) ∙ word_on numbers c (rep_of c.map i r)

  pub reads_to : (numbers : Numbers R) (own : Bool) (r : ℕ) (args : List ℕ) → DoesAs f (reads numbers own (f r) args) (reads numbers own r args)
  reads_to numbers own r args c = ap (also own) (read_on numbers r c (only_one args)) ∙ also_over (local_to f) own _

  removed_on : (c : Config R) (o : Option (Answered R (Held R))) → option_map (removed (config_to f c)) (option_map (answered_to f) o) ≡ option_map (local_to f) (option_map (removed c) o)
  removed_on c None = refl
  removed_on c (Some a) = refl

  taken_on : (r : ℕ) (c : Config R) (o : Option ℕ) →
      option_and_then (λ i. option_map (removed (config_to f c)) (take (map_to f c.map) i (f r))) o ≡ option_map (local_to f) (option_and_then (λ i. option_map (removed c) (take c.map i r)) o)
  taken_on r c None = refl
  taken_on r c (Some i) = ap (option_map (removed (config_to f c))) (take_to f once c.map i r) ∙ removed_on c (take c.map i r)

  pub removes_to : (r : ℕ) (args : List ℕ) → DoesAs {R = R} f (removes (f r) args) (removes r args)
  removes_to r args c = ap (also (not c.closed)) (taken_on r c (only_one args)) ∙ also_over (local_to f) (not c.closed) _
