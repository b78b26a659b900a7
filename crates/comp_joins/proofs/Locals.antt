-- What one instance does by itself leaves its store as many items.
use Rattle.std.proofs.Common.{◌≡◌, ℕ, ◌&&◌, List, length, Option, Some, None, Bool, true, false, not, refl, ap}
use Rattle.std.specs.Option.{option_map, option_and_then}
use Rattle.std.proofs.lemmas.List.{length-set}
use Rattle.core_memory.specs.Linear.{written}
use Rattle.core_store.specs.State.{State, memory_at}
use Rattle.wit_types.specs.Plain.{Plain}
use Rattle.abi_layout.specs.Handles.{handles}
use Rattle.handle_space.specs.HandleMap.{own_entry, add, take, rep_of}
use Rattle.comp_worlds.specs.Passing.{Handle, named_in, lift_handles, add_handles, has_borrow, lift_words}
use Rattle.comp_worlds.specs.Groups.{Options, Config}
use Rattle.comp_worlds.specs.Locals.{Local, done, gives_in, also, with_store, is_open, enter, exit, close, reopen, bytes_in, args_of, lifts, ends_loans, lends_nothing, has_no_borrow, adds_handles, has_place, only_one, is_granted, with_bytes, writes, Numbers, new_entry, makes, one_word, reads, removed, removes}
use Rattle.comp_joins.specs.Made.{items_of}
use Rattle.comp_joins.proofs.Acts.{OpKept}

module _ {A : Type 0} (c : Config ℕ) where
  also_kept : (b : Bool) (o : Option (Local ℕ A)) → OpKept c o → OpKept c (also b o)
  also_kept true o h = h
  also_kept false o h = tt

  map_kept : {X : Type 0} → (f : X → Local ℕ A) (o : Option X) → ((x : X) → items_of c.store ≡ items_of (f x).config.store) → OpKept c (option_map f o)
  map_kept f None h = tt
  map_kept f (Some x) h = h x

  chain_kept : {X : Type 0} → (f : X → Option (Local ℕ A)) (o : Option X) → ((x : X) → OpKept c (f x)) → OpKept c (option_and_then f o)
  chain_kept f None h = tt
  chain_kept f (Some x) h = h x

pub open_kept : (c : Config ℕ) → OpKept c (is_open c)
open_kept c = also_kept c (not c.closed) (Some (done c)) refl

pub enter_kept : (c : Config ℕ) → OpKept c (enter c)
enter_kept c = also_kept c (not c.entered) (Some (done (record { store = c.store; map = c.map; entered = true; closed = c.closed }))) refl

pub exit_kept : (c : Config ℕ) → OpKept c (exit c)
exit_kept c = refl

pub close_kept : (c : Config ℕ) → OpKept c (close c)
close_kept c = refl

pub reopen_kept : (c : Config ℕ) → OpKept c (reopen c)
reopen_kept c = refl

pub lifts_kept : (most : ℕ) (ty : Plain) (options : Options) (words : List ℕ) (c : Config ℕ) → OpKept c (lifts most ty options words c)
lifts_kept most ty options words c =
    chain_kept c (λ v. option_map (args_of ty v c) (lift_handles (named_in (handles ty v)) c.map)) (lift_words most ty (bytes_in options c.store) words)
    (λ v. map_kept c (args_of ty v c) (lift_handles (named_in (handles ty v)) c.map) (λ l. refl))

pub ends_kept : (loans : List ℕ) (c : Config ℕ) → OpKept c (ends_loans loans c)
ends_kept loans c = refl

pub no_borrow_kept : (loans : List ℕ) (c : Config ℕ) → OpKept c (has_no_borrow loans c)
no_borrow_kept loans c = also_kept c (lends_nothing loans && not (has_borrow c.map)) (Some (done c)) refl

pub adds_kept : (plain : ℕ → ℕ → Option ℕ) (hs : List (Handle ℕ)) (c : Config ℕ) → OpKept c (adds_handles plain hs c)
adds_kept plain hs c = map_kept c _ (add_handles plain hs c.map) (λ a. refl)

pub place_kept : (options : Options) (align len at : ℕ) (c : Config ℕ) → OpKept c (has_place options align len at c)
place_kept options align len at c = also_kept c _ (Some (done c)) refl

pub granted_kept : (options : Options) (align len : ℕ) (results : List ℕ) (c : Config ℕ) → OpKept c (is_granted options align len results c)
granted_kept options align len results c = chain_kept c _ (only_one results) (λ at. also_kept c _ (Some (gives_in at c)) refl)

written_kept : (s : State) (memory at : ℕ) (bytes : List ℕ) → items_of s ≡ items_of (with_bytes s memory at bytes)
written_kept s memory at bytes = ap (λ n. record (items_of s) { memories = n }) (let q : length s.memories ≡ length (with_bytes s memory at bytes).memories = cc (length-set s.memories memory (written (memory_at s memory) at bytes)) in q)

pub writes_kept : (options : Options) (at : ℕ) (bytes : List ℕ) (c : Config ℕ) → OpKept c (writes options at bytes c)
writes_kept options at bytes c = map_kept c (λ memory. done (with_store c (with_bytes c.store memory at bytes))) options.memory (λ memory. written_kept c.store memory at bytes)

pub makes_kept : (numbers : Numbers ℕ) (owns : Bool) (r : ℕ) (args : List ℕ) (c : Config ℕ) → OpKept c (makes numbers owns r args c)
makes_kept numbers owns r args c =
    also_kept c owns _ (also_kept c (not c.closed) _ (chain_kept c (λ n. option_map (new_entry c) (add c.map (own_entry r (numbers.made n)))) (only_one args) (λ n. map_kept c (new_entry c) (add c.map (own_entry r (numbers.made n))) (λ a. refl))))

pub reads_kept : (numbers : Numbers ℕ) (owns : Bool) (r : ℕ) (args : List ℕ) (c : Config ℕ) → OpKept c (reads numbers owns r args c)
reads_kept numbers owns r args c =
    also_kept c owns _ (chain_kept c (λ i. option_map (λ x. one_word c (numbers.number x)) (rep_of c.map i r)) (only_one args) (λ i. map_kept c (λ x. one_word c (numbers.number x)) (rep_of c.map i r) (λ x. refl)))

pub removes_kept : (r : ℕ) (args : List ℕ) (c : Config ℕ) → OpKept c (removes r args c)
removes_kept r args c =
    also_kept c (not c.closed) _ (chain_kept c (λ i. option_map (removed c) (take c.map i r)) (only_one args) (λ i. map_kept c (removed c) (take c.map i r) (λ a. refl)))
